use Rattle.std.proofs.Common.{Ok, Err, subst}
use Rattle.flow_law.specs.declared.call.SharedCall.TheVariants as call
use Rattle.flow_law.specs.flow.Standing.{Conforms}
use Rattle.flow_core.specs.SharedCore.{subscribe_reply}
use Rattle.flow_core.proofs.shared.SharedCore.subscribe.Goals as goal

pub returns-in-Ok : goal.returns-in-Ok
returns-in-Ok g c = record {
  documented = λ name. subst (λ first. Conforms c.args.self.now (call.Subscribe name first) (subscribe_reply (Ok c.in-Ok.id)) c.subscribe_with-2.new.self)
      c.new.ensures.items (c.in-Ok.ensures.documented name);
}

pub returns-in-Err : goal.returns-in-Err
returns-in-Err g c = record {
  documented = λ name. subst (λ first. Conforms c.args.self.now (call.Subscribe name first) (subscribe_reply (Err c.in-Err.refused.fault)) c.subscribe_with-2.new.self)
      c.new.ensures.items (c.in-Err.ensures.documented name);
}
