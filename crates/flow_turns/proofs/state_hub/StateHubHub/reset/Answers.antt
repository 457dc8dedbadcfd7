use Rattle.std.proofs.Common.{refl, subst}
use Rattle.flow_law.specs.flow.Standing.{StateConforms}
use Rattle.flow_law.specs.declared.call.StateCall.TheVariants as call
use Rattle.flow_law.specs.declared.call.StateReply.TheVariants as reply
use Rattle.flow_turns.proofs.state_hub.StateHubHub.reset.Goals as goal

pub returns-in-Ok-clause-resets : goal.returns-in-Ok-clause-resets
returns-in-Ok-clause-resets g c =
    let set = subst (λ value. StateConforms c.args.self.now.core (call.Set value) reply.Done c.set.new.self) c.in-Ok.ensures.copy c.set.ensures.documented in
    ((set, refl), refl)

pub returns-in-Err-clause-resets : goal.returns-in-Err-clause-resets
returns-in-Err-clause-resets g c = ((refl, c.in-Err.ensures.memory), refl)
