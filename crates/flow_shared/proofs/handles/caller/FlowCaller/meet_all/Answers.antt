use Rattle.std.proofs.Common.{arith, ◌≡◌, ◌∙◌, get_or, subst}
use Rattle.flow_law.specs.history.Tokens.{MeetsIn}
use Rattle.flow_law.proofs.RoundLemmas.{one_met, same_by_place}
use Rattle.flow_shared.proofs.handles.caller.FlowCaller.meet_all.Goals as goal

pub loop-k-preserved : goal.loop-k-preserved
loop-k-preserved g c =
    let now = c.args.self.now in let at = c.loop-k in let o = c.index-others-k.result in let one = c.meet.new.self in let y = c.meet.new.other in
    record {
      flow = c.meet.ensures.flow.0 ∙ at.invariant.flow;
      flows = same_by_place (λ w. w.flow) c.args.others.now at.others at.k o y (omega arith) at.invariant.flows (c.meet.ensures.flow.1);
      met = one_met g.S.FlowCore.kind now.flow.first (λ w. w.token) now.token at.self.token one.token c.args.others.now at.others at.k o y at.invariant.met (omega arith)
          (subst (λ f. MeetsIn g.S.FlowCore.kind f.first at.self.token (get_or at.others at.k o).token one.token y.token) at.invariant.flow c.meet.ensures.met);
    }
