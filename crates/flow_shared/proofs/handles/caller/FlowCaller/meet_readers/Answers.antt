use Rattle.std.proofs.Common.{arith, ◌≡◌, ◌∙◌, get_or, subst}
use Rattle.flow_law.specs.history.Tokens.{MeetsIn}
use Rattle.flow_law.proofs.RoundLemmas.{meets_turned, one_met, same_by_place}
use Rattle.flow_shared.proofs.handles.caller.FlowCaller.meet_readers.Goals as goal

pub loop-k-preserved : goal.loop-k-preserved
loop-k-preserved g c =
    let now = c.args.self.now in let at = c.loop-k in let o = c.index-readers-k.result in let one = c.meet_reader.new.self in let y = c.meet_reader.new.reader in
    record {
      flow = c.meet_reader.ensures.flow.0 ∙ at.invariant.flow;
      flows = same_by_place (λ w. w.flow) c.args.readers.now at.readers at.k o y (omega arith) at.invariant.flows (c.meet_reader.ensures.flow.1);
      numbers = same_by_place (λ w. w.subscription.number) c.args.readers.now at.readers at.k o y (omega arith) at.invariant.numbers c.meet_reader.ensures.number;
      met = one_met g.S.FlowCore.kind now.flow.first (λ w. w.subscription.token) now.token at.self.token one.token c.args.readers.now at.readers at.k o y at.invariant.met (omega arith)
          (meets_turned g.S.FlowCore.kind now.flow.first (get_or at.readers at.k o).subscription.token at.self.token y.subscription.token one.token
          (subst (λ f. MeetsIn g.S.FlowCore.kind f.first (get_or at.readers at.k o).subscription.token at.self.token y.subscription.token one.token) at.invariant.flow c.meet_reader.ensures.met));
    }
