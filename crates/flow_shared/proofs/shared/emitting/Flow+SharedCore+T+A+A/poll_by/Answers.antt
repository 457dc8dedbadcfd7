use Rattle.flow_law.specs.history.History.{emission}
use Rattle.flow_law.specs.flow.SharedHistory.{shared_flow}
use Rattle.flow_law.proofs.SharedLawful.{shared_lawful}
use Rattle.flow_law.proofs.TokenLemmas.{given_after}
use Rattle.flow_shared.proofs.shared.emitting.Flow+SharedCore+T+A+A.poll_by.Goals as goal

pub invariant_of-result : goal.invariant_of-result
invariant_of-result g c =
    given_after shared_flow shared_lawful c.args.self.now.first c.emission.inside.seat.knows c.call_by.new.seat.knows _ _ c.in-Ok-true.ensures.called.1 (emission c.emission.inside.number) c.emission.invariant
