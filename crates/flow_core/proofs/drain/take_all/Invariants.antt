use Rattle.flow_law.proofs.DrainingLemmas.{HasTaken}
use Rattle.flow_core.specs.SubId.{number_of}
use Rattle.flow_core.proofs.drain.take_all.Given as goal

abbrev pub invariant-loop : goal.invariant-loop
invariant-loop g l =
    HasTaken (g.S.TakesNext.nexts (number_of l.fn.id)) l.counter l.fn.core l.fn.values.items l.values.items l.core
