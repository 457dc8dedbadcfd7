use Rattle.flow_turns.proofs.RunLemmas.{HasRun}
use Rattle.flow_turns.proofs.sharing.Sharing.run.Given as goal

abbrev pub invariant-loop : goal.invariant-loop
invariant-loop g l = (goal.iterator-loop g).can_next l.iterator' × (goal.iterator-loop g).is_finite l.iterator'
    × HasRun g.C.Cold.CanAsk g.C.Cold.Reads g.C.Cold.whole g.C.Cold.rest g.H.Hub.does g.H.Hub.waits g.H.WatchedHub.Came l.fn.self l.self
