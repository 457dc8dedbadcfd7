use Rattle.std.proofs.Common.{Err, sym, subst}
use Rattle.flow_turns.specs.Runs.{TurnsByClock}
use Rattle.flow_turns.specs.SharingViews.{sharing_chain, CanRun}
use Rattle.flow_turns.proofs.sharing.Sharing.turn_by_clock.Goals as goal

pub returns-in-Ok-clause-turn : goal.returns-in-Ok-clause-turn
returns-in-Ok-clause-turn g c =
    record { now = c.moment_of-now.result; later = rw c.last.ensures at c.moment_of-now.ensures; some = c.in-Ok.ensures.any_turn; read = c.in-Ok.ensures.turn }

pub returns-in-Err-clause-callable : goal.returns-in-Err-clause-callable
returns-in-Err-clause-callable g c = subst (CanRun g.C.Cold.CanAsk) (sym c.unwatch.ensures) c.in-Err.ensures.callable

pub returns-in-Err-clause-reads : goal.returns-in-Err-clause-reads
returns-in-Err-clause-reads g c = λ m r. subst (λ s. g.C.Cold.Reads (sharing_chain s) m) (sym c.unwatch.ensures) (c.in-Err.ensures.reads m r)

pub returns-in-Err-clause-turn : goal.returns-in-Err-clause-turn
returns-in-Err-clause-turn g c =
    subst (TurnsByClock g.C.Cold.Reads g.C.Cold.whole g.C.Cold.rest g.H.Hub.does g.H.Hub.waits g.H.WatchedHub.Came c.args.self.now (Err c.in-Err.fault)) (sym c.unwatch.ensures)
    (record { now = c.moment_of-now.result; later = rw c.last.ensures at c.moment_of-now.ensures; some = c.in-Err.ensures.any_turn; read = c.in-Err.ensures.turn })
