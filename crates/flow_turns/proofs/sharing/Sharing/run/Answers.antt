use Rattle.std.proofs.Common.{sym, subst}
use Rattle.flow_turns.specs.SharingViews.{sharing_chain, CanRun}
use Rattle.flow_turns.specs.Runs.{TakesTurns, RunTurn, SomeRunTurn}
use Rattle.flow_turns.proofs.RunLemmas.{run-begins, run-goes_on, run-refused, run-refused-some}
use Rattle.flow_turns.proofs.sharing.Sharing.run.Goals as goal

pub loop-init : goal.loop-init
loop-init g c = (tt, tt, run-begins _ c.requires)

pub loop-preserved : goal.loop-preserved
loop-preserved g c = (tt, tt, run-goes_on c.in-Ok.turned.report c.loop.invariant.2 c.rest-watches.ensures c.in-Ok.ensures.callable c.in-Ok.ensures.reads c.in-Ok.ensures.turn)

pub returns-in-Err-clause-turns : goal.returns-in-Err-clause-turns
returns-in-Err-clause-turns g c = run-refused _ c.loop.invariant.2 c.in-Err.ensures.turn

pub returns-then-is_asked-clause-callable : goal.returns-then-is_asked-clause-callable
returns-then-is_asked-clause-callable g c = subst (CanRun g.C.Cold.CanAsk) (sym c.unwatch.ensures) c.loop.invariant.2.callable

pub returns-then-is_asked-clause-reads : goal.returns-then-is_asked-clause-reads
returns-then-is_asked-clause-reads g c = λ m r. subst (λ s. g.C.Cold.Reads (sharing_chain s) m) (sym c.unwatch.ensures) (c.loop.invariant.2.kept m r)

pub returns-then-is_asked-clause-turns : goal.returns-then-is_asked-clause-turns
returns-then-is_asked-clause-turns g c = λ m r.
    subst (TakesTurns (RunTurn (λ x. g.C.Cold.whole x m) (λ x. g.C.Cold.rest x m) g.H.Hub.does g.H.Hub.waits g.H.WatchedHub.Came) c.args.self.now) (sym c.unwatch.ensures)
    (c.loop.invariant.2.turns m r)

pub returns-in-Err-clause-any_turns : goal.returns-in-Err-clause-any_turns
returns-in-Err-clause-any_turns g c = run-refused-some _ c.loop.invariant.2 c.in-Err.ensures.turn

pub returns-then-is_asked-clause-any_turns : goal.returns-then-is_asked-clause-any_turns
returns-then-is_asked-clause-any_turns g c =
    subst (TakesTurns (SomeRunTurn g.H.Hub.does g.H.Hub.waits g.H.WatchedHub.Came) c.args.self.now) (sym c.unwatch.ensures) c.loop.invariant.2.some
