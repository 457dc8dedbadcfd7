use Rattle.std.proofs.Common.{Ok, sym, subst}
use Rattle.flow_turns.specs.Runs.{RunTurn, SomeRunTurn}
use Rattle.flow_turns.proofs.RunLemmas.{run-begins, run-goes_on, run-refused, run-refused-some}
use Rattle.flow_turns.proofs.sharing.Sharing.run_to_end.Goals as goal

pub loop-init : goal.loop-init
loop-init g c = (tt, tt, run-begins _ c.requires)

pub loop-preserved : goal.loop-preserved
loop-preserved g c = (tt, tt, run-goes_on c.in-Ok.turned.report c.loop.invariant.2 c.rest-watches.ensures c.in-Ok.ensures.callable c.in-Ok.ensures.reads c.in-Ok.ensures.turn)

pub returns-in-Err-clause-turns : goal.returns-in-Err-clause-turns
returns-in-Err-clause-turns g c = run-refused _ c.loop.invariant.2 c.in-Err.ensures.turn

pub returns-in-Err-clause-any_turns : goal.returns-in-Err-clause-any_turns
returns-in-Err-clause-any_turns g c = run-refused-some _ c.loop.invariant.2 c.in-Err.ensures.turn

pub returns-in-Completed-clause-turns : goal.returns-in-Completed-clause-turns
returns-in-Completed-clause-turns g c = λ m r.
    let told = c.in-Ok.ensures.turn in
    record {
      between = c.loop.self;
      turns = c.loop.invariant.2.turns m r;
      now = told.now;
      later = told.later;
      report = c.in-Ok.turned.report;
      last = subst (RunTurn (λ x. g.C.Cold.whole x m) (λ x. g.C.Cold.rest x m) g.H.Hub.does g.H.Hub.waits g.H.WatchedHub.Came told.now c.loop.self (Ok c.in-Ok.turned.report)) (sym c.unwatch.ensures)
          (told.read m (c.loop.invariant.2.kept m r));
      completed = c.in-Completed.is;
    }

pub returns-in-Completed-clause-any_turns : goal.returns-in-Completed-clause-any_turns
returns-in-Completed-clause-any_turns g c =
    let told = c.in-Ok.ensures.turn in
    record {
      between = c.loop.self;
      turns = c.loop.invariant.2.some;
      now = told.now;
      later = told.later;
      report = c.in-Ok.turned.report;
      last = subst (SomeRunTurn g.H.Hub.does g.H.Hub.waits g.H.WatchedHub.Came told.now c.loop.self (Ok c.in-Ok.turned.report)) (sym c.unwatch.ensures) told.some;
      completed = c.in-Completed.is;
    }
