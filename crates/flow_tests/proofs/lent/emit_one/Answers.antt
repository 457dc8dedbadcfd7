use Rattle.flow_tests.proofs.lent.emit_one.Goals as goal

pub returns-clause-queue : goal.returns-clause-queue
returns-clause-queue g c = c.seen.ensures.laws.no_idle_queue
