use Rattle.flow_tests.proofs.ReadBack.{reads_back}
use Rattle.flow_tests.proofs.reading.set_and_read.Goals as goal

pub returns-clause-reads : goal.returns-clause-reads
returns-clause-reads g c = reads_back c.args.flow.now c.args.seat.now c.set.new.seat c.value.new.seat c.args.value c.value.result c.set.ensures c.value.ensures.called
