use Rattle.flow_tests.proofs.LentLemmas.{is_newest_now}
use Rattle.flow_tests.proofs.lent.read_newest.Goals as goal

pub returns-clause-newest : goal.returns-clause-newest
returns-clause-newest g c = is_newest_now c.args.flow.now c.args.seat.now c.value-value.new.seat c.seen.new.seat c.value-value.result c.value-value.ensures c.seen.ensures.unchanged c.seen.ensures.conflated
