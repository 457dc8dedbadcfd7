use Rattle.flow_script.specs.Said.{all_not_made}
use Rattle.flow_script.proofs.RowLemmas.{ends-refused}
use Rattle.flow_script.proofs.row.end_not_made.Goals as goal

pub returns-clause-ends : goal.returns-clause-ends
returns-clause-ends c = λ named row unnamed makes.
    ends-refused named row c.args.refused (all_not_made c.args.not_made.now.items) (all_not_made c.add_refused.new.not_made.items) unnamed makes
    c.in_ok-add_refused.ensures.told c.in_ok-add_refused.ensures.added
