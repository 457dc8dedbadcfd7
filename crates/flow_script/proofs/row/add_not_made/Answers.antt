use Rattle.std.proofs.Common.{string_bytes}
use Rattle.flow_script.specs.Said.{all_not_made}
use Rattle.flow_script.proofs.RowLemmas.{adds-refused}
use Rattle.flow_script.proofs.row.add_not_made.Goals as goal

pub returns-clause-adds : goal.returns-clause-adds
returns-clause-adds c = λ named named_so makes.
    adds-refused (string_bytes c.args.name) named c.args.row.now.items c.add_place.new.row.items c.args.refused (all_not_made c.args.not_made.now.items) (all_not_made c.add_refused.new.not_made.items)
    named_so makes c.in_ok-add_refused.ensures.told c.in_ok-add_refused.ensures.added c.in_ok-add_place.ensures.added
