use Rattle.flow_script.proofs.RowLemmas.{adds-made}
use Rattle.flow_script.proofs.row.add_made.Goals as goal

pub returns-clause-adds : goal.returns-clause-adds
returns-clause-adds c = λ named text makes.
    adds-made named.name named.flow c.args.row.now.items c.add_place.new.row.items c.args.player c.new.result text makes c.new.ensures c.in_ok-add_place.ensures.added
