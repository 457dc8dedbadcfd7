use Rattle.flow_law.specs.flow.Draining.{EndsBy}
use Rattle.flow_core.specs.SubId.{number_of}
use Rattle.flow_core.specs.SharedCore.{SharedCoreNexts}
use Rattle.flow_core.proofs.TakingLemmas.{drains_on}
use Rattle.flow_core.proofs.shared.SharedCore.drain.Goals as goal

pub returns-clause-documented : goal.returns-clause-documented
returns-clause-documented g c =
    drains_on (SharedCoreNexts (number_of c.args.id)) (EndsBy (SharedCoreNexts (number_of c.args.id))) c.take_held-taken.result c.args.most c.args.self.now c.take_held-taken.new.self c.take_all.new.core c.args.values.now.items c.take_held-taken.new.values.items c.take_all.new.values.items c.take_all.result
    c.take_held-taken.ensures.most c.take_held-taken.ensures.taken c.take_all.ensures.drains
