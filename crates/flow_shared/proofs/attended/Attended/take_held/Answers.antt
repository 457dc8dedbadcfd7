use Rattle.std.proofs.Common.{inl, ◌≡◌, true, refl}
use Rattle.flow_core.specs.SubId.{number_of}
use Rattle.flow_core.proofs.TakingLemmas.{drains_none, drains_lifted}
use Rattle.flow_law.specs.history.History.{replied}
use Rattle.flow_shared.specs.Attended.{AttendedAs}
use Rattle.flow_shared.specs.Drains.{CoreNexts}
use Rattle.flow_shared.proofs.Attending.{alone_after}
use Rattle.flow_shared.proofs.attended.Attended.take_held.Goals as goal

pub returns-clause-taken : goal.returns-clause-taken
returns-clause-taken g c =
    drains_none (CoreNexts g.S.FlowCore.kind (number_of c.args.id) (AttendedAs g.S.FlowCore.sleeping g.S.FlowCore.stands_as)) c.args.self.now c.args.values.now.items

pub returns-then-is_alone-clause-taken : goal.returns-then-is_alone-clause-taken
returns-then-is_alone-clause-taken g c =
    let kind = g.S.FlowCore.kind in
    let sleeping = g.S.FlowCore.sleeping in
    let StandsAs = g.S.FlowCore.stands_as in
    let n = number_of c.args.id in
    drains_lifted (CoreNexts kind n StandsAs) (CoreNexts kind n (AttendedAs sleeping StandsAs)) (λ core. record c.args.self.now { core = core })
    (λ before answer after documented s at.
    alone_after sleeping StandsAs (record c.args.self.now { core = before }) (record c.args.self.now { core = after }) (kind.take_next n) (replied kind kind.received answer) s c.if-is_alone.ensures refl documented refl refl refl at)
    c.take_held.result c.args.self.now.core c.take_held.new.self c.args.values.now.items c.take_held.new.values.items c.take_held.ensures.taken
