use Rattle.flow_shared.proofs.Inside.{has_seen, seen_in_time}
use Rattle.flow_shared.specs.Attended.{AttendedAs}
use Rattle.flow_shared.proofs.flow.Flow.look.Goals as goal

pub returns-clause-history : goal.returns-clause-history
returns-clause-history g c =
    has_seen g.S.FlowCore.kind (λ w. g.S.FlowCore.first w.core) (AttendedAs g.S.FlowCore.sleeping g.S.FlowCore.stands_as)
    c.args.self.now c.self.inside.gate c.look.new.seat.token c.self.view_is c.look.ensures.stood

pub returns-clause-timed : goal.returns-clause-timed
returns-clause-timed g c =
    seen_in_time g.S.FlowCore.kind (λ w. g.S.FlowCore.first w.core) (AttendedAs g.S.FlowCore.sleeping g.S.FlowCore.stands_as)
    c.self.inside.gate c.look.new.seat.token c.look.ensures.stood
