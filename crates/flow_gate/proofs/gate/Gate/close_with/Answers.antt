use Rattle.std.proofs.Common.{List, subst}
use Rattle.flow_law.specs.declared.history.HistoryEvent.{HistoryEvent}
use Rattle.flow_law.specs.history.Growth.{Fits}
use Rattle.flow_law.specs.history.RealTime.{IsTimed}
use Rattle.flow_gate.specs.Tokens.{GateOrigin}
use Rattle.flow_gate.proofs.Closing.{closes}
use Rattle.flow_gate.proofs.Seats.{idle_view}
use Rattle.flow_gate.proofs.gate.Gate.close_with.Goals as goal

pub returns-then-is_home : goal.returns-then-is_home
returns-then-is_home g c =
    let view = idle_view c.seat.inside.seat c.args.seat c.seat.invariant c.seat.view_is c.requires.idle in
    subst (λ (gate : GateOrigin g.row.S.Denot). (history : List (HistoryEvent g.row.S-Said.Denot)) × g.S.Guarded.stands gate.first c.take-state.result history × Fits history c.args.seat.token.knows × IsTimed history) c.self.view_is
    (closes (g.S.Guarded.stands c.self.inside.table.shared.key.value) _ _ _ _ _ _ _ view c.close_with-closed.ensures.values.2 c.word-is_home.ensures c.if-is_home.true c.take-state.ensures.value)
