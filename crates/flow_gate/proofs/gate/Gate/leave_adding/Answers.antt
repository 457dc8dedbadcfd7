use Rattle.std.proofs.Common.{rules, Some, ap, sym, subst}
use Rattle.flow_law.specs.history.Growth.{after_events}
use Rattle.flow_gate.proofs.Keeps.{leaves}
use Rattle.flow_gate.proofs.Seats.{me_of}
use Rattle.flow_gate.proofs.gate.Gate.leave_adding.Goals as goal

pub store-requires : goal.store-requires
store-requires g c =
    let k = c.args.seat.now.token.knows in let state = c.requires.stands.0 in
    let me = me_of c.seat.inside.seat c.args.seat.now c.seat.invariant c.seat.view_is (Some state) c.requires.stands.1 in
    let stood = subst (λ (first : g.row.S.Denot). g.S.Guarded.stands first state (after_events k.name g.W.Adds.adds k.seen)) (sym (ap (λ z. z.first) c.self.view_is)) c.requires.stands.2 in
    (search rules, search rules, leaves (g.S.Guarded.stands c.self.inside.table.shared.key.value) _ _ k state g.W.Adds.adds _ c.self.invariant.1 me stood)
