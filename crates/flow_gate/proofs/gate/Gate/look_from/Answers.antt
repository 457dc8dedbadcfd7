use Rattle.std.proofs.Common.{rules, Some, ap, sym, ◌∙◌}
use Rattle.flow_gate.proofs.Keeps.{looks_from}
use Rattle.flow_gate.proofs.gate.Gate.look_from.Goals as goal

pub load-requires : goal.load-requires
load-requires g c =
    let first = c.requires.first ∙ ap (λ z. Some z.first) (sym c.self.view_is) in
    (search rules, search rules, looks_from g.S.Guarded.stands c.self.inside.table.shared.key.value g.B.StartsFrom.first first _ _ _)
