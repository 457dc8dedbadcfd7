use Rattle.std.proofs.Common.{◌≡◌, ◌+◌, [], ◌∷◌, length, Some, sym, ap, subst, ◌∙◌, refl, arith}
use Rattle.std.specs.Prelude.{take}
use Rattle.std.proofs.lemmas.List.{take_more, take_all}
use Rattle.flow_word_shared.specs.declared.view.Hold.{Hold}
use Rattle.flow_word_shared.specs.Steps.{MeOf}
use Rattle.flow_word_shared.specs.Rule.{cell_at}
use Rattle.flow_word_shared.specs.View.{with_hold, only}
use Rattle.flow_word_shared.proofs.Cells.{length_took}
use Rattle.flow_word_shared.proofs.EmitSteps.{filling}
use Rattle.flow_word_shared.proofs.Keeps.{same_some}
use Rattle.flow_word_shared.proofs.Masks.{cells_fit, cells_in, cell_is}
use Rattle.flow_word_shared.proofs.token.WordFlow.fill.Goals as goal
use Rattle.flow_word_shared.proofs.token.WordFlow.fill.Goals.{At-loop-place}

-- what the seat has when some cells are filled
filled : (g : _) (c : At-loop-place g) → c.loop-place.seat.me ≡ (with_hold (Some (record c.requires.holds.0 { cells = take c.loop-place.place c.args.words.now })) (only c.args.seat.now.me.0) ∷ [], c.args.seat.now.me.1)
filled g c = c.loop-place.invariant.filled c.requires.holds.0 c.requires.holds.1.1

-- there are no more cells yet
none_filled : (h : Hold) → h.cells ≡ [] → record h { cells = [] } ≡ h
none_filled h none = λ i. record h { cells = sym none i }

pub loop-place-init : goal.loop-place-init
loop-place-init g c = record {
  table = refl;
  filled = λ h has.
      let same : c.requires.holds.0 ≡ h = same_some c.requires.holds.0 h (sym c.requires.holds.1.1 ∙ has) in
      let none : h.cells ≡ [] = ap (λ (z : Hold). z.cells) (sym same) ∙ c.requires.holds.3 in
      let is = c.requires.holds.1.0 in
      is ∙ (λ i. (with_hold ((has ∙ ap Some (sym (none_filled h none))) i) (only c.args.seat.now.me.0) ∷ [], sym (ap (λ (m : MeOf g.row.T.Denot). m.1) is) i));
}

pub store-requires : goal.store-requires
store-requires g c =
    let d = (goal.at.store-requires g c).At-loop-place in let inv = c.loop-place.invariant in let h = c.requires.holds.0 in let place = c.loop-place.place in let words = c.args.words.now in let less = c.loop-place-test.true in
    let is = filled g d in let key = c.self.inside.table.shared.key in let wide = c.WIDTH-width.ensures in
    let took : length (take place words) ≡ place = length_took place words (omega (arith, less)) in
    let fit = cells_fit c.args.position c.self.inside.mask c.self.inside.room c.WIDTH-width.result c.self.invariant.8 c.self.invariant.9 in let count = cells_in _ c.self.inside.room g.T.Words.WIDTH c.WIDTH-width.result c.self.invariant.0 wide in
    let at = cell_is key c.args.position c.self.inside.mask c.self.inside.room c.WIDTH-width.result c.self.invariant.8 c.self.invariant.9 c.self.invariant.2 (c.self.invariant.11 ∙ sym wide) in let width = c.requires.width in (
      inv.table ∙ (ap (λ z. z.table) c.requires.flow ∙ ap (λ z. z.table_id.table) (sym c.self.view_is)),
      omega (arith, fit, count, less, width, wide),
      filling _ _ _ _ _ _ _ (record h { cells = take place words }) _ _ (subst (λ (m : MeOf g.row.T.Denot). m.0 ≡ only m.0 ∷ []) (sym is) refl) (ap (λ (m : MeOf g.row.T.Denot). (only m.0).hold) is)
          (λ i. (at ∙ ap (cell_at key) (sym c.requires.holds.2)) i + sym took i) (omega (arith, took, less, width, c.self.invariant.11)),
    )

pub loop-place-preserved : goal.loop-place-preserved
loop-place-preserved g c =
    let d = (goal.at.loop-place-preserved g c).At-loop-place in let inv = c.loop-place.invariant in let place = c.loop-place.place in let words = c.args.words.now in record {
      table = c.store.ensures.0 ∙ inv.table;
      filled = λ h has.
          let is = inv.filled h has in
          let stored = c.store.ensures.2 (record h { cells = take place words }) (ap (λ (m : MeOf g.row.T.Denot). (only m.0).hold) is) in
          stored ∙ (λ i. (with_hold (Some (record h { cells = sym (take_more words place 0 c.loop-place-test.true) i })) (only (is i).0) ∷ [], (is i).1));
    }

pub returns-clause-filled : goal.returns-clause-filled
returns-clause-filled g c = λ h has.
    c.loop-place.invariant.filled h has ∙ (λ i. (with_hold (Some (record h { cells = take_all c.loop-place.place c.args.words.now (omega (arith, c.loop-place-test.false)) i })) (only c.args.seat.now.me.0) ∷ [], c.args.seat.now.me.1))
