use Rattle.std.proofs.Common.{◌≡◌, ◌<◌, [], ◌∷◌, refl, sym, ap, subst, ◌∙◌, arith}
use Rattle.flow_word_shared.specs.Rule.{capacity_of, place_at}
use Rattle.flow_word_shared.specs.PlaceSteps.{TakesAt}
use Rattle.flow_word_shared.specs.Steps.{MeOf}
use Rattle.flow_word_shared.specs.View.{only}
use Rattle.flow_word_shared.proofs.PlaceRule.{word_below}
use Rattle.flow_word_shared.proofs.TakeSteps.{taking_place}
use Rattle.flow_word_shared.proofs.token.WordFlow.take_place.Goals as goal

pub loop-place-init : goal.loop-place-init
loop-place-init g c = record { table = refl; same = refl }

pub place_word-word-requires : goal.place_word-word-requires
place_word-word-requires g c = let less = c.loop-place-test.true in let places = c.self.invariant.12 in let same = ap (λ z. z.table_id.start.places) c.self.view_is in omega (arith, less, places, same)

pub compare_exchange-found-requires : goal.compare_exchange-found-requires
compare_exchange-found-requires g c =
    let key = c.self.inside.table.shared.key in let inv = c.loop-place.invariant in let r = c.requires.holds in let place = c.loop-place.place in
    let less = c.loop-place-test.true in let places = c.self.invariant.12 in let at = c.place_word-word.ensures ∙ ap (λ z. place_at z.table_id.start place) (sym c.self.view_is) in
    let there : place < key.places = omega (arith, less, places) in let below = word_below key place there in let count = c.self.invariant.14 in
    let room = ap (λ z. capacity_of z.start) c.requires.flow ∙ ap (λ z. capacity_of z.table_id.start) (sym c.self.view_is) in let kept = r.5 in (
      inv.table ∙ (ap (λ z. z.table) c.requires.flow ∙ ap (λ z. z.table_id.table) (sym c.self.view_is)),
      omega (arith, at, below, count),
      taking_place _ _ _ _ _ _ _ r.0 r.1 c.args.position place _ _ (subst (λ (m : MeOf g.row.T.Denot). m.0 ≡ only m.0 ∷ []) (sym inv.same) (ap (λ m. m.0) r.2.0)) (ap (λ (m : MeOf g.row.T.Denot). (only m.0).hold) inv.same ∙ r.2.1) r.3 r.4
          (omega (arith, kept, room)) r.6 there at refl,
    )

pub loop-place-preserved : goal.loop-place-preserved
loop-place-preserved g c =
    let start = ap (λ (m : MeOf g.row.T.Denot). (only m.0).start) c.loop-place.invariant.same ∙ ap (λ z. z.start) c.requires.flow in
    let told = c.compare_exchange-found.ensures.2 c.loop-place.place c.args.position (c.place_word-word.ensures ∙ ap (λ z. place_at z c.loop-place.place) (sym start)) refl in record {
      table = c.compare_exchange-found.ensures.0 ∙ c.loop-place.invariant.table;
      same = told.1 c.if-found-eq0.false ∙ c.loop-place.invariant.same;
    }

pub returns-then-found-eq0-clause-taken : goal.returns-then-found-eq0-clause-taken
returns-then-found-eq0-clause-taken g c =
    let start = ap (λ (m : MeOf g.row.T.Denot). (only m.0).start) c.loop-place.invariant.same ∙ ap (λ z. z.start) c.requires.flow in let place = c.loop-place.place in
    let less = c.loop-place-test.true in let places = c.self.invariant.12 in let same = ap (λ z. z.table_id.start.places) c.self.view_is in
    let told = c.compare_exchange-found.ensures.2 place c.args.position (c.place_word-word.ensures ∙ ap (λ z. place_at z place) (sym start)) refl in
    (place, omega (arith, less, places, same), c.place_word-word.ensures, subst (λ (m : MeOf g.row.T.Denot). TakesAt m place c.args.position c.compare_exchange-found.new.seat.me) c.loop-place.invariant.same (told.0 c.if-found-eq0.true))
