use Rattle.std.proofs.Common.{rules, ◌≡◌, ◌/◌, [], ◌∷◌, refl, sym, ap, subst, arith}
use Rattle.flow_word_shared.specs.View.{only, holding}
use Rattle.flow_word_shared.proofs.EmitSteps.{taking, releasing}
use Rattle.flow_word_shared.proofs.CacheSteps.{resetting}
use Rattle.flow_word_shared.proofs.token.WordFlow.try_reset.Goals as goal

pub compare_exchange-found-requires : goal.compare_exchange-found-requires
compare_exchange-found-requires g c =
    (search rules, search rules, taking _ _ _ _ _ _ _ _ _ (ap (λ m. m.0) c.seat.invariant.0.0) c.seat.invariant.0.1 c.seat.invariant.1 refl)

pub store-requires : goal.store-requires
store-requires g c =
    let told = c.compare_exchange-found.ensures.2.0 c.if-found-expected.false in
    (search rules, search rules, resetting _ _ _ _ _ _ _ (holding (c.seat.inside.expected / 2)) _ (subst (λ m. m.0 ≡ only m.0 ∷ []) (sym told) refl) (ap (λ m. (only m.0).hold) told) refl refl)

pub store-requires-2 : goal.store-requires-2
store-requires-2 g c =
    let told = c.compare_exchange-found.ensures.2.0 c.if-found-expected.false in let even = c.seat.invariant.1 in let did = c.store.ensures.2 in
    (search rules, search rules, releasing _ _ _ _ _ _ _ (holding (c.seat.inside.expected / 2)) _ (ap (λ m. m.0) did.0.2) (did.1 (holding (c.seat.inside.expected / 2)) (ap (λ m. (only m.0).hold) told)) refl (omega arith))
