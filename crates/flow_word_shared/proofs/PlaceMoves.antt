-- A store of a subscriber's own place keeps the rule of the table, whoever holds the lock bit. Begin with `own_place`.
use Rattle.std.proofs.Common.{◌≡◌, ◌≢◌, ◌⊎◌, ℕ, ◌+◌, ◌*◌, ◌/◌, ◌%◌, ◌<◌, ◌≤◌, List, [], length, get_or, set, Option, Some, None, refl, sym, ap, ◌∙◌, subst, inl, inr, ⊎_elim, ne_eqb, arith}
use Rattle.std.specs.Option.{option_map}
use Rattle.std.proofs.lemmas.List.{get_or-set_same, get_or-set_other, length-set}
use mathlib.Core.Logic.{dite}
use native.Mathlib.Decide.{ℕ_discrete}
use Rattle.flow_law.specs.declared.states.SharedFlowState.{SharedFlowState}
use Rattle.flow_law.specs.declared.states.Subscriber.{Subscriber}
use Rattle.flow_law.specs.flow.SharedFlow.{entry, position_of, move_to}
use Rattle.flow_law.specs.flow.SharedStep.{enroll}
use Rattle.flow_law.proofs.Rows.{position-move_to, position-move_to_other, position-snoc, position-snoc_other}
use Rattle.flow_word_shared.specs.declared.view.Taken.{Taken}
use Rattle.flow_word_shared.specs.declared.view.Post.{Post}
use Rattle.flow_word_shared.specs.declared.view.Hold.{Hold}
use Rattle.flow_word_shared.specs.declared.view.Reads.{Reads}
use Rattle.flow_word_shared.specs.declared.view.RingStart.{RingStart}
use Rattle.flow_word_shared.specs.Rule.{capacity_of, low_at, place_at, words_in, IsStart, PlaceOwner, owner_at, IsOwned, IsPlaceWord, PlacesFit, Hidden, IsIfKnown, IsTaken, HoldPlaces, HoldFits, PostFits, ReadsFit}
use Rattle.flow_word_shared.proofs.PlaceRule.{SameAt, EachFits, low_from, place_within, tail_cells}
use Rattle.flow_word_shared.proofs.PlaceSteps.{place_apart, place_past_low}
use Rattle.flow_word_shared.proofs.Keeps.{same_some}

-- owners with the same name and number
pub owner_name : (a b : List ℕ) (m n : ℕ) → ◌≡◌ {A = Option PlaceOwner} (Some (record { name = a; number = m })) (Some (record { name = b; number = n })) → a ≡ b
owner_name a b m n e = ap (λ (o : PlaceOwner). o.name) (same_some (record { name = a; number = m }) (record { name = b; number = n }) e)

taken_other : (a b : List ℕ) (m : ℕ) (n : Option ℕ) → a ≢ b → ◌≡◌ {A = Option PlaceOwner} (Some (record { name = a; number = m })) (option_map (λ (number : ℕ). record { name = b; number = number }) n) → ⊥
taken_other a b m None ne e = let no : ◌≡◌ {A = Option PlaceOwner} (Some (record { name = a; number = m })) None = e in absurd (cc)
taken_other a b m (Some n) ne e = ne (owner_name a b m n e)

module _ (start : RingStart) (owners : List (Option PlaceOwner)) (words : List ℕ) (i new : ℕ) where
  -- the words after the store
  abbrev pub stored : List ℕ
  stored = set words (place_at start i) new

  -- another place's word
  pub other_place : (j : ℕ) → j ≢ i → get_or stored (place_at start j) 0 ≡ get_or words (place_at start j) 0
  other_place j ne = get_or-set_other words (place_at start i) (place_at start j) new 0 (λ e. absurd (place_apart start j i ne e))

  pub low_kept : get_or stored (low_at start) 0 ≡ get_or words (low_at start) 0
  low_kept = get_or-set_other words (place_at start i) (low_at start) new 0 (λ e. absurd (place_past_low start i (sym e)))

  pub this_place : length words ≡ words_in start → i < start.places → get_or stored (place_at start i) 0 ≡ new
  this_place count there = get_or-set_same words (place_at start i) new 0 (place_within start words i count there)

  module _ (name : List ℕ) (number : ℕ) (own : owner_at owners i ≡ Some (record { name = name; number = number })) where
    -- what another token knows of its own place
    post_beside : (y : List ℕ) (n p : ℕ) (post : Option Post) → name ≢ y → PostFits start owners words y n p post → PostFits start owners stored y n p post
    post_beside y n p None ne f = tt
    post_beside y n p (Some post) ne f =
        (f.0, f.1, other_place post.place (λ e. absurd (ne (owner_name name y number n (sym own ∙ (ap (owner_at owners) (sym e) ∙ f.1))))) ∙ f.2)

    pub reads_beside : (y : List ℕ) (reads : Option Reads) → name ≢ y → ReadsFit start owners words y reads → ReadsFit start owners stored y reads
    reads_beside y None ne f = tt
    reads_beside y (Some x) ne f = post_beside y x.number x.position x.post ne f

    taken_beside : (y : List ℕ) (t : Option Taken) → name ≢ y → IsTaken start owners words y t → IsTaken start owners stored y t
    taken_beside y None ne f = tt
    taken_beside y (Some t) ne f = (f.0, f.1, other_place t.place (λ e. absurd (taken_other name y number t.number ne (sym own ∙ (ap (owner_at owners) (sym e) ∙ f.1)))) ∙ f.2)

    -- what the holder of the lock bit knows of places, if the position in this one does not fall
    pub held_beside : (y : List ℕ) (h : Hold) → name ≢ y → length words ≡ words_in start → i < start.places → get_or words (place_at start i) 0 ≢ 0
        → (new ≢ 0 → get_or words (place_at start i) 0 / 2 ≤ new / 2) → HoldPlaces start owners words y h → HoldPlaces start owners stored y h
    held_beside y h ne count there shown rises f = record {
      low = subst (IsIfKnown h.low) (sym low_kept) f.low;
      checked = λ j a b some. dite (ℕ_discrete j i)
          (λ e. let old = f.checked j a b (λ z. shown (ap (λ k. get_or words (place_at start k) 0) (sym e) ∙ z)) in
          let now : get_or stored (place_at start j) 0 ≡ new = ap (λ k. get_or stored (place_at start k) 0) e ∙ this_place count there in
          let was : get_or words (place_at start j) 0 ≡ get_or words (place_at start i) 0 = ap (λ k. get_or words (place_at start k) 0) e in
          let up = rises (λ z. some (now ∙ z)) in omega (arith, old, now, was, up))
          (λ other. subst (λ w. h.least + 1 ≤ w / 2) (sym (other_place j other)) (f.checked j a b (λ z. some (other_place j other ∙ z))));
      taken = taken_beside y h.taken ne f.taken;
      filled = f.filled;
    }

    pub hold_beside : {T : Type 0} (s t : SharedFlowState T) (owner : Option (List ℕ)) (hidden : Hidden) (y : List ℕ) (hold : Option Hold) → hidden.owners ≡ owners → IsStart start → length t.emitted ≡ length s.emitted → t.issued ≡ s.issued
        → t.reset_mark ≡ s.reset_mark → name ≢ y → length words ≡ words_in start → i < start.places → get_or words (place_at start i) 0 ≢ 0 → (new ≢ 0 → get_or words (place_at start i) 0 / 2 ≤ new / 2)
        → HoldFits start s owner hidden words y hold → HoldFits start t owner hidden stored y hold
    hold_beside s t owner hidden y None of ok log issued mark ne count there shown rises f = tt
    hold_beside s t owner hidden y (Some h) of ok log issued mark ne count there shown rises f = (
      f.0,
      f.1 ∙ sym log,
      f.2,
      subst (IsIfKnown h.issued) (sym issued) f.3,
      subst (IsIfKnown h.mark) (sym mark) f.4,
      tail_cells start words h.cells (place_at start i) new h.length ok (low_from start i) f.6.filled f.5,
      subst (λ o. HoldPlaces start o stored y h) (sym of) (held_beside y h ne count there shown rises (subst (λ o. HoldPlaces start o words y h) of f.6)),
    )

-- ---- a place without owner

module _ (start : RingStart) (owners : List (Option PlaceOwner)) (words : List ℕ) (i new : ℕ) (unowned : owner_at owners i ≡ None) where
  post_free : (y : List ℕ) (n p : ℕ) (post : Option Post) → PostFits start owners words y n p post → PostFits start owners (stored start owners words i new) y n p post
  post_free y n p None f = tt
  post_free y n p (Some post) f =
      (f.0, f.1, other_place start owners words i new post.place (λ e. let no : ◌≡◌ {A = Option PlaceOwner} None (Some (record { name = y; number = n })) = sym unowned ∙ (ap (owner_at owners) (sym e) ∙ f.1) in absurd (cc)) ∙ f.2)

  -- a store there leaves what tokens know of their own places
  pub reads_free : (y : List ℕ) (reads : Option Reads) → ReadsFit start owners words y reads → ReadsFit start owners (stored start owners words i new) y reads
  reads_free y None f = tt
  reads_free y (Some x) f = post_free y x.number x.position x.post f

-- the holder of the lock bit has taken a free place for a subscriber at this position
pub places_taken : {T : Type 0} (start : RingStart) (s : SharedFlowState T) (owners : List (Option PlaceOwner)) (words : List ℕ) (i new p : ℕ) → PlacesFit start s owners words → length words ≡ words_in start → i < start.places
    → get_or words (place_at start i) 0 ≡ 0 → new ≡ 2 * p + 3 → get_or words (low_at start) 0 ≤ p → length s.emitted ≤ p + capacity_of start → PlacesFit start s owners (stored start owners words i new)
places_taken start s owners words i new p f count there was is above kept = record {
  owned = f.owned;
  covers = λ some v q at. let c = f.covers some v q at in
      (c.0, c.1, c.2, ap (λ w. w / 2) (beside c.0 (λ e. let no : get_or words (place_at start c.0) 0 ≡ 0 = ap (λ k. get_or words (place_at start k) 0) e ∙ was in let l = c.3 in absurd (omega (arith, no, l)))) ∙ c.3);
  present = λ j less some even. dite (ℕ_discrete j i)
      (λ e. let word = here j e in absurd (omega (arith, word, is, even)))
      (λ other. let same = beside j other in let c = f.present j less (λ z. some (same ∙ z)) (ap (λ w. w % 2) (sym same) ∙ even) in (c.0, c.1, c.2, c.3, ap (λ w. w / 2) same ∙ c.4));
  free = λ j less none. dite (ℕ_discrete j i) (λ e. let word = here j e in absurd (omega (arith, word, is, none))) (λ other. f.free j less (sym (beside j other) ∙ none));
  apart = f.apart;
  issued = f.issued;
  each = λ j less. dite (ℕ_discrete j i)
      (λ e. let word = here j e in let low = low_kept start owners words i new in inr (omega (arith, word, is), omega (arith, word, is, low, above), omega (arith, word, is, kept)))
      (λ other. subst (λ (z : ℕ × ℕ). IsPlaceWord (capacity_of start) (length s.emitted) z.0 z.1) (λ k. (sym (low_kept start owners words i new) k, sym (beside j other) k)) (f.each j less));
}
  where
    beside : (j : ℕ) → j ≢ i → get_or (stored start owners words i new) (place_at start j) 0 ≡ get_or words (place_at start j) 0
    beside j ne = other_place start owners words i new j ne

    here : (j : ℕ) → j ≡ i → get_or (stored start owners words i new) (place_at start j) 0 ≡ new
    here j e = ap (λ k. get_or (stored start owners words i new) (place_at start k) 0) e ∙ this_place start owners words i new count there

-- ---- the places after the store

module _ {T : Type 0} (start : RingStart) (s : SharedFlowState T) (owners : List (Option PlaceOwner)) (words : List ℕ) (i new u p : ℕ) (f : PlacesFit start s owners words) (count : length words ≡ words_in start) (there : i < start.places)
    (own : IsOwned u (owner_at owners i)) (was : get_or words (place_at start i) 0 / 2 ≡ p + 1) where
  -- one number has one owner's place
  pub same_number : (o : Option PlaceOwner) (m n : ℕ) → IsOwned m o → IsOwned n o → m ≡ n
  same_number None m n a b = absurd a
  same_number (Some o) m n a b = sym a ∙ b

  -- the places of other subscribers
  other_owned : (v j : ℕ) → IsOwned v (owner_at owners j) → u ≢ v → j ≢ i
  other_owned v j of ne e = ne (same_number (owner_at owners i) u v own (subst (λ k. IsOwned v (owner_at owners k)) e of))

  abbrev after_store : List ℕ
  after_store = stored start owners words i new

  each_then : (count' : ℕ) → count' ≡ length s.emitted → (new ≡ 0) ⊎ ((2 ≤ new) × (p + 1 ≤ new / 2)) → 2 ≤ get_or words (place_at start i) 0 → EachFits start count' after_store
  each_then count' same rises shown j less = dite (ℕ_discrete j i)
      (λ e. subst (λ (z : ℕ × ℕ). IsPlaceWord (capacity_of start) count' z.0 z.1) (λ k. (sym (low_kept start owners words i new) k, sym (ap (λ m. get_or after_store (place_at start m) 0) e ∙ this_place start owners words i new count there) k))
      (⊎_elim (λ none. inl none) (λ up. ⊎_elim (λ none. absurd (omega (arith, none, shown))) (λ old. inr (up.0, (let l = old.1 in let m = up.1 in omega (arith, l, m, was)), (let l = old.2 in let m = up.1 in omega (arith, l, m, was, same)))) (f.each i there)) rises))
      (λ other. subst (λ (z : ℕ × (ℕ × ℕ)). IsPlaceWord (capacity_of start) z.0 z.1.0 z.1.1) (λ k. (sym same k, (sym (low_kept start owners words i new) k, sym (other_place start owners words i new j other) k))) (f.each j less))

  -- the subscriber's word only says that it comes or leaves, or does not
  pub places_flagged : 2 ≤ get_or words (place_at start i) 0 → new / 2 ≡ p + 1 → (new % 2 ≡ 0 → position_of u s.subscribers ≡ Some p) → PlacesFit start s owners after_store
  places_flagged shown half here = record {
    owned = f.owned;
    covers = λ some v q at. let c = f.covers some v q at in dite (ℕ_discrete c.0 i)
        (λ e. (
          c.0,
          c.1,
          c.2,
          (let now : get_or after_store (place_at start c.0) 0 ≡ new = ap (λ m. get_or after_store (place_at start m) 0) e ∙ this_place start owners words i new count there in
              let old : get_or words (place_at start c.0) 0 ≡ get_or words (place_at start i) 0 = ap (λ m. get_or words (place_at start m) 0) e in let l = c.3 in omega (arith, now, old, l, half, was)),
        ))
        (λ other. (c.0, c.1, c.2, ap (λ w. w / 2) (other_place start owners words i new c.0 other) ∙ c.3));
    present = λ j less some even. dite (ℕ_discrete j i)
        (λ e. let now : get_or after_store (place_at start j) 0 ≡ new = ap (λ m. get_or after_store (place_at start m) 0) e ∙ this_place start owners words i new count there in
        (u, p, subst (λ k. IsOwned u (owner_at owners k)) (sym e) own, here (ap (λ w. w % 2) (sym now) ∙ even), ap (λ w. w / 2) now ∙ half))
        (λ other. let same = other_place start owners words i new j other in let c = f.present j less (λ z. some (same ∙ z)) (ap (λ w. w % 2) (sym same) ∙ even) in (c.0, c.1, c.2, c.3, ap (λ w. w / 2) same ∙ c.4));
    free = λ j less none. dite (ℕ_discrete j i)
        (λ e. let now : get_or after_store (place_at start j) 0 ≡ new = ap (λ m. get_or after_store (place_at start m) 0) e ∙ this_place start owners words i new count there in absurd (omega (arith, now, none, half)))
        (λ other. f.free j less (sym (other_place start owners words i new j other) ∙ none));
    apart = f.apart;
    issued = f.issued;
    each = each_then (length s.emitted) refl (inr (omega (arith, half), omega (arith, half))) shown;
  }

  -- the subscriber moves on by one
  pub places_moved : 2 ≤ get_or words (place_at start i) 0 → new / 2 ≡ p + 2 → position_of u s.subscribers ≡ Some p → PlacesFit start (record s { subscribers = move_to u (p + 1) s.subscribers; queue = [] }) owners after_store
  places_moved shown half here = record {
    owned = f.owned;
    covers = λ some v q at. dite (ℕ_discrete u v)
        (λ e. (i, there, subst (λ n. IsOwned n (owner_at owners i)) e own, (let now = this_place start owners words i new count there in let to : q ≡ p + 1 = same_some q (p + 1) (sym at ∙ (ap (λ n. position_of n (move_to u (p + 1) s.subscribers)) (sym e) ∙ position-move_to u p (p + 1) s.subscribers here)) in omega (arith, now, to, half))))
        (λ ne. let c = f.covers some v q (sym (position-move_to_other v u (p + 1) s.subscribers (ne_eqb u v ne)) ∙ at) in (c.0, c.1, c.2, ap (λ w. w / 2) (other_place start owners words i new c.0 (other_owned v c.0 c.2 ne)) ∙ c.3));
    present = λ j less some even. dite (ℕ_discrete j i)
        (λ e. let now : get_or after_store (place_at start j) 0 ≡ new = ap (λ m. get_or after_store (place_at start m) 0) e ∙ this_place start owners words i new count there in
        (u, p + 1, subst (λ k. IsOwned u (owner_at owners k)) (sym e) own, position-move_to u p (p + 1) s.subscribers here, (let e2 = ap (λ w. w / 2) now in omega (arith, e2, half))))
        (λ other. let same = other_place start owners words i new j other in let c = f.present j less (λ z. some (same ∙ z)) (ap (λ w. w % 2) (sym same) ∙ even) in
        let ne : u ≢ c.0 = λ e. other (f.apart j i u less there (subst (λ n. IsOwned n (owner_at owners j)) (sym e) c.2) own) in
        (c.0, c.1, c.2, position-move_to_other c.0 u (p + 1) s.subscribers (ne_eqb u c.0 ne) ∙ c.3, ap (λ w. w / 2) same ∙ c.4));
    free = λ j less none. dite (ℕ_discrete j i)
        (λ e. let now : get_or after_store (place_at start j) 0 ≡ new = ap (λ m. get_or after_store (place_at start m) 0) e ∙ this_place start owners words i new count there in absurd (omega (arith, now, none, half)))
        (λ other. f.free j less (sym (other_place start owners words i new j other) ∙ none));
    apart = f.apart;
    issued = f.issued;
    each = each_then (length s.emitted) refl (inr (omega (arith, half), omega (arith, half))) shown;
  }

-- ---- a place whose subscriber comes

module _ {T : Type 0} (start : RingStart) (s : SharedFlowState T) (owners : List (Option PlaceOwner)) (words words' : List ℕ) (i p : ℕ) (name : List ℕ) (unowned : owner_at owners i ≡ None) (same : SameAt start words words')
    (low : get_or words' (low_at start) 0 ≡ get_or words (low_at start) 0) (there : i < start.places) (within : i < length owners) (shown : get_or words (place_at start i) 0 ≡ 2 * p + 3) (at_entry : entry s ≡ p) where
  -- the owners then
  abbrev pub now_owned : List (Option PlaceOwner)
  now_owned = set owners i (Some (record { name = name; number = s.issued + 1 }))

  pub owned_here : owner_at now_owned i ≡ Some (record { name = name; number = s.issued + 1 })
  owned_here = get_or-set_same owners i (Some (record { name = name; number = s.issued + 1 })) None within

  owned_there : (j : ℕ) → j ≢ i → owner_at now_owned j ≡ owner_at owners j
  owned_there j ne = get_or-set_other owners i j (Some (record { name = name; number = s.issued + 1 })) None ne

  -- an owned place is another one
  owned_apart : (j u : ℕ) → IsOwned u (owner_at owners j) → j ≢ i
  owned_apart j u of e = absurd (subst (IsOwned u) (ap (owner_at owners) e ∙ unowned) of)

  its_number : (j u : ℕ) → j ≡ i → IsOwned u (owner_at now_owned j) → u ≡ s.issued + 1
  its_number j u e of = sym (subst (IsOwned u) (ap (owner_at now_owned) e ∙ owned_here) of)

  was_owned : (j u : ℕ) → j ≢ i → IsOwned u (owner_at now_owned j) → IsOwned u (owner_at owners j)
  was_owned j u ne of = subst (IsOwned u) (owned_there j ne) of

  pub places_enrolled : PlacesFit start s owners words → position_of (s.issued + 1) s.subscribers ≡ None → PlacesFit start (enroll [] s) now_owned words'
  places_enrolled f nobody = record {
    owned = length-set owners i (Some (record { name = name; number = s.issued + 1 })) ∙ f.owned;
    covers = λ some u q at. dite (ℕ_discrete (s.issued + 1) u)
        (λ e. (
          i,
          there,
          subst (IsOwned u) (sym owned_here) e,
          (let to : q ≡ p = same_some q p (sym at ∙ (ap (λ k. position_of k (enroll [] s).subscribers) (sym e) ∙ (position-snoc (s.issued + 1) s.subscribers comer nobody refl ∙ ap Some at_entry))) in
              let w = same i in omega (arith, w, shown, to)),
        ))
        (λ ne. let c = f.covers some u q (sym (position-snoc_other u s.subscribers comer (ne_eqb (s.issued + 1) u ne)) ∙ at) in
        (c.0, c.1, subst (IsOwned u) (sym (owned_there c.0 (owned_apart c.0 u c.2))) c.2, ap (λ w. w / 2) (same c.0) ∙ c.3));
    present = λ j less some even. dite (ℕ_discrete j i)
        (λ e. let w : get_or words' (place_at start j) 0 ≡ 2 * p + 3 = ap (λ k. get_or words' (place_at start k) 0) e ∙ (same i ∙ shown) in absurd (omega (arith, w, even)))
        (λ ne. let c = f.present j less (λ z. some (same j ∙ z)) (ap (λ w. w % 2) (sym (same j)) ∙ even) in let old = f.issued j c.0 less c.2 in
        (c.0, c.1, subst (IsOwned c.0) (sym (owned_there j ne)) c.2, position-snoc_other c.0 s.subscribers comer (ne_eqb (s.issued + 1) c.0 (λ e. absurd (omega (arith, e, old)))) ∙ c.3, ap (λ w. w / 2) (same j) ∙ c.4));
    free = λ j less none. dite (ℕ_discrete j i)
        (λ e. let w : get_or words' (place_at start j) 0 ≡ 2 * p + 3 = ap (λ k. get_or words' (place_at start k) 0) e ∙ (same i ∙ shown) in absurd (omega (arith, w, none)))
        (λ ne. owned_there j ne ∙ f.free j less (sym (same j) ∙ none));
    apart = λ j k u x y one two. dite (ℕ_discrete j i)
        (λ e. dite (ℕ_discrete k i) (λ e2. e ∙ sym e2) (λ ne. let new = its_number j u e one in let old = f.issued k u y (was_owned k u ne two) in absurd (omega (arith, new, old))))
        (λ ne. dite (ℕ_discrete k i) (λ e2. let new = its_number k u e2 two in let old = f.issued j u x (was_owned j u ne one) in absurd (omega (arith, new, old))) (λ ne2. f.apart j k u x y (was_owned j u ne one) (was_owned k u ne2 two)));
    issued = λ j u less of. dite (ℕ_discrete j i) (λ e. let new = its_number j u e of in omega (arith, new)) (λ ne. let old = f.issued j u less (was_owned j u ne of) in omega (arith, old));
    each = λ j less. subst (λ (z : ℕ × ℕ). IsPlaceWord (capacity_of start) (length s.emitted) z.0 z.1) (λ k. (sym low k, sym (same j) k)) (f.each j less);
  }
    where
      comer : Subscriber T
      comer = record { number = s.issued + 1; own = []; position = entry s }

  post_enrolled : (y : List ℕ) (n q : ℕ) (post : Option Post) → PostFits start owners words y n q post → PostFits start now_owned words' y n q post
  post_enrolled y n q None f = tt
  post_enrolled y n q (Some post) f = let other : post.place ≢ i = owned_apart post.place n (subst (IsOwned n) (sym f.1) refl) in (f.0, owned_there post.place other ∙ f.1, same post.place ∙ f.2)

  -- what tokens know of their own places
  pub reads_enrolled : (y : List ℕ) (reads : Option Reads) → ReadsFit start owners words y reads → ReadsFit start now_owned words' y reads
  reads_enrolled y None f = tt
  reads_enrolled y (Some x) f = post_enrolled y x.number x.position x.post f

-- ---- a place that is free again

module _ (start : RingStart) (owners : List (Option PlaceOwner)) (words : List ℕ) (i : ℕ) (name : List ℕ) (number : ℕ) (own : owner_at owners i ≡ Some (record { name = name; number = number })) (count : length words ≡ words_in start)
    (there : i < start.places) (within : i < length owners) where
  abbrev pub disowned : List (Option PlaceOwner)
  disowned = set owners i None

  disowned_other : (j : ℕ) → j ≢ i → owner_at disowned j ≡ owner_at owners j
  disowned_other j ne = get_or-set_other owners i j None None ne

  disowned_here : (j : ℕ) → j ≡ i → owner_at disowned j ≡ None
  disowned_here j e = ap (owner_at disowned) e ∙ get_or-set_same owners i None None within

  free_word : (j : ℕ) → j ≡ i → get_or (stored start owners words i 0) (place_at start j) 0 ≡ 0
  free_word j e = ap (λ k. get_or (stored start owners words i 0) (place_at start k) 0) e ∙ this_place start owners words i 0 count there

  owned_other : (j u : ℕ) → IsOwned u (owner_at disowned j) → (j ≢ i) × IsOwned u (owner_at owners j)
  owned_other j u of = dite (ℕ_discrete j i) (λ e. absurd (subst (IsOwned u) (disowned_here j e) of)) (λ ne. (ne, subst (IsOwned u) (disowned_other j ne) of))

  pub places_freed : {T : Type 0} (s : SharedFlowState T) → position_of number s.subscribers ≡ None → PlacesFit start s owners words → PlacesFit start s disowned (stored start owners words i 0)
  places_freed s gone f = record {
    owned = length-set owners i None ∙ f.owned;
    covers = λ some v q at. let c = f.covers some v q at in
        let ne : c.0 ≢ i = λ e. let it : number ≡ v = subst (IsOwned v) (ap (owner_at owners) e ∙ own) c.2 in let no : None ≡ Some q = sym gone ∙ (ap (λ k. position_of k s.subscribers) it ∙ at) in absurd (cc) in
        (c.0, c.1, subst (IsOwned v) (sym (disowned_other c.0 ne)) c.2, ap (λ w. w / 2) (other_place start owners words i 0 c.0 ne) ∙ c.3);
    present = λ j less some even. dite (ℕ_discrete j i) (λ e. absurd (some (free_word j e)))
        (λ ne. let same = other_place start owners words i 0 j ne in let c = f.present j less (λ z. some (same ∙ z)) (ap (λ w. w % 2) (sym same) ∙ even) in
        (c.0, c.1, subst (IsOwned c.0) (sym (disowned_other j ne)) c.2, c.3, ap (λ w. w / 2) same ∙ c.4));
    free = λ j less none. dite (ℕ_discrete j i) (λ e. disowned_here j e) (λ ne. disowned_other j ne ∙ f.free j less (sym (other_place start owners words i 0 j ne) ∙ none));
    apart = λ j k u x y one two. f.apart j k u x y (owned_other j u one).1 (owned_other k u two).1;
    issued = λ j u less of. f.issued j u less (owned_other j u of).1;
    each = λ j less. dite (ℕ_discrete j i) (λ e. inl (free_word j e))
        (λ ne. subst (λ (z : ℕ × ℕ). IsPlaceWord (capacity_of start) (length s.emitted) z.0 z.1) (λ k. (sym (low_kept start owners words i 0) k, sym (other_place start owners words i 0 j ne) k)) (f.each j less));
  }

  -- what others know of places: those in which they are interested are others
  post_freed : (y : List ℕ) (n p : ℕ) (post : Option Post) → name ≢ y → PostFits start owners words y n p post → PostFits start disowned (stored start owners words i 0) y n p post
  post_freed y n p None ne f = tt
  post_freed y n p (Some post) ne f = let other : post.place ≢ i = λ e. absurd (ne (owner_name name y number n (sym own ∙ (ap (owner_at owners) (sym e) ∙ f.1)))) in
      (f.0, disowned_other post.place other ∙ f.1, other_place start owners words i 0 post.place other ∙ f.2)

  pub reads_freed : (y : List ℕ) (reads : Option Reads) → name ≢ y → ReadsFit start owners words y reads → ReadsFit start disowned (stored start owners words i 0) y reads
  reads_freed y None ne f = tt
  reads_freed y (Some x) ne f = post_freed y x.number x.position x.post ne f

  taken_freed : (y : List ℕ) (t : Option Taken) → name ≢ y → IsTaken start owners words y t → IsTaken start disowned (stored start owners words i 0) y t
  taken_freed y None ne f = tt
  taken_freed y (Some t) ne f = let other : t.place ≢ i = λ e. absurd (taken_other name y number t.number ne (sym own ∙ (ap (owner_at owners) (sym e) ∙ f.1))) in
      (f.0, disowned_other t.place other ∙ f.1, other_place start owners words i 0 t.place other ∙ f.2)

  pub held_freed : (y : List ℕ) (h : Hold) → name ≢ y → get_or words (place_at start i) 0 ≢ 0 → HoldPlaces start owners words y h → HoldPlaces start disowned (stored start owners words i 0) y h
  held_freed y h ne shown f = let g = held_beside start owners words i 0 name number own y h ne count there shown (λ z. absurd (z refl)) f in
      record { low = g.low; checked = g.checked; taken = taken_freed y h.taken ne f.taken; filled = f.filled }
