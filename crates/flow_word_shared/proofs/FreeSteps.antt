-- A store that frees the place of a subscriber that has left keeps the rule of the table.
use Rattle.std.proofs.Common.{◌≡◌, ◌≢◌, ℕ, ◌+◌, ◌<◌, List, [], ◌∷◌, length, get_or, set, Option, Some, None, refl, sym, ap, ◌∙◌, subst, arith}
use Rattle.std.proofs.lemmas.List.{get_or-set_other, length-set}
use mathlib.Core.Option.{none}
use Rattle.atomic_table.specs.Table.{State, Me, step, keeps, Allows}
use Rattle.flow_law.specs.declared.states.SharedFlowState.{SharedFlowState}
use Rattle.flow_law.specs.history.Growth.{Fits}
use Rattle.flow_law.specs.flow.SharedFlow.{values, position_of}
use Rattle.flow_law.specs.flow.SharedHistory.{History, shared_after_all, shared_flow}
use Rattle.flow_law.proofs.Owners.{after_all-append}
use Rattle.flow_word_shared.specs.declared.view.RingKnown.{RingKnown}
use Rattle.flow_word_shared.specs.declared.view.Post.{Post}
use Rattle.flow_word_shared.specs.declared.view.Hold.{Hold}
use Rattle.flow_word_shared.specs.declared.view.Reads.{Reads}
use Rattle.flow_word_shared.specs.declared.view.RingStart.{RingStart}
use Rattle.flow_word_shared.specs.Rule.{head, cell_at, place_at, owner_at, HasValue, Hidden, WordsFit, HoldPlaces, HoldFits, RingHolds}
use Rattle.flow_word_shared.specs.Steps.{IsGone}
use Rattle.flow_word_shared.specs.PlaceSteps.{frees}
use Rattle.flow_word_shared.specs.View.{began_as, only}
use Rattle.flow_word_shared.proofs.Cells.{cells_within, words_kept}
use Rattle.flow_word_shared.proofs.PlaceRule.{low_from, tail_cells}
use Rattle.flow_word_shared.proofs.PlaceMoves.{places_freed, reads_freed, held_freed}
use Rattle.flow_word_shared.proofs.Gone.{gone_later}
use Rattle.flow_word_shared.proofs.Keeps.{now, turned, started, fits_at, quiet_with}
use Rattle.flow_word_shared.proofs.PostSteps.{Own, own_at}

module _ (T : Type 0) (packs : List ℕ → Type 0) (value_of : List ℕ → T) (start : RingStart) where
  abbrev V : Type 0
  V = List (RingKnown T)

  abbrev St : Type 0
  St = State Unit V

  abbrev Rule : St → Type 0
  Rule = RingHolds packs value_of start

  abbrev current : History T → SharedFlowState T
  current h = now T packs value_of start h

  hold_freed : (s : St) (r : Rule s) (i number : ℕ) (name y : List ℕ) (hidden' : Hidden) (own : owner_at r.hidden.owners i ≡ Some (record { name = name; number = number })) (there : i < start.places) (within : i < length r.hidden.owners)
      → hidden'.ahead ≡ r.hidden.ahead → hidden'.owners ≡ set r.hidden.owners i None → (hold : Option Hold) → name ≢ y → get_or s.words (place_at start i) 0 ≢ 0
      → HoldFits start (current r.history) r.owner r.hidden s.words y hold → HoldFits start (current r.history) r.owner hidden' (set s.words (place_at start i) 0) y hold
  hold_freed s r i number name y hidden' own there within ahead owners None ne shown f = tt
  hold_freed s r i number name y hidden' own there within ahead owners (Some h) ne shown f = (
    f.0,
    f.1,
    f.2 ∙ sym ahead,
    f.3,
    f.4,
    tail_cells start s.words h.cells (place_at start i) 0 h.length r.starts (low_from start i) f.6.filled f.5,
    subst (λ o. HoldPlaces start o (set s.words (place_at start i) 0) y h) (sym owners) (held_freed start r.hidden.owners s.words i name number own r.words.count there within y h ne shown f.6),
  )

  freeing_at : (slots id : ℕ) (me : Me Unit V) (x : Reads) (post : Post) → me.0 ≡ only me.0 ∷ [] → (only me.0).reads ≡ Some x → x.post ≡ Some post
      → IsGone x.number (shared_after_all (began_as (only me.0).start) (only me.0).knows.seen) → Allows Rule slots id me (place_at start post.place) (λ _. 0) (λ _. frees (step slots (place_at start post.place) 0 0 none) me 0)
  freeing_at slots id me x post is has posted gone s r n at small = (
    turned T packs value_of start (only me.0) (only me.0).knows.seen None None ∷ [],
    keeps,
    tt,
    quiet_with T packs value_of start s r id me.0 is at (only me.0).knows.lost (only me.0).knows.seen r.owner hidden' (set s.words i 0) None None (fits_at T packs value_of start s r id me.0 is at) fit tt
        (λ y ne g. hold_freed s r post.place x.number (only me.0).knows.name y.knows.name hidden' own.owner own.there within refl refl y.hold ne some_word g)
        (λ y ne g. reads_freed start r.hidden.owners s.words post.place (only me.0).knows.name x.number own.owner r.words.count own.there within y.knows.name y.reads ne g) tt,
    refl,
  )
    where
      i : ℕ
      i = place_at start post.place

      st : SharedFlowState T
      st = current r.history

      own : Own T packs value_of start s r (only me.0).knows.name x post
      own = own_at T packs value_of start s r id me.0 x post is at has posted

      within : post.place < length r.hidden.owners
      within = let owned = r.words.places.owned in let less = own.there in omega (arith, owned, less)

      some_word : get_or s.words i 0 ≢ 0
      some_word e = let l = own.shown in absurd (omega (arith, e, l))

      hidden' : Hidden
      hidden' = record { ahead = r.hidden.ahead; owners = set r.hidden.owners post.place None }

      fits : Fits r.history (only me.0).knows
      fits = fits_at T packs value_of start s r id me.0 is at

      gone_now : position_of x.number st.subscribers ≡ None
      gone_now =
          let here : IsGone x.number (shared_after_all (began_as start) (only me.0).knows.seen) = subst (λ (z : RingStart). IsGone x.number (shared_after_all (began_as z) (only me.0).knows.seen)) (started T packs value_of start s r id me.0 is at) gone in
          (subst (IsGone x.number) (sym (ap (shared_after_all (began_as start)) fits.0.1 ∙ after_all-append shared_flow (began_as start) (only me.0).knows.seen fits.0.0)) (gone_later x.number (shared_after_all (began_as start) (only me.0).knows.seen) fits.0.0 here)).0

      before_places : (j : ℕ) → j < head → get_or (set s.words i 0) j 0 ≡ get_or s.words j 0
      before_places j less = get_or-set_other s.words i j 0 0 (λ e. absurd (omega (arith, less, e)))

      fit : WordsFit packs value_of start st r.owner hidden' (set s.words i 0)
      fit = let w = r.words in record {
        count = length-set s.words i 0 ∙ w.count;
        word0 = before_places 0 (omega arith) ∙ w.word0;
        few = w.few;
        made = subst (λ m. m + length st.emitted ≡ st.issued + r.hidden.ahead) (sym (before_places 1 (omega arith))) w.made;
        live = before_places 2 (omega arith) ∙ w.live;
        mark = before_places 3 (omega arith) ∙ w.mark;
        cells = λ k a b. subst (HasValue packs value_of (values st) k)
            (sym (words_kept start.width s.words i 0 (cell_at start k) (λ q begin less e. let inside = cells_within start r.starts k in absurd (omega (arith, less, e, inside))))) (w.cells k a b);
        rested = w.rested;
        places = places_freed start r.hidden.owners s.words post.place (only me.0).knows.name x.number own.owner r.words.count own.there within st gone_now w.places;
      }

  pub freeing : (slots id : ℕ) (me : Me Unit V) (x : Reads) (post : Post) (i : ℕ) → me.0 ≡ only me.0 ∷ [] → (only me.0).reads ≡ Some x → x.post ≡ Some post → i ≡ place_at start post.place
      → IsGone x.number (shared_after_all (began_as (only me.0).start) (only me.0).knows.seen) → Allows Rule slots id me i (λ _. 0) (λ _. frees (step slots i 0 0 none) me 0)
  freeing slots id me x post i is has posted place gone = subst (λ j. Allows Rule slots id me j (λ _. 0) (λ _. frees (step slots j 0 0 none) me 0)) (sym place) (freeing_at slots id me x post is has posted gone)
