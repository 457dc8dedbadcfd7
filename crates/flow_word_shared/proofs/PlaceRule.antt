-- The places of subscribers. Begin with `places_same` and `held_same`: a step that changes no word of a place, and moves no subscriber.
use Rattle.std.proofs.Common.{◌≡◌, ◌≢◌, ℕ, false, zero, suc, ◌+◌, ◌*◌, ◌/◌, ◌%◌, ◌<◌, ◌≤◌, ◌==◌, List, [], length, get_or, set, Option, Some, None, refl, sym, ap, ◌∙◌, subst, inl, inr, ⊎_elim, ne_eqb, arith}
use Rattle.std.specs.Option.{option_map}
use Rattle.std.proofs.lemmas.List.{get_or-set_other}
use Rattle.flow_law.specs.declared.config.Overflow.{Overflow}
use Rattle.flow_law.specs.declared.config.Overflow.TheVariants.{Suspend, DropOldest, DropLatest}
use Rattle.flow_law.specs.declared.states.SharedFlowState.{SharedFlowState}
use Rattle.flow_law.specs.flow.SharedFlow.{position_of, without}
use Rattle.flow_law.specs.flow.SharedStep.{leave}
use Rattle.flow_law.proofs.Rows.{position-without, position-without_other}
use Rattle.flow_word_shared.specs.declared.view.Taken.{Taken}
use Rattle.flow_word_shared.specs.declared.view.Post.{Post}
use Rattle.flow_word_shared.specs.declared.view.Hold.{Hold}
use Rattle.flow_word_shared.specs.declared.view.Reads.{Reads}
use Rattle.flow_word_shared.specs.declared.view.RingStart.{RingStart}
use Rattle.flow_word_shared.proofs.Cells.{cells_within, words_kept}
use Rattle.flow_word_shared.specs.Rule.{head, capacity_of, cell_at, words_from, low_at, place_at, words_of_places, words_in, HasPlacesFor, IsStart, PlaceOwner, owner_at, IsOwned, IsPlaceWord, PlacesFit, IsIfKnown, IsTaken, HoldPlaces, PostFits, ReadsFit}

-- ---- strategies

suspends_not : (o : Overflow) (places : ℕ) → HasPlacesFor o places → o ≢ Suspend
suspends_not Suspend places has e = absurd has
suspends_not DropOldest places has e = absurd (cc)
suspends_not DropLatest places has e = absurd (cc)

-- a flow of words drops values
pub drops : (start : RingStart) → IsStart start → start.config.overflow ≢ Suspend
drops start is = suspends_not start.config.overflow start.places is.strategy

oldest_of : (o : Overflow) (places : ℕ) → HasPlacesFor o places → places ≡ 0 → o ≢ DropLatest
oldest_of Suspend places has none e = absurd has
oldest_of DropOldest places has none e = absurd (cc)
oldest_of DropLatest places has none e = absurd (omega (arith, has, none))

-- without places it does not drop the latest ones
pub drops_oldest : (start : RingStart) → IsStart start → start.places ≡ 0 → start.config.overflow ≢ DropLatest
drops_oldest start is none = oldest_of start.config.overflow start.places is.strategy none

latest_of : (o : Overflow) (places : ℕ) → HasPlacesFor o places → 0 < places → o ≡ DropLatest
latest_of Suspend places has some = absurd has
latest_of DropOldest places has some = absurd (omega (arith, has, some))
latest_of DropLatest places has some = refl

-- with places it drops the latest ones
pub drops_latest : (start : RingStart) → IsStart start → 0 < start.places → start.config.overflow ≡ DropLatest
drops_latest start is some = latest_of start.config.overflow start.places is.strategy some

pub has_places : (start : RingStart) → IsStart start → start.config.overflow ≡ DropLatest → 0 < start.places
has_places start is latest = subst (λ o. HasPlacesFor o start.places) latest is.strategy

-- ---- words

-- the words from the lower bound on are the same
abbrev pub SamePlaces : RingStart → List ℕ → List ℕ → Type 0
SamePlaces start words words' = (i : ℕ) → low_at start ≤ i → get_or words' i 0 ≡ get_or words i 0

-- a word before them changes
pub places_beyond : (start : RingStart) (words : List ℕ) (place w : ℕ) → place < low_at start → SamePlaces start words (set words place w)
places_beyond start words place w less i from = get_or-set_other words place i w 0 (λ e. absurd (omega (arith, less, from, e)))

-- one of the words before the cells changes
pub places_after_head : (start : RingStart) (words : List ℕ) (place w : ℕ) → place < head → SamePlaces start words (set words place w)
places_after_head start words place w less = places_beyond start words place w (omega (arith, less))

pub low_from : (start : RingStart) (i : ℕ) → low_at start ≤ place_at start i
low_from start i = omega arith

-- the words of places are the same
abbrev pub SameAt : RingStart → List ℕ → List ℕ → Type 0
SameAt start words words' = (i : ℕ) → get_or words' (place_at start i) 0 ≡ get_or words (place_at start i) 0

pub at_places : (start : RingStart) (words words' : List ℕ) → SamePlaces start words words' → SameAt start words words'
at_places start words words' same i = same (place_at start i) (low_from start i)

tail_words : (n i : ℕ) → i < n → 8 * (i + 1) < words_of_places n
tail_words zero i less = absurd (omega (arith, less))
tail_words (suc n) i less = omega (arith, less)

-- a place is one of the words
pub word_below : (start : RingStart) (i : ℕ) → i < start.places → place_at start i < words_in start
word_below start i less = let tail = tail_words start.places i less in omega (arith, tail)

-- the lower bound is at this word
pub low_of : (start : RingStart) (low room width : ℕ) → low ≡ 4 + room * width → start.room ≡ room → start.width ≡ width → low ≡ low_at start
low_of start low room width is same wide = is ∙ (λ i. 4 + sym same i * sym wide i)

-- the words of places are words of the flow
pub place_within : (start : RingStart) (words : List ℕ) (i : ℕ) → length words ≡ words_in start → i < start.places → place_at start i < length words
place_within start words i count less = let tail = tail_words start.places i less in omega (arith, count, tail)

pub low_within : (start : RingStart) (words : List ℕ) → length words ≡ words_in start → 0 < start.places → low_at start < length words
low_within start words count some = let tail = place_within start words 0 count some in omega (arith, tail)

-- what the holder knows of the free cells stays, if a word after the cells changes
pub tail_cells : (start : RingStart) (words cells : List ℕ) (i w n : ℕ) → IsStart start → low_at start ≤ i → length cells ≤ start.width → cells ≡ words_from (length cells) words (cell_at start n)
    → cells ≡ words_from (length cells) (set words i w) (cell_at start n)
tail_cells start words cells i w n ok from whole old =
    old ∙ sym (words_kept (length cells) words i w (cell_at start n) (λ q begin less e. let within = cells_within start ok n in absurd (omega (arith, from, less, e, within, whole))))

-- ---- what the rule says of places

module _ (start : RingStart) where
  -- what the word of each place says, after so many values
  abbrev pub EachFits : ℕ → List ℕ → Type 0
  EachFits count words = (i : ℕ) → i < start.places → IsPlaceWord (capacity_of start) count (get_or words (low_at start) 0) (get_or words (place_at start i) 0)

  -- what the holder knows of its place, if places do not change
  pub taken_same : (owners : List (Option PlaceOwner)) (words words' name : List ℕ) (t : Option Taken) → SameAt start words words' → IsTaken start owners words name t → IsTaken start owners words' name t
  taken_same owners words words' name None same f = tt
  taken_same owners words words' name (Some t) same f = (f.0, f.1, same t.place ∙ f.2)

  pub held_same : (owners : List (Option PlaceOwner)) (words words' name : List ℕ) (h : Hold) → SamePlaces start words words' → HoldPlaces start owners words name h → HoldPlaces start owners words' name h
  held_same owners words words' name h same f = record {
    low = subst (IsIfKnown h.low) (sym (same (low_at start) (omega arith))) f.low;
    checked = λ i less there shown. let w = same (place_at start i) (low_from start i) in subst (λ x. h.least + 1 ≤ x / 2) (sym w) (f.checked i less there (λ z. shown (w ∙ z)));
    taken = taken_same owners words words' name h.taken (at_places start words words' same) f.taken;
    filled = f.filled;
  }

  -- a holder that has looked at no place
  pub held_none : (owners : List (Option PlaceOwner)) (words name : List ℕ) (h : Hold) → h.low ≡ None → h.checked ≡ 0 → h.taken ≡ None → h.cells ≡ [] → HoldPlaces start owners words name h
  held_none owners words name h low checked taken empty = record {
    low = subst (λ o. IsIfKnown o (get_or words (low_at start) 0)) (sym low) tt;
    checked = λ i less. absurd (omega (arith, less, checked));
    taken = subst (IsTaken start owners words name) (sym taken) tt;
    filled = let none : length h.cells ≡ 0 = ap length empty in omega (arith, none);
  }

  post_same : (owners : List (Option PlaceOwner)) (words words' name : List ℕ) (number position : ℕ) (post : Option Post) → SameAt start words words' → PostFits start owners words name number position post → PostFits start owners words' name number position post
  post_same owners words words' name number position None same f = tt
  post_same owners words words' name number position (Some post) same f = (f.0, f.1, same post.place ∙ f.2)

  pub reads_same : (owners : List (Option PlaceOwner)) (words words' name : List ℕ) (reads : Option Reads) → SameAt start words words' → ReadsFit start owners words name reads → ReadsFit start owners words' name reads
  reads_same owners words words' name None same f = tt
  reads_same owners words words' name (Some x) same f = post_same owners words words' name x.number x.position x.post same f

  -- a token without place
  pub reads_unposted : (owners : List (Option PlaceOwner)) (words name : List ℕ) (reads : Option Reads) → ReadsFit start owners words name (option_map (λ (r : Reads). record r { post = None }) reads)
  reads_unposted owners words name None = tt
  reads_unposted owners words name (Some x) = tt

one_more_fits : (c n m low word : ℕ) → m ≡ n + 1 → n < low + c → IsPlaceWord c n low word → IsPlaceWord c m low word
one_more_fits c n m low word more room f = ⊎_elim (λ none. inl none) (λ shown. inr (shown.0, shown.1, omega (arith, more, room, shown.1))) f

module _ {T : Type 0} (start : RingStart) where
  -- no place word changes, and no subscriber moves
  pub places_with : (s t : SharedFlowState T) (owners : List (Option PlaceOwner)) (words words' : List ℕ) → SameAt start words words' → s.issued ≤ t.issued
      → ((u : ℕ) → position_of u t.subscribers ≡ position_of u s.subscribers) → EachFits start (length t.emitted) words' → PlacesFit start s owners words → PlacesFit start t owners words'
  places_with s t owners words words' same more rows each f = record {
    owned = f.owned;
    covers = λ some u p at. let c = f.covers some u p (sym (rows u) ∙ at) in (c.0, c.1, c.2, ap (λ w. w / 2) (same c.0) ∙ c.3);
    present = λ i less shown even. let w = same i in let c = f.present i less (λ z. shown (w ∙ z)) (ap (λ x. x % 2) (sym w) ∙ even) in
        (c.0, c.1, c.2, rows c.0 ∙ c.3, ap (λ x. x / 2) w ∙ c.4);
    free = λ i less none. f.free i less (sym (same i) ∙ none);
    apart = f.apart;
    issued = λ i u less own. let l = f.issued i u less own in omega (arith, l, more);
    each = each;
  }

  -- no place word changes, no subscriber moves, and no value is emitted
  pub places_same : (s t : SharedFlowState T) (owners : List (Option PlaceOwner)) (words words' : List ℕ) → SamePlaces start words words' → length t.emitted ≡ length s.emitted → s.issued ≤ t.issued
      → ((u : ℕ) → position_of u t.subscribers ≡ position_of u s.subscribers) → PlacesFit start s owners words → PlacesFit start t owners words'
  places_same s t owners words words' same count more rows f = places_with s t owners words words' (at_places start words words' same) more rows
      (λ i less. subst (λ (z : ℕ × (ℕ × ℕ)). IsPlaceWord (capacity_of start) z.0 z.1.0 z.1.1)
      (λ j. (sym count j, (sym (same (low_at start) (omega arith)) j, sym (same (place_at start i) (low_from start i)) j))) (f.each i less)) f

  -- a value is emitted, for which there is room by the lower bound
  pub places_more : (s t : SharedFlowState T) (owners : List (Option PlaceOwner)) (words words' : List ℕ) → SamePlaces start words words' → length t.emitted ≡ length s.emitted + 1 → s.issued ≤ t.issued
      → ((u : ℕ) → position_of u t.subscribers ≡ position_of u s.subscribers) → length s.emitted < get_or words (low_at start) 0 + capacity_of start → PlacesFit start s owners words → PlacesFit start t owners words'
  places_more s t owners words words' same count more rows room f = places_with s t owners words words' (at_places start words words' same) more rows
      (λ i less. subst (λ (z : ℕ × ℕ). IsPlaceWord (capacity_of start) (length t.emitted) z.0 z.1)
      (λ j. (sym (same (low_at start) (omega arith)) j, sym (same (place_at start i) (low_from start i)) j))
      (one_more_fits (capacity_of start) (length s.emitted) (length t.emitted) (get_or words (low_at start) 0) (get_or words (place_at start i) 0) count room (f.each i less))) f

  -- the subscriber of an odd place has left
  pub places_without : (s : SharedFlowState T) (u i : ℕ) (owners : List (Option PlaceOwner)) (words words' : List ℕ) → SamePlaces start words words' → i < start.places → IsOwned u (owner_at owners i)
      → get_or words (place_at start i) 0 % 2 ≡ 1 → PlacesFit start s owners words → PlacesFit start (record (leave u s) { queue = [] }) owners words'
  places_without s u i owners words words' same there own odd f = record {
    owned = g.owned;
    covers = λ some v p at. g.covers some v p (sym (position-without_other v u s.subscribers (present_is v p at)) ∙ at);
    present = λ j less shown even. let c = g.present j less shown even in (c.0, c.1, c.2, position-without_other c.0 u s.subscribers (even_is j c.0 less even c.2) ∙ c.3, c.4);
    free = g.free;
    apart = g.apart;
    issued = g.issued;
    each = g.each;
  }
    where
      g : PlacesFit start s owners words'
      g = places_same s s owners words words' same refl (omega arith) (λ v. refl) f

      odd_now : get_or words' (place_at start i) 0 % 2 ≡ 1
      odd_now = ap (λ w. w % 2) (same (place_at start i) (low_from start i)) ∙ odd

      present_is : (v p : ℕ) → position_of v (without u s.subscribers) ≡ Some p → (u == v) ≡ false
      present_is v p at = ne_eqb u v (λ e. let no : None ≡ Some p = sym (position-without u s.subscribers) ∙ ap (λ n. position_of n (without u s.subscribers)) e ∙ at in absurd (cc))

      even_is : (j v : ℕ) → j < start.places → get_or words' (place_at start j) 0 % 2 ≡ 0 → IsOwned v (owner_at owners j) → (u == v) ≡ false
      even_is j v less even of_v = ne_eqb u v (λ e.
          let here : j ≡ i = g.apart j i u less there (subst (λ n. IsOwned n (owner_at owners j)) (sym e) of_v) own in
          let no : get_or words' (place_at start j) 0 % 2 ≡ 1 = ap (λ k. get_or words' (place_at start k) 0 % 2) here ∙ odd_now in absurd (omega (arith, even, no)))

  -- a flow without places
  pub no_places : (s : SharedFlowState T) (owners : List (Option PlaceOwner)) (words : List ℕ) → start.places ≡ 0 → length owners ≡ start.places → PlacesFit start s owners words
  no_places s owners words none count = record {
    owned = count;
    covers = λ some. absurd (omega (arith, none, some));
    present = λ i less. absurd (omega (arith, none, less));
    free = λ i less. absurd (omega (arith, none, less));
    apart = λ i j u less. absurd (omega (arith, none, less));
    issued = λ i u less. absurd (omega (arith, none, less));
    each = λ i less. absurd (omega (arith, none, less));
  }
