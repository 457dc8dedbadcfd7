-- The steps on places that holders of the lock bit take keep the rule of the table. Begin with `checking`: a load of a place, which may be an
-- emission whose value is dropped.
use Rattle.std.proofs.Common.{◌≡◌, ◌≢◌, ◌⊎◌, ℕ, Bool, true, ◌+◌, ◌-◌, ◌*◌, ◌/◌, ◌%◌, ◌<◌, ◌≤◌, List, [], ◌∷◌, length, get_or, set, Option, Some, None, refl, sym, ap, ◌∙◌, subst, inl, inr, ⊎_elim, arith}
use Rattle.std.specs.Prelude.{min}
use Rattle.std.proofs.lemmas.Bool.{cases_lt}
use Rattle.std.proofs.lemmas.List.{get_or-set_same, get_or-set_other, length-set}
use mathlib.Core.Logic.{dite}
use mathlib.Core.Option.{none, some}
use lib.ListN.{get_elem?}
use native.Mathlib.Decide.{ℕ_discrete}
use Rattle.atomic_table.specs.Table.{State, Me, step, Act, keeps, carried_after, Valid, stepped, Allows}
use Rattle.flow_law.specs.declared.config.Config.{Config}
use Rattle.flow_law.specs.declared.call.SharedCall.{SharedCall}
use Rattle.flow_law.specs.declared.call.SharedReply.{SharedReply}
use Rattle.flow_law.specs.declared.states.SharedFlowState.{SharedFlowState}
use Rattle.flow_law.specs.flow.SharedFlow.{values, capacity, position_of, is_blocked}
use Rattle.flow_law.specs.flow.SharedHistory.{History, answer_to, Replies, after}
use Rattle.flow_word_shared.specs.declared.view.RingKnown.{RingKnown}
use Rattle.flow_word_shared.specs.declared.view.Hold.{Hold}
use Rattle.flow_word_shared.specs.declared.view.RingStart.{RingStart}
use Rattle.flow_word_shared.specs.Rule.{capacity_of, cell_at, low_at, place_at, IsStart, HasValue, owner_at, IsOwned, IsPlaceWord, PlacesFit, Hidden, WordsFit, HoldFits, RingHolds}
use Rattle.flow_word_shared.specs.Steps.{StepCalls, emission_of, emission_done}
use Rattle.flow_word_shared.specs.PlaceSteps.{Checks, looks_low, sets_low, checks, gives_up}
use Rattle.flow_word_shared.specs.View.{with_hold, only}
use Rattle.flow_word_shared.proofs.Cells.{cells_within, words_kept}
use Rattle.flow_word_shared.proofs.PlaceRule.{SameAt, EachFits, drops, drops_latest, low_within, tail_cells, places_with, taken_same}
use Rattle.flow_word_shared.proofs.Accepted.{blocked_by, emission_dropped, emission_replies, emission_after, emission_may}
use Rattle.flow_word_shared.proofs.Oldest.{Usual, usual_after}
use Rattle.flow_word_shared.proofs.Keeps.{same_some, no_other, now, more_by, turned_by, turned, started, fits_at, hold_at, reads_at, stay, stay_set, event_step, quiet_by, quiet_step, still, loaded, word0_set}

-- places have different words, which come after the lower bound
pub place_apart : (start : RingStart) (i j : ℕ) → i ≢ j → place_at start i ≢ place_at start j
place_apart start i j ne e = ne (omega (arith, e))

pub place_past_low : (start : RingStart) (i : ℕ) → place_at start i ≢ low_at start
place_past_low start i e = absurd (omega (arith, e))

module _ (T : Type 0) (packs : List ℕ → Type 0) (value_of : List ℕ → T) (start : RingStart) where
  abbrev V : Type 0
  V = List (RingKnown T)

  abbrev St : Type 0
  St = State Unit V

  abbrev Rule : St → Type 0
  Rule = RingHolds packs value_of start

  abbrev current : History T → SharedFlowState T
  current h = now T packs value_of start h

  -- a word from the lower bound on changes
  pub tail_set : (s : SharedFlowState T) (owner : Option (List ℕ)) (hidden : Hidden) (words : List ℕ) (i w : ℕ) → IsStart start → low_at start ≤ i → PlacesFit start s hidden.owners (set words i w)
      → WordsFit packs value_of start s owner hidden words → WordsFit packs value_of start s owner hidden (set words i w)
  tail_set s owner hidden words i w ok from places f = record {
    count = length-set words i w ∙ f.count;
    word0 = get_or-set_other words i 0 w 0 (λ e. absurd (omega (arith, from, e))) ∙ f.word0;
    few = f.few;
    made = subst (λ n. n + length s.emitted ≡ s.issued + hidden.ahead) (sym (get_or-set_other words i 1 w 0 (λ e. absurd (omega (arith, from, e))))) f.made;
    live = get_or-set_other words i 2 w 0 (λ e. absurd (omega (arith, from, e))) ∙ f.live;
    mark = get_or-set_other words i 3 w 0 (λ e. absurd (omega (arith, from, e))) ∙ f.mark;
    cells = λ k a b. subst (HasValue packs value_of (values s) k)
        (sym (words_kept start.width words i w (cell_at start k) (λ q begin less e. let within = cells_within start ok k in absurd (omega (arith, from, less, e, within))))) (f.cells k a b);
    rested = f.rested;
    places = places;
  }

  -- ---- the lower bound

  -- a load of the lower bound, by the holder
  pub looking_low : (slots id : ℕ) (me : Me Unit V) (h : Hold) (i : ℕ) → me.0 ≡ only me.0 ∷ [] → (only me.0).hold ≡ Some h → i ≡ low_at start
      → Allows Rule slots id me i (λ n. n) (looks_low (step slots i 0 0 none) me)
  looking_low slots id me h i is has place s r n at small =
      let found : ℕ = get_or s.words i 0 in let x : RingKnown T = only me.0 in let f = hold_at T packs value_of start s r id me.0 h is at has in
      let h' : Hold = record h { low = Some found } in (
        turned T packs value_of start x x.knows.seen (Some h') x.reads ∷ [],
        keeps,
        tt,
        loaded T packs value_of start s i _ (quiet_step T packs value_of start s r id me.0 is at x.knows.seen r.owner r.hidden s.words (Some h') x.reads (fits_at T packs value_of start s r id me.0 is at) r.words
            (f.0, f.1, f.2, f.3, f.4, f.5, record { low = ap (λ j. get_or s.words j 0) place; checked = f.6.checked; taken = f.6.taken; filled = f.6.filled }) (λ y ne g. g)
            (stay T packs value_of start s r) (reads_at T packs value_of start s r id me.0 is at)),
        λ h2 has2. ap (λ (z : Hold). (with_hold (Some (record z { low = Some found })) x ∷ [], me.1)) (same_some h h2 (sym has ∙ has2)),
      )

  -- the holder may store this bound: no position in a place is less
  abbrev pub IsBound : Hold → ℕ → Type 0
  IsBound h new = ((h.checked ≡ start.places) × (new ≡ h.least)) ⊎ (new ≡ h.length - capacity_of start)

  bound_fits : (h : Hold) (c n low word new : ℕ) → h.length ≡ n → ((h.least ≡ new) × (word ≢ 0 → h.least + 1 ≤ word / 2)) ⊎ (new ≡ h.length - c) → IsPlaceWord c n low word → IsPlaceWord c n new word
  bound_fits h c n low word new count (inl scanned) (inl free) = inl free
  bound_fits h c n low word new count (inl scanned) (inr shown) = inr (shown.0, (let l = scanned.1 (λ e. absurd (omega (arith, e, shown.0))) in let same = scanned.0 in omega (arith, l, same)), shown.2)
  bound_fits h c n low word new count (inr least) (inl free) = inl free
  bound_fits h c n low word new count (inr least) (inr shown) = inr (shown.0, (let a = shown.0 in let b = shown.2 in omega (arith, least, count, a, b)), shown.2)

  -- a store of the lower bound, by the holder
  pub setting_low : (slots id : ℕ) (me : Me Unit V) (h : Hold) (i new : ℕ) → me.0 ≡ only me.0 ∷ [] → (only me.0).hold ≡ Some h → i ≡ low_at start → 0 < start.places → IsBound h new
      → Allows Rule slots id me i (λ _. new) (λ _. sets_low (step slots i new 0 none) me new)
  setting_low slots id me h i new is has place places bound s r n at small = (
    turned T packs value_of start x x.knows.seen (Some h') x.reads ∷ [],
    keeps,
    tt,
    quiet_step T packs value_of start s r id me.0 is at x.knows.seen r.owner r.hidden (set s.words i new) (Some h') x.reads (fits_at T packs value_of start s r id me.0 is at)
        (tail_set st r.owner r.hidden s.words i new r.starts (omega (arith, place)) (places_with start st st r.hidden.owners s.words (set s.words i new) same (omega arith) (λ u. refl) each r.words.places) r.words) (
          f.0,
          f.1,
          f.2,
          f.3,
          f.4,
          tail_cells start s.words h.cells i new h.length r.starts (omega (arith, place)) f.6.filled f.5,
          record {
            low = sym here;
            checked = λ j a b shown. subst (λ w. h.least + 1 ≤ w / 2) (sym (same j)) (f.6.checked j a b (λ z. shown (same j ∙ z)));
            taken = taken_same start r.hidden.owners s.words (set s.words i new) name h.taken same f.6.taken;
            filled = f.6.filled;
          },
        )
        (λ y ne g. no_other start st st r.owner r.owner r.hidden r.hidden s.words (set s.words i new) name y.knows.name y.hold ne (inr f.0) g)
        (refl, same) (reads_at T packs value_of start s r id me.0 is at),
    λ h2 has2. ap (λ (z : Hold). (with_hold (Some (record z { low = Some new })) x ∷ [], me.1)) (same_some h h2 (sym has ∙ has2)),
  )
    where
      x : RingKnown T
      x = only me.0

      name : List ℕ
      name = x.knows.name

      st : SharedFlowState T
      st = current r.history

      h' : Hold
      h' = record h { low = Some new }

      f : HoldFits start st r.owner r.hidden s.words name (Some h)
      f = hold_at T packs value_of start s r id me.0 h is at has

      same : SameAt start s.words (set s.words i new)
      same j = get_or-set_other s.words i (place_at start j) new 0 (λ e. absurd (place_past_low start j (e ∙ place)))

      here : get_or (set s.words i new) (low_at start) 0 ≡ new
      here = ap (λ j. get_or (set s.words i new) j 0) (sym place) ∙ get_or-set_same s.words i new 0 (let count = low_within start s.words r.words.count places in omega (arith, count, place))

      each : EachFits start (length st.emitted) (set s.words i new)
      each j less = subst (λ (z : ℕ × ℕ). IsPlaceWord (capacity_of start) (length st.emitted) z.0 z.1) (λ k. (sym here k, sym (same j) k))
          (bound_fits h (capacity_of start) (length st.emitted) (get_or s.words (low_at start) 0) (get_or s.words (place_at start j) 0) new f.1
          (⊎_elim (λ scanned. inl (sym scanned.1, f.6.checked j (omega (arith, less, scanned.0)) less)) (λ least. inr least) bound) (r.words.places.each j less))

  -- ---- a load of a place

  -- the place has no subscriber that is a full buffer behind
  abbrev passes : Hold → ℕ → Hold
  passes h least = record h { checked = h.checked + 1; least = least }

  -- a place that does not hold the emission back
  passed : (s : St) (r : Rule s) (id : ℕ) (me : Me Unit V) (h : Hold) (least : ℕ) → (is : me.0 ≡ only me.0 ∷ []) → (at : get_elem? s.views id ≡ some me.0) → (only me.0).hold ≡ Some h → least ≤ h.least
      → (get_or s.words (place_at start h.checked) 0 ≢ 0 → least + 1 ≤ get_or s.words (place_at start h.checked) 0 / 2)
      → Rule record { words = s.words; homes = s.homes; views = set s.views id (turned T packs value_of start (only me.0) (only me.0).knows.seen (Some (passes h least)) (only me.0).reads ∷ []) }
  passed s r id me h least is at has less shown =
      let f = hold_at T packs value_of start s r id me.0 h is at has in
      quiet_step T packs value_of start s r id me.0 is at (only me.0).knows.seen r.owner r.hidden s.words (Some (passes h least)) (only me.0).reads (fits_at T packs value_of start s r id me.0 is at) r.words (
        f.0,
        f.1,
        f.2,
        f.3,
        f.4,
        f.5,
        record {
          low = f.6.low;
          checked = λ j a b some. elim (cases_lt j h.checked) as (λ _. least + 1 ≤ get_or s.words (place_at start j) 0 / 2) [
            | inl old ↦ let k = f.6.checked j old b some in omega (arith, k, less)
            | inr new ↦ let last : j ≡ h.checked = omega (arith, a, new) in subst (λ k. least + 1 ≤ get_or s.words (place_at start k) 0 / 2) (sym last) (shown (λ z. some (ap (λ k. get_or s.words (place_at start k) 0) last ∙ z)))
          ];
          taken = f.6.taken;
          filled = f.6.filled;
        },
      ) (λ y ne g. g) (stay T packs value_of start s r) (reads_at T packs value_of start s r id me.0 is at)

  -- a load of the place after those in which the holder has looked, by the holder that has filled the free cells
  pub checking : (slots id : ℕ) (me : Me Unit V) (tries : Bool) (h : Hold) (i : ℕ) → me.0 ≡ only me.0 ∷ [] → (only me.0).hold ≡ Some h → i ≡ place_at start h.checked → h.checked < start.places
      → Allows Rule slots id me i (λ n. n) (checks value_of tries (step slots i 0 0 none) me)
  checking slots id me tries h i is has place less s r n at small = done
    where
      found : ℕ
      found = get_or s.words i 0

      x : RingKnown T
      x = only me.0

      st : SharedFlowState T
      st = current r.history

      f : HoldFits start st r.owner r.hidden s.words x.knows.name (Some h)
      f = hold_at T packs value_of start s r id me.0 h is at has

      word_is : found ≡ get_or s.words (place_at start h.checked) 0
      word_is = ap (λ j. get_or s.words j 0) place

      room : capacity_of x.start ≡ capacity_of start
      room = ap capacity_of (started T packs value_of start s r id me.0 is at)

      Result : Type 0
      Result = (w : V) × (a : Act Unit) × Valid s.homes me.1 a × Rule (stepped s i found id me.1 w a) × checks value_of tries (step slots i 0 0 none) me found (w, carried_after me.1 a)

      ends : (v : V) → Rule record { words = s.words; homes = s.homes; views = set s.views id v } → Checks value_of tries h me found (v, me.1) → Result
      ends v rule told = (v, keeps, tt, loaded T packs value_of start s i _ rule, λ h2 has2 _ _. subst (λ (z : Hold). Checks value_of tries z me found (v, me.1)) (same_some h h2 (sym has ∙ has2)) told)

      -- the place is free
      free_place : found ≡ 0 → Result
      free_place e = ends (turned T packs value_of start x x.knows.seen (Some (passes h h.least)) x.reads ∷ [])
          (passed s r id me h h.least is at has (omega arith) (λ shown. absurd (shown (sym word_is ∙ e))))
          (record { free = λ _. refl; shown = λ ne. absurd (ne e); passed = λ ne. absurd (ne e); blocked = λ ne. absurd (ne e); unknown = λ ne. absurd (ne e) })

      big : found ≢ 0 → 2 ≤ found
      big ne = ⊎_elim (λ e. absurd (ne (word_is ∙ e))) (λ shown. let b = shown.0 in omega (arith, b, word_is)) (r.words.places.each h.checked less)

      -- its subscriber is less than a buffer behind
      near_place : found ≢ 0 → h.length < found / 2 - 1 + capacity_of start → Result
      near_place ne near = let b = big ne in ends (turned T packs value_of start x x.knows.seen (Some (passes h (min h.least (found / 2 - 1)))) x.reads ∷ [])
          (passed s r id me h (min h.least (found / 2 - 1)) is at has (omega arith) (λ _. omega (arith, b, word_is)))
          (record {
            free = λ e. absurd (ne e);
            shown = λ _. b;
            passed = λ _ _. refl;
            blocked = λ _ far _. absurd (omega (arith, near, far, room));
            unknown = λ _ far _. absurd (omega (arith, near, far, room));
          })

      -- its subscriber is a full buffer behind, and one of the flow: the value is dropped
      blocked_place : found ≢ 0 → found / 2 - 1 + capacity_of start ≤ h.length → found % 2 ≡ 0 → Result
      blocked_place ne far even = ends (turned T packs value_of start x (more_by T packs value_of start x r.history c y) (Some h) x.reads ∷ []) event.0
          (record {
            free = λ e. absurd (ne e);
            shown = λ _. b;
            passed = λ _ near. absurd (omega (arith, near, far, room));
            blocked = λ _ _ _. (event.1, refl, refl);
            unknown = λ _ _ odd. absurd (odd even);
          })
        where
          b : 2 ≤ found
          b = big ne

          c : SharedCall T
          c = emission_of tries (value_of h.cells)

          y : SharedReply T
          y = emission_done tries

          some_places : 0 < start.places
          some_places = omega (arith, less)

          usual : Usual T start.config (drops start r.starts) r.starts.buffer st
          usual = usual_after T start.config (drops start r.starts) r.starts.buffer r.history

          its : (u : ℕ) × (p : ℕ) × IsOwned u (owner_at r.hidden.owners h.checked) × (position_of u st.subscribers ≡ Some p) × (get_or s.words (place_at start h.checked) 0 / 2 ≡ p + 1)
          its = r.words.places.present h.checked less (λ e. ne (word_is ∙ e)) (ap (λ w. w % 2) (sym word_is) ∙ even)

          capacity_is : capacity st ≡ capacity_of start
          capacity_is = ap (λ (g : Config). g.replay + g.extra) usual.config_is

          blocked : is_blocked st ≡ true
          blocked = let some = r.starts.buffer in let at_p = its.4 in let count = f.1 in
              blocked_by T start.config (drops start r.starts) r.starts.buffer st its.0 its.1 its.3 (omega (arith, far, at_p, word_is, count, capacity_is, some))

          dropped : (emission_done tries ≡ (answer_to c st).reply) × ((answer_to c st).after ≡ st)
          dropped = emission_dropped T start.config (drops start r.starts) r.starts.buffer tries st (value_of h.cells) usual (drops_latest start r.starts some_places) blocked

          replies : Replies st c y
          replies = emission_replies T start.config (drops start r.starts) r.starts.buffer tries st (value_of h.cells) dropped.0

          same : after st c y ≡ st
          same = emission_after T start.config (drops start r.starts) r.starts.buffer tries st (value_of h.cells) ∙ dropped.1

          event : Rule record { words = s.words; homes = s.homes; views = set s.views id (turned T packs value_of start x (more_by T packs value_of start x r.history c y) (Some h) x.reads ∷ []) }
              × StepCalls me c y (turned T packs value_of start x (more_by T packs value_of start x r.history c y) (Some h) x.reads ∷ [], me.1)
          event = event_step T packs value_of start s r id me.0 me.1 c y is at r.owner r.hidden s.words (Some h) x.reads replies
              (emission_may T start.config (drops start r.starts) r.starts.buffer tries (value_of h.cells) x.knows.name r.history)
              (subst (λ t. WordsFit packs value_of start t r.owner r.hidden s.words) (sym same) r.words)
              (subst (λ t. HoldFits start t r.owner r.hidden s.words x.knows.name (Some h)) (sym same) f)
              (λ z ne g. subst (λ t. HoldFits start t r.owner r.hidden s.words z.knows.name z.hold) (sym same) g)
              (stay T packs value_of start s r) (reads_at T packs value_of start s r id me.0 is at)

      -- its subscriber is a full buffer behind, but comes or leaves
      unknown_place : found ≢ 0 → found / 2 - 1 + capacity_of start ≤ h.length → found % 2 ≢ 0 → Result
      unknown_place ne far odd = (
        me.0,
        keeps,
        tt,
        still T packs value_of start s r i id me.0 at,
        λ h2 has2 _ _. subst (λ (z : Hold). Checks value_of tries z me found me) (same_some h h2 (sym has ∙ has2)) (record {
          free = λ e. absurd (ne e);
          shown = λ _. big ne;
          passed = λ _ near. absurd (omega (arith, near, far, room));
          blocked = λ _ _ even. absurd (odd even);
          unknown = λ _ _ _. refl;
        }),
      )

      far_place : found ≢ 0 → found / 2 - 1 + capacity_of start ≤ h.length → Result
      far_place ne far = dite (ℕ_discrete (found % 2) 0) (blocked_place ne far) (unknown_place ne far)

      shown_place : found ≢ 0 → Result
      shown_place ne = elim (cases_lt h.length (found / 2 - 1 + capacity_of start)) as (λ _. Result) [
        | inl near ↦ near_place ne near
        | inr far ↦ far_place ne far
      ]

      done : Result
      done = dite (ℕ_discrete found 0) free_place shown_place

  -- a store of word 0 by the holder, whose attempt failed
  pub giving_up : (slots id : ℕ) (me : Me Unit V) (h : Hold) (new : ℕ) → me.0 ≡ only me.0 ∷ [] → (only me.0).hold ≡ Some h → h.ahead ≡ 0 → new ≡ h.length * 2
      → Allows Rule slots id me 0 (λ _. new) (λ _. gives_up (step slots 0 new 0 none) me new)
  giving_up slots id me h new is has none_ahead word s r n at small =
      let x : RingKnown T = only me.0 in let st = current r.history in let f = hold_at T packs value_of start s r id me.0 h is at has in let name : List ℕ = x.knows.name in
      let length_is = f.1 in let ahead_is = f.2 in (
        turned_by T packs value_of start (x.knows.lost + 1) x x.knows.seen None x.reads ∷ [],
        keeps,
        tt,
        quiet_by T packs value_of start s r id me.0 is at (x.knows.lost + 1) x.knows.seen None r.hidden (set s.words 0 new) None x.reads (fits_at T packs value_of start s r id me.0 is at)
            (word0_set T packs value_of start st r.owner None r.hidden s.words new r.words (omega arith) (λ _. omega arith)) tt
            (λ y ne g. no_other start st st r.owner None r.hidden r.hidden s.words (set s.words 0 new) name y.knows.name y.hold ne (inr f.0) g)
            (stay_set T packs value_of start s r 0 new (omega arith)) (reads_at T packs value_of start s r id me.0 is at),
        refl,
      )
