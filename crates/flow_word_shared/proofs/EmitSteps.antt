-- The steps of emitters keep the rule of the table.
use Rattle.std.proofs.Common.{◌≡◌, ◌≢◌, ◌⊎◌, ℕ, Bool, eqb, eq-eqb, ne_eqb, zero, suc, ◌+◌, ◌*◌, ◌/◌, ◌%◌, ◌<◌, ◌≤◌, List, [], ◌∷◌, ◌++◌, length, get_or, set, Option, Some, None, refl, sym, ap, ◌∙◌, subst, inl, inr, ⊎_elim, length-append, arith}
use Rattle.std.specs.List.{slice_get}
use Rattle.std.proofs.lemmas.Bool.{cases_lt}
use Rattle.std.proofs.lemmas.List.{get_or-set_same, get_or-set_other, length-set, map-append, length_push}
use mathlib.Core.Logic.{dite}
use mathlib.Core.Option.{none}
use native.Mathlib.Decide.{ℕ_discrete}
use prog.Atomic.{either}
use Rattle.atomic_table.specs.Table.{State, Me, step, Act, keeps, carried_after, Valid, stepped, Allows}
use Rattle.flow_law.specs.declared.config.Config.{Config}
use Rattle.flow_law.specs.declared.config.Overflow.TheVariants.{DropLatest}
use Rattle.flow_law.specs.declared.fault.FlowFault.TheVariants.{Exhausted}
use Rattle.flow_law.specs.declared.call.SharedCall.{SharedCall}
use Rattle.flow_law.specs.declared.call.SharedReply.{SharedReply}
use Rattle.flow_law.specs.declared.call.SharedReply.TheVariants as reply
use Rattle.flow_law.specs.declared.states.Numbered.{Numbered}
use Rattle.flow_law.specs.declared.states.SharedFlowState.{SharedFlowState}
use Rattle.flow_law.specs.flow.EmitRule.{numbered}
use Rattle.flow_law.specs.flow.SharedFlow.{values, position_of}
use Rattle.flow_law.specs.flow.SharedHistory.{History, answer_to, Replies, after}
use Rattle.flow_law.proofs.Boxes.{length_values}
use Rattle.flow_law.proofs.RowOrder.{always_in_order}
use Rattle.flow_word_shared.specs.declared.view.RingKnown.{RingKnown}
use Rattle.flow_word_shared.specs.declared.view.Hold.{Hold}
use Rattle.flow_word_shared.specs.declared.view.RingStart.{RingStart}
use Rattle.flow_word_shared.specs.Rule.{head, capacity_of, cell_at, words_from, low_at, IsStart, bit, HasValue, PlacesFit, Hidden, WordsFit, IsIfKnown, HoldPlaces, HoldFits, RingHolds}
use Rattle.flow_word_shared.specs.PlaceSteps.{HasRoom}
use Rattle.flow_word_shared.specs.Steps.{emission_of, emission_done, StepCalls, takes, counts_issued, fills, refuses, releases, publishes}
use Rattle.flow_word_shared.specs.View.{with_hold, holding, only}
use Rattle.flow_word_shared.proofs.Cells.{cells_within, words_kept, words_more, head_kept, other_cell, slice_get_left, slice_get_end}
use Rattle.flow_word_shared.proofs.PlaceRule.{SamePlaces, at_places, drops, drops_oldest, drops_latest, places_beyond, places_after_head, places_same, places_more, no_places, held_same, held_none}
use Rattle.flow_word_shared.proofs.Accepted.{Accepts, not_blocked, Added, emission_is, emission_full, emission_replies, emission_after, emission_may}
use Rattle.flow_word_shared.proofs.Oldest.{Usual, usual_after}
use Rattle.flow_word_shared.proofs.Keeps.{same_some, no_other, now, more_by, turned_by, turned, started, fits_at, hold_at, reads_at, stay, stay_set, event_step, quiet_by, quiet_step, loaded, word0_set}

-- an even word 0 says that no caller holds the lock bit
free_if_even : (owner : Option (List ℕ)) (n found old : ℕ) → found ≡ n * 2 + bit owner → found ≡ old → old % 2 ≡ 0 → owner ≡ None
free_if_even None n found old is hit even = refl
free_if_even (Some name) n found old is hit even = absurd (omega arith)

half_free : (owner : Option (List ℕ)) (n found : ℕ) → found ≡ n * 2 + bit owner → owner ≡ None → found ≡ n * 2
half_free owner n found is free = is ∙ ap (λ o. n * 2 + bit o) free ∙ (let z : n * 2 + 0 ≡ n * 2 = omega arith in z)

module _ (T : Type 0) (packs : List ℕ → Type 0) (value_of : List ℕ → T) (start : RingStart) where
  abbrev V : Type 0
  V = List (RingKnown T)

  abbrev St : Type 0
  St = State Unit V

  abbrev Rule : St → Type 0
  Rule = RingHolds packs value_of start

  abbrev current : History T → SharedFlowState T
  current h = now T packs value_of start h

  -- an exchange of word 0, which takes the lock bit
  pub taking : (slots id : ℕ) (me : Me Unit V) (old new : ℕ) → me.0 ≡ only me.0 ∷ [] → (only me.0).hold ≡ None → old % 2 ≡ 0 → new ≡ old + 1
      → Allows Rule slots id me 0 (λ n. either (eqb n old) new n) (takes (step slots 0 old new none) me)
  taking slots id me old new is idle even more s r n at small =
      let found : ℕ = get_or s.words 0 0 in let x : RingKnown T = only me.0 in let st = current r.history in let name : List ℕ = x.knows.name in
      let G : ℕ → Type 0 = λ m. (w : V) × (a : Act Unit) × Valid s.homes me.1 a × Rule (stepped s 0 m id me.1 w a) × takes (step slots 0 old new none) me found (w, carried_after me.1 a) in
      let flat : G (either (eqb found old) new found) = dite (ℕ_discrete found old)
      (λ hit. let free : r.owner ≡ None = free_if_even r.owner (length st.emitted) found old r.words.word0 hit even in
      let half : found ≡ length st.emitted * 2 = half_free r.owner (length st.emitted) found r.words.word0 free in
      let rule : Rule (stepped s 0 new id me.1 (turned T packs value_of start x x.knows.seen (Some (holding (old / 2))) x.reads ∷ []) keeps) =
      quiet_step T packs value_of start s r id me.0 is at x.knows.seen (Some name) r.hidden (set s.words 0 new) (Some (holding (old / 2))) x.reads (fits_at T packs value_of start s r id me.0 is at)
      (word0_set T packs value_of start st r.owner (Some name) r.hidden s.words new r.words (omega arith) (λ e. absurd (cc)))
      (refl, omega arith, sym (r.words.rested free), tt, tt, refl, held_none start r.hidden.owners (set s.words 0 new) name (holding (old / 2)) refl refl refl refl)
      (λ y ne f. no_other start st st r.owner (Some name) r.hidden r.hidden s.words (set s.words 0 new) name y.knows.name y.hold ne (inl free) f)
      (stay_set T packs value_of start s r 0 new (omega arith)) (reads_at T packs value_of start s r id me.0 is at) in
      subst G (sym (ap (λ b. either b new found) (eq-eqb found old hit)))
      (turned T packs value_of start x x.knows.seen (Some (holding (old / 2))) x.reads ∷ [], keeps, tt, rule, ((λ _. refl), λ miss. absurd (miss hit))))
      (λ miss. subst G (sym (ap (λ b. either b new found) (ne_eqb found old miss))) (
        turned_by T packs value_of start (x.knows.lost + 1) x x.knows.seen None x.reads ∷ [],
        keeps,
        tt,
        loaded T packs value_of start s 0 _ (quiet_by T packs value_of start s r id me.0 is at (x.knows.lost + 1) x.knows.seen r.owner r.hidden s.words None x.reads (fits_at T packs value_of start s r id me.0 is at) r.words tt (λ y ne g. g) (stay T packs value_of start s r) (reads_at T packs value_of start s r id me.0 is at)),
        ((λ hit. absurd (miss hit)), λ _. refl),
      )) in
      (flat.0, flat.1, flat.2, flat.3, flat.4)

  -- a load of word 1 by the holder
  pub counting : (slots id : ℕ) (me : Me Unit V) (h : Hold) → me.0 ≡ only me.0 ∷ [] → (only me.0).hold ≡ Some h → h.ahead ≡ 0
      → Allows Rule slots id me 1 (λ n. n) (counts_issued (step slots 1 0 0 none) me)
  counting slots id me h is has none_ahead s r n at small =
      let found : ℕ = get_or s.words 1 0 in let x : RingKnown T = only me.0 in let st = current r.history in let f = hold_at T packs value_of start s r id me.0 h is at has in
      let made = r.words.made in let length_is = f.1 in let ahead_is = f.2 in let few = r.words.few in
      let issued : found + h.length ≡ st.issued = omega arith in
      let limit : x.start.config.limit ≡ start.config.limit = ap (λ (z : RingStart). z.config.limit) (started T packs value_of start s r id me.0 is at) in
      let h' : Hold = record h { issued = Some (found + h.length) } in (
        turned T packs value_of start x x.knows.seen (Some h') x.reads ∷ [],
        keeps,
        tt,
        loaded T packs value_of start s 1 _ (quiet_step T packs value_of start s r id me.0 is at x.knows.seen r.owner r.hidden s.words (Some h') x.reads (fits_at T packs value_of start s r id me.0 is at) r.words
            (f.0, f.1, f.2, issued, f.4, f.5, record { low = f.6.low; checked = f.6.checked; taken = f.6.taken; filled = f.6.filled }) (λ y ne g. g) (stay T packs value_of start s r) (reads_at T packs value_of start s r id me.0 is at)),
        λ h2 has2 zero2. let same : h ≡ h2 = same_some h h2 (sym has ∙ has2) in let len : h.length ≡ h2.length = ap (λ (z : Hold). z.length) same in (
          ap (λ (z : Hold). (with_hold (Some (record z { issued = Some (found + z.length) })) x ∷ [], me.1)) same,
          omega arith,
        ),
      )

  -- a cell comes before the words of places
  cells_beyond : IsStart start → (words : List ℕ) (i w n j : ℕ) → i ≡ cell_at start n + j → j < start.width → SamePlaces start words (set words i w)
  cells_beyond ok words i w n j is there = let within = cells_within start ok n in places_beyond start words i w (omega (arith, is, there, within))

  -- one of the free cells changes
  cell_set : (s : SharedFlowState T) (owner : Option (List ℕ)) (hidden : Hidden) (words : List ℕ) (i w j : ℕ) → IsStart start → i ≡ cell_at start (length s.emitted) + j → j < start.width
      → WordsFit packs value_of start s owner hidden words → WordsFit packs value_of start s owner hidden (set words i w)
  cell_set s owner hidden words i w j ok is there f = record {
    count = length-set words i w ∙ f.count;
    word0 = get_or-set_other words i 0 w 0 (λ e. absurd (omega arith)) ∙ f.word0;
    few = f.few;
    made = subst (λ n. n + length s.emitted ≡ s.issued + hidden.ahead) (sym (get_or-set_other words i 1 w 0 (λ e. absurd (omega arith)))) f.made;
    live = get_or-set_other words i 2 w 0 (λ e. absurd (omega arith)) ∙ f.live;
    mark = get_or-set_other words i 3 w 0 (λ e. absurd (omega arith)) ∙ f.mark;
    cells = λ k a b. subst (HasValue packs value_of (values s) k)
        (sym (words_kept start.width words i w (cell_at start k) (λ q from less e. other_cell start ok k (length s.emitted) j a b there q from less (sym is ∙ e)))) (f.cells k a b);
    rested = f.rested;
    places = places_same start s s hidden.owners words (set words i w) (cells_beyond ok words i w (length s.emitted) j is there) refl (omega arith) (λ u. refl) f.places;
  }

  -- what the holder then knows of the cells
  cell_holds : (words cells : List ℕ) (i w n : ℕ) → IsStart start → head + start.room * start.width ≤ length words → i ≡ cell_at start n + length cells → length cells < start.width
      → cells ≡ words_from (length cells) words (cell_at start n) → cells ++ w ∷ [] ≡ words_from (length (cells ++ w ∷ [])) (set words i w) (cell_at start n)
  cell_holds words cells i w n ok count is less old =
      let p = cell_at start n in let within = cells_within start ok n in
      let stays : words_from (length cells) (set words i w) p ≡ cells = words_kept (length cells) words i w p (λ q from there e. absurd (omega (arith, is, from, there, e))) ∙ sym old in
      let last : get_or (set words i w) (p + length cells) 0 ≡ w = ap (λ q. get_or (set words i w) q 0) (sym is) ∙ get_or-set_same words i w 0 (omega (arith, is, less, within, count)) in
      (λ k. sym stays k ++ sym last k ∷ []) ∙ sym (words_more (length cells) (set words i w) p) ∙ ap (λ k. words_from k (set words i w) p) (sym (length-append cells (w ∷ [])))

  -- a store into the next free cell by the holder
  pub filling : (slots id : ℕ) (me : Me Unit V) (h : Hold) (i w : ℕ) → me.0 ≡ only me.0 ∷ [] → (only me.0).hold ≡ Some h → i ≡ cell_at start h.length + length h.cells → length h.cells < start.width
      → Allows Rule slots id me i (λ _. w) (λ _. fills (step slots i w 0 none) me w)
  filling slots id me h i w is has place less s r n at small =
      let x : RingKnown T = only me.0 in let st = current r.history in let f = hold_at T packs value_of start s r id me.0 h is at has in let name : List ℕ = x.knows.name in
      let h' : Hold = record h { cells = h.cells ++ w ∷ [] } in (
        turned T packs value_of start x x.knows.seen (Some h') x.reads ∷ [],
        keeps,
        tt,
        quiet_step T packs value_of start s r id me.0 is at x.knows.seen r.owner r.hidden (set s.words i w) (Some h') x.reads (fits_at T packs value_of start s r id me.0 is at)
            (cell_set st r.owner r.hidden s.words i w (length h.cells) r.starts (place ∙ ap (λ k. cell_at start k + length h.cells) f.1) less r.words) (
              f.0,
              f.1,
              f.2,
              f.3,
              f.4,
              cell_holds s.words h.cells i w h.length r.starts (let count = r.words.count in omega (arith, count)) place less f.5,
              filled_one s r name f.6,
            )
            (λ y ne g. no_other start st st r.owner r.owner r.hidden r.hidden s.words (set s.words i w) name y.knows.name y.hold ne (inr f.0) g) (refl, at_places start s.words (set s.words i w) (beyond s r)) (reads_at T packs value_of start s r id me.0 is at),
        λ h2 has2. ap (λ (z : Hold). (with_hold (Some (record z { cells = z.cells ++ w ∷ [] })) x ∷ [], me.1)) (same_some h h2 (sym has ∙ has2)),
      )
    where
      beyond : (s : St) → Rule s → SamePlaces start s.words (set s.words i w)
      beyond s r = cells_beyond r.starts s.words i w h.length (length h.cells) place less

      -- what the holder knows of places after it has filled one more cell
      filled_one : (s : St) (r : Rule s) (name : List ℕ) → HoldPlaces start r.hidden.owners s.words name h → HoldPlaces start r.hidden.owners (set s.words i w) name (record h { cells = h.cells ++ w ∷ [] })
      filled_one s r name f = let g = held_same start r.hidden.owners s.words (set s.words i w) name h (beyond s r) f in
          record { low = g.low; checked = g.checked; taken = g.taken; filled = let more = length-append h.cells (w ∷ []) in omega (arith, more, less) }

  -- ---- room

  -- the flow has no places; or the lower bound of their positions says that no subscriber is a full buffer behind
  abbrev pub Room : Hold → Type 0
  Room h = (start.places ≡ 0) ⊎ ((0 < start.places) × HasRoom h (capacity_of start))

  -- the lower bound that the holder knows is that of the table
  low_known : (s : St) (r : Rule s) (name : List ℕ) (h : Hold) → HoldFits start (current r.history) r.owner r.hidden s.words name (Some h) → HasRoom h (capacity_of start)
      → length (current r.history).emitted < get_or s.words (low_at start) 0 + capacity_of start
  low_known s r name h f clear = let low : clear.0 ≡ get_or s.words (low_at start) 0 = subst (λ o. IsIfKnown o (get_or s.words (low_at start) 0)) clear.1 f.6.low in omega (arith, low, clear.2, f.1)

  -- so no subscriber is a full buffer behind
  near_all : (s : St) (r : Rule s) → 0 < start.places → length (current r.history).emitted < get_or s.words (low_at start) 0 + capacity_of start
      → (u p : ℕ) → position_of u (current r.history).subscribers ≡ Some p → length (current r.history).emitted < p + capacity_of start
  near_all s r some room u p at =
      let c = r.words.places.covers some u p at in
      ⊎_elim (λ none. absurd (omega (arith, c.3, none))) (λ shown. omega (arith, shown.1, c.3, room)) (r.words.places.each c.0 c.1)

  -- the flow accepts the holder's value
  accepts : (s : St) (r : Rule s) (name : List ℕ) (h : Hold) → HoldFits start (current r.history) r.owner r.hidden s.words name (Some h) → Room h
      → Accepts T start.config (drops start r.starts) r.starts.buffer (current r.history)
  accepts s r name h f clear latest = ⊎_elim (λ none. absurd (drops_oldest start r.starts none latest))
      (λ room. not_blocked T start.config (drops start r.starts) r.starts.buffer (current r.history) (usual_after T start.config (drops start r.starts) r.starts.buffer r.history) (always_in_order start.config r.history)
      (near_all s r room.0 (low_known s r name h f room.1))) clear

  -- the places after the value was emitted
  published : (s : St) (r : Rule s) (name : List ℕ) (h : Hold) (t : SharedFlowState T) (new : ℕ) → HoldFits start (current r.history) r.owner r.hidden s.words name (Some h) → Room h
      → length t.emitted ≡ length (current r.history).emitted + 1 → (current r.history).issued ≤ t.issued → (start.config.overflow ≡ DropLatest → t.subscribers ≡ (current r.history).subscribers)
      → PlacesFit start t r.hidden.owners (set s.words 0 new)
  published s r name h t new f clear more issued rows = ⊎_elim (λ none. no_places start t r.hidden.owners (set s.words 0 new) none r.words.places.owned)
      (λ room. places_more start (current r.history) t r.hidden.owners s.words (set s.words 0 new) (places_after_head start s.words 0 new (omega arith)) more issued
      (λ u. ap (position_of u) (rows (drops_latest start r.starts room.0))) (low_known s r name h f room.1) r.words.places) clear

  -- a load of word 1 by the holder that has filled the free cells, if no number is left: a refused emission
  pub refusing : (slots id : ℕ) (me : Me Unit V) (tries : Bool) (h : Hold) (m : ℕ) → me.0 ≡ only me.0 ∷ [] → (only me.0).hold ≡ Some h → h.issued ≡ Some m → start.config.limit ≤ m → Room h
      → Allows Rule slots id me 1 (λ n. n) (refuses value_of tries (step slots 1 0 0 none) me)
  refusing slots id me tries h m is has counted full clear s r n at small =
      let x : RingKnown T = only me.0 in let st = current r.history in let f = hold_at T packs value_of start s r id me.0 h is at has in let name : List ℕ = x.knows.name in
      let v : T = value_of h.cells in let c : SharedCall T = emission_of tries v in let y : SharedReply T = reply.Refused Exhausted in
      let usual : Usual T start.config (drops start r.starts) r.starts.buffer st = usual_after T start.config (drops start r.starts) r.starts.buffer r.history in
      let issued : m ≡ st.issued = subst (λ o. IsIfKnown o st.issued) counted f.3 in let few = r.words.few in
      let limit : st.config.limit ≡ start.config.limit = ap (λ (g : Config). g.limit) usual.config_is in
      let replies : Replies st c y = sym (emission_full T start.config (drops start r.starts) r.starts.buffer tries st v usual (accepts s r name h f clear) (omega arith)) in
      let done = event_step T packs value_of start s r id me.0 me.1 c y is at r.owner r.hidden s.words (Some h) x.reads replies (emission_may T start.config (drops start r.starts) r.starts.buffer tries v name r.history) r.words f (λ z ne g. g) (stay T packs value_of start s r) (reads_at T packs value_of start s r id me.0 is at) in (
        turned T packs value_of start x (more_by T packs value_of start x r.history c y) (Some h) x.reads ∷ [],
        keeps,
        tt,
        loaded T packs value_of start s 1 _ done.0,
        λ h2 has2. subst (λ (z : Hold). StepCalls me (emission_of tries (value_of z.cells)) y (turned T packs value_of start x (more_by T packs value_of start x r.history c y) (Some h) x.reads ∷ [], me.1) × (◌≡◌ {A = Option Hold} (Some h) (Some z)))
            (same_some h h2 (sym has ∙ has2)) (done.1, refl),
      )

  -- a store of word 0 by the holder, without an event
  pub releasing : (slots id : ℕ) (me : Me Unit V) (h : Hold) (new : ℕ) → me.0 ≡ only me.0 ∷ [] → (only me.0).hold ≡ Some h → h.ahead ≡ 0 → new ≡ h.length * 2
      → Allows Rule slots id me 0 (λ _. new) (λ _. releases (step slots 0 new 0 none) me new)
  releasing slots id me h new is has none_ahead word s r n at small =
      let x : RingKnown T = only me.0 in let st = current r.history in let f = hold_at T packs value_of start s r id me.0 h is at has in let name : List ℕ = x.knows.name in
      let length_is = f.1 in let ahead_is = f.2 in (
        turned T packs value_of start x x.knows.seen None x.reads ∷ [],
        keeps,
        tt,
        quiet_step T packs value_of start s r id me.0 is at x.knows.seen None r.hidden (set s.words 0 new) None x.reads (fits_at T packs value_of start s r id me.0 is at)
            (word0_set T packs value_of start st r.owner None r.hidden s.words new r.words (omega arith) (λ _. omega arith)) tt
            (λ y ne g. no_other start st st r.owner None r.hidden r.hidden s.words (set s.words 0 new) name y.knows.name y.hold ne (inr f.0) g) (stay_set T packs value_of start s r 0 new (omega arith)) (reads_at T packs value_of start s r id me.0 is at),
        refl,
      )

  -- a store of word 0 by the holder, which emits the value in the free cells
  pub publishing : (slots id : ℕ) (me : Me Unit V) (tries : Bool) (h : Hold) (m new : ℕ) → me.0 ≡ only me.0 ∷ [] → (only me.0).hold ≡ Some h → h.ahead ≡ 0 → h.issued ≡ Some m → m < start.config.limit
      → packs h.cells → length h.cells ≡ start.width → new ≡ h.length * 2 + 2 → Room h → Allows Rule slots id me 0 (λ _. new) (λ _. publishes value_of tries (step slots 0 new 0 none) me new)
  publishing slots id me tries h m new is has none_ahead counted room packed whole word clear s r n at small = (
    turned T packs value_of start x (more_by T packs value_of start x r.history c y) None x.reads ∷ [],
    keeps,
    tt,
    done.0,
    λ h2 has2. let same : h.cells ≡ h2.cells = ap (λ (z : Hold). z.cells) (same_some h h2 (sym has ∙ has2)) in
        (subst (λ k. StepCalls me (emission_of tries (value_of k)) y (turned T packs value_of start x (more_by T packs value_of start x r.history c y) None x.reads ∷ [], me.1)) same done.1, refl, refl),
  )
    where
      w : List ℕ
      w = h.cells

      x : RingKnown T
      x = only me.0

      name : List ℕ
      name = x.knows.name

      st : SharedFlowState T
      st = current r.history

      c : SharedCall T
      c = emission_of tries (value_of w)

      y : SharedReply T
      y = emission_done tries

      f : HoldFits start st r.owner r.hidden s.words name (Some h)
      f = hold_at T packs value_of start s r id me.0 h is at has

      usual : Usual T start.config (drops start r.starts) r.starts.buffer st
      usual = usual_after T start.config (drops start r.starts) r.starts.buffer r.history

      issued : m ≡ st.issued
      issued = subst (λ o. IsIfKnown o st.issued) counted f.3

      limit : st.config.limit ≡ start.config.limit
      limit = ap (λ (g : Config). g.limit) usual.config_is

      ahead : r.hidden.ahead ≡ 0
      ahead = sym f.2 ∙ none_ahead

      rests : Hidden
      rests = record { ahead = 0; owners = r.hidden.owners }

      does : Added T start.config (drops start r.starts) r.starts.buffer tries (value_of w) st (answer_to c st)
      does = emission_is T start.config (drops start r.starts) r.starts.buffer tries st (value_of w) usual (accepts s r name h f clear) (λ e. absurd (omega (arith, e, issued, limit, room)))

      t : SharedFlowState T
      t = (answer_to c st).after

      replies : Replies st c y
      replies = emission_replies T start.config (drops start r.starts) r.starts.buffer tries st (value_of w) (sym does.reply_is)

      then_is : after st c y ≡ t
      then_is = emission_after T start.config (drops start r.starts) r.starts.buffer tries st (value_of w)

      more : length t.emitted ≡ length st.emitted + 1
      more = ap length does.emitted ∙ length_push st.emitted (numbered (value_of w) st)

      log : values t ≡ values st ++ value_of w ∷ []
      log = ap (λ l. Rattle.std.proofs.Common.map (λ (e : Numbered T). e.value) l) does.emitted ∙ map-append (λ (e : Numbered T). e.value) st.emitted (numbered (value_of w) st ∷ [])

      -- the cells of the new value have its words
      has_words : w ≡ words_from start.width s.words (cell_at start (length st.emitted))
      has_words = f.5 ∙ (λ i. words_from (whole i) s.words (cell_at start (f.1 i)))

      at_cell : (k : ℕ) → k < length t.emitted → length t.emitted ≤ k + capacity_of start → HasValue packs value_of (values t) k (words_from start.width (set s.words 0 new) (cell_at start k))
      at_cell k a b = subst (HasValue packs value_of (values t) k) (sym (head_kept start.width start s.words 0 new k (omega arith))) (elim (cases_lt k (length st.emitted)) as (λ _. HasValue packs value_of (values t) k (words_from start.width s.words (cell_at start k))) [
        | inl old ↦ let v = r.words.cells k old (omega (arith, b, more)) in let count = length_values st in
            (v.0, ap (λ l. slice_get l k) log ∙ slice_get_left (values st) (value_of w ∷ []) k (omega (arith, old, count)) ∙ v.1)
        | inr new_one ↦ let last : k ≡ length st.emitted = omega (arith, a, more, new_one) in let count = length_values st in
            let here : w ≡ words_from start.width s.words (cell_at start k) = has_words ∙ ap (λ j. words_from start.width s.words (cell_at start j)) (sym last) in
            subst (HasValue packs value_of (values t) k) here (packed, ap (λ l. slice_get l k) log ∙ slice_get_end (values st) (value_of w) k (omega (arith, last, count)))
      ])

      fit : WordsFit packs value_of start t None rests (set s.words 0 new)
      fit = let count = r.words.count in let made = r.words.made in let few = r.words.few in let f1 = f.1 in record {
        count = length-set s.words 0 new ∙ r.words.count;
        word0 = get_or-set_same s.words 0 new 0 (omega arith) ∙ (let l : new ≡ length t.emitted * 2 + 0 = omega (arith, word, more, f1) in l);
        few = omega (arith, does.issued, issued, room);
        made = omega (arith, get_or-set_other s.words 0 1 new 0 (λ e. absurd (omega arith)), made, more, does.issued, ahead);
        live = get_or-set_other s.words 0 2 new 0 (λ e. absurd (omega arith)) ∙ r.words.live ∙ sym does.live;
        mark = get_or-set_other s.words 0 3 new 0 (λ e. absurd (omega arith)) ∙ r.words.mark ∙ sym does.mark;
        cells = at_cell;
        rested = λ _. refl;
        places = published s r name h t new f clear more (omega (arith, does.issued)) does.rows;
      }

      done : Rule record { words = set s.words 0 new; homes = s.homes; views = set s.views id (turned T packs value_of start x (more_by T packs value_of start x r.history c y) None x.reads ∷ []) }
          × StepCalls (me.0, me.1) c y (turned T packs value_of start x (more_by T packs value_of start x r.history c y) None x.reads ∷ [], me.1)
      done = event_step T packs value_of start s r id me.0 me.1 c y is at None rests (set s.words 0 new) None x.reads replies (emission_may T start.config (drops start r.starts) r.starts.buffer tries (value_of w) name r.history)
          (subst (λ z. WordsFit packs value_of start z None rests (set s.words 0 new)) (sym then_is) fit) tt
          (λ z ne g. no_other start st (after st c y) r.owner None r.hidden rests s.words (set s.words 0 new) name z.knows.name z.hold ne (inr f.0) g)
          (refl, at_places start s.words (set s.words 0 new) (places_after_head start s.words 0 new (omega arith))) (reads_at T packs value_of start s r id me.0 is at)
