-- The steps of `subscribe` on places, by the holder of the lock bit, keep the rule of the table. Begin with `taking_place`.
use Rattle.std.proofs.Common.{◌≡◌, ◌≢◌, ℕ, eqb, eq-eqb, ne_eqb, ◌+◌, ◌-◌, ◌*◌, ◌%◌, ◌^◌, ◌<◌, ◌≤◌, List, [], ◌∷◌, length, get_or, set, Option, Some, None, refl, sym, ap, ◌∙◌, subst, inr, arith}
use Rattle.std.specs.Prelude.{max, not, false, Err}
use Rattle.std.specs.Option.{option_map}
use Rattle.std.proofs.lemmas.Bool.{cond-false}
use mathlib.Core.Logic.{dite}
use mathlib.Core.Option.{none}
use native.Mathlib.Decide.{ℕ_discrete}
use prog.Atomic.{either}
use Rattle.atomic_table.specs.Table.{State, Me, step, Act, keeps, carried_after, Valid, stepped, Allows}
use Rattle.flow_law.specs.declared.config.Config.{Config}
use Rattle.flow_law.specs.declared.fault.FlowFault.TheVariants.{Exhausted, OutOfMemory}
use Rattle.flow_law.specs.declared.call.SharedCall.{SharedCall}
use Rattle.flow_law.specs.declared.call.SharedCall.TheVariants as call
use Rattle.flow_law.specs.declared.call.SharedReply.{SharedReply}
use Rattle.flow_law.specs.declared.call.SharedReply.TheVariants as reply
use Rattle.flow_law.specs.declared.states.SharedFlowState.{SharedFlowState}
use Rattle.flow_law.specs.flow.SharedFlow.{Replied, answer, is_exhausted, is_offering, cache_start, entry, position_of}
use Rattle.flow_law.specs.flow.SharedStep.{enroll, subscribe}
use Rattle.flow_law.specs.flow.SharedHistory.{History, reply_by, is_refused, Replies}
use Rattle.flow_law.specs.history.Tokens.{subscription_name}
use Rattle.flow_word_shared.specs.declared.view.RingKnown.{RingKnown}
use Rattle.flow_word_shared.specs.declared.view.Hold.{Hold}
use Rattle.flow_word_shared.specs.declared.view.RingStart.{RingStart}
use Rattle.flow_word_shared.specs.Rule.{capacity_of, low_at, place_at, PlaceOwner, owner_at, IsIfKnown, IsTaken, HoldFits, RingHolds}
use Rattle.flow_word_shared.specs.PlaceSteps.{takes_place, refuses_place, enrolls_at}
use Rattle.flow_word_shared.specs.Steps.{IsAt, StepCalls, log_after}
use Rattle.flow_word_shared.specs.declared.view.Taken.{Taken}
use Rattle.flow_law.specs.history.Growth.{child}
use Rattle.flow_law.proofs.Rows.{absent}
use Rattle.flow_word_shared.specs.View.{with_hold, holding, saw, only}
use Rattle.flow_word_shared.proofs.PlaceRule.{SamePlaces, SameAt, at_places, places_after_head, drops, low_from, tail_cells}
use Rattle.flow_word_shared.proofs.PlaceSteps.{tail_set}
use Rattle.flow_word_shared.proofs.PlaceMoves.{low_kept, this_place, reads_free, places_taken, now_owned, owned_here, places_enrolled, reads_enrolled}
use Rattle.flow_word_shared.proofs.SubscribeSteps.{Enrolled, enrolled}
use Rattle.flow_word_shared.proofs.Oldest.{Usual, usual_after, not_offering}
use Rattle.flow_word_shared.proofs.Keeps.{same_some, no_other, now, more_by, turned, started, fits_at, hold_at, reads_at, stay, event_step, quiet_with, still, loaded}

module _ (T : Type 0) (packs : List ℕ → Type 0) (value_of : List ℕ → T) (start : RingStart) where
  abbrev V : Type 0
  V = List (RingKnown T)

  abbrev St : Type 0
  St = State Unit V

  abbrev Rule : St → Type 0
  Rule = RingHolds packs value_of start

  abbrev current : History T → SharedFlowState T
  current h = now T packs value_of start h

  -- what the holder knows then
  abbrev took : Hold → ℕ → ℕ → Hold
  took h place position = record h { taken = Some (record { place = place; position = position; number = None }) }

  -- an exchange of a place by the holder, which takes it if it is free
  taking_place_at : (slots id : ℕ) (me : Me Unit V) (h : Hold) (low position j new : ℕ) → me.0 ≡ only me.0 ∷ [] → (only me.0).hold ≡ Some h → h.low ≡ Some low → low ≤ position → h.length ≤ position + capacity_of start → h.checked ≡ 0
      → j < start.places → new ≡ 2 * position + 3 → Allows Rule slots id me (place_at start j) (λ n. either (eqb n 0) new n) (takes_place (step slots (place_at start j) 0 new none) me)
  taking_place_at slots id me h low position j new is has lower above kept unchecked there word s r n at small = (done.0, done.1, done.2, done.3, done.4)
    where
      i : ℕ
      i = place_at start j

      found : ℕ
      found = get_or s.words i 0

      x : RingKnown T
      x = only me.0

      name : List ℕ
      name = x.knows.name

      st : SharedFlowState T
      st = current r.history

      f : HoldFits start st r.owner r.hidden s.words name (Some h)
      f = hold_at T packs value_of start s r id me.0 h is at has

      began : x.start ≡ start
      began = started T packs value_of start s r id me.0 is at

      low_is : low ≡ get_or s.words (low_at start) 0
      low_is = subst (λ o. IsIfKnown o (get_or s.words (low_at start) 0)) lower f.6.low

      Result : ℕ → Type 0
      Result m = (w : V) × (a : Act Unit) × Valid s.homes me.1 a × Rule (stepped s i m id me.1 w a) × takes_place (step slots i 0 new none) me found (w, carried_after me.1 a)

      -- the place and the position that the play names
      same_place : (k : ℕ) → i ≡ place_at x.start k → j ≡ k
      same_place k e = let at_start : i ≡ place_at start k = e ∙ ap (λ (z : RingStart). place_at z k) began in omega (arith, at_start)

      hit : found ≡ 0 → Result new
      hit e = (
        turned T packs value_of start x x.knows.seen (Some (took h j position)) x.reads ∷ [],
        keeps,
        tt,
        quiet_with T packs value_of start s r id me.0 is at x.knows.lost x.knows.seen r.owner r.hidden (set s.words i new) (Some (took h j position)) x.reads (fits_at T packs value_of start s r id me.0 is at)
            (tail_set T packs value_of start st r.owner r.hidden s.words i new r.starts (low_from start j)
            (places_taken start st r.hidden.owners s.words j new position r.words.places r.words.count there e word (omega (arith, low_is, above)) (omega (arith, kept, f.1))) r.words) (
              f.0,
              f.1,
              f.2,
              f.3,
              f.4,
              tail_cells start s.words h.cells i new h.length r.starts (low_from start j) f.6.filled f.5,
              record {
                low = subst (IsIfKnown h.low) (sym (low_kept start r.hidden.owners s.words j new)) f.6.low;
                checked = λ k less. absurd (omega (arith, less, unchecked));
                taken = (there, r.words.places.free j there e, this_place start r.hidden.owners s.words j new r.words.count there ∙ word);
                filled = f.6.filled;
              },
            )
            (λ y ne g. no_other start st st r.owner r.owner r.hidden r.hidden s.words (set s.words i new) name y.knows.name y.hold ne (inr f.0) g)
            (λ y ne g. reads_free start r.hidden.owners s.words j new (r.words.places.free j there e) y.knows.name y.reads g)
            (reads_free start r.hidden.owners s.words j new (r.words.places.free j there e) name x.reads (reads_at T packs value_of start s r id me.0 is at)),
        λ k q word_at second. (
          (λ _ h2 has2. let same : h ≡ h2 = same_some h h2 (sym has ∙ has2) in let place : j ≡ k = same_place k word_at in let here : position ≡ q = omega (arith, second, word) in
              λ z. (with_hold (Some (took (same z) (place z) (here z))) x ∷ [], me.1)),
          (λ miss. absurd (miss e)),
        ),
      )

      miss : found ≢ 0 → Result found
      miss ne = (me.0, keeps, tt, still T packs value_of start s r i id me.0 at, λ k q word_at second. ((λ e. absurd (ne e)), λ _. refl))

      done : Result (either (eqb found 0) new found)
      done = dite (ℕ_discrete found 0) (λ e. subst Result (sym (ap (λ b. either b new found) (eq-eqb found 0 e))) (hit e)) (λ ne. subst Result (sym (ap (λ b. either b new found) (ne_eqb found 0 ne))) (miss ne))

  pub taking_place : (slots id : ℕ) (me : Me Unit V) (h : Hold) (low position j i new : ℕ) → me.0 ≡ only me.0 ∷ [] → (only me.0).hold ≡ Some h → h.low ≡ Some low → low ≤ position → h.length ≤ position + capacity_of start → h.checked ≡ 0
      → j < start.places → i ≡ place_at start j → new ≡ 2 * position + 3 → Allows Rule slots id me i (λ n. either (eqb n 0) new n) (takes_place (step slots i 0 new none) me)
  taking_place slots id me h low position j i new is has lower above kept unchecked there place word =
      subst (λ k. Allows Rule slots id me k (λ n. either (eqb n 0) new n) (takes_place (step slots k 0 new none) me)) (sym place) (taking_place_at slots id me h low position j new is has lower above kept unchecked there word)

  -- a load of the reset mark by the holder, if no place is free: a refused `subscribe`
  pub refusing_place : (slots id : ℕ) (me : Me Unit V) (h : Hold) (m : ℕ) → me.0 ≡ only me.0 ∷ [] → (only me.0).hold ≡ Some h → h.issued ≡ Some m → m < start.config.limit
      → Allows Rule slots id me 3 (λ n. n) (refuses_place (step slots 3 0 0 none) me)
  refusing_place slots id me h m is has counted room s r n at small =
      let x : RingKnown T = only me.0 in let st = current r.history in let f = hold_at T packs value_of start s r id me.0 h is at has in
      let c : SharedCall T = call.Subscribe (subscription_name x.knows) [] in let y : SharedReply T = reply.Refused OutOfMemory in
      let usual = usual_after T start.config (drops start r.starts) r.starts.buffer r.history in let issued : m ≡ st.issued = subst (λ o. IsIfKnown o st.issued) counted f.3 in
      let limit : st.config.limit ≡ start.config.limit = ap (λ (g : Config). g.limit) usual.config_is in
      let free : is_exhausted st ≡ false = ne_eqb st.issued st.config.limit (λ e. absurd (omega (arith, e, issued, limit, room))) in
      let gives : subscribe [] st ≡ answer (st.issued + 1) (enroll [] st) = cond-false (is_exhausted st) (record { reply = Err Exhausted; after = st }) (answer (st.issued + 1) (enroll [] st)) free in
      let replies : Replies st c y = ap (λ (a : Replied ℕ T). not (is_refused {T = T} (reply_by {T = T} reply.Subscribed a.reply))) gives in
      let done = event_step T packs value_of start s r id me.0 me.1 c y is at r.owner r.hidden s.words (Some h) x.reads replies tt r.words f (λ z ne g. g) (stay T packs value_of start s r) (reads_at T packs value_of start s r id me.0 is at) in
      (turned T packs value_of start x (more_by T packs value_of start x r.history c y) (Some h) x.reads ∷ [], keeps, tt, loaded T packs value_of start s 3 _ done.0, (done.1, sym has))

  -- an increment of the number of subscribers by the holder that has taken a place, which subscribes
  pub enrolling_at : (slots id : ℕ) (me : Me Unit V) (h : Hold) (m k : ℕ) (t : Taken) → me.0 ≡ only me.0 ∷ [] → (only me.0).hold ≡ Some h → h.issued ≡ Some m → h.mark ≡ Some k → h.ahead ≡ 1 → m < start.config.limit
      → h.taken ≡ Some t → t.number ≡ None → t.position ≡ max k (h.length - start.config.replay) → Allows Rule slots id me 2 (λ n. (n + 1) % 2 ^ 64) (enrolls_at (step slots 2 1 0 none) me)
  enrolling_at slots id me h m k t is has counted marked ahead room took unnumbered entry_is s r n at small = (
    turned T packs value_of start x h' (Some (record (holding h.length) { taken = Some (numbered t) })) x.reads ∷ [],
    keeps,
    tt,
    all.step.0,
    λ h2 m2 k2 t2 has2 counted2 marked2 took2. let same : h ≡ h2 = same_some h h2 (sym has ∙ has2) in let same_m : m ≡ m2 = same_some m m2 (sym counted ∙ ap (λ (z : Hold). z.issued) same ∙ counted2) in
        let same_k : k ≡ k2 = same_some k k2 (sym marked ∙ ap (λ (z : Hold). z.mark) same ∙ marked2) in let same_t : t ≡ t2 = same_some t t2 (sym took ∙ ap (λ (z : Hold). z.taken) same ∙ took2) in
        subst (λ (z : (Hold × Taken) × (ℕ × ℕ)). Tells z.0.0 z.0.1 z.1.0 z.1.1) (λ i. ((same i, same_t i), (same_m i, same_k i))) (
          all.step.1,
          refl,
          subst (λ (z : RingStart). IsAt z (child (saw x.knows.lost h' x.knows)) (m + 1) (max k (h.length - z.config.replay))) (sym began) all.stands,
          subst (λ (z : RingStart). h.length ≡ length (log_after z h')) (sym began) all.counted,
          all.within,
        ),
  )
    where
      x : RingKnown T
      x = only me.0

      name : List ℕ
      name = x.knows.name

      st : SharedFlowState T
      st = current r.history

      h' : History T
      h' = more_by T packs value_of start x r.history (call.Subscribe (subscription_name x.knows) []) (reply.Subscribed (m + 1))

      began : x.start ≡ start
      began = started T packs value_of start s r id me.0 is at

      -- the place, with the number that its subscriber gets
      numbered : Taken → Taken
      numbered z = record z { number = Some (m + 1) }

      f : HoldFits start st r.owner r.hidden s.words name (Some h)
      f = hold_at T packs value_of start s r id me.0 h is at has

      usual : Usual T start.config (drops start r.starts) r.starts.buffer st
      usual = usual_after T start.config (drops start r.starts) r.starts.buffer r.history

      issued : m ≡ st.issued
      issued = subst (λ o. IsIfKnown o st.issued) counted f.3

      mark : k ≡ st.reset_mark
      mark = subst (λ o. IsIfKnown o st.reset_mark) marked f.4

      replay : st.config.replay ≡ start.config.replay
      replay = ap (λ (g : Config). g.replay) usual.config_is

      at_entry : entry st ≡ t.position
      at_entry = cond-false (is_offering st) (length st.emitted - 1) (cache_start st) (not_offering T start.config (drops start r.starts) r.starts.buffer st usual)
          ∙ ((λ i. max (sym mark i) (sym f.1 i - replay i)) ∙ sym entry_is)

      taken : IsTaken start r.hidden.owners s.words name (Some t)
      taken = subst (IsTaken start r.hidden.owners s.words name) took f.6.taken

      unowned : owner_at r.hidden.owners t.place ≡ None
      unowned = taken.1 ∙ ap (option_map (λ (number : ℕ). record { name = name; number = number })) unnumbered

      within : t.place < length r.hidden.owners
      within = let owned = r.words.places.owned in let less = taken.0 in omega (arith, owned, less)

      new : ℕ
      new = (get_or s.words 2 0 + 1) % 2 ^ 64

      after_head : SamePlaces start s.words (set s.words 2 new)
      after_head = places_after_head start s.words 2 new (omega arith)

      same_at : SameAt start s.words (set s.words 2 new)
      same_at = at_places start s.words (set s.words 2 new) after_head

      low : get_or (set s.words 2 new) (low_at start) 0 ≡ get_or s.words (low_at start) 0
      low = after_head (low_at start) (omega arith)

      nobody : position_of (st.issued + 1) st.subscribers ≡ None
      nobody = absent st.issued (st.issued + 1) st.subscribers usual.sound.placed.issued (omega arith)

      owners' : List (Option PlaceOwner)
      owners' = now_owned start st r.hidden.owners s.words (set s.words 2 new) t.place t.position name unowned same_at low taken.0 within taken.2 at_entry

      all : Enrolled T packs value_of start s r id me h m k (Some (numbered t)) x.reads
      all = enrolled T packs value_of start s r id me h m k is at has counted marked ahead room owners' (Some (numbered t)) x.reads
          (places_enrolled start st r.hidden.owners s.words (set s.words 2 new) t.place t.position name unowned same_at low taken.0 within taken.2 at_entry r.words.places nobody)
          (taken.0, owned_here start st r.hidden.owners s.words (set s.words 2 new) t.place t.position name unowned same_at low taken.0 within taken.2 at_entry ∙ ap (λ j. Some (record { name = name; number = j + 1 })) (sym issued), same_at t.place ∙ taken.2)
          (λ z ne g. reads_enrolled start st r.hidden.owners s.words (set s.words 2 new) t.place t.position name unowned same_at low taken.0 within taken.2 at_entry z.knows.name z.reads g)
          (reads_enrolled start st r.hidden.owners s.words (set s.words 2 new) t.place t.position name unowned same_at low taken.0 within taken.2 at_entry name x.reads (reads_at T packs value_of start s r id me.0 is at))

      -- what the play says
      Tells : Hold → Taken → ℕ → ℕ → Type 0
      Tells h2 t2 m2 k2 = StepCalls me (call.Subscribe (subscription_name x.knows) []) (reply.Subscribed (m2 + 1)) (turned T packs value_of start x h' (Some (record (holding h.length) { taken = Some (numbered t) })) x.reads ∷ [], me.1)
          × ◌≡◌ {A = Option Hold} (Some (record (holding h.length) { taken = Some (numbered t) })) (Some (record (holding h2.length) { taken = Some (record t2 { number = Some (m2 + 1) }) }))
          × IsAt x.start (child (saw x.knows.lost h' x.knows)) (m2 + 1) (max k2 (h2.length - x.start.config.replay))
          × (h2.length ≡ length (log_after x.start h')) × (k2 ≤ h2.length)
