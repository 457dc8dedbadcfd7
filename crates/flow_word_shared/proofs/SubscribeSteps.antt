-- The steps of subscriptions keep the rule of the table.
use Rattle.std.proofs.Common.{◌≡◌, ◌≢◌, ℕ, true, false, eq-eqb, ne_eqb, ◌+◌, ◌-◌, ◌%◌, ◌^◌, ◌<◌, ◌≤◌, List, [], ◌∷◌, ◌++◌, length, get_or, set, Option, Some, None, refl, sym, ap, ◌∙◌, subst, inr, arith, length-append}
use Rattle.std.specs.Prelude.{max, Err}
use Rattle.std.proofs.lemmas.Bool.{cond-true, cond-false}
use Rattle.std.proofs.lemmas.List.{get_or-set_same, get_or-set_other, length-set}
use mathlib.Core.Option.{none, some}
use lib.ListN.{get_elem?}
use Rattle.atomic_table.specs.Table.{State, Me, step, keeps, Allows}
use Rattle.flow_law.specs.declared.config.Config.{Config}
use Rattle.flow_law.specs.declared.fault.FlowFault.TheVariants.{Exhausted}
use Rattle.flow_law.specs.declared.call.SharedCall.{SharedCall}
use Rattle.flow_law.specs.declared.call.SharedCall.TheVariants as call
use Rattle.flow_law.specs.declared.call.SharedReply.{SharedReply}
use Rattle.flow_law.specs.declared.call.SharedReply.TheVariants as reply
use Rattle.flow_law.specs.declared.states.SharedFlowState.{SharedFlowState}
use Rattle.flow_law.specs.declared.states.Subscriber.{Subscriber}
use Rattle.flow_law.specs.history.Growth.{child}
use Rattle.flow_law.specs.history.History.{subscriber}
use Rattle.flow_law.specs.flow.SharedFlow.{Replied, answer, issuing, is_exhausted, is_offering, cache_start, entry, position_of, own_of, without}
use Rattle.flow_law.specs.flow.SharedStep.{enroll, subscribe}
use Rattle.flow_law.specs.flow.SharedHistory.{History, reply_by, Replies, after, shared_flow}
use Rattle.flow_law.specs.history.Tokens.{subscription_name}
use Rattle.flow_law.proofs.Boxes.{length_values}
use Rattle.flow_law.proofs.HistoryLemmas.{after_all-snoc}
use Rattle.flow_law.proofs.Owners.{last_given}
use Rattle.flow_law.proofs.Rows.{absent, position-snoc, own-snoc}
use Rattle.flow_word_shared.specs.declared.view.RingKnown.{RingKnown}
use Rattle.flow_word_shared.specs.declared.view.Taken.{Taken}
use Rattle.flow_word_shared.specs.declared.view.Hold.{Hold}
use Rattle.flow_word_shared.specs.declared.view.Reads.{Reads}
use Rattle.flow_word_shared.specs.declared.view.RingStart.{RingStart}
use Rattle.flow_word_shared.specs.Rule.{capacity_of, HasValue, PlaceOwner, PlacesFit, Hidden, WordsFit, IsIfKnown, IsTaken, HoldPlaces, HoldFits, ReadsFit, RingHolds}
use Rattle.flow_word_shared.specs.Steps.{Stands, IsAt, log_after, StepCalls, counts_mark, refuses_subscriber, runs_ahead, enrolls}
use Rattle.flow_word_shared.specs.View.{began_as, with_hold, holding, reading, only, saw}
use Rattle.flow_word_shared.proofs.PlaceRule.{drops, at_places, places_after_head, places_same, no_places, held_same, reads_same}
use Rattle.flow_word_shared.proofs.Oldest.{Usual, usual_after, not_offering}
use Rattle.flow_word_shared.proofs.Cells.{head_kept}
use Rattle.flow_word_shared.proofs.Keeps.{same_some, no_other, now, more_by, event_by, turned, started, fits_at, hold_at, reads_at, stay, event_with, event_step, quiet_step, loaded}
use Rattle.flow_word_shared.proofs.LeaveSteps.{live_few}

module _ (T : Type 0) (packs : List ℕ → Type 0) (value_of : List ℕ → T) (start : RingStart) where
  abbrev V : Type 0
  V = List (RingKnown T)

  abbrev St : Type 0
  St = State Unit V

  abbrev Rule : St → Type 0
  Rule = RingHolds packs value_of start

  abbrev current : History T → SharedFlowState T
  current h = now T packs value_of start h

  -- ---- subscribing, by the holder of the lock bit

  -- a load of the reset mark
  pub counting_mark : (slots id : ℕ) (me : Me Unit V) (h : Hold) → me.0 ≡ only me.0 ∷ [] → (only me.0).hold ≡ Some h → Allows Rule slots id me 3 (λ n. n) (counts_mark (step slots 3 0 0 none) me)
  counting_mark slots id me h is has s r n at small =
      let found : ℕ = get_or s.words 3 0 in let x : RingKnown T = only me.0 in let f = hold_at T packs value_of start s r id me.0 h is at has in
      let h' : Hold = record h { mark = Some found } in (
        turned T packs value_of start x x.knows.seen (Some h') x.reads ∷ [],
        keeps,
        tt,
        loaded T packs value_of start s 3 _ (quiet_step T packs value_of start s r id me.0 is at x.knows.seen r.owner r.hidden s.words (Some h') x.reads (fits_at T packs value_of start s r id me.0 is at) r.words
            (f.0, f.1, f.2, f.3, r.words.mark, f.5, record { low = f.6.low; checked = f.6.checked; taken = f.6.taken; filled = f.6.filled }) (λ y ne g. g) (stay T packs value_of start s r) (reads_at T packs value_of start s r id me.0 is at)),
        λ h2 has2. let same = same_some h h2 (sym has ∙ has2) in (
          ap (λ (z : Hold). (with_hold (Some (record z { mark = Some found })) x ∷ [], me.1)) same,
          subst (λ (z : Hold). found ≤ z.length) same (let mark = r.words.mark in let within = (usual_after T start.config (drops start r.starts) r.starts.buffer r.history).sound.placed.reset_mark in let len = f.1 in omega (arith, mark, within, len)),
        ),
      )

  -- a refused `subscribe`
  pub refusing_subscriber : (slots id : ℕ) (me : Me Unit V) (h : Hold) (m : ℕ) → me.0 ≡ only me.0 ∷ [] → (only me.0).hold ≡ Some h → h.issued ≡ Some m → start.config.limit ≤ m
      → Allows Rule slots id me 3 (λ n. n) (refuses_subscriber (step slots 3 0 0 none) me)
  refusing_subscriber slots id me h m is has counted full s r n at small =
      let x : RingKnown T = only me.0 in let st = current r.history in let f = hold_at T packs value_of start s r id me.0 h is at has in
      let c : SharedCall T = call.Subscribe (subscription_name x.knows) [] in let y : SharedReply T = reply.Refused Exhausted in
      let usual = usual_after T start.config (drops start r.starts) r.starts.buffer r.history in let issued : m ≡ st.issued = subst (λ o. IsIfKnown o st.issued) counted f.3 in let few = r.words.few in
      let limit : st.config.limit ≡ start.config.limit = ap (λ (g : Config). g.limit) usual.config_is in
      let none_left : is_exhausted st ≡ true = eq-eqb st.issued st.config.limit (omega arith) in
      let refused : subscribe [] st ≡ record { reply = Err Exhausted; after = st } = cond-true (is_exhausted st) (record { reply = Err Exhausted; after = st }) (answer (st.issued + 1) (enroll [] st)) none_left in
      let replies : Replies st c y = sym (ap (λ (a : Replied ℕ T). reply_by reply.Subscribed a.reply) refused) in
      let done = event_step T packs value_of start s r id me.0 me.1 c y is at r.owner r.hidden s.words (Some h) x.reads replies tt r.words f (λ z ne g. g) (stay T packs value_of start s r) (reads_at T packs value_of start s r id me.0 is at) in
      (turned T packs value_of start x (more_by T packs value_of start x r.history c y) (Some h) x.reads ∷ [], keeps, tt, loaded T packs value_of start s 3 _ done.0, (done.1, sym has))

  -- a store into the word of made subscriptions leaves what the holder knows of places
  ahead_holds : (s : St) (r : Rule s) (name : List ℕ) (h : Hold) (new : ℕ) → HoldPlaces start r.hidden.owners s.words name h → HoldPlaces start r.hidden.owners (set s.words 1 new) name (record h { ahead = 1 })
  ahead_holds s r name h new f = let g = held_same start r.hidden.owners s.words (set s.words 1 new) name h (places_after_head start s.words 1 new (omega arith)) f in record { low = g.low; checked = g.checked; taken = g.taken; filled = g.filled }

  -- a store of the made subscriptions, one ahead
  pub running_ahead : (slots id : ℕ) (me : Me Unit V) (h : Hold) (m new : ℕ) → me.0 ≡ only me.0 ∷ [] → (only me.0).hold ≡ Some h → h.issued ≡ Some m → new + h.length ≡ m + 1
      → Allows Rule slots id me 1 (λ _. new) (λ _. runs_ahead (step slots 1 new 0 none) me new)
  running_ahead slots id me h m new is has counted more s r n at small =
      let x : RingKnown T = only me.0 in let st = current r.history in let f = hold_at T packs value_of start s r id me.0 h is at has in let name : List ℕ = x.knows.name in
      let issued : m ≡ st.issued = subst (λ o. IsIfKnown o st.issued) counted f.3 in let len = f.1 in let w = r.words in let count = w.count in
      let h' : Hold = record h { ahead = 1 } in
      let more_by_one : Hidden = record { ahead = 1; owners = r.hidden.owners } in
      let fit : WordsFit packs value_of start st r.owner more_by_one (set s.words 1 new) = record {
        count = length-set s.words 1 new ∙ w.count;
        word0 = get_or-set_other s.words 1 0 new 0 (λ e. absurd (omega arith)) ∙ w.word0;
        few = w.few;
        made = omega (arith, get_or-set_same s.words 1 new 0 (omega arith), issued, more, len);
        live = get_or-set_other s.words 1 2 new 0 (λ e. absurd (omega arith)) ∙ w.live;
        mark = get_or-set_other s.words 1 3 new 0 (λ e. absurd (omega arith)) ∙ w.mark;
        cells = λ k a b. subst (HasValue packs value_of (Rattle.flow_law.specs.flow.SharedFlow.values st) k) (sym (head_kept start.width start s.words 1 new k (omega arith))) (w.cells k a b);
        rested = λ free. let no : None ≡ Some name = sym free ∙ f.0 in absurd (cc);
        places = places_same start st st r.hidden.owners s.words (set s.words 1 new) (places_after_head start s.words 1 new (omega arith)) refl (omega arith) (λ u. refl) w.places;
      } in (
        turned T packs value_of start x x.knows.seen (Some h') x.reads ∷ [],
        keeps,
        tt,
        quiet_step T packs value_of start s r id me.0 is at x.knows.seen r.owner more_by_one (set s.words 1 new) (Some h') x.reads (fits_at T packs value_of start s r id me.0 is at) fit
            (f.0, f.1, refl, f.3, f.4, f.5 ∙ sym (head_kept (length h.cells) start s.words 1 new h.length (omega arith)), ahead_holds s r name h new f.6)
            (λ y ne g. no_other start st st r.owner r.owner r.hidden more_by_one s.words (set s.words 1 new) name y.knows.name y.hold ne (inr f.0) g)
            (refl, at_places start s.words (set s.words 1 new) (places_after_head start s.words 1 new (omega arith))) (reads_at T packs value_of start s r id me.0 is at),
        λ h2 has2. ap (λ (z : Hold). (with_hold (Some (record z { ahead = 1 })) x ∷ [], me.1)) (same_some h h2 (sym has ∙ has2)),
      )

  -- ---- an increment of the number of subscribers, which subscribes

  -- the history after it, by this token, of a subscriber with the number after m
  abbrev enrolled_by : History T → RingKnown T → ℕ → History T
  enrolled_by h x m = more_by T packs value_of start x h (call.Subscribe (subscription_name x.knows) []) (reply.Subscribed (m + 1))

  -- the number of subscribers after it
  abbrev one_up : List ℕ → ℕ
  one_up words = (get_or words 2 0 + 1) % 2 ^ 64

  -- what it does, by a holder that then knows this of a place, and of its own place
  pub record Enrolled (s : St) (r : Rule s) (id : ℕ) (me : Me Unit V) (h : Hold) (m k : ℕ) (taken' : Option Taken) (reads' : Option Reads) : Type 0 where
    pub step : Rule record { words = set s.words 2 (one_up s.words); homes = s.homes; views = set s.views id (turned T packs value_of start (only me.0) (enrolled_by r.history (only me.0) m) (Some (record (holding h.length) { taken = taken' })) reads' ∷ []) }
        × StepCalls me (call.Subscribe (subscription_name (only me.0).knows) []) (reply.Subscribed (m + 1)) (turned T packs value_of start (only me.0) (enrolled_by r.history (only me.0) m) (Some (record (holding h.length) { taken = taken' })) reads' ∷ [], me.1)
    pub stands : IsAt start (child (saw (only me.0).knows.lost (enrolled_by r.history (only me.0) m) (only me.0).knows)) (m + 1) (max k (h.length - start.config.replay))
    pub counted : h.length ≡ length (log_after start (enrolled_by r.history (only me.0) m))
    pub within : k ≤ h.length

  pub enrolled : (s : St) (r : Rule s) (id : ℕ) (me : Me Unit V) (h : Hold) (m k : ℕ) → me.0 ≡ only me.0 ∷ [] → get_elem? s.views id ≡ some me.0 → (only me.0).hold ≡ Some h → h.issued ≡ Some m → h.mark ≡ Some k → h.ahead ≡ 1 → m < start.config.limit
      → (owners' : List (Option PlaceOwner)) (taken' : Option Taken) (reads' : Option Reads) → PlacesFit start (enroll [] (current r.history)) owners' (set s.words 2 (one_up s.words))
      → IsTaken start owners' (set s.words 2 (one_up s.words)) (only me.0).knows.name taken'
      → ((z : RingKnown T) → (only me.0).knows.name ≢ z.knows.name → ReadsFit start r.hidden.owners s.words z.knows.name z.reads → ReadsFit start owners' (set s.words 2 (one_up s.words)) z.knows.name z.reads)
      → ReadsFit start owners' (set s.words 2 (one_up s.words)) (only me.0).knows.name reads' → Enrolled s r id me h m k taken' reads'
  enrolled s r id me h m k is at has counted marked ahead room owners' taken' reads' places held beside posts = record {
    step = done;
    stands = stands_at;
    counted = f.1 ∙ sym (length_values st) ∙ ap (λ (t : SharedFlowState T). length (Rattle.flow_law.specs.flow.SharedFlow.values t)) (sym next_state);
    within = omega (arith, usual.sound.placed.reset_mark, f.1, mark);
  }
    where
      x : RingKnown T
      x = only me.0

      name : List ℕ
      name = x.knows.name

      st : SharedFlowState T
      st = current r.history

      f : HoldFits start st r.owner r.hidden s.words name (Some h)
      f = hold_at T packs value_of start s r id me.0 h is at has

      usual : Usual T start.config (drops start r.starts) r.starts.buffer st
      usual = usual_after T start.config (drops start r.starts) r.starts.buffer r.history

      issued : m ≡ st.issued
      issued = subst (λ o. IsIfKnown o st.issued) counted f.3

      mark : k ≡ st.reset_mark
      mark = subst (λ o. IsIfKnown o st.reset_mark) marked f.4

      began : x.start ≡ start
      began = started T packs value_of start s r id me.0 is at

      limit : st.config.limit ≡ start.config.limit
      limit = ap (λ (g : Config). g.limit) usual.config_is

      replay : st.config.replay ≡ start.config.replay
      replay = ap (λ (g : Config). g.replay) usual.config_is

      c : SharedCall T
      c = call.Subscribe (subscription_name x.knows) []

      y : SharedReply T
      y = reply.Subscribed (m + 1)

      h' : History T
      h' = enrolled_by r.history x m

      place : ℕ
      place = max k (h.length - start.config.replay)

      free : is_exhausted st ≡ false
      free = ne_eqb st.issued st.config.limit (λ e. absurd (omega (arith, e, issued, limit, room)))

      gives : subscribe [] st ≡ answer (st.issued + 1) (enroll [] st)
      gives = cond-false (is_exhausted st) (record { reply = Err Exhausted; after = st }) (answer (st.issued + 1) (enroll [] st)) free

      replies : Replies st c y
      replies = ap (λ (j : ℕ). reply.Subscribed (j + 1)) issued ∙ sym (ap (λ (a : Replied ℕ T). reply_by reply.Subscribed a.reply) gives)

      then_is : after st c y ≡ enroll [] st
      then_is = ap (λ (a : Replied ℕ T). a.after) gives

      next_state : current h' ≡ enroll [] st
      next_state = after_all-snoc shared_flow (began_as start) r.history (event_by T packs value_of start x r.history c y) ∙ then_is

      entry_is : entry st ≡ place
      entry_is = cond-false (is_offering st) (length st.emitted - 1) (cache_start st) (not_offering T start.config (drops start r.starts) r.starts.buffer st usual)
          ∙ (λ i. max (sym mark i) (sym f.1 i - replay i))

      u : Subscriber T
      u = record { number = st.issued + 1; own = []; position = entry st }

      nobody : position_of (st.issued + 1) st.subscribers ≡ None
      nobody = absent st.issued (st.issued + 1) st.subscribers usual.sound.placed.issued (omega arith)

      stands : Stands (st.issued + 1) place (capacity_of start) (enroll [] st)
      stands = record {
        place = position-snoc (st.issued + 1) st.subscribers u nobody refl ∙ ap Some (entry_is ∙ (let l : place ≡ max place (length st.emitted - capacity_of start) = omega (arith, f.1) in l));
        own = own-snoc (st.issued + 1) st.subscribers u nobody refl;
        within = omega (arith, f.1, mark, usual.sound.placed.reset_mark);
      }

      stands_at : IsAt start (child (saw x.knows.lost h' x.knows)) (m + 1) place
      stands_at = record {
        given = last_given shared_flow r.history (event_by T packs value_of start x r.history c y) (record { number = subscriber (m + 1); name = subscription_name x.knows }) refl;
        stands = subst (λ (t : SharedFlowState T). Stands (m + 1) place (capacity_of start) t) (sym next_state) (subst (λ (j : ℕ). Stands (j + 1) place (capacity_of start) (enroll [] st)) (sym issued) stands);
      }

      new : ℕ
      new = one_up s.words

      more : length (st.subscribers ++ u ∷ []) ≡ length st.subscribers + 1
      more = length-append st.subscribers (u ∷ [])

      one_more : (n a top most : ℕ) → n ≡ a → a ≤ top → top ≤ most → most < 2 ^ 63 → (n + 1) % 2 ^ 64 ≡ a + 1
      one_more n a top most e l l2 small = omega arith

      now_is : new ≡ length (st.subscribers ++ u ∷ [])
      now_is = one_more (get_or s.words 2 0) (length st.subscribers) st.issued start.config.limit r.words.live (live_few {T = T} start.config r.history) r.words.few r.starts.limit ∙ sym more

      rests : Hidden
      rests = record { ahead = 0; owners = owners' }

      fit : WordsFit packs value_of start (enroll [] st) r.owner rests (set s.words 2 new)
      fit = let w = r.words in let count = w.count in let ahead_is = f.2 in let made = w.made in record {
        count = length-set s.words 2 new ∙ w.count;
        word0 = get_or-set_other s.words 2 0 new 0 (λ e. absurd (omega arith)) ∙ w.word0;
        few = omega (arith, issued, room);
        made = omega (arith, get_or-set_other s.words 2 1 new 0 (λ e. absurd (omega arith)), made, ahead_is, ahead);
        live = get_or-set_same s.words 2 new 0 (omega arith) ∙ now_is;
        mark = get_or-set_other s.words 2 3 new 0 (λ e. absurd (omega arith)) ∙ w.mark;
        cells = λ j a b. subst (HasValue packs value_of (Rattle.flow_law.specs.flow.SharedFlow.values st) j) (sym (head_kept start.width start s.words 2 new j (omega arith))) (w.cells j a b);
        rested = λ _. refl;
        places = places;
      }

      hold' : Hold
      hold' = record (holding h.length) { taken = taken' }

      done : Rule record { words = set s.words 2 new; homes = s.homes; views = set s.views id (turned T packs value_of start x h' (Some hold') reads' ∷ []) }
          × StepCalls (me.0, me.1) c y (turned T packs value_of start x h' (Some hold') reads' ∷ [], me.1)
      done = event_with T packs value_of start s r id me.0 me.1 c y is at r.owner rests (set s.words 2 new) (Some hold') reads' replies tt
          (subst (λ t. WordsFit packs value_of start t r.owner rests (set s.words 2 new)) (sym then_is) fit)
          (subst (λ t. HoldFits start t r.owner rests (set s.words 2 new) name (Some hold')) (sym then_is) (f.0, f.1, refl, tt, tt, refl, record { low = tt; checked = λ j less. absurd (omega (arith, less)); taken = held; filled = omega arith }))
          (λ z ne g. no_other start st (after st c y) r.owner r.owner r.hidden rests s.words (set s.words 2 new) name z.knows.name z.hold ne (inr f.0) g)
          beside posts

  -- of a flow without places
  pub enrolling : (slots id : ℕ) (me : Me Unit V) (h : Hold) (m k : ℕ) → me.0 ≡ only me.0 ∷ [] → (only me.0).hold ≡ Some h → h.issued ≡ Some m → h.mark ≡ Some k → h.ahead ≡ 1 → m < start.config.limit → start.places ≡ 0
      → Allows Rule slots id me 2 (λ n. (n + 1) % 2 ^ 64) (enrolls (step slots 2 1 0 none) me)
  enrolling slots id me h m k is has counted marked ahead room bare s r n at small = (
    turned T packs value_of start x h' (Some (holding h.length)) (Some got) ∷ [],
    keeps,
    tt,
    all.step.0,
    λ h2 m2 k2 has2 counted2 marked2. let same : h ≡ h2 = same_some h h2 (sym has ∙ has2) in let same_m : m ≡ m2 = same_some m m2 (sym counted ∙ ap (λ (z : Hold). z.issued) same ∙ counted2) in
        let same_k : k ≡ k2 = same_some k k2 (sym marked ∙ ap (λ (z : Hold). z.mark) same ∙ marked2) in
        subst (λ (z : Hold × (ℕ × ℕ)). Tells z.0 z.1.0 z.1.1) (λ i. (same i, (same_m i, same_k i))) (
          all.step.1,
          refl,
          ap (λ q. Some (reading (m + 1) q [])) place_is,
          subst (λ (z : RingStart × ℕ). IsAt z.0 (child (saw x.knows.lost h' x.knows)) (m + 1) z.1) (λ i. (sym began i, place_is i)) all.stands,
          subst (λ (z : RingStart). h.length ≡ length (log_after z h')) (sym began) all.counted,
          all.within,
        ),
  )
    where
      x : RingKnown T
      x = only me.0

      h' : History T
      h' = enrolled_by r.history x m

      began : x.start ≡ start
      began = started T packs value_of start s r id me.0 is at

      place : ℕ
      place = max k (h.length - start.config.replay)

      place_is : place ≡ max k (h.length - x.start.config.replay)
      place_is = ap (λ (z : RingStart). max k (h.length - z.config.replay)) (sym began)

      got : Reads
      got = reading (m + 1) place []

      all : Enrolled s r id me h m k None (Some got)
      all = enrolled s r id me h m k is at has counted marked ahead room r.hidden.owners None (Some got)
          (no_places start (enroll [] (current r.history)) r.hidden.owners (set s.words 2 (one_up s.words)) bare r.words.places.owned) tt
          (λ z ne f. reads_same start r.hidden.owners s.words (set s.words 2 (one_up s.words)) z.knows.name z.reads (at_places start s.words (set s.words 2 (one_up s.words)) (places_after_head start s.words 2 (one_up s.words) (omega arith))) f) tt

      -- what the play says, of a holder with this hold and these numbers
      Tells : Hold → ℕ → ℕ → Type 0
      Tells h2 m2 k2 = StepCalls me (call.Subscribe (subscription_name x.knows) []) (reply.Subscribed (m2 + 1)) (turned T packs value_of start x h' (Some (holding h.length)) (Some got) ∷ [], me.1)
          × ◌≡◌ {A = Option Hold} (Some (holding h.length)) (Some (holding h2.length))
          × ◌≡◌ {A = Option Reads} (Some got) (Some (reading (m2 + 1) (max k2 (h2.length - x.start.config.replay)) []))
          × IsAt x.start (child (saw x.knows.lost h' x.knows)) (m2 + 1) (max k2 (h2.length - x.start.config.replay))
          × (h2.length ≡ length (log_after x.start h')) × (k2 ≤ h2.length)
