-- Each step on a word keeps the rule of the table. Begin with `makes_event`: a step that is the one event of a call.
use Rattle.std.proofs.Common.{◌≡◌, ◌≢◌, ℕ, ◌≤◌, Bool, true, false, eqb, eq-eqb, ne_eqb, ◌%◌, ◌/◌, ◌<◌, List, [], ◌∷◌, ◌++◌, map, length, get_or, set, Option, refl, sym, ap, ◌∙◌, subst, inl, inr, le_refl, arith}
use mathlib.Core.Logic.{dite}
use mathlib.Core.Option.{none, some}
use native.Mathlib.Decide.{ℕ_discrete}
use lib.ListN.{get_elem?}
use lib.Seq.{set-get_or}
use prog.Atomic.{either}
use Rattle.atomic_table.specs.Table.{State, Me, step, Act, keeps, carried_after, Valid, stepped, Allows}
use Rattle.atomic_table.proofs.Lists.{set_again}
use Rattle.flow_law.specs.declared.history.HistoryEvent.{HistoryEvent}
use Rattle.flow_law.specs.declared.history.Said.{Said}
use Rattle.flow_law.specs.declared.call.StateCall.{StateCall}
use Rattle.flow_law.specs.declared.call.StateCall.TheVariants as call
use Rattle.flow_law.specs.declared.call.StateReply.{StateReply}
use Rattle.flow_law.specs.declared.call.StateReply.TheVariants as reply
use Rattle.flow_law.specs.declared.states.StateFlowState.{StateFlowState}
use Rattle.flow_law.specs.history.Growth.{Fits, IsApartFrom, event}
use Rattle.flow_law.specs.history.History.{MayCall}
use Rattle.flow_law.specs.history.RealTime.{BeganInTime, began_at}
use Rattle.flow_law.specs.history.Promise.{said}
use Rattle.flow_law.specs.history.Seats.{SeatAt}
use Rattle.flow_law.specs.flow.StateFlow.{StateHistory, state_flow_after, StateFlowReplies, state_flow, state_after_all, IsStateHistory}
use Rattle.flow_law.proofs.HistoryLemmas.{after_all-snoc, IsHistory-snoc}
use Rattle.flow_law.proofs.Names.{grew_refl, fits_more, fits_own}
use Rattle.flow_law.proofs.RealTimeLemmas.{since_seen, since_more, grown_longer, before_own, one_longer, began_since, IsTimed-snoc}
use Rattle.flow_law.proofs.SeatLemmas.{changed, at_only}
use Rattle.flow_law.proofs.StateCounts.{IsCounted, is_counted}
use Rattle.flow_word.specs.declared.view.Known.{Known}
use Rattle.flow_word.specs.declared.view.LastGot.{LastGot}
use Rattle.flow_word.specs.declared.view.Start.{Start}
use Rattle.flow_word.specs.View.{begun, known, in_call, only_in_view}
use Rattle.flow_word.specs.Rule.{counts, IsFine, WordHolds}
use Rattle.flow_word.specs.Steps.{StepMakes, reads, sets, exchanges, counts_live, counts_all}

module _ (T : Type 0) (packs : ℕ → Type 0) (value_of : ℕ → T) (start : Start) where
  abbrev V : Type 0
  V = List (Known T)

  abbrev St : Type 0
  St = State Unit V

  abbrev Rule : St → Type 0
  Rule = WordHolds packs value_of start

  -- the state after a history
  abbrev pub now : StateHistory T → StateFlowState T
  now h = state_after_all (begun value_of start) h

  -- the event that a step adds to this history
  abbrev pub event_by : Known T → StateHistory T → StateCall T → StateReply T → HistoryEvent (Said (StateCall T) (StateReply T))
  event_by x h c r = event x.knows.name (began_at x.began (length h)) (said c r)

  -- the token after its call, which is then this subscriber
  abbrev pub after_call : Known T → StateHistory T → StateCall T → StateReply T → Option LastGot → Known T
  after_call x h c r got = known (record { name = x.knows.name; made = x.knows.made; lost = x.knows.lost; seen = h ++ event_by x h c r ∷ [] }) x.start got

  pub found_at : (s : St) (id : ℕ) (v : V) → v ≡ only_in_view v ∷ [] → get_elem? s.views id ≡ some v → SeatAt (λ (v : V). v) s.views id 0 (only_in_view v)
  found_at s id v is at = (v, at, subst (λ (l : V). get_elem? l 0 ≡ some (only_in_view v)) (sym is) refl)

  pub started : (s : St) (r : Rule s) (id : ℕ) (v : V) → v ≡ only_in_view v ∷ [] → get_elem? s.views id ≡ some v → (only_in_view v).start ≡ start
  started s r id v is at = (r.seats.fine id 0 (only_in_view v) (found_at s id v is at)).1

  pub fits_at : (s : St) (r : Rule s) (id : ℕ) (v : V) → v ≡ only_in_view v ∷ [] → get_elem? s.views id ≡ some v → Fits r.history (only_in_view v).knows
  fits_at s r id v is at = (r.seats.fine id 0 (only_in_view v) (found_at s id v is at)).0

  -- its call began between what its token had seen and this step
  began_within : (s : St) (r : Rule s) (id : ℕ) (v : V) → v ≡ only_in_view v ∷ [] → get_elem? s.views id ≡ some v
      → (length (only_in_view v).knows.seen ≤ began_at (only_in_view v).began (length r.history)) × (began_at (only_in_view v).began (length r.history) ≤ length r.history)
  began_within s r id v is at = let x = only_in_view v in let f = r.seats.fine id 0 x (found_at s id v is at) in
      since_seen x.began (length x.knows.seen) (length r.history) f.2 (grown_longer x.knows.name x.knows.seen r.history f.0.0)

  begins_in_time : (s : St) (r : Rule s) (id : ℕ) (v : V) (c : StateCall T) (y : StateReply T) → v ≡ only_in_view v ∷ [] → get_elem? s.views id ≡ some v → BeganInTime r.history (event_by (only_in_view v) r.history c y)
  begins_in_time s r id v c y is at = let x = only_in_view v in let w = began_within s r id v is at in
      began_since x.knows.name (began_at x.began (length r.history)) (said c y) x.knows.seen r.history (fits_at s r id v is at).0 w.0 w.1

  -- a step that is the one event of a call keeps the rule
  pub makes_event : (s : St) (r : Rule s) (id : ℕ) (v : V) (c : StateCall T) (y : StateReply T) (got : Option LastGot) (words' : List ℕ) (word' : ℕ) → v ≡ only_in_view v ∷ [] → get_elem? s.views id ≡ some v
      → StateFlowReplies (now r.history) c y → MayCall state_flow c (only_in_view v).knows.name r.history
      → words' ≡ word' ∷ counts (state_flow_after (now r.history) c y) ∷ [] → packs word' → value_of word' ≡ (state_flow_after (now r.history) c y).value
      → Rule record { words = words'; homes = s.homes; views = set s.views id (after_call (only_in_view v) r.history c y got ∷ []) }
  makes_event s r id v c y got words' word' is at replies may ws packed value = record {
    history = h';
    is_history = IsHistory-snoc state_flow (begun value_of start) h e r.is_history replies may;
    timed = IsTimed-snoc h e r.timed (begins_in_time s r id v c y is at);
    word = word';
    packed = packed;
    value = value ∙ ap (λ (z : StateFlowState T). z.value) next;
    words = ws ∙ ap (λ (z : StateFlowState T). word' ∷ counts z ∷ []) next;
    limit_fits = r.limit_fits;
    seats = changed (λ (v : V). v) (λ (x : Known T). x.knows) (IsFine start h') (λ x. known (record { name = x.knows.name; made = x.knows.made; lost = x.knows.lost; seen = h' }) x.start got) (λ _. refl) (λ z. le_refl z.knows.made) s.views id v (after_call x h c y got ∷ []) at
        (ap (λ (l : V). map (λ (x : Known T). known (record { name = x.knows.name; made = x.knows.made; lost = x.knows.lost; seen = h' }) x.start got) l) (sym is))
        own others r.seats.apart;
  }
    where
      x : Known T
      x = only_in_view v

      h : StateHistory T
      h = r.history

      e : HistoryEvent (Said (StateCall T) (StateReply T))
      e = event_by x h c y

      h' : StateHistory T
      h' = h ++ e ∷ []

      next : state_flow_after (now h) c y ≡ now h'
      next = sym (after_all-snoc state_flow (begun value_of start) h e)

      place : SeatAt (λ (v : V). v) s.views id 0 x
      place = found_at s id v is at

      own : (a : ℕ) (z : Known T) → get_elem? v a ≡ some z → IsFine start h' (known (record { name = z.knows.name; made = z.knows.made; lost = z.knows.lost; seen = h' }) z.start got)
      own a z p = let same : x ≡ z = (at_only x z a (subst (λ (l : V). get_elem? l a ≡ some z) is p)).1 in
          subst (λ (k : Known T). IsFine start h' (known (record { name = k.knows.name; made = k.knows.made; lost = k.knows.lost; seen = h' }) k.start got)) same
          ((grew_refl x.knows.name h', fits_own h x.knows (began_at x.began (length h)) (said c y) (fits_at s r id v is at)), started s r id v is at, tt)

      others : (i a : ℕ) (z : Known T) → i ≢ id → SeatAt (λ (v : V). v) s.views i a z → IsFine start h' z
      others i a z ne p = let f = r.seats.fine i a z p in
          let xz : IsApartFrom x.knows z.knows = r.seats.apart id 0 i a x z place p (inl (λ q. ne (sym q))) in let zx : IsApartFrom z.knows x.knows = r.seats.apart i a id 0 z x p place (inl ne) in
          (fits_more h z.knows e xz.0 zx.1 f.0, f.1, since_more z.began (length z.knows.seen) (length h) (length h') (one_longer h e) f.2)

  -- and the step proves that call to its caller
  pub names_event : (s : St) (r : Rule s) (id : ℕ) (v : V) (cs : List (ℕ × Unit {0})) (c : StateCall T) (y : StateReply T) (got : Option LastGot) → v ≡ only_in_view v ∷ [] → get_elem? s.views id ≡ some v
      → StateFlowReplies (now r.history) c y → MayCall state_flow c (only_in_view v).knows.name r.history → StepMakes value_of (v, cs) c y (after_call (only_in_view v) r.history c y got ∷ [], cs)
  names_event s r id v cs c y got is at replies may = (
    record {
      name = refl;
      made = refl;
      lost = le_refl (only_in_view v).knows.lost;
      history = subst (λ (z : Start). IsStateHistory (begun value_of z) h') (sym (started s r id v is at)) (IsHistory-snoc state_flow (begun value_of start) r.history e r.is_history replies may);
      began = began_at (only_in_view v).began (length r.history);
      grows = (fits.0.0, ap (λ (l : StateHistory T). l ++ e ∷ []) fits.0.1, fits.0.2);
      in_time = let w = began_within s r id v is at in (w.0, before_own r.history e (began_at (only_in_view v).began (length r.history)) w.1);
      timed = IsTimed-snoc r.history e r.timed (begins_in_time s r id v c y is at);
      names = fits_own r.history (only_in_view v).knows (began_at (only_in_view v).began (length r.history)) (said c y) fits;
    },
    refl,
    refl,
    refl,
  )
    where
      e : HistoryEvent (Said (StateCall T) (StateReply T))
      e = event_by (only_in_view v) r.history c y

      h' : StateHistory T
      h' = r.history ++ e ∷ []

      fits : Fits r.history (only_in_view v).knows
      fits = fits_at s r id v is at

  pub found_is : (s : St) (r : Rule s) → get_or s.words 0 0 ≡ r.word
  found_is s r = ap (λ (z : List ℕ). get_or z 0 0) r.words

  -- a step of no event, which changes nothing
  pub still : (s : St) (r : Rule s) (i id : ℕ) (v : V) → get_elem? s.views id ≡ some v → Rule record { words = set s.words i (get_or s.words i 0); homes = s.homes; views = set s.views id v }
  still s r i id v at = subst Rule (λ k. record { words = sym (set-get_or s.words i 0) k; homes = s.homes; views = sym (set_again s.views id v at) k }) r

  -- a step of no event in a call, or the first one: it notes when the call began
  pub goes_on : (s : St) (r : Rule s) (i id : ℕ) (v : V) → v ≡ only_in_view v ∷ [] → get_elem? s.views id ≡ some v
      → Rule record { words = set s.words i (get_or s.words i 0); homes = s.homes; views = set s.views id (in_call (began_at (only_in_view v).began (length r.history)) (only_in_view v) ∷ []) }
  goes_on s r i id v is at = subst (λ (z : List ℕ). Rule record { words = z; homes = s.homes; views = set s.views id (calls (only_in_view v) ∷ []) }) (sym (set-get_or s.words i 0)) record {
    history = r.history;
    is_history = r.is_history;
    timed = r.timed;
    word = r.word;
    packed = r.packed;
    value = r.value;
    words = r.words;
    limit_fits = r.limit_fits;
    seats = changed (λ (v : V). v) (λ (x : Known T). x.knows) (IsFine start r.history) calls (λ _. refl) (λ z. le_refl z.knows.made) s.views id v (calls (only_in_view v) ∷ []) at
        (ap (λ (l : V). map calls l) (sym is)) own (λ i a z _ p. r.seats.fine i a z p) r.seats.apart;
  }
    where
      calls : Known T → Known T
      calls = in_call (began_at (only_in_view v).began (length r.history))

      own : (a : ℕ) (z : Known T) → get_elem? v a ≡ some z → IsFine start r.history (calls z)
      own a z p = let same : only_in_view v ≡ z = (at_only (only_in_view v) z a (subst (λ (l : V). get_elem? l a ≡ some z) is p)).1 in
          subst (λ (k : Known T). IsFine start r.history (calls k)) same (fits_at s r id v is at, started s r id v is at, began_within s r id v is at)

  -- ---- the word of the value

  pub reading : (slots id : ℕ) (me : Me Unit V) → me.0 ≡ only_in_view me.0 ∷ [] → Allows Rule slots id me 0 (λ n. n) (reads packs value_of (step slots 0 0 0 none) me)
  reading slots id me is s r n at small =
      let found : ℕ = get_or s.words 0 0 in let y : StateReply T = reply.Got (value_of found) in let same = found_is s r in
      let replies : StateFlowReplies (now r.history) call.GetValue y = ap (λ (z : T). reply.Got z) (ap value_of same ∙ r.value) in (
        after_call (only_in_view me.0) r.history call.GetValue y (only_in_view me.0).subscriber ∷ [],
        keeps,
        tt,
        makes_event s r id me.0 call.GetValue y (only_in_view me.0).subscriber (set s.words 0 found) r.word is at replies tt (set-get_or s.words 0 0 ∙ r.words) r.packed r.value,
        (subst packs (sym same) r.packed, names_event s r id me.0 me.1 call.GetValue y (only_in_view me.0).subscriber is at replies tt),
      )

  pub setting : (slots id : ℕ) (me : Me Unit V) (w : ℕ) → me.0 ≡ only_in_view me.0 ∷ [] → packs w → Allows Rule slots id me 0 (λ _. w) (sets value_of (step slots 0 w 0 none) me)
  setting slots id me w is packed s r n at small = let a : T = value_of w in (
    after_call (only_in_view me.0) r.history (call.Set a) reply.Done (only_in_view me.0).subscriber ∷ [],
    keeps,
    tt,
    makes_event s r id me.0 (call.Set a) reply.Done (only_in_view me.0).subscriber (set s.words 0 w) w is at refl tt (ap (λ (z : List ℕ). set z 0 w) r.words) packed refl,
    names_event s r id me.0 me.1 (call.Set a) reply.Done (only_in_view me.0).subscriber is at refl tt,
  )

  pub exchanging : ((v w : ℕ) → packs v → packs w → value_of v ≡ value_of w → v ≡ w) → (slots id : ℕ) (me : Me Unit V) (old new : ℕ) → me.0 ≡ only_in_view me.0 ∷ [] → packs old → packs new
      → Allows Rule slots id me 0 (λ n. either (eqb n old) new n) (exchanges value_of (step slots 0 old new none) me)
  exchanging once slots id me old new is packed_old packed_new s r n at small =
      let found : ℕ = get_or s.words 0 0 in let c : StateCall T = call.CompareAndSet (value_of old) (value_of new) in let same = found_is s r in let f = now r.history in let got = (only_in_view me.0).subscriber in
      let G : Bool → Type 0 = λ b. (w : V) × (a : Act Unit) × Valid s.homes me.1 a × Rule (stepped s 0 (either b new found) id me.1 w a) × StepMakes value_of me c (reply.Answered b) (w, carried_after me.1 a) in
      let flat : G (eqb found old) = dite (ℕ_discrete found old)
      (λ hit. let replies : StateFlowReplies f c (reply.Answered true) = inl (sym r.value ∙ ap value_of (sym same ∙ hit), refl) in subst G (sym (eq-eqb found old hit)) (
        after_call (only_in_view me.0) r.history c (reply.Answered true) got ∷ [],
        keeps,
        tt,
        makes_event s r id me.0 c (reply.Answered true) got (set s.words 0 new) new is at replies tt (ap (λ (z : List ℕ). set z 0 new) r.words) packed_new refl,
        names_event s r id me.0 me.1 c (reply.Answered true) got is at replies tt,
      ))
      (λ miss. let replies : StateFlowReplies f c (reply.Answered false) = inr ((λ e. miss (same ∙ once r.word old r.packed packed_old (r.value ∙ e))), refl) in subst G (sym (ne_eqb found old miss)) (
        after_call (only_in_view me.0) r.history c (reply.Answered false) got ∷ [],
        keeps,
        tt,
        makes_event s r id me.0 c (reply.Answered false) got (set s.words 0 found) r.word is at replies tt (set-get_or s.words 0 0 ∙ r.words) r.packed r.value,
        names_event s r id me.0 me.1 c (reply.Answered false) got is at replies tt,
      )) in
      (flat.0, flat.1, flat.2, flat.3, flat.4)

  -- ---- the counts

  pub counted : (s : St) (r : Rule s) → IsCounted start.limit (now r.history)
  counted s r = is_counted start.limit (value_of start.word) r.history r.is_history.legal

  live_is : (f : StateFlowState T) → IsCounted start.limit f → start.limit < 4294967296 → counts f % 4294967296 ≡ length f.subscribers
  live_is f h fits = let a = h.live in let b = h.issued in omega arith

  pub counting : (slots id : ℕ) (me : Me Unit V) → me.0 ≡ only_in_view me.0 ∷ [] → Allows Rule slots id me 1 (λ n. n) (counts_live value_of (step slots 1 0 0 none) me)
  counting slots id me is s r n at small =
      let found : ℕ = get_or s.words 1 0 in let f = now r.history in let y : StateReply T = reply.Counted (found % 4294967296) in let got = (only_in_view me.0).subscriber in
      let same : found ≡ counts f = ap (λ (z : List ℕ). get_or z 1 0) r.words in
      let replies : StateFlowReplies f call.SubscriptionCount y = ap (λ (z : ℕ). reply.Counted z) (ap (λ (z : ℕ). z % 4294967296) same ∙ live_is f (counted s r) r.limit_fits) in (
        after_call (only_in_view me.0) r.history call.SubscriptionCount y got ∷ [],
        keeps,
        tt,
        makes_event s r id me.0 call.SubscriptionCount y got (set s.words 1 found) r.word is at replies tt (set-get_or s.words 1 0 ∙ r.words) r.packed r.value,
        names_event s r id me.0 me.1 call.SubscriptionCount y got is at replies tt,
      )

  issued_is : (f : StateFlowState T) → IsCounted start.limit f → start.limit < 4294967296 → counts f / 4294967296 ≡ f.issued
  issued_is f h fits = let a = h.live in let b = h.issued in omega arith

  pub counting_all : (slots id : ℕ) (me : Me Unit V) → me.0 ≡ only_in_view me.0 ∷ [] → Allows Rule slots id me 1 (λ n. n) (counts_all value_of (step slots 1 0 0 none) me)
  unfolding counting
  counting_all slots id me is s r n at small =
      let found : ℕ = get_or s.words 1 0 in let f = now r.history in let y : StateReply T = reply.Counted (found % 4294967296) in let got = (only_in_view me.0).subscriber in
      let told = counting slots id me is s r n at small in
      let same : found ≡ counts f = ap (λ (z : List ℕ). get_or z 1 0) r.words in
      let h' : StateHistory T = r.history ++ event_by (only_in_view me.0) r.history call.SubscriptionCount y ∷ [] in
      let after : now h' ≡ f = after_all-snoc state_flow (begun value_of start) r.history (event_by (only_in_view me.0) r.history call.SubscriptionCount y) in
      let issued : (now h').issued ≡ found / 4294967296 =
      ap (λ (z : StateFlowState T). z.issued) after ∙ sym (issued_is f (counted s r) r.limit_fits) ∙ ap (λ (z : ℕ). z / 4294967296) (sym same) in
      let P : Start → Type 0 = λ z. (state_after_all (begun value_of z) h').issued ≡ found / 4294967296 in (
        told.0,
        told.1,
        told.2,
        told.3,
        (told.4, subst P (sym (started s r id me.0 is at)) issued),
      )
