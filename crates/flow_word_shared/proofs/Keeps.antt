-- What keeps the rule of the table. Begin with `event_step` (a step that is the one event of a call) and `quiet_step` (a step of no event).
use Rattle.std.proofs.Common.{◌≡◌, ◌≢◌, ◌⊎◌, ℕ, ◌+◌, ◌*◌, ◌<◌, ◌≤◌, List, [], ◌∷◌, ◌++◌, map, length, get_or, set, Option, Some, None, refl, sym, ap, ◌∙◌, subst, inl, ⊎_elim, le_refl, arith}
use Rattle.std.proofs.lemmas.List.{get_or-set_same, get_or-set_other, length-set}
use mathlib.Core.Option.{some}
use lib.ListN.{get_elem?}
use lib.Seq.{set-get_or}
use Rattle.atomic_table.specs.Table.{State}
use Rattle.atomic_table.proofs.Lists.{set_again}
use Rattle.flow_law.specs.declared.history.HistoryEvent.{HistoryEvent}
use Rattle.flow_law.specs.declared.history.Said.{Said}
use Rattle.flow_law.specs.declared.call.SharedCall.{SharedCall}
use Rattle.flow_law.specs.declared.call.SharedReply.{SharedReply}
use Rattle.flow_law.specs.declared.states.SharedFlowState.{SharedFlowState}
use Rattle.flow_law.specs.history.Growth.{Fits, GrowsByOthers, IsApartFrom, event}
use Rattle.flow_law.specs.history.History.{MayCall}
use Rattle.flow_law.specs.history.Promise.{said}
use Rattle.flow_law.specs.history.RealTime.{IsTimed}
use Rattle.flow_law.specs.history.Seats.{SeatAt}
use Rattle.flow_law.specs.flow.SharedFlow.{values}
use Rattle.flow_law.specs.flow.SharedHistory.{History, Replies, after, shared_after_all, shared_flow, IsSharedHistory}
use Rattle.flow_law.proofs.HistoryLemmas.{after_all-snoc, IsHistory-snoc}
use Rattle.flow_law.proofs.Names.{grew_refl, fits_more, fits_own}
use Rattle.flow_law.proofs.RealTimeLemmas.{grown_longer, before_own, began_now, IsTimed-snoc}
use Rattle.flow_law.proofs.SeatLemmas.{changed, at_only}
use Rattle.flow_word_shared.specs.declared.view.RingKnown.{RingKnown}
use Rattle.flow_word_shared.specs.declared.view.Hold.{Hold}
use Rattle.flow_word_shared.specs.declared.view.Reads.{Reads}
use Rattle.flow_word_shared.specs.declared.view.RingStart.{RingStart}
use Rattle.flow_word_shared.specs.Rule.{head, cell_at, bit, HasValue, Hidden, WordsFit, IsIfKnown, HoldFits, ReadsFit, IsFine, RingHolds}
use Rattle.flow_word_shared.specs.Steps.{StepCalls, StepSees}
use Rattle.flow_word_shared.specs.View.{began_as, ring_known, only, saw}
use Rattle.flow_word_shared.proofs.Cells.{words_same, head_kept}
use Rattle.flow_word_shared.proofs.PlaceRule.{SameAt, at_places, places_after_head, places_same, held_same, reads_same}

pub same_some : {A : Type 0} (a b : A) → Some a ≡ Some b → a ≡ b
same_some a b e = cc

-- ---- what holders know

module _ {T : Type 0} (start : RingStart) where
  -- no other caller holds the lock bit, so nothing has to be known of the others
  pub no_other : (s t : SharedFlowState T) (owner owner' : Option (List ℕ)) (hidden hidden' : Hidden) (words words' name other : List ℕ) (hold : Option Hold) → name ≢ other → (owner ≡ None) ⊎ (owner ≡ Some name)
      → HoldFits start s owner hidden words other hold → HoldFits start t owner' hidden' words' other hold
  no_other s t owner owner' hidden hidden' words words' name other None ne free f = tt
  no_other s t owner owner' hidden hidden' words words' name other (Some h) ne free f =
      ⊎_elim (λ (e : owner ≡ None). let is : None ≡ Some other = sym e ∙ f.0 in absurd (cc)) (λ (e : owner ≡ Some name). absurd (ne (same_some name other (sym e ∙ f.0)))) free

  -- the state and the cells show the same
  pub same_hold : (s t : SharedFlowState T) (owner : Option (List ℕ)) (hidden : Hidden) (words words' name : List ℕ) (hold : Option Hold) → length t.emitted ≡ length s.emitted → t.issued ≡ s.issued → t.reset_mark ≡ s.reset_mark
      → ((i : ℕ) → head ≤ i → get_or words' i 0 ≡ get_or words i 0) → HoldFits start s owner hidden words name hold → HoldFits start t owner hidden words' name hold
  same_hold s t owner hidden words words' name None count issued mark cells f = tt
  same_hold s t owner hidden words words' name (Some h) count issued mark cells f = (
    f.0,
    f.1 ∙ sym count,
    f.2,
    subst (IsIfKnown h.issued) (sym issued) f.3,
    subst (IsIfKnown h.mark) (sym mark) f.4,
    f.5 ∙ sym (words_same (length h.cells) words words' (cell_at start h.length) (λ i from less. cells i (omega (arith, from)))),
    held_same start hidden.owners words words' name h (λ i from. cells i (omega (arith, from))) f.6,
  )

module _ (T : Type 0) (packs : List ℕ → Type 0) (value_of : List ℕ → T) (start : RingStart) where
  abbrev V : Type 0
  V = List (RingKnown T)

  abbrev St : Type 0
  St = State Unit V

  abbrev Rule : St → Type 0
  Rule = RingHolds packs value_of start

  -- the state after a history
  abbrev pub now : History T → SharedFlowState T
  now h = shared_after_all (began_as start) h

  -- the event that a step adds to this history. Its call began at this step.
  abbrev pub event_by : RingKnown T → History T → SharedCall T → SharedReply T → HistoryEvent (Said (SharedCall T) (SharedReply T))
  event_by x h c r = event x.knows.name (length h) (said c r)

  abbrev pub more_by : RingKnown T → History T → SharedCall T → SharedReply T → History T
  more_by x h c r = h ++ event_by x h c r ∷ []

  -- the token that has lost this many attempts and seen this, and holds and reads this
  abbrev pub turned_by : ℕ → RingKnown T → History T → Option Hold → Option Reads → RingKnown T
  turned_by lost x seen hold reads = ring_known (saw lost seen x.knows) x.start hold reads

  -- the token that has seen this, and holds and reads this
  abbrev pub turned : RingKnown T → History T → Option Hold → Option Reads → RingKnown T
  turned x = turned_by x.knows.lost x

  pub found_at : (s : St) (id : ℕ) (v : V) → v ≡ only v ∷ [] → get_elem? s.views id ≡ some v → SeatAt (λ (v : V). v) s.views id 0 (only v)
  found_at s id v is at = (v, at, subst (λ (l : V). get_elem? l 0 ≡ some (only v)) (sym is) refl)

  pub fine_at : (s : St) (r : Rule s) (id : ℕ) (v : V) → v ≡ only v ∷ [] → get_elem? s.views id ≡ some v → IsFine start r.history r.owner r.hidden s.words (only v)
  fine_at s r id v is at = r.seats.fine id 0 (only v) (found_at s id v is at)

  pub started : (s : St) (r : Rule s) (id : ℕ) (v : V) → v ≡ only v ∷ [] → get_elem? s.views id ≡ some v → (only v).start ≡ start
  started s r id v is at = (fine_at s r id v is at).1

  pub fits_at : (s : St) (r : Rule s) (id : ℕ) (v : V) → v ≡ only v ∷ [] → get_elem? s.views id ≡ some v → Fits r.history (only v).knows
  fits_at s r id v is at = (fine_at s r id v is at).0

  pub hold_at : (s : St) (r : Rule s) (id : ℕ) (v : V) (h : Hold) → v ≡ only v ∷ [] → get_elem? s.views id ≡ some v → (only v).hold ≡ Some h
      → HoldFits start (now r.history) r.owner r.hidden s.words (only v).knows.name (Some h)
  hold_at s r id v h is at has = subst (HoldFits start (now r.history) r.owner r.hidden s.words (only v).knows.name) has (fine_at s r id v is at).2

  pub reads_at : (s : St) (r : Rule s) (id : ℕ) (v : V) → v ≡ only v ∷ [] → get_elem? s.views id ≡ some v → ReadsFit start r.hidden.owners s.words (only v).knows.name (only v).reads
  reads_at s r id v is at = (fine_at s r id v is at).3

  -- what the token knows of its place, if it is this subscriber's
  pub post_at : (s : St) (r : Rule s) (id : ℕ) (v : V) (x : Reads) → v ≡ only v ∷ [] → get_elem? s.views id ≡ some v → (only v).reads ≡ Some x → ReadsFit start r.hidden.owners s.words (only v).knows.name (Some x)
  post_at s r id v x is at has = subst (ReadsFit start r.hidden.owners s.words (only v).knows.name) has (reads_at s r id v is at)

  -- each place has the same owner and the same word
  abbrev pub Stay : (s : St) → Rule s → Hidden → List ℕ → Type 0
  Stay s r hidden' words' = (hidden'.owners ≡ r.hidden.owners) × SameAt start s.words words'

  -- no word changes
  pub stay : (s : St) (r : Rule s) → Stay s r r.hidden s.words
  stay s r = (refl, λ i. refl)

  -- one of the words before the cells changes
  pub stay_set : (s : St) (r : Rule s) (place w : ℕ) → place < head → Stay s r r.hidden (set s.words place w)
  stay_set s r place w less = (refl, at_places start s.words (set s.words place w) (places_after_head start s.words place w less))

  pub fits_then : (s : St) (r : Rule s) (hidden' : Hidden) (words' name : List ℕ) (reads : Option Reads) → Stay s r hidden' words' → ReadsFit start r.hidden.owners s.words name reads → ReadsFit start hidden'.owners words' name reads
  fits_then s r hidden' words' name reads same f =
      subst (λ o. ReadsFit start o words' name reads) (sym same.0) (reads_same start r.hidden.owners s.words words' name reads same.1 f)

  -- the words, one token and the history change
  unfoldable pub keeps_rule : (s : St) (r : Rule s) (id : ℕ) (v : V) → v ≡ only v ∷ [] → get_elem? s.views id ≡ some v
      → (lost : ℕ) (h' seen : History T) (owner' : Option (List ℕ)) (hidden' : Hidden) (words' : List ℕ) (hold' : Option Hold) (reads' : Option Reads)
      → IsSharedHistory start.config h' → IsTimed h' → WordsFit packs value_of start (now h') owner' hidden' words'
      → Fits h' (saw lost seen (only v).knows) → HoldFits start (now h') owner' hidden' words' (only v).knows.name hold'
      → ReadsFit start hidden'.owners words' (only v).knows.name reads'
      → ((y : RingKnown T) → IsApartFrom (only v).knows y.knows → IsApartFrom y.knows (only v).knows → IsFine start r.history r.owner r.hidden s.words y → IsFine start h' owner' hidden' words' y)
      → Rule record { words = words'; homes = s.homes; views = set s.views id (turned_by lost (only v) seen hold' reads' ∷ []) }
  keeps_rule s r id v is at lost h' seen owner' hidden' words' hold' reads' is_history timed fit fits holds posts others = record {
    starts = r.starts;
    history = h';
    is_history = is_history;
    timed = timed;
    owner = owner';
    hidden = hidden';
    words = fit;
    seats = changed (λ (v : V). v) (λ (x : RingKnown T). x.knows) (IsFine start h' owner' hidden' words') f (λ _. refl) (λ z. le_refl z.knows.made) s.views id v (turned_by lost x seen hold' reads' ∷ []) at
        (ap (λ (l : V). map f l) (sym is)) own rest r.seats.apart;
  }
    where
      x : RingKnown T
      x = only v

      f : RingKnown T → RingKnown T
      f z = turned_by lost z seen hold' reads'

      place : SeatAt (λ (v : V). v) s.views id 0 x
      place = found_at s id v is at

      own : (a : ℕ) (z : RingKnown T) → get_elem? v a ≡ some z → IsFine start h' owner' hidden' words' (f z)
      own a z p = let same : x ≡ z = (at_only x z a (subst (λ (l : V). get_elem? l a ≡ some z) is p)).1 in
          subst (λ (k : RingKnown T). IsFine start h' owner' hidden' words' (f k)) same (fits, started s r id v is at, holds, posts)

      rest : (i a : ℕ) (z : RingKnown T) → i ≢ id → SeatAt (λ (v : V). v) s.views i a z → IsFine start h' owner' hidden' words' z
      rest i a z ne p = others z (r.seats.apart id 0 i a x z place p (inl (λ q. ne (sym q)))) (r.seats.apart i a id 0 z x p place (inl ne)) (r.seats.fine i a z p)

  -- a step that is the one event of a call keeps the rule, and proves that call to its caller
  unfoldable pub event_with : (s : St) (r : Rule s) (id : ℕ) (v : V) (cs : List (ℕ × Unit {0})) (c : SharedCall T) (y : SharedReply T) → v ≡ only v ∷ [] → get_elem? s.views id ≡ some v
      → (owner' : Option (List ℕ)) (hidden' : Hidden) (words' : List ℕ) (hold' : Option Hold) (reads' : Option Reads)
      → Replies (now r.history) c y → MayCall shared_flow c (only v).knows.name r.history
      → WordsFit packs value_of start (after (now r.history) c y) owner' hidden' words'
      → HoldFits start (after (now r.history) c y) owner' hidden' words' (only v).knows.name hold'
      → ((y' : RingKnown T) → (only v).knows.name ≢ y'.knows.name → HoldFits start (now r.history) r.owner r.hidden s.words y'.knows.name y'.hold
      → HoldFits start (after (now r.history) c y) owner' hidden' words' y'.knows.name y'.hold)
      → ((y' : RingKnown T) → (only v).knows.name ≢ y'.knows.name → ReadsFit start r.hidden.owners s.words y'.knows.name y'.reads → ReadsFit start hidden'.owners words' y'.knows.name y'.reads)
      → ReadsFit start hidden'.owners words' (only v).knows.name reads'
      → Rule record { words = words'; homes = s.homes; views = set s.views id (turned (only v) (more_by (only v) r.history c y) hold' reads' ∷ []) }
      × StepCalls (v, cs) c y (turned (only v) (more_by (only v) r.history c y) hold' reads' ∷ [], cs)
  event_with s r id v cs c y is at owner' hidden' words' hold' reads' replies may fit holds others beside posts = (
    keeps_rule s r id v is at (only v).knows.lost h' h' owner' hidden' words' hold' reads' is_history timed (subst (λ t. WordsFit packs value_of start t owner' hidden' words') next fit)
        (grew_refl x.knows.name h', names) (subst (λ t. HoldFits start t owner' hidden' words' x.knows.name hold') next holds) posts
        (λ z xz zx f. (
          fits_more r.history z.knows e xz.0 zx.1 f.0,
          f.1,
          subst (λ t. HoldFits start t owner' hidden' words' z.knows.name z.hold) next (others z xz.0 f.2),
          beside z xz.0 f.3,
        )),
    (
      record {
        name = refl;
        made = refl;
        lost = le_refl x.knows.lost;
        history = subst (λ (z : RingStart). IsSharedHistory z.config h') (sym (started s r id v is at)) is_history;
        began = length r.history;
        grows = (fits.0.0, ap (λ (l : History T). l ++ e ∷ []) fits.0.1, fits.0.2);
        in_time = (grown_longer x.knows.name x.knows.seen r.history fits.0, before_own r.history e (length r.history) (le_refl (length r.history)));
        timed = timed;
        names = names;
      },
      refl,
      refl,
      refl,
    ),
  )
    where
      x : RingKnown T
      x = only v

      e : HistoryEvent (Said (SharedCall T) (SharedReply T))
      e = event_by x r.history c y

      h' : History T
      h' = r.history ++ e ∷ []

      next : after (now r.history) c y ≡ now h'
      next = sym (after_all-snoc shared_flow (began_as start) r.history e)

      fits : Fits r.history x.knows
      fits = fits_at s r id v is at

      is_history : IsSharedHistory start.config h'
      is_history = IsHistory-snoc shared_flow (began_as start) r.history e r.is_history replies may

      timed : IsTimed h'
      timed = IsTimed-snoc r.history e r.timed (began_now x.knows.name (said c y) r.history)

      names : Rattle.flow_law.specs.history.Growth.NamesOnlyMade x.knows.name x.knows.made h'
      names = fits_own r.history x.knows (length r.history) (said c y) fits

  -- the same, and each place has the same owner and the same word
  unfoldable pub event_step : (s : St) (r : Rule s) (id : ℕ) (v : V) (cs : List (ℕ × Unit {0})) (c : SharedCall T) (y : SharedReply T) → v ≡ only v ∷ [] → get_elem? s.views id ≡ some v
      → (owner' : Option (List ℕ)) (hidden' : Hidden) (words' : List ℕ) (hold' : Option Hold) (reads' : Option Reads)
      → Replies (now r.history) c y → MayCall shared_flow c (only v).knows.name r.history
      → WordsFit packs value_of start (after (now r.history) c y) owner' hidden' words'
      → HoldFits start (after (now r.history) c y) owner' hidden' words' (only v).knows.name hold'
      → ((y' : RingKnown T) → (only v).knows.name ≢ y'.knows.name → HoldFits start (now r.history) r.owner r.hidden s.words y'.knows.name y'.hold
      → HoldFits start (after (now r.history) c y) owner' hidden' words' y'.knows.name y'.hold)
      → Stay s r hidden' words' → ReadsFit start r.hidden.owners s.words (only v).knows.name reads'
      → Rule record { words = words'; homes = s.homes; views = set s.views id (turned (only v) (more_by (only v) r.history c y) hold' reads' ∷ []) }
      × StepCalls (v, cs) c y (turned (only v) (more_by (only v) r.history c y) hold' reads' ∷ [], cs)
  event_step s r id v cs c y is at owner' hidden' words' hold' reads' replies may fit holds others same posts =
      event_with s r id v cs c y is at owner' hidden' words' hold' reads' replies may fit holds others (λ z ne f. fits_then s r hidden' words' z.knows.name z.reads same f) (fits_then s r hidden' words' (only v).knows.name reads' same posts)

  -- a step of no event
  unfoldable pub quiet_with : (s : St) (r : Rule s) (id : ℕ) (v : V) → v ≡ only v ∷ [] → get_elem? s.views id ≡ some v
      → (lost : ℕ) (seen : History T) (owner' : Option (List ℕ)) (hidden' : Hidden) (words' : List ℕ) (hold' : Option Hold) (reads' : Option Reads)
      → Fits r.history (saw lost seen (only v).knows)
      → WordsFit packs value_of start (now r.history) owner' hidden' words'
      → HoldFits start (now r.history) owner' hidden' words' (only v).knows.name hold'
      → ((y' : RingKnown T) → (only v).knows.name ≢ y'.knows.name → HoldFits start (now r.history) r.owner r.hidden s.words y'.knows.name y'.hold
      → HoldFits start (now r.history) owner' hidden' words' y'.knows.name y'.hold)
      → ((y' : RingKnown T) → (only v).knows.name ≢ y'.knows.name → ReadsFit start r.hidden.owners s.words y'.knows.name y'.reads → ReadsFit start hidden'.owners words' y'.knows.name y'.reads)
      → ReadsFit start hidden'.owners words' (only v).knows.name reads'
      → Rule record { words = words'; homes = s.homes; views = set s.views id (turned_by lost (only v) seen hold' reads' ∷ []) }
  quiet_with s r id v is at lost seen owner' hidden' words' hold' reads' fits fit holds others beside posts =
      keeps_rule s r id v is at lost r.history seen owner' hidden' words' hold' reads' r.is_history r.timed fit fits holds posts
      (λ z xz zx f. (f.0, f.1, others z xz.0 f.2, beside z xz.0 f.3))

  -- the same, and each place has the same owner and the same word
  unfoldable pub quiet_by : (s : St) (r : Rule s) (id : ℕ) (v : V) → v ≡ only v ∷ [] → get_elem? s.views id ≡ some v
      → (lost : ℕ) (seen : History T) (owner' : Option (List ℕ)) (hidden' : Hidden) (words' : List ℕ) (hold' : Option Hold) (reads' : Option Reads)
      → Fits r.history (saw lost seen (only v).knows)
      → WordsFit packs value_of start (now r.history) owner' hidden' words'
      → HoldFits start (now r.history) owner' hidden' words' (only v).knows.name hold'
      → ((y' : RingKnown T) → (only v).knows.name ≢ y'.knows.name → HoldFits start (now r.history) r.owner r.hidden s.words y'.knows.name y'.hold
      → HoldFits start (now r.history) owner' hidden' words' y'.knows.name y'.hold)
      → Stay s r hidden' words' → ReadsFit start r.hidden.owners s.words (only v).knows.name reads'
      → Rule record { words = words'; homes = s.homes; views = set s.views id (turned_by lost (only v) seen hold' reads' ∷ []) }
  quiet_by s r id v is at lost seen owner' hidden' words' hold' reads' fits fit holds others same posts =
      quiet_with s r id v is at lost seen owner' hidden' words' hold' reads' fits fit holds others (λ z ne f. fits_then s r hidden' words' z.knows.name z.reads same f) (fits_then s r hidden' words' (only v).knows.name reads' same posts)

  -- the same, and no attempt was lost
  pub quiet_step : (s : St) (r : Rule s) (id : ℕ) (v : V) → v ≡ only v ∷ [] → get_elem? s.views id ≡ some v
      → (seen : History T) (owner' : Option (List ℕ)) (hidden' : Hidden) (words' : List ℕ) (hold' : Option Hold) (reads' : Option Reads)
      → Fits r.history (saw (only v).knows.lost seen (only v).knows)
      → WordsFit packs value_of start (now r.history) owner' hidden' words'
      → HoldFits start (now r.history) owner' hidden' words' (only v).knows.name hold'
      → ((y' : RingKnown T) → (only v).knows.name ≢ y'.knows.name → HoldFits start (now r.history) r.owner r.hidden s.words y'.knows.name y'.hold
      → HoldFits start (now r.history) owner' hidden' words' y'.knows.name y'.hold)
      → Stay s r hidden' words' → ReadsFit start r.hidden.owners s.words (only v).knows.name reads'
      → Rule record { words = words'; homes = s.homes; views = set s.views id (turned (only v) seen hold' reads' ∷ []) }
  quiet_step s r id v is at = quiet_by s r id v is at (only v).knows.lost

  -- the token sees the whole history so far, and has lost some attempts
  pub sees_all : (s : St) (r : Rule s) (id : ℕ) (v : V) (cs : List (ℕ × Unit {0})) (failed : ℕ) (hold' : Option Hold) (reads' : Option Reads) → v ≡ only v ∷ [] → get_elem? s.views id ≡ some v
      → Fits r.history (saw ((only v).knows.lost + failed) r.history (only v).knows) × StepSees failed (v, cs) (turned_by ((only v).knows.lost + failed) (only v) r.history hold' reads' ∷ [], cs)
  sees_all s r id v cs failed hold' reads' is at = let fits = fits_at s r id v is at in
      ((grew_refl (only v).knows.name r.history, fits.1), (record { name = refl; made = refl; lost = refl; grows = fits.0 }, refl, refl))

  -- a step that changes nothing
  pub still : (s : St) (r : Rule s) (i id : ℕ) (v : V) → get_elem? s.views id ≡ some v → Rule record { words = set s.words i (get_or s.words i 0); homes = s.homes; views = set s.views id v }
  still s r i id v at = subst Rule (λ k. record { words = sym (set-get_or s.words i 0) k; homes = s.homes; views = sym (set_again s.views id v at) k }) r

  -- a load changes no word
  pub loaded : (s : St) (i : ℕ) (views : List V) → Rule record { words = s.words; homes = s.homes; views = views } → Rule record { words = set s.words i (get_or s.words i 0); homes = s.homes; views = views }
  loaded s i views r = subst (λ (z : List ℕ). Rule record { words = z; homes = s.homes; views = views }) (sym (set-get_or s.words i 0)) r

  -- word 0 changes, and with it the holder of the lock bit
  pub word0_set : (s : SharedFlowState T) (owner owner' : Option (List ℕ)) (hidden : Hidden) (words : List ℕ) (new : ℕ) → WordsFit packs value_of start s owner hidden words
      → new ≡ length s.emitted * 2 + bit owner' → (owner' ≡ None → hidden.ahead ≡ 0) → WordsFit packs value_of start s owner' hidden (set words 0 new)
  word0_set s owner owner' hidden words new w is rest = let count = w.count in record {
    count = length-set words 0 new ∙ w.count;
    word0 = get_or-set_same words 0 new 0 (omega arith) ∙ is;
    few = w.few;
    made = subst (λ n. n + length s.emitted ≡ s.issued + hidden.ahead) (sym (get_or-set_other words 0 1 new 0 (λ e. absurd (omega arith)))) w.made;
    live = get_or-set_other words 0 2 new 0 (λ e. absurd (omega arith)) ∙ w.live;
    mark = get_or-set_other words 0 3 new 0 (λ e. absurd (omega arith)) ∙ w.mark;
    cells = λ k a b. subst (HasValue packs value_of (values s) k) (sym (head_kept start.width start words 0 new k (omega arith))) (w.cells k a b);
    rested = rest;
    places = places_same start s s hidden.owners words (set words 0 new) (places_after_head start words 0 new (omega arith)) refl (omega arith) (λ u. refl) w.places;
  }
