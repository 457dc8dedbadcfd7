-- From what a core does at each `next` in one entry to a drain of the caller: the first call comes after the history that was found
-- on entering, and the other calls follow at once.
use Rattle.std.proofs.Common.{◌≡◌, ◌≢◌, ℕ, ◌+◌, ◌≤◌, List, [], ◌∷◌, ◌++◌, length, drop, Option, Some, None, Result, Ok, Err, refl, sym, ap, ◌∙◌, subst, inl, arith, le_refl, append_assoc, length-append}
use Rattle.std.proofs.Math.Seq.{drop-append_seam}
use Rattle.std.specs.List.{FoldsTo}
use Rattle.flow_law.specs.declared.fault.FlowFault.{FlowFault}
use Rattle.flow_law.specs.declared.history.HistoryEvent.{HistoryEvent}
use Rattle.flow_law.specs.declared.history.Said.{Said}
use Rattle.flow_law.specs.declared.outcome.Next.{Next}
use Rattle.flow_law.specs.declared.outcome.Next.TheVariants as next
use Rattle.flow_law.specs.declared.outcome.Drained.{Drained}
use Rattle.flow_law.specs.declared.outcome.Drained.TheVariants as drained
use Rattle.flow_law.specs.flow.Draining.{NextsGive, DrainsBy, TakesBy, EndsBy, EndsByCall}
use Rattle.flow_law.specs.history.Growth.{Fits, NamesOnlyMade, adds, event, after_events, knowledge}
use Rattle.flow_law.specs.history.History.{Kind, MayCall, IsSubscription, subscriber, replied}
use Rattle.flow_law.specs.history.Lawful.{Lawful}
use Rattle.flow_law.specs.history.Promise.{said, CallsIn}
use Rattle.flow_law.specs.history.RealTime.{IsTimed}
use Rattle.flow_law.specs.flow.Standing.{Documents, StandsForHistory}
use Rattle.flow_law.specs.history.Tokens.{knowing, numbered_token, origin}
use Rattle.flow_law.proofs.DrainingLemmas.{HasTaken}
use Rattle.flow_law.proofs.Names.{fits_own, grew_refl}
use Rattle.flow_law.proofs.RealTimeLemmas.{grown_longer, before_own, began_now, IsTimed-snoc, after_events-append}
use Rattle.flow_law.proofs.TokenLemmas.{stands_next, may_grows, may_speak, never_gone, subscription_after_next, subscription_met}
use Rattle.flow_gate.specs.Tokens.{GateToken, GateOrigin, SeatState, idle_seat, Finds}
use Rattle.flow_shared.specs.Calls.{HoldsFor, NextsOf, GateNumbered}
use Rattle.flow_shared.specs.Drains.{CoreNexts, TakesInside, said_values, said_end, said_since}
use Rattle.flow_shared.proofs.Inside.{lent_stands}

-- the part of a drain so far, and how it ends
module _ {X T : Type 0} (R : X → Result (Next T) FlowFault → X → Type 0) where
  -- the drains under one entry each, one after the other
  folds_on : {A : Type 0} (P : X → A → X → Type 0) (p q r : X) (xs ys : List A) → FoldsTo P p xs q → FoldsTo P q ys r → FoldsTo P p (xs ++ ys) r
  folds_on P p q r [] ys one others = subst (λ (x : X). FoldsTo P x ys r) (sym one) others
  folds_on P p q r (x ∷ xs) ys one others = (one.0, one.1, folds_on P one.0 q r xs ys one.2 others)

  module _ (n room : ℕ) (old now after : X) (old_list list longer : List T) (h : HasTaken R n old old_list list now) where
    together : (values : List T) → longer ≡ list ++ values → longer ≡ old_list ++ (h.values ++ values)
    together values e = e ∙ ap (λ (l : List T). l ++ values) h.appended ∙ append_assoc old_list h.values values

    pub taken_room : DrainsBy R room now list (Ok drained.Most) longer after → HasTaken R (n + room) old old_list longer after
    taken_room d = record {
      values = h.values ++ d.values;
      taken = folds_on (λ p x q. R p (Ok (next.Value x)) q) old now after h.values d.values h.taken (subst (NextsGive R now d.values) d.ended d.taken);
      appended = together d.values d.appended;
      counted = length-append h.values d.values ∙ omega (arith, h.counted, d.enough.0 refl);
    }

    pub drained_within : (most : ℕ) (result : Result Drained FlowFault) → n + room ≤ most → result ≢ Ok drained.Most → DrainsBy R room now list result longer after → DrainsBy R most old old_list result longer after
    drained_within most result fits other d =
        let counted = length-append h.values d.values in
        record {
          values = h.values ++ d.values;
          last = d.last;
          taken = folds_on (λ p x q. R p (Ok (next.Value x)) q) old now d.last h.values d.values h.taken d.taken;
          ended = d.ended;
          appended = together d.values d.appended;
          within = omega (arith, counted, h.counted, d.within, fits);
          enough = (λ e. absurd (other e), λ e. absurd (other (d.enough.1 (omega (arith, counted, h.counted, d.within, fits, e)))));
        }

module _ {K T S C R : Type 0} (kind : Kind T S C R) (StandsAs : K → S → Type 0) (law : Lawful kind) (flow : GateOrigin S) (n : ℕ) where
  -- the caller still is a subscriber, and the core stands for what it has seen
  pub record Stays (t : GateToken (Said C R)) (core : K) : Type 0 where
    pub stood : StandsForHistory kind StandsAs flow.first core t.knows.seen
    pub subscribed : IsSubscription kind t.knows n
    pub names : NamesOnlyMade t.knows.name t.knows.made t.knows.seen
    pub timed : IsTimed t.knows.seen

  abbrev pub seeing : GateToken (Said C R) → ℕ → List (HistoryEvent (Said C R)) → GateToken (Said C R)
  seeing t lost history = knowing t (knowledge t.knows.name t.knows.made lost history)

  -- one more call of a caller that found this history
  module _ (before : GateToken (Said C R)) (lost : ℕ) (history : List (HistoryEvent (Said C R))) (core after_core : K) (r : R) (more : before.knows.lost ≤ lost) (fits : Fits history before.knows) (timed : IsTimed history)
      (stood : StandsForHistory kind StandsAs flow.first core history) (subscribed : IsSubscription kind before.knows n) (documents : Documents kind StandsAs core (kind.take_next n) r after_core) where
    abbrev after : GateToken (Said C R)
    after = seeing before lost (history ++ event before.knows.name (length history) (said (kind.take_next n) r) ∷ [])

    may : MayCall kind (kind.take_next n) before.knows.name history
    may = may_grows kind law flow.first (kind.take_next n) before.knows.name before.knows.seen history stood.0 fits.0
        (may_speak kind law (kind.take_next n) (subscriber n) before.knows.name before.knows.seen (law.next_speaks n) subscribed.0)

    stands : StandsForHistory kind StandsAs flow.first after_core after.knows.seen
    stands = stands_next kind StandsAs flow.first core after_core history before.knows.name (length history) (kind.take_next n) r stood documents may

    calls : CallsIn kind flow.first before (kind.take_next n) r after
    calls = (
      refl,
      record {
        name = refl;
        made = refl;
        lost = more;
        history = stands.0;
        began = length history;
        grows = (fits.0.0, ap (λ (l : List (HistoryEvent (Said C R))). l ++ event before.knows.name (length history) (said (kind.take_next n) r) ∷ []) fits.0.1, fits.0.2);
        in_time = (grown_longer before.knows.name before.knows.seen history fits.0, before_own history last (length history) (le_refl (length history)));
        timed = IsTimed-snoc history last timed (began_now before.knows.name (said (kind.take_next n) r) history);
        names = fits_own history before.knows (length history) (said (kind.take_next n) r) fits;
      },
    )
      where
        last : HistoryEvent (Said C R)
        last = event before.knows.name (length history) (said (kind.take_next n) r)

    stays : Stays after after_core
    stays = record { stood = stands; subscribed = subscription_after_next kind law flow.first before.knows after.knows n r calls.1 subscribed; names = calls.1.names; timed = calls.1.timed }

  fits_itself : (t : GateToken (Said C R)) (core : K) → Stays t core → Fits t.knows.seen t.knows
  fits_itself t core s = (grew_refl t.knows.name t.knows.seen, s.names)

  abbrev pub adding : GateToken (Said C R) → List (Said C R) → GateToken (Said C R)
  adding t more = knowing t (adds more t.knows)

  -- values in a row, with no other caller between
  abbrev Gives : (t : GateToken (Said C R)) (values : List T) (end : GateToken (Said C R)) (core : K) → Type 0
  Gives t values end core = NextsGive (NextsOf kind flow) (numbered_token t n) values (numbered_token end n) × Stays end core

  gives : (values : List T) (t : GateToken (Said C R)) (core last : K) → Stays t core → NextsGive (CoreNexts kind n StandsAs) core values last
      → Gives t values (knowing t (adds (said_values kind n values) t.knows)) last
  gives [] t core last s taken =
      (refl, subst (Stays t) taken s)
  gives (v ∷ values) t core last s taken =
      let one = calls t t.knows.lost t.knows.seen core taken.0 (kind.received (next.Value v)) (omega arith) (fits_itself t core s) s.timed s.stood s.subscribed taken.1 in
      let here = stays t t.knows.lost t.knows.seen core taken.0 (kind.received (next.Value v)) (omega arith) (fits_itself t core s) s.timed s.stood s.subscribed taken.1 in
      let e = event t.knows.name (length t.knows.seen) (said (kind.take_next n) (kind.received (next.Value v))) in
      let middle = seeing t t.knows.lost (t.knows.seen ++ e ∷ []) in
      let others = gives values middle taken.0 last here taken.2 in
      ((numbered_token middle n, (one, refl), others.0), others.1)

  -- the call that ended the drain of a caller that found this history
  module _ (before : GateToken (Said C R)) (lost : ℕ) (history : List (HistoryEvent (Said C R))) (core : K) (more : before.knows.lost ≤ lost) (fits : Fits history before.knows) (timed : IsTimed history)
      (stood : StandsForHistory kind StandsAs flow.first core history) (subscribed : IsSubscription kind before.knows n) where
    abbrev Ends : Result Drained FlowFault → K → Type 0
    Ends result new =
        let end = seeing before lost (after_events before.knows.name (said_end kind n result) history) in
        EndsByCall (NextsOf kind flow) (numbered_token before n) result (numbered_token end n) × Stays end new

    ends_by : (answer : Result (Next T) FlowFault) (new : K) → CoreNexts kind n StandsAs core answer new
        → NextsOf kind flow (numbered_token before n) answer (numbered_token (seeing before lost (history ++ event before.knows.name (length history) (said (kind.take_next n) (replied kind kind.received answer)) ∷ [])) n)
        × Stays (seeing before lost (history ++ event before.knows.name (length history) (said (kind.take_next n) (replied kind kind.received answer)) ∷ [])) new
    ends_by answer new documents =
        let r = replied kind kind.received answer in
        ((calls before lost history core new r more fits timed stood subscribed documents, refl), stays before lost history core new r more fits timed stood subscribed documents)

    ends : (result : Result Drained FlowFault) (new : K) → EndsByCall (CoreNexts kind n StandsAs) core result new → result ≢ Ok drained.Most → Ends result new
    ends (Ok drained.Most) new ended other = absurd (other refl)
    ends (Ok drained.Empty) new ended other = ends_by (Ok next.Empty) new ended
    ends (Ok drained.Gone) new ended other = ends_by (Ok next.Gone) new ended
    ends (Err fault) new ended other = ends_by (Err fault) new ended

  -- the same after values of its own
  ends_after : (result : Result Drained FlowFault) (t : GateToken (Said C R)) (core new : K) → Stays t core → EndsByCall (CoreNexts kind n StandsAs) core result new
      → EndsByCall (NextsOf kind flow) (numbered_token t n) result (numbered_token (adding t (said_end kind n result)) n) × Stays (adding t (said_end kind n result)) new
  ends_after (Ok drained.Most) t core new s ended =
      (refl, subst (Stays t) ended s)
  ends_after (Ok drained.Empty) t core new s ended = ends t t.knows.lost t.knows.seen core (omega arith) (fits_itself t core s) s.timed s.stood s.subscribed (Ok drained.Empty) new ended (λ e. cc)
  ends_after (Ok drained.Gone) t core new s ended = ends t t.knows.lost t.knows.seen core (omega arith) (fits_itself t core s) s.timed s.stood s.subscribed (Ok drained.Gone) new ended (λ e. cc)
  ends_after (Err fault) t core new s ended = ends t t.knows.lost t.knows.seen core (omega arith) (fits_itself t core s) s.timed s.stood s.subscribed (Err fault) new ended (λ e. cc)

  all_seen : (name : List ℕ) (history : List (HistoryEvent (Said C R))) (e : Said C R) (values end : List (Said C R))
      → after_events name end (after_events name values (history ++ event name (length history) e ∷ [])) ≡ after_events name ((e ∷ values) ++ end) history
  all_seen name history e values end = sym (after_events-append name (e ∷ values) end history)

  -- all calls of a caller that found this history
  module _ (before : GateToken (Said C R)) (lost : ℕ) (history : List (HistoryEvent (Said C R))) (core : K) (more : before.knows.lost ≤ lost) (fits : Fits history before.knows) (timed : IsTimed history)
      (stood : StandsForHistory kind StandsAs flow.first core history) (subscribed : IsSubscription kind before.knows n) where
    -- what it has seen then
    abbrev pub seen_after : List T → Result Drained FlowFault → GateToken (Said C R)
    seen_after values result = seeing before lost (after_events before.knows.name (said_values kind n values ++ said_end kind n result) history)

    record Draws (values : List T) (result : Result Drained FlowFault) (new : K) : Type 0 where
      last : GateToken (Said C R)
      taken : NextsGive (NextsOf kind flow) (numbered_token before n) values (numbered_token last n)
      ended : EndsByCall (NextsOf kind flow) (numbered_token last n) result (numbered_token (seen_after values result) n)
      stays : Stays (seen_after values result) new

    draws : (values : List T) (result : Result Drained FlowFault) (last new : K) → NextsGive (CoreNexts kind n StandsAs) core values last → EndsByCall (CoreNexts kind n StandsAs) last result new
        → (values ≡ [] → result ≢ Ok drained.Most) → Draws values result new
    draws [] result last new taken ended other =
        let e = ends before lost history core more fits timed stood subscribed result new (subst (λ (k : K). EndsByCall (CoreNexts kind n StandsAs) k result new) (sym taken) ended) (other refl) in
        record { last = before; taken = refl; ended = e.0; stays = e.1 }
    draws (v ∷ values) result last new taken ended other =
        let r = kind.received (next.Value v) in
        let one = calls before lost history core taken.0 r more fits timed stood subscribed taken.1 in
        let here = stays before lost history core taken.0 r more fits timed stood subscribed taken.1 in
        let middle = seeing before lost (history ++ event before.knows.name (length history) (said (kind.take_next n) r) ∷ []) in
        let others = gives values middle taken.0 last here taken.2 in
        let then = adding middle (said_values kind n values) in
        let e = subst (λ (h : List (HistoryEvent (Said C R))). EndsByCall (NextsOf kind flow) (numbered_token then n) result (numbered_token (seeing before lost h) n) × Stays (seeing before lost h) new)
        (all_seen before.knows.name history (said (kind.take_next n) r) (said_values kind n values) (said_end kind n result)) (ends_after result then last new others.1 ended) in
        record { last = then; taken = (numbered_token middle n, (one, refl), others.0); ended = e.0; stays = e.1 }

    module _ (most : ℕ) (some : 1 ≤ most) (old_list new_list : List T) (result : Result Drained FlowFault) (new : K) (t : TakesBy (CoreNexts kind n StandsAs) most core old_list result new_list new) where
      drawn : Draws t.values result new
      drawn = draws t.values result t.last new t.taken t.ended (λ none all. absurd (omega (arith, some, ap length none, t.enough.0 all)))

      pub drains : DrainsBy (NextsOf kind flow) most (numbered_token before n) old_list result new_list (numbered_token (seen_after t.values result) n)
      drains = record { values = t.values; last = numbered_token drawn.last n; taken = drawn.taken; ended = by_call result drawn.ended; appended = t.appended; within = t.within; enough = t.enough }
        where
          by_call : (r : Result Drained FlowFault) → EndsByCall (NextsOf kind flow) (numbered_token drawn.last n) r (numbered_token (seen_after t.values result) n) → EndsBy (NextsOf kind flow) (numbered_token drawn.last n) r (numbered_token (seen_after t.values result) n)
          by_call (Ok end) e = e
          by_call (Err fault) e = inl e

      pub subscribed_still : IsSubscription kind (seen_after t.values result).knows n
      subscribed_still = drawn.stays.subscribed

      pub stands_then : StandsForHistory kind StandsAs flow.first new (seen_after t.values result).knows.seen
      stands_then = drawn.stays.stood

-- what was appended to a list
pub appended_since : {T : Type 0} (old new values : List T) → new ≡ old ++ values → drop (length old) new ≡ values
appended_since old new values e = ap (drop (length old)) e ∙ drop-append_seam old values

-- a caller that entered has seen a history whose calls began in time
pub timed_inside : {K T S C R : Type 0} (kind : Kind T S C R) (StandsAs : K → S → Type 0) (start : K → S) (gate : GateOrigin K) (before : GateToken (Said C R)) (seat : SeatState K (Said C R))
    → Finds (λ first state h. StandsForHistory kind StandsAs (start first) state h) gate before seat → IsTimed seat.token.knows.seen
timed_inside {C = C} {R = R} kind StandsAs start gate before seat f = subst (λ (t : GateToken (Said C R)). IsTimed t.knows.seen) (sym f.token) f.timed

-- A caller inside, from the core that was lent to it up to leaving: `since` is what the evidence says of the list before.
module _ {K T S C R : Type 0} (kind : Kind T S C R) (StandsAs : K → S → Type 0) (law : Lawful kind) (n : ℕ) where
  module _ (first : S) (seat : SeatState K (Said C R)) (lent new : K) (holds : HoldsFor kind StandsAs first seat) (is : seat.held ≡ Some lent) (subscribed : IsSubscription kind seat.token.knows n)
      (names : NamesOnlyMade seat.token.knows.name seat.token.knows.made seat.token.knows.seen) (timed : IsTimed seat.token.knows.seen)
      (most : ℕ) (some : 1 ≤ most) (old_list since new_list : List T) (same : since ≡ old_list) (result : Result Drained FlowFault) (t : TakesBy (CoreNexts kind n StandsAs) most lent old_list result new_list new) where
    given : drop (length since) new_list ≡ t.values
    given = appended_since since new_list t.values (t.appended ∙ ap (λ (l : List T). l ++ t.values) (sym same))

    pub may_leave : StandsForHistory kind StandsAs first new (after_events seat.token.knows.name (said_since kind n since new_list result) seat.token.knows.seen)
    may_leave = subst (λ (values : List T). StandsForHistory kind StandsAs first new (after_events seat.token.knows.name (said_values kind n values ++ said_end kind n result) seat.token.knows.seen)) (sym given)
        (stands_then kind StandsAs law (origin seat.token.table_id first) n seat.token seat.token.knows.lost seat.token.knows.seen lent (omega arith) (grew_refl seat.token.knows.name seat.token.knows.seen, names) timed
        (lent_stands kind StandsAs first seat lent holds is) subscribed most some old_list new_list result new t)

    pub has_taken : (after : SeatState K (Said C R)) → after ≡ idle_seat (knowing seat.token (adds (said_since kind n since new_list result) seat.token.knows)) → TakesInside kind n StandsAs most seat old_list result new_list after
    has_taken _ left = record {
      state = lent;
      held = is;
      core = new;
      takes = t;
      left = left ∙ ap (λ (values : List T). idle_seat (knowing seat.token (adds (said_values kind n values ++ said_end kind n result) seat.token.knows))) given;
    }

  -- the caller that entered, and the drain that follows
  module _ (start : K → S) (flow : GateOrigin S) (gate : GateOrigin K) (before : GateToken (Said C R)) (seat : SeatState K (Said C R)) (is : origin gate.table_id (start gate.first) ≡ flow)
      (f : Finds (λ first state h. StandsForHistory kind StandsAs (start first) state h) gate before seat) (subscribed : IsSubscription kind before.knows n) where
    found : StandsForHistory kind StandsAs flow.first f.state f.history
    found = subst (λ (o : GateOrigin S). StandsForHistory kind StandsAs o.first f.state f.history) is f.stood

    pub names_inside : NamesOnlyMade seat.token.knows.name seat.token.knows.made seat.token.knows.seen
    names_inside = subst (λ (t : GateToken (Said C R)). NamesOnlyMade t.knows.name t.knows.made t.knows.seen) (sym f.token) f.fits.1

    pub subscribed_inside : IsSubscription kind seat.token.knows n
    subscribed_inside = subst (λ (t : GateToken (Said C R)). IsSubscription kind t.knows n) (sym f.token) (subscription_met kind law flow.first before.knows n f.history found.0 f.fits subscribed)

    module _ (lost : before.knows.lost ≤ seat.token.knows.lost) (most : ℕ) (some : 1 ≤ most) (old_list new_list : List T) (result : Result Drained FlowFault) (after : SeatState K (Said C R)) (i : TakesInside kind n StandsAs most seat old_list result new_list after) where
      same_state : i.state ≡ f.state
      same_state = some_is (sym i.held ∙ f.held)
        where
          some_is : {a b : K} → Some a ≡ Some b → a ≡ b
          some_is e = cc

      stood : StandsForHistory kind StandsAs flow.first i.state f.history
      stood = subst (λ (k : K). StandsForHistory kind StandsAs flow.first k f.history) (sym same_state) found

      abbrev end : GateToken (Said C R)
      end = seen_after kind StandsAs law flow n before seat.token.knows.lost f.history i.state lost f.fits f.timed stood subscribed i.takes.values result

      is_end : after.token ≡ end
      is_end = ap (λ (z : SeatState K (Said C R)). z.token) i.left ∙ ap (λ (t : GateToken (Said C R)). knowing t (adds (said_values kind n i.takes.values ++ said_end kind n result) t.knows)) f.token

      pub same_flow : after.token.table_id ≡ before.table_id
      same_flow = ap (λ (t : GateToken (Said C R)). t.table_id) is_end

      pub is_left : after.held ≡ None
      is_left = ap (λ (z : SeatState K (Said C R)). z.held) i.left

      pub subscribed_after : IsSubscription kind after.token.knows n
      subscribed_after = subst (λ (t : GateToken (Said C R)). IsSubscription kind t.knows n) (sym is_end)
          (subscribed_still kind StandsAs law flow n before seat.token.knows.lost f.history i.state lost f.fits f.timed stood subscribed most some old_list new_list result i.core i.takes)

      pub drains_by : DrainsBy (NextsOf kind flow) most (numbered_token before n) old_list result new_list (numbered_token after.token n)
      drains_by = subst (λ (t : GateToken (Said C R)). DrainsBy (NextsOf kind flow) most (numbered_token before n) old_list result new_list (numbered_token t n)) (sym is_end)
          (drains kind StandsAs law flow n before seat.token.knows.lost f.history i.state lost f.fits f.timed stood subscribed most some old_list new_list result i.core i.takes)

-- a subscription stays one, so a drain never finds it gone
module _ {T S C R : Type 0} (kind : Kind T S C R) (law : Lawful kind) (flow : GateOrigin S) where
  keeps : (values : List T) (old last : GateNumbered (Said C R)) → NextsGive (NextsOf kind flow) old values last → IsSubscription kind old.token.knows old.number → IsSubscription kind last.token.knows last.number
  keeps [] old last taken subscribed = subst (λ (s : GateNumbered (Said C R)). IsSubscription kind s.token.knows s.number) taken subscribed
  keeps (v ∷ values) old last taken subscribed =
      let still = subscription_after_next kind law flow.first old.token.knows taken.0.token.knows old.number (kind.received (next.Value v)) taken.1.0.1 subscribed in
      keeps values taken.0 last taken.2 (subst (IsSubscription kind taken.0.token.knows) (sym taken.1.1) still)

  pub never_ends_gone : (most : ℕ) (old new : GateNumbered (Said C R)) (old_list new_list : List T) (result : Result Drained FlowFault) → DrainsBy (NextsOf kind flow) most old old_list result new_list new
      → IsSubscription kind old.token.knows old.number → result ≢ Ok drained.Gone
  never_ends_gone most old new old_list new_list result d subscribed gone =
      let g = subst (λ (r : Result Drained FlowFault). DrainsBy (NextsOf kind flow) most old old_list r new_list new) gone d in
      never_gone kind law flow.first g.last.token.knows new.token.knows g.last.number g.ended.0.1 (keeps g.values old g.last g.taken subscribed)
