-- From the contract of entering a gate and that of one call of a core to the contract of a call of a flow.
use Rattle.std.proofs.Common.{◌≡◌, ℕ, ◌≤◌, List, [], ◌∷◌, ◌++◌, length, le_refl, refl, sym, ap, ◌∙◌, subst, arith, Option, Some, None, IfSome}
use Rattle.flow_law.specs.declared.history.HistoryEvent.{HistoryEvent}
use Rattle.flow_law.specs.declared.history.Said.{Said}
use Rattle.flow_law.specs.history.Growth.{event, knowledge, adds, GrowsByOthers}
use Rattle.flow_law.specs.history.History.{Kind, IsHistory, MayCall}
use Rattle.flow_law.specs.history.Lawful.{Lawful}
use Rattle.flow_law.specs.history.Promise.{said, AddsOne, CallsIn}
use Rattle.flow_law.specs.history.RealTime.{IsTimed}
use Rattle.flow_law.specs.flow.Standing.{Documents, StandsForHistory}
use Rattle.flow_law.specs.history.Tokens.{knowing, origin, subscription_name}
use Rattle.flow_law.proofs.Names.{fits_own}
use Rattle.flow_law.proofs.Owners.{history_left}
use Rattle.flow_law.proofs.RealTimeLemmas.{grown_longer, before_own, began_now, IsTimed-snoc, IsTimed-seen}
use Rattle.flow_law.proofs.TokenLemmas.{stands_next, may_grows}
use Rattle.flow_gate.specs.Tokens.{GateToken, GateOrigin, SeatState, idle_seat, Finds, HasStood}
use Rattle.flow_shared.specs.Calls.{HoldsFor, SaysIn}

-- K is the type of what a gate guards
module _ {K T S C R : Type 0} (kind : Kind T S C R) (StandsAs : K → S → Type 0) where
  -- t is the token of a caller inside, x the state as it was lent, y what it became; c' is the call as it was named on leaving
  module _ (first : S) (t : GateToken (Said C R)) (x y : K) (c c' : C) (r : R) (stood : StandsForHistory kind StandsAs first x t.knows.seen) (named : c' ≡ c)
      (documents : Documents kind StandsAs x c r y) (may : MayCall kind c t.knows.name t.knows.seen) where
    both : StandsForHistory kind StandsAs first y (t.knows.seen ++ event t.knows.name (length t.knows.seen) (said c r) ∷ [])
    both = stands_next kind StandsAs first x y t.knows.seen t.knows.name (length t.knows.seen) c r stood documents may

    pub may_leave : StandsForHistory kind StandsAs first y (t.knows.seen ++ event t.knows.name (length t.knows.seen) (said c' r) ∷ [])
    may_leave = subst (λ (d : C). StandsForHistory kind StandsAs first y (t.knows.seen ++ event t.knows.name (length t.knows.seen) (said d r) ∷ [])) (sym named) both

    pub has_said : (after : SeatState K (Said C R)) → after ≡ idle_seat (knowing t (adds (said c' r ∷ []) t.knows)) → SaysIn kind first t c r after
    has_said after is = (is ∙ ap (λ (d : C). idle_seat (knowing t (adds (said d r ∷ []) t.knows))) named, both.0)

  -- the state that a seat lends stands for what its token has seen
  pub lent_stands : (first : S) (seat : SeatState K (Said C R)) (x : K) → HoldsFor kind StandsAs first seat → seat.held ≡ Some x → StandsForHistory kind StandsAs first x seat.token.knows.seen
  lent_stands first seat x holds lent =
      let same : holds.0 ≡ x = some_is (sym holds.1 ∙ lent) in
      subst (λ (k : K). StandsForHistory kind StandsAs first k seat.token.knows.seen) same holds.2
    where
      some_is : {a b : K} → Some a ≡ Some b → a ≡ b
      some_is e = cc

-- `start` is the state that a new one stands for
module _ {K T S C R : Type 0} (kind : Kind T S C R) (start : K → S) (StandsAs : K → S → Type 0) where
  -- the guarded state stands for this history from the first one on
  abbrev stands : K → K → List (HistoryEvent (Said C R)) → Type 0
  stands first core h = StandsForHistory kind StandsAs (start first) core h

  -- some core stood for a history that begins with what the token has seen: so that is a history, too
  pub has_seen : (flow : GateOrigin S) (gate : GateOrigin K) (t : GateToken (Said C R)) → origin gate.table_id (start gate.first) ≡ flow → HasStood stands gate t → IsHistory kind flow.first t.knows.seen
  has_seen flow gate t is stood = let of_gate = stood.1 in let grown = of_gate.2.0 in
      history_left kind flow.first t.knows.seen grown.0 (subst (λ (z : S × List (HistoryEvent (Said C R))). IsHistory kind z.0 z.1) (λ i. ((is i).first, grown.1 i)) of_gate.1.0)

  -- its calls began in time
  pub seen_in_time : (gate : GateOrigin K) (t : GateToken (Said C R)) → HasStood stands gate t → IsTimed t.knows.seen
  seen_in_time gate t stood = let of_gate = stood.1 in IsTimed-seen t.knows.name t.knows.seen of_gate.0 of_gate.2.0 of_gate.3

  -- a caller that enters, makes a call and leaves
  module _ (law : Lawful kind) (flow : GateOrigin S) (gate : GateOrigin K) (before : GateToken (Said C R)) (seat : SeatState K (Said C R)) (is : origin gate.table_id (start gate.first) ≡ flow) (f : Finds stands gate before seat) where
    first_is : start gate.first ≡ flow.first
    first_is = ap (λ (o : GateOrigin S). o.first) is

    pub found : HoldsFor kind StandsAs flow.first seat
    found = (f.state, f.held, subst (λ (z : S × GateToken (Said C R)). StandsForHistory kind StandsAs z.0 f.state z.1.knows.seen) (λ i. (first_is i, sym f.token i)) f.stood)

    found_name : seat.token.knows.name ≡ before.knows.name
    found_name = ap (λ (t : GateToken (Said C R)). t.knows.name) f.token

    found_grows : GrowsByOthers before.knows.name before.knows.seen seat.token.knows.seen
    found_grows = subst (GrowsByOthers before.knows.name before.knows.seen) (sym (ap (λ (t : GateToken (Said C R)). t.knows.seen) f.token)) f.fits.0

    same_name : subscription_name before.knows ≡ subscription_name seat.token.knows
    same_name = ap (λ (t : GateToken (Said C R)). subscription_name t.knows) (sym f.token)

    -- a call that the token may make is one that it may still make inside
    pub may_inside : (c : List ℕ → C) → MayCall kind (c (subscription_name before.knows)) before.knows.name before.knows.seen
        → MayCall kind (c (subscription_name seat.token.knows)) seat.token.knows.name seat.token.knows.seen
    may_inside c may = subst (λ (z : List ℕ × List ℕ). MayCall kind (c z.0) z.1 seat.token.knows.seen) (λ i. (same_name i, sym found_name i))
        (may_grows kind law flow.first (c (subscription_name before.knows)) before.knows.name before.knows.seen seat.token.knows.seen found.2.0 found_grows may)

    -- A call of the state that the seat lends made x into y. c' is the call as it was named on leaving.
    module _ (c : List ℕ → C) (x y : K) (r : R) (lent : seat.held ≡ Some x) (documents : Documents kind StandsAs x (c (subscription_name seat.token.knows)) r y)
        (may : MayCall kind (c (subscription_name before.knows)) before.knows.name before.knows.seen) (c' : C) (named : c' ≡ c (subscription_name seat.token.knows)) where
      pub stands_inside : StandsForHistory kind StandsAs (start gate.first) y (seat.token.knows.seen ++ event seat.token.knows.name (length seat.token.knows.seen) (said c' r) ∷ [])
      stands_inside = subst (λ (s : S). StandsForHistory kind StandsAs s y (seat.token.knows.seen ++ event seat.token.knows.name (length seat.token.knows.seen) (said c' r) ∷ [])) (sym first_is)
          (may_leave kind StandsAs flow.first seat.token x y (c (subscription_name seat.token.knows)) c' r (lent_stands kind StandsAs flow.first seat x found lent) named documents (may_inside c may))

      pub says_inside : (after : SeatState K (Said C R)) → after ≡ idle_seat (knowing seat.token (adds (said c' r ∷ []) seat.token.knows)) → SaysIn kind flow.first seat.token (c (subscription_name seat.token.knows)) r after
      says_inside = has_said kind StandsAs flow.first seat.token x y (c (subscription_name seat.token.knows)) c' r (lent_stands kind StandsAs flow.first seat x found lent) named documents (may_inside c may)

    module _ (c : List ℕ → C) (r : R) (after : SeatState K (Said C R)) (says : SaysIn kind flow.first seat.token (c (subscription_name seat.token.knows)) r after) where
      abbrev call : C
      call = c (subscription_name before.knows)

      said_here : SaysIn kind flow.first seat.token call r after
      said_here = subst (λ (name : List ℕ). SaysIn kind flow.first seat.token (c name) r after) (sym same_name) says

      -- the token that entered, with the history found there
      abbrev entered : GateToken (Said C R)
      entered = knowing before (knowledge before.knows.name before.knows.made seat.token.knows.lost f.history)

      adds_one : before.knows.lost ≤ seat.token.knows.lost → AddsOne (IsHistory kind flow.first) before.knows call r (adds (said call r ∷ []) entered.knows)
      adds_one lost = record {
        name = refl;
        made = refl;
        lost = lost;
        history = subst (λ (t : GateToken (Said C R)). IsHistory kind flow.first (t.knows.seen ++ event t.knows.name (length t.knows.seen) (said call r) ∷ [])) f.token said_here.1;
        began = length f.history;
        grows = (f.fits.0.0, ap (λ (l : List (HistoryEvent (Said C R))). l ++ event before.knows.name (length f.history) (said call r) ∷ []) f.fits.0.1, f.fits.0.2);
        in_time = (grown_longer before.knows.name before.knows.seen f.history f.fits.0, before_own f.history last (length f.history) (le_refl (length f.history)));
        timed = IsTimed-snoc f.history last f.timed (began_now before.knows.name (said call r) f.history);
        names = fits_own f.history before.knows (length f.history) (said call r) f.fits;
      }
        where
          last : HistoryEvent (Said C R)
          last = event before.knows.name (length f.history) (said call r)

      is_after : after.token ≡ knowing entered (adds (said call r ∷ []) entered.knows)
      is_after = ap (λ (z : SeatState K (Said C R)). z.token) said_here.0 ∙ ap (λ (t : GateToken (Said C R)). knowing t (adds (said call r ∷ []) t.knows)) f.token

      pub calls : before.knows.lost ≤ seat.token.knows.lost → CallsIn kind flow.first before call r after.token
      calls lost = subst (λ (t : GateToken (Said C R)). CallsIn kind flow.first before call r t) (sym is_after) (refl, adds_one lost)

      -- no exchange is lost after entering
      pub lost_as_found : after.token.knows.lost ≡ seat.token.knows.lost
      lost_as_found = ap (λ (t : GateToken (Said C R)). t.knows.lost) is_after

      -- the caller is outside again
      pub is_left : after.held ≡ None
      is_left = ap (λ (z : SeatState K (Said C R)). z.held) said_here.0

-- a fact about the value of an option, weakened
pub if_some : {X : Type 0} {P Q : X → Type 0} → ((x : X) → P x → Q x) → (o : Option X) → IfSome o P → IfSome o Q
if_some more (Some x) h = more x h
if_some more None h = tt
