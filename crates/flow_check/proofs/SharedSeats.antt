-- What a checker of shared flows keeps of each caller, and the subscribers of the documented flow. Begin with `SeatsAs`.
use Rattle.std.proofs.Common.{◌≡◌, ◌≢◌, ℕ, ◌+◌, ◌<◌, ◌≤◌, false, ◌==◌, cond, List, [], ◌∷◌, length, set, map, Option, Some, None, refl, sym, ap, ◌∙◌, subst, inl, inr, arith, ne_eqb, length-set}
use Rattle.std.specs.Prelude.{IsSome, is_some}
use Rattle.std.proofs.lemmas.Bool.{false≢true}
use Rattle.std.proofs.lemmas.Bool.Decides.{eqb_tells}
use Rattle.std.proofs.lemmas.List.{length-map}
use Rattle.std.proofs.lemmas.Option.{same_Some}
use Rattle.flow_law.specs.history.History.{Owner}
use Rattle.flow_law.specs.declared.states.Subscriber.{Subscriber}
use Rattle.flow_law.specs.flow.SharedFlow.{position_of, stand_at, without, own_of}
use Rattle.flow_law.proofs.Rows.{split, position-without, position-without_other, own-without_other, own-map}
use Rattle.flow_check.specs.Subscribed.{kept_of, present}
use Rattle.flow_check.specs.SharedMachine.{most_lag, own_left}
use Rattle.flow_check.proofs.KeptLemmas.{kept_at, kept-set_same, kept-set_other, present-set_same, present-set_fewer}
use Rattle.flow_check.proofs.LagLemmas.{lag_upto, kept-map, present-map, own-set_same, own-set_other}
use Rattle.flow_check.proofs.StateSeats.{IsOwn, other_number}

abbrev pub Subscribers : Type 0
Subscribers = List (Subscriber ℕ)

-- The caller has a subscription with this lag: one of its numbers is a subscriber's, and no other one is.
pub record IsSeated (owners : List Owner) (us : Subscribers) (len caller lag : ℕ) (own : List ℕ) : Type 0 where
  pub number : ℕ
  pub is_own : IsOwn caller number owners
  pub position : ℕ
  pub stands : position_of number us ≡ Some position
  pub reach : position + lag ≡ len
  pub left : own_of number us ≡ own
  pub alone : (u : ℕ) → IsOwn caller u owners → u ≢ number → position_of u us ≡ None

-- What is kept of a caller: a subscription, or that it has none.
abbrev pub Seat : List Owner → Subscribers → ℕ → ℕ → Option ℕ → List ℕ → Type 0
Seat owners us len caller None own = (u : ℕ) → IsOwn caller u owners → position_of u us ≡ None
Seat owners us len caller (Some lag) own = IsSeated owners us len caller lag own

-- what is kept for each caller stands for these subscribers of a flow that emitted `len` values
pub record SeatsAs (size : ℕ) (lags : List (Option ℕ)) (owns : List (List ℕ)) (us : Subscribers) (len : ℕ) (owners : List Owner) : Type 0 where
  pub lags_each : length lags ≡ size
  pub owns_each : length owns ≡ size
  pub count : length us ≡ present lags
  pub seats : (caller : ℕ) → caller < size → Seat owners us len caller (kept_of caller lags) (own_left caller owns)
  -- each subscriber's number is a caller's
  pub belongs : (u : ℕ) → IsSome (position_of u us) → (caller : ℕ) × (caller < size) × IsOwn caller u owners

-- ---- each position and each lag changes

pub record Moves (us vs : Subscribers) (f : ℕ → ℕ) : Type 0 where
  pub here : (u p : ℕ) → position_of u us ≡ Some p → position_of u vs ≡ Some (f p)
  pub gone : (u : ℕ) → position_of u us ≡ None → position_of u vs ≡ None
  pub own : (u : ℕ) → own_of u vs ≡ own_of u us
  pub long : length vs ≡ length us

pub moves_none : (us : Subscribers) → Moves us us (λ p. p)
moves_none us = record { here = λ u p e. e; gone = λ u e. e; own = λ u. refl; long = refl }

all_here : (f : ℕ → ℕ) (us : Subscribers) (u p : ℕ) → position_of u us ≡ Some p → position_of u (map (λ w. stand_at (f w.position) w) us) ≡ Some (f p)
all_here f [] u p e = absurd (cc)
all_here f (w ∷ us) u p e = split (w.number == u) (λ t. cond t (Some w.position) (position_of u us) ≡ Some p
    → cond t (Some (f w.position)) (position_of u (map (λ w. stand_at (f w.position) w) us)) ≡ Some (f p))
    (λ _ e. ap (λ (q : ℕ). Some (f q)) (same_Some w.position p e)) (λ _ e. all_here f us u p e) e

all_gone : (f : ℕ → ℕ) (us : Subscribers) (u : ℕ) → position_of u us ≡ None → position_of u (map (λ w. stand_at (f w.position) w) us) ≡ None
all_gone f [] u e = refl
all_gone f (w ∷ us) u e = split (w.number == u) (λ t. cond t (Some w.position) (position_of u us) ≡ None
    → cond t (Some (f w.position)) (position_of u (map (λ w. stand_at (f w.position) w) us)) ≡ None)
    (λ _ e. absurd (cc)) (λ _ e. all_gone f us u e) e

pub moves_all : (f : ℕ → ℕ) (us : Subscribers) → Moves us (map (λ w. stand_at (f w.position) w) us) f
moves_all f us = record { here = all_here f us; gone = all_gone f us; own = λ u. own-map f u us; long = length-map us (λ (w : Subscriber ℕ). stand_at (f w.position) w) }

was_there : (us vs : Subscribers) (u : ℕ) (o : Option ℕ) → position_of u us ≡ o → (position_of u us ≡ None → position_of u vs ≡ None) → IsSome (position_of u vs) → IsSome (position_of u us)
was_there us vs u (Some p) e gone there = ap is_some e
was_there us vs u None e gone there = absurd (false≢true (sym (ap is_some (gone e)) ∙ there))

module _ (size : ℕ) (lags : List (Option ℕ)) (owns : List (List ℕ)) (us : Subscribers) (len : ℕ) (owners : List Owner) (st : SeatsAs size lags owns us len owners) where
  pub seats_moved : (vs : Subscribers) (more : ℕ) (f after : ℕ → ℕ) (change : Option ℕ → Option ℕ) → Moves us vs f → change None ≡ None → ((lag : ℕ) → change (Some lag) ≡ Some (after lag))
      → ((lag p : ℕ) → lag ≤ most_lag lags → p + lag ≡ len → f p + after lag ≡ more) → SeatsAs size (map change lags) owns vs more owners
  seats_moved vs more f after change moves none some fits = record {
    lags_each = length-map lags change ∙ st.lags_each;
    owns_each = st.owns_each;
    count = moves.long ∙ st.count ∙ sym (present-map change none after some lags);
    seats = λ caller near. subst (λ (o : Option ℕ). Seat owners vs more caller o (own_left caller owns)) (sym (kept-map change none lags caller))
        (moved caller (kept_of caller lags) refl (st.seats caller near));
    belongs = λ u there. st.belongs u (was_there us vs u (position_of u us) refl (moves.gone u) there);
  }
    where
      moved : (caller : ℕ) (o : Option ℕ) → kept_of caller lags ≡ o → Seat owners us len caller o (own_left caller owns) → Seat owners vs more caller (change o) (own_left caller owns)
      moved caller None e seat = subst (λ (o : Option ℕ). Seat owners vs more caller o (own_left caller owns)) (sym none) (λ u its. moves.gone u (seat u its))
      moved caller (Some lag) e seat = subst (λ (o : Option ℕ). Seat owners vs more caller o (own_left caller owns)) (sym (some lag)) (record {
        number = seat.number;
        is_own = seat.is_own;
        position = f seat.position;
        stands = moves.here seat.number seat.position seat.stands;
        reach = fits lag seat.position (lag_upto lags caller lag e) seat.reach;
        left = moves.own seat.number ∙ seat.left;
        alone = λ u its apart. moves.gone u (seat.alone u its apart);
      })

  -- ---- whose a subscriber is

  abbrev HeldBy : ℕ → ℕ → Type 0
  HeldBy u p = (caller : ℕ) × (caller < size) × IsOwn caller u owners × ((lag : ℕ) × (kept_of caller lags ≡ Some lag) × (p + lag ≡ len))

  pub holder : (u p : ℕ) → position_of u us ≡ Some p → HeldBy u p
  holder u p e =
      let its = st.belongs u (ap is_some e) in
      by its.0 its.1 its.2 (kept_of its.0 lags) refl (st.seats its.0 its.1)
    where
      by : (caller : ℕ) → caller < size → IsOwn caller u owners → (o : Option ℕ) → kept_of caller lags ≡ o → Seat owners us len caller o (own_left caller owns) → HeldBy u p
      by caller near own None is seat = let none = seat u own in absurd (cc)
      by caller near own (Some lag) is seat = elim (eqb_tells u seat.number) [
        | inl q ↦
            let at = same_Some p seat.position (sym e ∙ ap (λ n. position_of n us) q.1 ∙ seat.stands) in
            let reach = seat.reach in
            (caller, near, own, (lag, is, omega arith))
        | inr q ↦ let none = seat.alone u own q.1 in absurd (cc)
      ]

  -- the subscription of a caller to which one of its numbers belongs that is a subscriber's
  pub its_seat : (caller u p : ℕ) → caller < size → IsOwn caller u owners → position_of u us ≡ Some p
      → (lag : ℕ) × (kept_of caller lags ≡ Some lag) × ((seat : IsSeated owners us len caller lag (own_left caller owns)) × (seat.number ≡ u))
  its_seat caller u p near own e = by (kept_of caller lags) refl (st.seats caller near)
    where
      by : (o : Option ℕ) → kept_of caller lags ≡ o → Seat owners us len caller o (own_left caller owns)
          → (lag : ℕ) × (kept_of caller lags ≡ Some lag) × ((seat : IsSeated owners us len caller lag (own_left caller owns)) × (seat.number ≡ u))
      by None is seat = let none = seat u own in absurd (cc)
      by (Some lag) is seat = elim (eqb_tells u seat.number) [
        | inl q ↦ (lag, is, (seat, sym q.1))
        | inr q ↦ let none = seat.alone u own q.1 in absurd (cc)
      ]

  -- ---- one caller's subscription changes

  -- the other numbers stay as they are
  pub record Others (vs : Subscribers) (n : ℕ) : Type 0 where
    pub stands : (u : ℕ) → (n == u) ≡ false → position_of u vs ≡ position_of u us
    pub own : (u : ℕ) → (n == u) ≡ false → own_of u vs ≡ own_of u us

  seat_stays : (vs : Subscribers) (n caller j : ℕ) (o : Option ℕ) (own : List ℕ) → Others vs n → caller ≢ j → IsOwn caller n owners → Seat owners us len j o own → Seat owners vs len j o own
  seat_stays vs n caller j None own others apart its seat = λ u own. others.stands u (ne_eqb n u (other_number owners caller j n u apart its own)) ∙ seat u own
  seat_stays vs n caller j (Some lag) own others apart its seat = record {
    number = seat.number;
    is_own = seat.is_own;
    position = seat.position;
    stands = others.stands seat.number (ne_eqb n seat.number (other_number owners caller j n seat.number apart its seat.is_own)) ∙ seat.stands;
    reach = seat.reach;
    left = others.own seat.number (ne_eqb n seat.number (other_number owners caller j n seat.number apart its seat.is_own)) ∙ seat.left;
    alone = λ u own far. others.stands u (ne_eqb n u (other_number owners caller j n u apart its own)) ∙ seat.alone u own far;
  }

  module _ (caller : ℕ) (near : caller < size) where
    low_lags : caller < length lags
    low_lags = let is = st.lags_each in omega arith

    low_owns : caller < length owns
    low_owns = let is = st.owns_each in omega arith

    -- what is kept of the caller is set, and the rest stays
    seats_set : (vs : Subscribers) (n : ℕ) (lag : Option ℕ) (own : List ℕ) → Others vs n → IsOwn caller n owners → Seat owners vs len caller lag own
        → (j : ℕ) → j < size → Seat owners vs len j (kept_of j (set lags caller lag)) (own_left j (set owns caller own))
    seats_set vs n lag own others its seat j l = elim (eqb_tells caller j) [
      | inl e ↦ subst (λ (i : ℕ). Seat owners vs len i (kept_of i (set lags caller lag)) (own_left i (set owns caller own))) e.1
          (subst (λ (o : Option ℕ). Seat owners vs len caller o (own_left caller (set owns caller own))) (sym (kept-set_same lags caller lag low_lags))
          (subst (λ (vs' : List ℕ). Seat owners vs len caller lag vs') (sym (own-set_same owns caller own low_owns)) seat))
      | inr e ↦
          let far_lags : j < length lags = let is = st.lags_each in omega arith in
          let far_owns : j < length owns = let is = st.owns_each in omega arith in
          subst (λ (o : Option ℕ). Seat owners vs len j o (own_left j (set owns caller own))) (sym (kept-set_other lags caller j lag e.1 far_lags))
          (subst (λ (vs' : List ℕ). Seat owners vs len j (kept_of j lags) vs') (sym (own-set_other owns caller j own e.1 far_owns))
          (seat_stays vs n caller j (kept_of j lags) (own_left j owns) others e.1 its (st.seats j l)))
    ]

    -- the caller's subscription stays, with another lag and other own values
    pub seats_went : (vs : Subscribers) (lag after : ℕ) (own : List ℕ) (seat : IsSeated owners us len caller lag (own_left caller owns)) (p : ℕ) → kept_of caller lags ≡ Some lag → Others vs seat.number
        → length vs ≡ length us → position_of seat.number vs ≡ Some p → p + after ≡ len → own_of seat.number vs ≡ own
        → SeatsAs size (set lags caller (Some after)) (set owns caller own) vs len owners
    seats_went vs lag after own seat p is others long stands reach left = record {
      lags_each = length-set lags caller (Some after) ∙ st.lags_each;
      owns_each = length-set owns caller own ∙ st.owns_each;
      count = long ∙ st.count ∙ sym (present-set_same lags caller after lag (kept_at lags caller low_lags ∙ ap Some is));
      seats = seats_set vs seat.number (Some after) own others seat.is_own (record {
        number = seat.number;
        is_own = seat.is_own;
        position = p;
        stands = stands;
        reach = reach;
        left = left;
        alone = λ u its apart. others.stands u (ne_eqb seat.number u (λ q. apart (sym q))) ∙ seat.alone u its apart;
      });
      belongs = λ u there. elim (eqb_tells seat.number u) [
        | inl q ↦ (caller, near, subst (λ (n : ℕ). IsOwn caller n owners) q.1 seat.is_own)
        | inr q ↦ st.belongs u (sym (ap is_some (others.stands u q.0)) ∙ there)
      ];
    }

    -- its subscription ends
    pub seats_left : (lag : ℕ) (seat : IsSeated owners us len caller lag (own_left caller owns)) → kept_of caller lags ≡ Some lag → length (without seat.number us) + 1 ≡ length us
        → SeatsAs size (set lags caller None) (set owns caller []) (without seat.number us) len owners
    seats_left lag seat is fewer =
        let before = st.count in
        let kept = present-set_fewer lags caller lag (kept_at lags caller low_lags ∙ ap Some is) in record {
          lags_each = length-set lags caller None ∙ st.lags_each;
          owns_each = length-set owns caller [] ∙ st.owns_each;
          count = omega arith;
          seats = seats_set (without seat.number us) seat.number None [] others seat.is_own (λ u its. elim (eqb_tells seat.number u) [
            | inl q ↦ subst (λ (n : ℕ). position_of n (without seat.number us) ≡ None) q.1 (position-without seat.number us)
            | inr q ↦ others.stands u q.0 ∙ seat.alone u its (λ p. q.1 (sym p))
          ]);
          belongs = λ u there. elim (eqb_tells seat.number u) [
            | inl q ↦ absurd (false≢true (sym (ap is_some (subst (λ (n : ℕ). position_of n (without seat.number us) ≡ None) q.1 (position-without seat.number us))) ∙ there))
            | inr q ↦ st.belongs u (sym (ap is_some (others.stands u q.0)) ∙ there)
          ];
        }
      where
        others : Others (without seat.number us) seat.number
        others = record { stands = λ u apart. position-without_other u seat.number us apart; own = λ u apart. own-without_other u seat.number us apart }
