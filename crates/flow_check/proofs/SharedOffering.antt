-- Whether the flow for which the state of a checker of shared flows stands is blocked, and whose value it offers.
use Rattle.std.proofs.Common.{◌≡◌, ◌≢◌, ℕ, ◌<◌, ◌≤◌, Bool, true, false, ◌==◌, cond, List, length, Option, Some, None, refl, sym, ap, ◌∙◌, subst, inl, inr, arith, eq-eqb, ne_eqb}
use Rattle.std.specs.Prelude.{nat_le}
use Rattle.std.specs.List.{list_any}
use Rattle.std.specs.Cmp.Derive.{both_true}
use Rattle.std.proofs.lemmas.Bool.{false≢true, cond-false, and_parts, or_cases, or_left, le-leb, leb-true}
use Rattle.std.proofs.lemmas.Bool.Decides.{Decides-eqb, eqb_tells, leb_tells}
use Rattle.std.proofs.lemmas.Option.{same_Some}
use Rattle.flow_law.specs.history.History.{Owner}
use Rattle.flow_law.specs.declared.states.SharedFlowState.{SharedFlowState}
use Rattle.flow_law.specs.flow.SharedFlow as law
use Rattle.flow_law.specs.flow.SharedStep as flow
use Rattle.flow_law.proofs.Rows.{split, lag_below}
use Rattle.flow_law.proofs.RowOrder.{InOrder, found_by_number}
use Rattle.flow_check.specs.SharedRecords.{HasNoEmission}
use Rattle.flow_check.specs.Subscribed.{kept_of}
use Rattle.flow_check.specs.SharedMachine.{Kept, most_lag, own_left, kept_capacity, kept_window, is_kept_blocked, offering, is_offered_by, is_in_queue, is_caller_waiting}
use Rattle.flow_check.proofs.KeptLemmas.{kept_within}
use Rattle.flow_check.proofs.LagLemmas.{lag_upto, most_below, most_reached}
use Rattle.flow_check.proofs.SharedSeats.{IsSeated, Seat, holder}
use Rattle.flow_check.proofs.SharedStanding.{IsEmitter, SeatsOf, ValuesOf, WaitsAs, any_at, emitter_same, or_right, queue_mine, queue_theirs}

module _ (size : ℕ) (m : Kept) (s : SharedFlowState ℕ) (owners : List Owner) (seats : SeatsOf size m s owners) (values : ValuesOf m s) (rises : InOrder s) where
  pub window_same : kept_window m ≡ law.window s
  window_same = let a = values.replay in let b = values.extra in omega arith

  when_blocked : law.is_blocked s ≡ true → is_kept_blocked m ≡ true
  when_blocked e =
      let found = found_by_number (λ u. nat_le (law.window s) (law.lag s u)) 0 s.issued s.subscribers rises e in
      let held = holder size m.lags m.owns s.subscribers (length s.emitted) owners seats found.0.number found.0.position found.2 in
      let low = leb-true (law.window s) (law.lag s found.0) found.3 in
      let upto = lag_upto m.lags held.0 held.3.0 held.3.1 in
      let reach = held.3.2 in
      let same = window_same in
      let enough : kept_window m ≤ most_lag m.lags = omega arith in
      le-leb (kept_window m) (most_lag m.lags) enough

  below : law.is_blocked s ≡ false → (i lag : ℕ) → kept_of i m.lags ≡ Some lag → lag < kept_window m
  below free i lag e =
      let within = kept_within m.lags i lag e in
      let each = seats.lags_each in
      let near : i < size = omega arith in
      let seat : IsSeated owners s.subscribers (length s.emitted) i lag (own_left i m.owns) =
      subst (λ (o : Option ℕ). Seat owners s.subscribers (length s.emitted) i o (own_left i m.owns)) e (seats.seats i near) in
      let low = lag_below (law.window s) (length s.emitted) seat.number seat.position s.subscribers free seat.stands in
      let reach = seat.reach in
      let same = window_same in
      omega arith

  pub free_below : law.is_blocked s ≡ false → most_lag m.lags < kept_window m
  free_below free = let some : 0 < kept_window m = omega arith in most_below (kept_window m) m.lags some (below free)

  when_free : law.is_blocked s ≡ false → is_kept_blocked m ≡ false
  when_free free = let low = free_below free in elim (leb_tells (kept_window m) (most_lag m.lags)) [ inl e ↦ let high = e.1 in absurd (omega arith) | inr e ↦ e.0 ]

  pub blocked_same : is_kept_blocked m ≡ law.is_blocked s
  blocked_same = split (law.is_blocked s) (λ b. law.is_blocked s ≡ b → is_kept_blocked m ≡ b) (λ _ e. when_blocked e) (λ _ e. when_free e) refl

  -- a value is offered if there is no buffer and some subscriber has not received it
  pub offers_some : law.is_offering s ≡ true → (kept_capacity m ≡ 0) × (0 < most_lag m.lags)
  offers_some e =
      let both = and_parts (law.capacity s == 0) (list_any (λ u. law.lag s u == 1) s.subscribers) e in
      let none = (Decides-eqb (law.capacity s) 0).0 both.0 in
      let found = found_by_number (λ u. law.lag s u == 1) 0 s.issued s.subscribers rises both.1 in
      let held = holder size m.lags m.owns s.subscribers (length s.emitted) owners seats found.0.number found.0.position found.2 in
      let is = (Decides-eqb (law.lag s found.0) 1).0 found.3 in
      let upto = lag_upto m.lags held.0 held.3.0 held.3.1 in
      let reach = held.3.2 in
      let a = values.replay in
      let b = values.extra in
      (omega arith, omega arith)

  pub offers_of : kept_capacity m ≡ 0 → 0 < most_lag m.lags → law.is_offering s ≡ true
  offers_of none some =
      let reached = most_reached m.lags some in
      let within = kept_within m.lags reached.0 (most_lag m.lags) reached.1 in
      let each = seats.lags_each in
      let near : reached.0 < size = omega arith in
      let seat : IsSeated owners s.subscribers (length s.emitted) reached.0 (most_lag m.lags) (own_left reached.0 m.owns) =
      subst (λ (o : Option ℕ). Seat owners s.subscribers (length s.emitted) reached.0 o (own_left reached.0 m.owns)) reached.1 (seats.seats reached.0 near) in
      let one = values.one none in
      let reach = seat.reach in
      let a = values.replay in
      let b = values.extra in
      let here : law.capacity s ≡ 0 = omega arith in
      both_true (eq-eqb (law.capacity s) 0 here)
      (any_at (λ u. law.lag s u == 1) s.subscribers seat.number seat.position seat.stands (λ u at. let is : law.lag s u ≡ 1 = omega arith in eq-eqb (law.lag s u) 1 is))

  -- ---- emitters that wait

  module _ (waits : WaitsAs m s owners) where
    offered_by : (caller : ℕ) → 0 < most_lag m.lags → m.offered ≡ Some caller → is_offered_by caller (offering m) ≡ true
    offered_by caller some e =
        let nonzero : most_lag m.lags ≢ 0 = λ z. absurd (omega arith) in
        ap (is_offered_by caller) (cond-false (most_lag m.lags == 0) None m.offered (ne_eqb (most_lag m.lags) 0 nonzero) ∙ e) ∙ eq-eqb caller caller refl

    by_offered : (caller : ℕ) (o : Option ℕ) → is_offered_by caller o ≡ true → o ≡ Some caller
    by_offered caller None h = absurd (false≢true h)
    by_offered caller (Some other) h = ap Some ((Decides-eqb other caller).0 h)

    pub offered_some : (caller : ℕ) → is_offered_by caller (offering m) ≡ true → (0 < most_lag m.lags) × (m.offered ≡ Some caller)
    offered_some caller h = elim (eqb_tells (most_lag m.lags) 0) [
      | inl z ↦ absurd (false≢true (subst (λ (b : Bool). is_offered_by caller (cond b None m.offered) ≡ true) z.0 h))
      | inr z ↦ (
        elim (leb_tells 1 (most_lag m.lags)) [ inl l ↦ l.1 | inr l ↦ let low = l.1 in absurd (z.1 (omega arith)) ],
        by_offered caller m.offered (subst (λ (b : Bool). is_offered_by caller (cond b None m.offered) ≡ true) z.0 h),
      )
    ]

    -- what is offered is the newest, and the caller's
    pub offered_newest : (caller : ℕ) → is_offered_by caller (offering m) ≡ true → IsEmitter caller (law.newest s) owners × (law.is_offering s ≡ true)
    offered_newest caller h =
        let some = offered_some caller h in
        elim (eqb_tells (kept_capacity m) 0) [
          | inl z ↦
              let its = waits.offered z.1 some.0 in
              (subst (λ (i : ℕ). IsEmitter i (law.newest s) owners) (same_Some its.0 caller (sym its.1 ∙ some.1)) its.2, offers_of z.1 some.0)
          | inr z ↦ let none = waits.unoffered z.1 in let is = some.1 in absurd (cc)
        ]

    offered_mine : (caller e : ℕ) → IsEmitter caller e owners → law.is_offered_as e s ≡ true → is_offered_by caller (offering m) ≡ true
    offered_mine caller e own o =
        let both = and_parts (law.is_offering s) (law.newest s == e) o in
        let some = offers_some both.0 in
        let its = waits.offered some.0 some.1 in
        let is = (Decides-eqb (law.newest s) e).0 both.1 in
        let same = emitter_same its.0 caller e owners (subst (λ (n : ℕ). IsEmitter its.0 n owners) is its.2) own in
        offered_by caller some.1 (its.1 ∙ ap Some same)

    pub waits_mine : (caller e : ℕ) → IsEmitter caller e owners → flow.is_waiting e s ≡ true → is_caller_waiting caller m ≡ true
    waits_mine caller e own h = elim (or_cases (law.is_queued e s) (law.is_offered_as e s) h) [
      | inl q ↦ or_right (is_offered_by caller (offering m)) (is_in_queue caller m.queue) (queue_mine owners m.queue s.queue caller e waits.queue own q)
      | inr o ↦ or_left (is_offered_by caller (offering m)) (is_in_queue caller m.queue) (offered_mine caller e own o)
    ]

    pub waits_theirs : (caller : ℕ) → is_caller_waiting caller m ≡ true → (e : ℕ) × IsEmitter caller e owners × (flow.is_waiting e s ≡ true)
    waits_theirs caller h = elim (or_cases (is_offered_by caller (offering m)) (is_in_queue caller m.queue) h) [
      | inl o ↦
          let is = offered_newest caller o in
          (law.newest s, is.0, or_right (law.is_queued (law.newest s) s) (law.is_offered_as (law.newest s) s) (both_true is.1 (eq-eqb (law.newest s) (law.newest s) refl)))
      | inr q ↦
          let found = queue_theirs owners m.queue s.queue caller waits.queue q in
          (found.0, found.1, or_left (law.is_queued found.0 s) (law.is_offered_as found.0 s) found.2)
    ]

    -- the caller's value is offered exactly if it is offered as its emission
    pub offered_same : (caller e : ℕ) → IsEmitter caller e owners → flow.is_waiting e s ≡ true → is_offered_by caller (offering m) ≡ law.is_offered_as e s
    offered_same caller e own h = split (is_offered_by caller (offering m)) (λ b. is_offered_by caller (offering m) ≡ b → b ≡ law.is_offered_as e s)
        (λ _ o.
        let is = offered_newest caller o in
        let newest = or_right (law.is_queued (law.newest s) s) (law.is_offered_as (law.newest s) s) (both_true is.1 (eq-eqb (law.newest s) (law.newest s) refl)) in
        let same = waits.once caller (law.newest s) e is.0 own newest h in
        sym (both_true is.1 (eq-eqb (law.newest s) e same)))
        (λ _ o. split (law.is_offered_as e s) (λ b. law.is_offered_as e s ≡ b → false ≡ b)
        (λ _ t. absurd (false≢true (sym o ∙ offered_mine caller e own t))) (λ _ _. refl) refl) refl

    pub free_mine : (caller : ℕ) → HasNoEmission s owners caller → is_caller_waiting caller m ≡ false
    free_mine caller none = split (is_caller_waiting caller m) (λ b. is_caller_waiting caller m ≡ b → b ≡ false)
        (λ _ h. let found = waits_theirs caller h in absurd (false≢true (sym (none found.0 found.1) ∙ found.2))) (λ _ _. refl) refl

    pub free_theirs : (caller : ℕ) → is_caller_waiting caller m ≡ false → HasNoEmission s owners caller
    free_theirs caller free = λ e own. split (flow.is_waiting e s) (λ b. flow.is_waiting e s ≡ b → b ≡ false)
        (λ _ h. absurd (false≢true (sym free ∙ waits_mine caller e own h))) (λ _ _. refl) refl
