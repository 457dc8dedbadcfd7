-- What a new subscription does to the state of a checker of shared flows, and to that of the documented flow.
use Rattle.std.proofs.Common.{◌≡◌, ◌≢◌, ℕ, suc, zero, ◌+◌, ◌-◌, ◌<◌, ◌≤◌, Bool, false, ◌==◌, cond, List, ◌∷◌, length, set, Option, Some, None, refl, ap, ◌∙◌, inl, inr, arith, length-append}
use Rattle.std.specs.Prelude.{max}
use Rattle.std.proofs.lemmas.Bool.{cond-true, cond-false}
use Rattle.std.proofs.lemmas.Bool.Decides.{eqb_tells}
use Rattle.std.proofs.lemmas.List.{length-map}
use Rattle.flow_law.specs.history.History.{emission, Owner}
use Rattle.flow_law.specs.declared.states.Numbered.{Numbered}
use Rattle.flow_law.specs.declared.states.SharedFlowState.{SharedFlowState}
use Rattle.flow_law.specs.flow.SharedFlow as law
use Rattle.flow_law.specs.flow.SharedStep as flow
use Rattle.flow_law.proofs.Owners.{up_to_more, owned_up_to, owner_of_older}
use Rattle.flow_law.proofs.Rows.{split}
use Rattle.flow_law.proofs.RowOrder.{InOrder}
use Rattle.flow_check.specs.Subscribed.{kept_of}
use Rattle.flow_check.specs.SharedMachine.{Kept, most_lag, kept_capacity, lag_at_first, first_lag, with_lag, with_own_kept as set_own}
use Rattle.flow_check.proofs.LagLemmas.{most-set}
use Rattle.flow_check.specs.StateRecords.{caller_name}
use Rattle.flow_check.proofs.SharedStanding.{WaitsAs, SeatsOf, ValuesOf, StandsAs, queue_older}
use Rattle.flow_check.proofs.SharedEmitting.{once_fewer}
use Rattle.flow_check.proofs.SharedCalls.{still_waits}
use Rattle.flow_check.proofs.SharedNewSeats.{seats_more, above, given_to}
use Rattle.flow_check.proofs.SharedOffering.{offers_some, offers_of}

positive : (n : ℕ) → n ≢ 0 → 0 < n
positive zero h = absurd (h refl)
positive (suc n) h = omega arith

module _ (size k : ℕ) (owners : List Owner)
    (m : Kept) (s : SharedFlowState ℕ) (st : StandsAs size m k s owners) (rises : InOrder s) (caller : ℕ) (near : caller < size) where
  -- a new subscriber's position and lag add up to the number of emitted values
  entered : law.entry s + first_lag m ≡ length s.emitted
  entered = elim (eqb_tells (kept_capacity m) 0) [
    | inl z ↦ elim (eqb_tells (most_lag m.lags) 0) [
      | inl none ↦ quiet (not_offering (λ some. let is = some.1 in let zero = none.1 in absurd (omega arith))) (ap (λ (b : Bool). lag_at_first m.cached (cond b None m.offered)) none.0)
      | inr some ↦
          let more : 0 < most_lag m.lags = positive (most_lag m.lags) some.1 in
          let its = st.waits.offered z.1 more in
          let low = st.values.most_kept in
          let long = values_long in
          let one = ap (λ (b : Bool). lag_at_first m.cached (cond b None m.offered)) some.0 ∙ ap (lag_at_first m.cached) its.1 in
          let at = cond-true (law.is_offering s) (length s.emitted - 1) (law.cache_start s) (offers_of size m s owners st.seats st.values rises z.1 more) in
          omega arith
    ]
    | inr z ↦ quiet (not_offering (λ some. absurd (z.1 some.0))) (split (most_lag m.lags == 0) (λ b. lag_at_first m.cached (cond b None m.offered) ≡ m.cached) (λ _. refl) (λ _. ap (lag_at_first m.cached) (st.waits.unoffered z.1)))
  ]
    where
      values_long : length m.values ≤ length s.emitted
      values_long =
          let all = ap length st.values.tail in
          let long = length-map s.emitted (λ (e : Numbered ℕ). e.value) in
          let parts = length-append st.values.front m.values in
          omega arith

      not_offering : ((kept_capacity m ≡ 0) × (0 < most_lag m.lags) → ⊥) → law.is_offering s ≡ false
      not_offering h = split (law.is_offering s) (λ b. law.is_offering s ≡ b → b ≡ false) (λ _ e. absurd (h (offers_some size m s owners st.seats st.values rises e))) (λ _ _. refl) refl

      quiet : law.is_offering s ≡ false → first_lag m ≡ m.cached → law.entry s + first_lag m ≡ length s.emitted
      quiet free is =
          let at = cond-false (law.is_offering s) (length s.emitted - 1) (law.cache_start s) free in
          let cache = st.values.cache in
          omega arith

  pub subscribed : (own : List ℕ) → kept_of caller m.lags ≡ None → InOrder (flow.enroll own s)
      → StandsAs size (set_own caller own (with_lag caller (Some (first_lag m)) m)) (k + 1) (flow.enroll own s) (given_to caller s.issued ∷ owners)
  subscribed own is after =
      let upto = st.issued in
      let fresh = above (s.issued + 1) 0 s.issued s.subscribers rises (omega arith) in
      let seats = seats_more size m.lags m.owns s.subscribers (length s.emitted) owners st.seats caller near s.issued st.owned (law.entry s) (first_lag m) own is fresh entered in record {
        seats = seats;
        values = values;
        waits = waits seats;
        issued = omega arith;
        owned = (le_of_same, up_to_more s.issued (s.issued + 1) owners (omega arith) st.owned);
      }
    where
      most : most_lag (set m.lags caller (Some (first_lag m))) ≤ max (most_lag m.lags) (first_lag m)
      most = most-set m.lags caller (first_lag m)

      bound : (n : ℕ) → n ≡ m.cached → (n ≤ length m.values) × (kept_capacity m ≡ 0 → n ≡ 0)
      bound n e =
          let upto = st.values.cache_kept in
          let cache = st.values.cache in
          let replay = st.values.replay in
          (omega arith, λ none. omega arith)

      with_cache : first_lag m ≡ m.cached → (first_lag m ≤ length m.values) × (kept_capacity m ≡ 0 → (first_lag m ≤ 1) × (first_lag m ≤ most_lag m.lags))
      with_cache e = let b = bound (first_lag m) e in (b.0, λ none. let z = b.1 none in (omega arith, omega arith))

      by : 0 < most_lag m.lags → (o : Option ℕ) → first_lag m ≡ lag_at_first m.cached o → (first_lag m ≤ length m.values) × (kept_capacity m ≡ 0 → (first_lag m ≤ 1) × (first_lag m ≤ most_lag m.lags))
      by some None e = with_cache e
      by some (Some c) e = let upto = st.values.most_kept in (omega arith, λ none. (omega arith, omega arith))

      low : (first_lag m ≤ length m.values) × (kept_capacity m ≡ 0 → (first_lag m ≤ 1) × (first_lag m ≤ most_lag m.lags))
      low = elim (eqb_tells (most_lag m.lags) 0) [
        | inl z ↦ with_cache (ap (λ (b : Bool). lag_at_first m.cached (cond b None m.offered)) z.0)
        | inr z ↦ by (positive (most_lag m.lags) z.1) m.offered (ap (λ (b : Bool). lag_at_first m.cached (cond b None m.offered)) z.0)
      ]

      -- something is to receive only if something was
      was_some : kept_capacity m ≡ 0 → 0 < most_lag (set m.lags caller (Some (first_lag m))) → 0 < most_lag m.lags
      was_some none some = let upto = most in let zero_or = (low.1 none).1 in omega arith

      values : ValuesOf (set_own caller own (with_lag caller (Some (first_lag m)) m)) (flow.enroll own s)
      values = let upto = most in let a = st.values.most_kept in let b = low.0 in record {
        replay = st.values.replay;
        extra = st.values.extra;
        overflow = st.values.overflow;
        suspends = st.values.suspends;
        one = λ none. let c = st.values.one none in let d = (low.1 none).0 in omega arith;
        front = st.values.front;
        tail = st.values.tail;
        most_kept = omega arith;
        cache_kept = st.values.cache_kept;
        cache = st.values.cache;
        marked = st.values.marked;
      }

      waits : SeatsOf size (set_own caller own (with_lag caller (Some (first_lag m)) m)) (flow.enroll own s) (given_to caller s.issued ∷ owners)
          → WaitsAs (set_own caller own (with_lag caller (Some (first_lag m)) m)) (flow.enroll own s) (given_to caller s.issued ∷ owners)
      waits seats = record {
        queue = queue_older owners (given_to caller s.issued) s.issued m.queue s.queue st.owned (omega arith) st.waits.queue;
        offered = λ none some.
            let its = st.waits.offered none (was_some none some) in
            let old = owned_up_to s.issued (emission (law.newest s)) (caller_name its.0) owners st.owned its.2 in
            (its.0, its.1, owner_of_older (emission (law.newest s)) (caller_name its.0) (given_to caller s.issued) owners (omega arith) its.2);
        unoffered = st.waits.unoffered;
        once = once_fewer (given_to caller s.issued ∷ owners) s (flow.enroll own s)
            (still_waits size k owners m (set_own caller own (with_lag caller (Some (first_lag m)) m)) s (flow.enroll own s) (given_to caller s.issued ∷ owners) st.seats st.values rises seats values after refl refl refl was_some)
            (λ c e f a b x y. st.waits.once c e f a b x y);
      }

      le_of_same : s.issued + 1 ≤ s.issued + 1
      le_of_same = omega arith
