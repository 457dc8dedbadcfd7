-- A shared flow that keeps only the last value, with at most one subscriber.
use Rattle.std.proofs.Common.{inl, inr, ◌≡◌, ◌⊎◌, ℕ, zero, suc, ◌+◌, ◌-◌, ◌<◌, true, false, not, ◌==◌, ◌&&◌, ◌||◌, cond, List, [], ◌∷◌, ◌++◌, length, map, Some, None, refl, ap, ◌∙◌, arith, eq-eqb}
use Rattle.std.specs.Prelude.{drop, nat_le, max, Err}
use Rattle.std.specs.List.{slice_get}
use Rattle.std.specs.Option.{option_map_or}
use Rattle.std.proofs.lemmas.Bool.{or_from, or_left, lt-leb, le-leb}
use Rattle.std.proofs.lemmas.Bool.Decides.{nat_tests}
use Rattle.std.proofs.lemmas.List.{length-map, length_push, drop_at}
use Rattle.std.proofs.lemmas.Option.{slice_get_past}
use Rattle.flow_law.specs.declared.fault.FlowFault.TheVariants.{Exhausted}
use Rattle.flow_law.specs.declared.outcome.Emit.{Emit}
use Rattle.flow_law.specs.declared.outcome.Emit.TheVariants.{Done}
use Rattle.flow_law.specs.declared.outcome.Next.TheVariants.{Value, Empty, Gone}
use Rattle.flow_law.specs.flow.SharedFlow.{Numbered, Subscriber, SharedFlowState, Replied, is_blocked, answer, values, cache}
use Rattle.flow_law.specs.flow.EmitRule.{appends, offers, drops_oldest, emit_case, emit, emit_in, append, drop_oldest}
use Rattle.flow_law.specs.flow.SharedStep.{subscribe, enroll, next, next_from, read, unsubscribe, settle, advance}
use Rattle.flow_law.specs.laws.Conflation.{newest_only}

abbrev pub sole : {T : Type 0} → ℕ → ℕ → List (Subscriber T)
sole k p = record { number = k; own = []; position = p } ∷ []

not_spent : (a b : ℕ) → a < b → (a == b) ≡ false
not_spent a b l = grind (arith, nat_tests, l)

same_number : (k : ℕ) → (k == k) ≡ true
same_number k = eq-eqb k k refl

pub newest_at : {X : Type 0} (front : List X) (v : X) (p : ℕ) → length front ≡ p → slice_get (front ++ v ∷ []) p ≡ Some v
newest_at [] v zero e = refl
newest_at [] v (suc p) e = absurd (omega (arith, e))
newest_at (x ∷ xs) v zero e = absurd (omega (arith, e))
newest_at (x ∷ xs) v (suc p) e = newest_at xs v p (omega (arith, e))

module _ {T : Type 0} where
  abbrev pub built : ℕ → List (Numbered T) → List (Subscriber T) → ℕ → SharedFlowState T
  built limit emitted us issued = record { config = newest_only limit; emitted = emitted; reset_mark = 0; queue = []; subscribers = us; issued = issued }

  abbrev pub entry_of : T → ℕ → Numbered T
  entry_of x issued = record { value = x; number = issued + 1 }

  pub emit_alone : (x : T) (limit : ℕ) (emitted : List (Numbered T)) (issued : ℕ) → issued < limit
      → (emit x (built limit emitted [] issued)).after ≡ built limit (emitted ++ entry_of x issued ∷ []) [] (issued + 1)
  emit_alone x limit emitted issued l =
      ap (λ t. (cond t (record { reply = Err Exhausted; after = built limit emitted [] issued }) (answer Done (append x (built limit emitted [] issued)))).after) (not_spent issued limit l)

  pub emit_one : (x : T) (limit : ℕ) (emitted : List (Numbered T)) (k p issued : ℕ) → issued < limit → (p ≡ length emitted) ⊎ (p + 1 ≡ length emitted)
      → (emit x (built limit emitted (sole k p) issued)).after ≡ built limit (emitted ++ entry_of x issued ∷ []) (sole k (length emitted)) (issued + 1)
  emit_one x limit emitted k p issued l where_it_stands =
      let s : SharedFlowState T = built limit emitted (sole k p) issued in
      let longer : length (emitted ++ entry_of x issued ∷ []) ≡ length emitted + 1 = length_push emitted (entry_of x issued) in
      let issue : (a : Replied Emit T) → (cond (issued == limit) (record { reply = Err Exhausted; after = s }) a).after ≡ a.after =
      λ a. ap (λ t. (cond t (record { reply = Err Exhausted; after = s }) a).after) (not_spent issued limit l) in
      elim where_it_stands as (λ _. (emit x (built limit emitted (sole k p) issued)).after ≡ built limit (emitted ++ entry_of x issued ∷ []) (sole k (length emitted)) (issued + 1)) [
        | inl e ↦
            let free : is_blocked s ≡ false = or_from (nat_le 1 (length emitted - p)) false (lt-leb 1 (length emitted - p) (omega (arith, e))) refl in
            let kind : emit_case s ≡ appends = ap (λ b. cond (false || (not b && true)) appends (cond b drops_oldest offers)) free in
            ap (λ m. (emit_in m x s).after) kind ∙ issue (answer Done (append x s)) ∙ ap (λ q. built limit (emitted ++ entry_of x issued ∷ []) (sole k q) (issued + 1)) e
        | inr e ↦
            let full : is_blocked s ≡ true = or_left (nat_le 1 (length emitted - p)) false (le-leb 1 (length emitted - p) (omega (arith, e))) in
            let kind : emit_case s ≡ drops_oldest = ap (λ b. cond (false || (not b && true)) appends (cond b drops_oldest offers)) full in
            let there : max p (length (emitted ++ entry_of x issued ∷ []) - 1) ≡ length emitted = omega (arith, e, longer) in
            ap (λ m. (emit_in m x s).after) kind ∙ issue (answer Done (drop_oldest (append x s))) ∙ ap (λ q. built limit (emitted ++ entry_of x issued ∷ []) (sole k q) (issued + 1)) there
      ]

  pub subscribe_alone : (limit : ℕ) (emitted : List (Numbered T)) (issued : ℕ) → issued < limit
      → subscribe [] (built limit emitted [] issued) ≡ answer (issued + 1) (built limit emitted (sole (issued + 1) (max 0 (length emitted - 1))) (issued + 1))
  subscribe_alone limit emitted issued l =
      ap (λ t. cond t (record { reply = Err Exhausted; after = built limit emitted [] issued }) (answer (issued + 1) (enroll [] (built limit emitted [] issued)))) (not_spent issued limit l)

  at_sole : (k p limit issued : ℕ) (emitted : List (Numbered T)) → next k (built limit emitted (sole k p) issued) ≡ read k p (built limit emitted (sole k p) issued)
  at_sole k p limit issued emitted = ap (λ t. next_from k (cond t [] []) (built limit emitted (sole k p) issued)) (same_number k)
      ∙ ap (λ t. option_map_or (λ position. read k position (built limit emitted (sole k p) issued)) (cond t (Some p) None) (answer Gone (built limit emitted (sole k p) issued))) (same_number k)

  pub next_behind : (k p limit issued : ℕ) (emitted : List (Numbered T)) → p ≡ length emitted → next k (built limit emitted (sole k p) issued) ≡ answer Empty (built limit emitted (sole k p) issued)
  next_behind k p limit issued emitted e =
      let s : SharedFlowState T = built limit emitted (sole k p) issued in
      at_sole k p limit issued emitted ∙ ap (λ o. option_map_or (λ value. answer (Value value) (settle (advance k (p + 1) s))) o (answer Empty s))
      (slice_get_past (values s) p (omega (arith, e, length-map emitted (λ (e : Numbered T). e.value))))

  pub next_newest : (k p limit issued : ℕ) (emitted : List (Numbered T)) (v : T) → slice_get (map (λ e. e.value) emitted) p ≡ Some v
      → next k (built limit emitted (sole k p) issued) ≡ answer (Value v) (built limit emitted (sole k (p + 1)) issued)
  next_newest k p limit issued emitted v e =
      let s : SharedFlowState T = built limit emitted (sole k p) issued in
      at_sole k p limit issued emitted ∙ ap (λ o. option_map_or (λ value. answer (Value value) (settle (advance k (p + 1) s))) o (answer Empty s)) e
      ∙ ap (λ t. answer (Value v) (built limit emitted (cond t (sole k (p + 1)) (record { number = k; own = []; position = p } ∷ [])) issued)) (same_number k)

  pub leave_sole : (k p limit issued : ℕ) (emitted : List (Numbered T)) → (unsubscribe k (built limit emitted (sole k p) issued)).after ≡ built limit emitted [] issued
  leave_sole k p limit issued emitted = ap (λ t. built limit emitted (cond (not t) (sole k p) []) issued) (same_number k)

  pub cache_newest : (limit issued : ℕ) (emitted : List (Numbered T)) (us : List (Subscriber T)) (front : List T) (v : T) → map (λ e. e.value) emitted ≡ front ++ v ∷ []
      → cache (built limit emitted us issued) ≡ v ∷ []
  cache_newest limit issued emitted us front v e =
      let count : length (map (λ (e : Numbered T). e.value) emitted) ≡ length front + 1 = ap length e ∙ length_push front v in
      let start : length front ≡ max 0 (length emitted - 1) = omega (arith, count, length-map emitted (λ (e : Numbered T). e.value)) in
      ap (drop (max 0 (length emitted - 1))) e ∙ drop_at front (v ∷ []) (max 0 (length emitted - 1)) start
