-- An emission of a checker of shared flows and that of the documented flow, case by case. Begin with `case_same`.
use Rattle.std.proofs.Common.{◌≡◌, ◌≢◌, ℕ, suc, zero, ◌+◌, ◌<◌, ◌≤◌, ◌⊎◌, Bool, true, false, not, ◌==◌, ◌&&◌, ◌||◌, cond, List, [], ◌∷◌, ◌++◌, length, map, Some, refl, sym, ap, ◌∙◌, subst, inl, inr, arith}
use Rattle.std.specs.Prelude.{nat_lt}
use Rattle.std.specs.List.{list_any}
use Rattle.std.proofs.lemmas.Bool.{false≢true, cond_both, and_parts, or_cases, or_left}
use Rattle.std.proofs.lemmas.Bool.Decides.{Decides-eqb, eqb_tells}
use Rattle.std.proofs.lemmas.List.Folds.{list_any-append}
use Rattle.flow_law.specs.declared.config.Overflow.{Overflow}
use Rattle.flow_law.specs.declared.config.Overflow.TheVariants.{Suspend, DropOldest, DropLatest}
use Rattle.flow_law.specs.history.History.{emission, Owner, owner_of}
use Rattle.flow_law.specs.declared.states.Numbered.{Numbered}
use Rattle.flow_law.specs.declared.states.SharedFlowState.{SharedFlowState}
use Rattle.flow_law.specs.flow.SharedFlow as law
use Rattle.flow_law.specs.flow.EmitRule as rule
use Rattle.flow_law.specs.flow.SharedStep as flow
use Rattle.flow_law.proofs.Moves.{open_not_blocked}
use Rattle.flow_law.proofs.Owners.{UpTo, up_to_more, owned_up_to, owner_of_older, newest_owner}
use Rattle.flow_law.proofs.RowOrder.{InOrder, in_order_keeps}
use Rattle.flow_check.specs.declared.shared_machine.EmitCase.{EmitCase}
use Rattle.flow_check.specs.declared.shared_machine.EmitCase.TheVariants as emits
use Rattle.flow_check.specs.StateRecords.{caller_name}
use Rattle.flow_check.specs.SharedRecords.{HasNoEmission}
use Rattle.flow_check.specs.Subscribed.{present}
use Rattle.flow_check.specs.SharedMachine.{Kept, most_lag, raised, kept_capacity, kept_window, is_kept_blocked, kept_when_blocked, kept_emit_case, append_kept, hold}
use Rattle.flow_check.proofs.LagLemmas.{most_absent, present-map}
use Rattle.flow_check.proofs.SharedStanding.{IsEmitter, OnceWaits, SeatsOf, ValuesOf, StandsAs, emitter_same, queue_snoc, queue_older, or_right}
use Rattle.flow_check.proofs.SharedEmitting.{seats_appended, seats_dropped, values_appended, waits_appended, once_fewer, newest_is}
use Rattle.flow_check.proofs.SharedNewSeats.{seats_emitter}
use Rattle.flow_check.proofs.SharedOffering.{blocked_same, offers_some}

-- the checker's case of an emission
abbrev pub as_own : rule.EmitCase → EmitCase
as_own rule.appends = emits.Appends
as_own rule.offers = emits.Offers
as_own rule.queues = emits.Queues
as_own rule.drops_latest = emits.DropsLatest
as_own rule.drops_oldest = emits.DropsOldest

abbrev case_of : ℕ → Bool → ℕ → Overflow → EmitCase
case_of n b c o = cond ((n == 0) || (not b && nat_lt 0 c)) emits.Appends (cond b (kept_when_blocked o) emits.Offers)

by_tests : (a b : Bool) (o : Overflow) → cond a emits.Appends (cond b (kept_when_blocked o) emits.Offers) ≡ as_own (cond a rule.appends (cond b (rule.when_blocked o) rule.offers))
by_tests true b o = refl
by_tests false true Suspend = refl
by_tests false true DropOldest = refl
by_tests false true DropLatest = refl
by_tests false false o = refl

module _ (size : ℕ) (m : Kept) (k : ℕ) (s : SharedFlowState ℕ) (owners : List Owner) (st : StandsAs size m k s owners) (rises : InOrder s) where
  pub capacity_same : kept_capacity m ≡ law.capacity s
  capacity_same = let a = st.values.replay in let b = st.values.extra in omega arith

  pub case_same : kept_emit_case m ≡ as_own (rule.emit_case s)
  case_same =
      ap (λ (n : ℕ). case_of n (is_kept_blocked m) (kept_capacity m) m.config.overflow) (sym st.seats.count)
      ∙ ap (λ (b : Bool). case_of (length s.subscribers) b (kept_capacity m) m.config.overflow) (blocked_same size m s owners st.seats st.values rises)
      ∙ ap (λ (c : ℕ). case_of (length s.subscribers) (law.is_blocked s) c m.config.overflow) capacity_same
      ∙ ap (λ (o : Overflow). case_of (length s.subscribers) (law.is_blocked s) (law.capacity s) o) st.values.overflow
      ∙ by_tests (rule.is_open s) (law.is_blocked s) s.config.overflow

  -- what holds in each case
  abbrev pub Facts : rule.EmitCase → Type 0
  Facts rule.appends = (law.is_blocked s ≡ false) × (kept_capacity m ≡ 0 → present m.lags ≡ 0)
  Facts rule.offers = law.is_blocked s ≡ false
  Facts rule.queues = (law.is_blocked s ≡ true) × (s.config.overflow ≡ Suspend)
  Facts rule.drops_latest = Unit {0}
  Facts rule.drops_oldest = (law.is_blocked s ≡ true) × (s.config.overflow ≡ DropOldest) × (0 < kept_capacity m)

  pub facts : Facts (rule.emit_case s)
  facts = cond_both (rule.is_open s) rule.appends (cond (law.is_blocked s) (rule.when_blocked s.config.overflow) rule.offers) Facts
      (λ ready. (open_not_blocked s ready, λ none. nobody none (or_cases (length s.subscribers == 0) (not (law.is_blocked s) && nat_lt 0 (law.capacity s)) ready)))
      (λ _. cond_both (law.is_blocked s) (rule.when_blocked s.config.overflow) rule.offers Facts (λ e. full s.config.overflow refl e) (λ e. e))
    where
      nobody : kept_capacity m ≡ 0 → ((length s.subscribers == 0) ≡ true) ⊎ ((not (law.is_blocked s) && nat_lt 0 (law.capacity s)) ≡ true) → present m.lags ≡ 0
      nobody none x = elim x [
        | inl e ↦ sym st.seats.count ∙ (Decides-eqb (length s.subscribers) 0).0 e
        | inr e ↦
            let both = and_parts (not (law.is_blocked s)) (nat_lt 0 (law.capacity s)) e in
            absurd (false≢true (subst (λ (c : ℕ). nat_lt 0 c ≡ true) (sym capacity_same ∙ none) both.1))
      ]

      positive : (n : ℕ) → n ≢ 0 → 0 < n
      positive zero h = absurd (h refl)
      positive (suc n) h = omega arith

      full : (o : Overflow) → s.config.overflow ≡ o → law.is_blocked s ≡ true → Facts (rule.when_blocked o)
      full Suspend e b = (b, e)
      full DropLatest e b = tt
      full DropOldest e b = (
        b,
        e,
        elim (eqb_tells (kept_capacity m) 0) [
          | inl z ↦ let is = st.values.suspends z.1 in let over = st.values.overflow in absurd (cc)
          | inr z ↦ positive (kept_capacity m) z.1
        ],
      )

  -- ---- a value without an emitter that waits

  -- nothing new waits after an emission, if a flow without a buffer has no subscriber
  not_offered : (caller v : ℕ) (t : SharedFlowState ℕ) → SeatsOf size (append_kept caller v m) t owners → ValuesOf (append_kept caller v m) t → InOrder t → t.queue ≡ s.queue
      → (kept_capacity m ≡ 0 → most_lag (map (raised (kept_window m)) m.lags) ≡ 0) → (e : ℕ) → flow.is_waiting e t ≡ true → flow.is_waiting e s ≡ true
  not_offered caller v t seats values after queue none e w = elim (or_cases (law.is_queued e t) (law.is_offered_as e t) w) [
    | inl q ↦ or_left (law.is_queued e s) (law.is_offered_as e s) (ap (λ (qs : List (Numbered ℕ)). list_any (λ p. p.number == e) qs) (sym queue) ∙ q)
    | inr o ↦
        let both = and_parts (law.is_offering t) (law.newest t == e) o in
        let some = offers_some size (append_kept caller v m) t owners seats values after both.0 in
        let zero = none some.0 in
        let more = some.1 in
        absurd (omega arith)
  ]

  pub appended : (caller v : ℕ) → law.is_blocked s ≡ false → (kept_capacity m ≡ 0 → present m.lags ≡ 0) → StandsAs size (append_kept caller v m) (k + 1) (rule.append v s) owners
  appended caller v free nobody =
      let seats : SeatsOf size (append_kept caller v m) (rule.append v s) owners = seats_appended size m k s owners st.seats st.values caller v (rule.numbered v s) rises free in
      let values : ValuesOf (append_kept caller v m) (rule.append v s) = values_appended size m k s owners st.seats st.values caller v (rule.numbered v s) refl in
      let upto = st.issued in record {
        seats = seats;
        values = values;
        waits = waits_appended m caller v (rule.append v s) (rule.numbered v s) m.queue owners (newest_is s (rule.numbered v s)) st.waits.queue
            (once_fewer owners s (rule.append v s) (not_offered caller v (rule.append v s) seats values ((in_order_keeps s rises).appends v free) refl nothing) st.waits.once)
            (λ none some. let zero = nothing none in absurd (omega arith));
        issued = omega arith;
        owned = up_to_more s.issued (s.issued + 1) owners (omega arith) st.owned;
      }
    where
      nothing : kept_capacity m ≡ 0 → most_lag (map (raised (kept_window m)) m.lags) ≡ 0
      nothing none = most_absent (map (raised (kept_window m)) m.lags)
          (present-map (raised (kept_window m)) refl (λ lag. Rattle.std.specs.Prelude.min (lag + 1) (kept_window m)) (λ lag. refl) m.lags ∙ nobody none)

  pub dropped : (caller v : ℕ) → law.is_blocked s ≡ true → s.config.overflow ≡ DropOldest → 0 < kept_capacity m → StandsAs size (append_kept caller v m) (k + 1) (rule.drop_oldest (rule.append v s)) owners
  dropped caller v blocked over some =
      let seats : SeatsOf size (append_kept caller v m) (rule.drop_oldest (rule.append v s)) owners = seats_dropped size m k s owners st.seats st.values caller v (rule.numbered v s) some in
      let values : ValuesOf (append_kept caller v m) (rule.drop_oldest (rule.append v s)) = values_appended size m k s owners st.seats st.values caller v (rule.numbered v s) refl in
      let upto = st.issued in record {
        seats = seats;
        values = values;
        waits = waits_appended m caller v (rule.drop_oldest (rule.append v s)) (rule.numbered v s) m.queue owners (newest_is s (rule.numbered v s)) st.waits.queue
            (once_fewer owners s (rule.drop_oldest (rule.append v s))
            (not_offered caller v (rule.drop_oldest (rule.append v s)) seats values ((in_order_keeps s rises).drops v blocked over) refl (λ none. absurd (omega arith))) st.waits.once)
            (λ none _. absurd (omega arith));
        issued = omega arith;
        owned = up_to_more s.issued (s.issued + 1) owners (omega arith) st.owned;
      }

  -- ---- a value whose emitter waits

  module _ (caller v : ℕ) (free : HasNoEmission s owners caller) where
    abbrev pub emitter : Owner
    emitter = record { number = emission (s.issued + 1); name = caller_name caller }

    -- whose an emission is
    whose : (i e : ℕ) → IsEmitter i e (emitter ∷ owners) → ((e ≡ s.issued + 1) × (i ≡ caller)) ⊎ ((e ≢ s.issued + 1) × IsEmitter i e owners)
    whose i e own = elim (eqb_tells (s.issued + 1) e) [
      | inl q ↦ inl (sym q.1, emitter_same i caller (s.issued + 1) (emitter ∷ owners) (subst (λ (n : ℕ). IsEmitter i n (emitter ∷ owners)) (sym q.1) own) (newest_owner emitter owners))
      | inr q ↦ inr ((λ z. q.1 (sym z)), subst (λ (b : Bool). cond b (Some (caller_name caller)) (owner_of (emission e) owners) ≡ Some (caller_name i)) q.0 own)
    ]

    older : (i e : ℕ) → IsEmitter i e owners → IsEmitter i e (emitter ∷ owners)
    older i e own = let old = owned_up_to s.issued (emission e) (caller_name i) owners st.owned own in owner_of_older (emission e) (caller_name i) emitter owners (omega arith) own

    once_more : (t : SharedFlowState ℕ) → ((e : ℕ) → e ≢ s.issued + 1 → flow.is_waiting e t ≡ true → flow.is_waiting e s ≡ true) → OnceWaits (emitter ∷ owners) t
    once_more t before i e f a b x y = elim (whose i e a) [
      | inl p ↦ elim (whose i f b) [
        | inl q ↦ p.0 ∙ sym q.0
        | inr q ↦ absurd (false≢true (sym (free f (subst (λ (j : ℕ). IsEmitter j f owners) p.1 q.1)) ∙ before f q.0 y))
      ]
      | inr p ↦ elim (whose i f b) [
        | inl q ↦ absurd (false≢true (sym (free e (subst (λ (j : ℕ). IsEmitter j e owners) q.1 p.1)) ∙ before e p.0 x))
        | inr q ↦ st.waits.once i e f p.1 q.1 (before e p.0 x) (before f q.0 y)
      ]
    ]

    owned_more : UpTo (s.issued + 1) (emitter ∷ owners)
    owned_more = (same, up_to_more s.issued (s.issued + 1) owners (omega arith) st.owned)
      where
        same : s.issued + 1 ≤ s.issued + 1
        same = omega arith

    pub offered : law.is_blocked s ≡ false → StandsAs size (append_kept caller v m) (k + 1) (rule.append v s) (emitter ∷ owners)
    offered room =
        let upto = st.issued in record {
          seats = seats_emitter size (map (raised (kept_window m)) m.lags) m.owns s.subscribers (length (s.emitted ++ rule.numbered v s ∷ [])) (s.issued + 1) (caller_name caller) owners
              (seats_appended size m k s owners st.seats st.values caller v (rule.numbered v s) rises room);
          values = values_appended size m k s owners st.seats st.values caller v (rule.numbered v s) refl;
          waits = waits_appended m caller v (rule.append v s) (rule.numbered v s) m.queue (emitter ∷ owners) (newest_is s (rule.numbered v s))
              (queue_older owners emitter s.issued m.queue s.queue st.owned (omega arith) st.waits.queue) (once_more (rule.append v s) before) (λ none some. newest_owner emitter owners);
          issued = omega arith;
          owned = owned_more;
        }
      where
        before : (e : ℕ) → e ≢ s.issued + 1 → flow.is_waiting e (rule.append v s) ≡ true → flow.is_waiting e s ≡ true
        before e apart w = elim (or_cases (law.is_queued e (rule.append v s)) (law.is_offered_as e (rule.append v s)) w) [
          | inl q ↦ or_left (law.is_queued e s) (law.is_offered_as e s) q
          | inr o ↦
              let both = and_parts (law.is_offering (rule.append v s)) (law.newest (rule.append v s) == e) o in
              absurd (apart (sym (sym (newest_is s (rule.numbered v s)) ∙ (Decides-eqb (law.newest (rule.append v s)) e).0 both.1)))
        ]

    pub held : StandsAs size (hold caller v m) (k + 1) (rule.suspend v s) (emitter ∷ owners)
    held =
        let upto = st.issued in record {
          seats = seats_emitter size m.lags m.owns s.subscribers (length s.emitted) (s.issued + 1) (caller_name caller) owners st.seats;
          values = st.values;
          waits = record {
            queue = queue_snoc (emitter ∷ owners) m.queue s.queue (record { caller = caller; value = v }) (rule.numbered v s) (queue_older owners emitter s.issued m.queue s.queue st.owned (omega arith) st.waits.queue) refl
                (newest_owner emitter owners);
            offered = λ none some. let its = st.waits.offered none some in (its.0, its.1, older its.0 (law.newest s) its.2);
            unoffered = st.waits.unoffered;
            once = once_more (rule.suspend v s) before;
          };
          issued = omega arith;
          owned = owned_more;
        }
      where
        before : (e : ℕ) → e ≢ s.issued + 1 → flow.is_waiting e (rule.suspend v s) ≡ true → flow.is_waiting e s ≡ true
        before e apart w = elim (or_cases (law.is_queued e (rule.suspend v s)) (law.is_offered_as e (rule.suspend v s)) w) [
          | inl q ↦ elim (or_cases (law.is_queued e s) (list_any (λ p. p.number == e) (rule.numbered v s ∷ [])) (sym (list_any-append (λ p. p.number == e) s.queue (rule.numbered v s ∷ [])) ∙ q)) [
            | inl t ↦ or_left (law.is_queued e s) (law.is_offered_as e s) t
            | inr t ↦ elim (or_cases (s.issued + 1 == e) false t) [
              | inl z ↦ absurd (apart (sym ((Decides-eqb (s.issued + 1) e).0 z)))
              | inr z ↦ absurd (false≢true z)
            ]
          ]
          | inr o ↦ or_right (law.is_queued e s) (law.is_offered_as e s) o
        ]
