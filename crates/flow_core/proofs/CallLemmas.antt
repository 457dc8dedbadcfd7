-- What the documented calls do in each case that a core has found.
use Rattle.std.proofs.Common.{◌≡◌, ℕ, ◌+◌, Bool, true, false, not, ◌&&◌, ◌||◌, cond, ◌==◌, List, Some, None, refl, sym, ap, subst, ◌∙◌, ◌≤◌, ◌<◌, length, ◌∷◌, [], arith}
use Rattle.std.specs.Prelude.{Err, filter, nat_le, nat_lt}
use Rattle.std.specs.List.{list_any, slice_get}
use Rattle.std.specs.Option.{option_map_or}
use Rattle.flow_law.specs.declared.fault.FlowFault.TheVariants.{OutOfMemory, Exhausted}
use Rattle.flow_law.specs.declared.call.SharedCall.TheVariants as call
use Rattle.flow_law.specs.declared.call.SharedReply.{SharedReply}
use Rattle.flow_law.specs.declared.call.SharedReply.TheVariants as reply
use Rattle.flow_law.specs.declared.outcome.Next.TheVariants.{Value, Empty, Gone}
use Rattle.flow_law.specs.declared.states.SharedFlowState.{SharedFlowState}
use Rattle.flow_law.specs.flow.SharedFlow.{Replied, answer, issuing, is_exhausted, is_blocked, capacity, window, lag, values, position_of, own_of}
use Rattle.flow_law.specs.flow.EmitRule.{EmitCase, appends, offers, when_blocked, emit_case, emit, emit_in, try_emit, try_emit_in}
use Rattle.flow_law.specs.flow.SharedStep.{settle, advance, keep_own, read, next_from, next}
use Rattle.flow_law.specs.flow.SharedHistory.{reply_by, hands_out, is_refused, Replies}
use Rattle.flow_law.specs.flow.Standing.{Core, StandsFor}
use Rattle.flow_law.specs.flow.Covering.{Covers}
use Rattle.std.proofs.lemmas.Bool.{lt-ltb, le-ltb}
use Rattle.std.proofs.lemmas.List.{nil_from_length}
use Rattle.flow_containers.proofs.QueueLemmas.{equal, unequal}

module _ {T : Type 0} where
  pub not_exhausted : (core : Core T) (s : SharedFlowState T) → Covers core s → (core.issued ≡ core.config.limit → ⊥) → is_exhausted s ≡ false
  not_exhausted core s stands left = unequal s.issued s.config.limit (λ e. left (stands.issued ∙ e ∙ sym (ap (λ c. c.limit) stands.config)))

  pub issued_now : {R : Type 0} (s : SharedFlowState T) (a : Replied R T) → is_exhausted s ≡ false → issuing s a ≡ a
  issued_now s a left = ap (λ t. cond t (record { reply = Err Exhausted; after = s }) a) left

  -- which case an emission is in
  pub in_open : (s : SharedFlowState T) → is_blocked s ≡ false → 0 < capacity s → appends ≡ emit_case s
  in_open s free room =
      elim (length s.subscribers == 0) as (λ t. appends ≡ cond (t || (not (is_blocked s) && nat_lt 0 (capacity s))) appends (cond (is_blocked s) (when_blocked s.config.overflow) offers)) [
        | true ↦ refl
        | false ↦ rw free (rw (lt-ltb 0 (capacity s) room) refl)
      ]

  pub in_offers : (s : SharedFlowState T) → (length s.subscribers ≡ 0 → ⊥) → is_blocked s ≡ false → capacity s ≤ 0 → offers ≡ emit_case s
  in_offers s some free none = rw (unequal (length s.subscribers) 0 some) (rw free (rw (le-ltb 0 (capacity s) none) refl))

  pub in_blocked : (s : SharedFlowState T) → is_blocked s ≡ true → when_blocked s.config.overflow ≡ emit_case s
  in_blocked s full = rw (unequal (length s.subscribers) 0 some) (rw full refl)
    where
      some : length s.subscribers ≡ 0 → ⊥
      some none = cc (full, ap (list_any (λ u. nat_le (window s) (lag s u))) (nil_from_length s.subscribers none))

  pub emits_in : (v : T) (s : SharedFlowState T) (k : EmitCase) → emit_case s ≡ k → emit v s ≡ emit_in k v s
  emits_in v s k e = ap (λ c. emit_in c v s) e

  pub tries_in : (v : T) (s : SharedFlowState T) (k : EmitCase) → emit_case s ≡ k → try_emit v s ≡ try_emit_in k v s
  tries_in v s k e = ap (λ c. try_emit_in c v s) e

  -- a call that took the next number, and one that is refused because no number is left
  pub took_number : {R : Type 0} (said : R → SharedReply T) (core after : Core T) (s t : SharedFlowState T) (a : Replied R T) (r : R) → Covers core s → (core.issued ≡ core.config.limit → ⊥)
      → a ≡ issuing s (answer r t) → StandsFor after t → (said r ≡ reply_by said a.reply) × StandsFor after a.after
  took_number said core after s t a r stands left is there =
      let all : a ≡ answer r t = is ∙ issued_now s (answer r t) (not_exhausted core s stands left) in
      (sym (ap (λ b. reply_by said b.reply) all), subst (StandsFor after) (sym (ap (λ b. b.after) all)) there)

  pub refused_number : {R : Type 0} (said : R → SharedReply T) (core : Core T) (s : SharedFlowState T) (a b : Replied R T) → Covers core s → core.issued ≡ core.config.limit
      → a ≡ issuing s b → reply.Refused Exhausted ≡ reply_by said a.reply
  refused_number said core s a b stands none is =
      let exhausted : is_exhausted s ≡ true = equal s.issued s.config.limit (sym stands.issued ∙ none ∙ ap (λ c. c.limit) stands.config) in
      sym (ap (λ d. reply_by said d.reply) is ∙ ap (λ t. reply_by said (cond t (record { reply = Err Exhausted; after = s }) b).reply) exhausted)

  pub next_own : (number : ℕ) (v : T) (own : List T) (s : SharedFlowState T) → own_of number s.subscribers ≡ v ∷ own → next number s ≡ answer (Value v) (keep_own number own s)
  next_own number v own s mine = ap (λ o. next_from number o s) mine

  pub next_gone : (number : ℕ) (s : SharedFlowState T) → own_of number s.subscribers ≡ [] → position_of number s.subscribers ≡ None → next number s ≡ answer Gone s
  next_gone number s none nowhere = ap (λ o. next_from number o s) none ∙ ap (λ o. option_map_or (λ position. read number position s) o (answer Gone s)) nowhere

  pub next_value : (number p : ℕ) (v : T) (s : SharedFlowState T) → own_of number s.subscribers ≡ [] → position_of number s.subscribers ≡ Some p → slice_get (values s) p ≡ Some v
      → next number s ≡ answer (Value v) (settle (advance number (p + 1) s))
  next_value number p v s none at here =
      ap (λ o. next_from number o s) none ∙ ap (λ o. option_map_or (λ position. read number position s) o (answer Gone s)) at
      ∙ ap (λ o. option_map_or (λ value. answer (Value value) (settle (advance number (p + 1) s))) o (answer Empty s)) here

  pub next_empty : (number p : ℕ) (s : SharedFlowState T) → own_of number s.subscribers ≡ [] → position_of number s.subscribers ≡ Some p → slice_get (values s) p ≡ None
      → next number s ≡ answer Empty s
  next_empty number p s none at here =
      ap (λ o. next_from number o s) none ∙ ap (λ o. option_map_or (λ position. read number position s) o (answer Gone s)) at
      ∙ ap (λ o. option_map_or (λ value. answer (Value value) (settle (advance number (p + 1) s))) o (answer Empty s)) here

  -- a `next` that has a value to copy may be refused with `OutOfMemory`
  pub next_wants_memory : (number : ℕ) (v : T) (s after : SharedFlowState T) → own_of number s.subscribers ≡ [] → next number s ≡ answer (Value v) after
      → Replies s (call.TakeNext number) (reply.Refused OutOfMemory)
  next_wants_memory number v s after none all =
      let own : (length (own_of number s.subscribers) == 0) ≡ true = ap (λ l. length l == 0) none in
      let given : hands_out (reply_by reply.Received (next number s).reply) ≡ true = ap (λ a. hands_out (reply_by reply.Received a.reply)) all in
      let kept : is_refused (reply_by reply.Received (next number s).reply) ≡ false = ap (λ a. is_refused (reply_by reply.Received a.reply)) all in
      rw own (rw given (rw kept refl))

pub length-filter : {X : Type 0} (p : X → Bool) (xs : List X) → length (filter p xs) ≤ length xs
length-filter p [] = omega arith
length-filter p (x ∷ xs) =
    elim (p x) as (λ t. length (cond t (x ∷ filter p xs) (filter p xs)) ≤ length (x ∷ xs)) [
      | true ↦ omega (arith, length-filter p xs)
      | false ↦ omega (arith, length-filter p xs)
    ]
