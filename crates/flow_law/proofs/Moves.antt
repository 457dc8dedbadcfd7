-- The moves of a shared flow: each call is one of a few.
use Rattle.std.proofs.Common.{inl, inr, ◌≡◌, ℕ, ◌+◌, true, false, not, ◌&&◌, ◌==◌, cond, List, [], ◌∷◌, ◌++◌, length, Option, Some, None, refl, arith}
use Rattle.std.specs.Prelude.{nat_le, nat_lt, Err}
use Rattle.std.specs.List.{list_any, slice_get}
use Rattle.std.specs.Option.{option_map_or}
use Rattle.std.proofs.lemmas.Bool.{cond_both, or_cases, and_parts, not-true}
use Rattle.flow_law.specs.declared.config.Overflow.{Overflow}
use Rattle.flow_law.specs.declared.config.Overflow.TheVariants.{Suspend, DropOldest, DropLatest}
use Rattle.flow_law.specs.declared.fault.FlowFault.TheVariants.{Exhausted}
use Rattle.flow_law.specs.declared.call.SharedCall.{SharedCall}
use Rattle.flow_law.specs.declared.call.SharedCall.TheVariants as call
use Rattle.flow_law.specs.declared.call.SharedReply.{SharedReply}
use Rattle.flow_law.specs.flow.SharedFlow.{Numbered, Subscriber, SharedFlowState, Replied, capacity, window, lag, is_blocked, is_exhausted, issuing, answer, values, position_of, own_of}
use Rattle.flow_law.specs.flow.EmitRule.{appends, offers, when_blocked, is_open, emit_case, append, suspend, drop_oldest, emit_in, try_emit_in}
use Rattle.flow_law.specs.flow.SharedStep.{admit, settle, withdraw, advance, leave, enroll, forget, keep_own, next_from, read, next}
use Rattle.flow_law.specs.flow.SharedHistory.{answer_to, is_refused, after, History, shared_after_all}

module _ {T : Type 0} where
  -- each move keeps P
  pub record Keeps (P : SharedFlowState T → Type 0) (s : SharedFlowState T) : Type 0 where
    pub appends : (v : T) → is_blocked s ≡ false → P (append v s)
    pub suspends : (v : T) → is_blocked s ≡ true → s.config.overflow ≡ Suspend → P (suspend v s)
    pub drops : (v : T) → is_blocked s ≡ true → s.config.overflow ≡ DropOldest → P (drop_oldest (append v s))
    pub withdraws : (e : ℕ) → P (settle (withdraw e s))
    pub advances : (u p : ℕ) (v : T) → position_of u s.subscribers ≡ Some p → slice_get (values s) p ≡ Some v → P (settle (advance u (p + 1) s))
    pub leaves : (u : ℕ) → P (settle (leave u s))
    pub enrolls : (first : List T) → P (enroll first s)
    pub takes_own : (u : ℕ) (v : T) (own : List T) → own_of u s.subscribers ≡ v ∷ own → P (keep_own u own s)
    pub forgets : P (forget s)

  pub no_subscriber : (s : SharedFlowState T) → (length s.subscribers == 0) ≡ true → is_blocked s ≡ false
  no_subscriber s none = empty s.subscribers none
    where
      empty : (us : List (Subscriber T)) → (length us == 0) ≡ true → list_any (λ u. nat_le (window s) (lag s u)) us ≡ false
      empty [] e = refl
      empty (u ∷ us) e = absurd (grind (arith, e))

  pub open_not_blocked : (s : SharedFlowState T) → is_open s ≡ true → is_blocked s ≡ false
  open_not_blocked s ready = elim (or_cases (length s.subscribers == 0) (not (is_blocked s) && nat_lt 0 (capacity s)) ready) as (λ _. is_blocked s ≡ false) [
    | inl none ↦ no_subscriber s none
    | inr both ↦ not-true (is_blocked s) (and_parts (not (is_blocked s)) (nat_lt 0 (capacity s)) both).0
  ]

  issued_or_kept : {R : Type 0} (P : SharedFlowState T → Type 0) (s : SharedFlowState T) (a : Replied R T) → P s → P a.after → P (issuing s a).after
  issued_or_kept P s a h k = cond_both (is_exhausted s) (record { reply = Err Exhausted; after = s }) a (λ b. P b.after) (λ _. h) (λ _. k)

  pub emit_keeps : (P : SharedFlowState T → Type 0) (s : SharedFlowState T) (v : T) → P s → Keeps P s → P (emit_in (emit_case s) v s).after
  emit_keeps P s v h k = cond_both (is_open s) appends (cond (is_blocked s) (when_blocked s.config.overflow) offers) (λ m. P (emit_in m v s).after)
      (λ e. issued_or_kept P s _ h (k.appends v (open_not_blocked s e)))
      (λ _. cond_both (is_blocked s) (when_blocked s.config.overflow) offers (λ m. P (emit_in m v s).after)
      (λ e. full s.config.overflow (k.suspends v e) (k.drops v e))
      (λ e. issued_or_kept P s _ h (k.appends v e)))
    where
      full : (o : Overflow) → (o ≡ Suspend → P (suspend v s)) → (o ≡ DropOldest → P (drop_oldest (append v s))) → P (emit_in (when_blocked o) v s).after
      full Suspend a b = issued_or_kept P s _ h (a refl)
      full DropOldest a b = issued_or_kept P s _ h (b refl)
      full DropLatest a b = h

  pub try_emit_keeps : (P : SharedFlowState T → Type 0) (s : SharedFlowState T) (v : T) → P s → Keeps P s → P (try_emit_in (emit_case s) v s).after
  try_emit_keeps P s v h k = cond_both (is_open s) appends (cond (is_blocked s) (when_blocked s.config.overflow) offers) (λ m. P (try_emit_in m v s).after)
      (λ e. issued_or_kept P s _ h (k.appends v (open_not_blocked s e)))
      (λ _. cond_both (is_blocked s) (when_blocked s.config.overflow) offers (λ m. P (try_emit_in m v s).after)
      (λ e. full s.config.overflow (k.drops v e))
      (λ e. h))
    where
      full : (o : Overflow) → (o ≡ DropOldest → P (drop_oldest (append v s))) → P (try_emit_in (when_blocked o) v s).after
      full Suspend b = h
      full DropOldest b = issued_or_kept P s _ h (b refl)
      full DropLatest b = h

  pub next_keeps : (P : SharedFlowState T → Type 0) (s : SharedFlowState T) (u : ℕ) → P s → Keeps P s → P (next u s).after
  next_keeps P s u h k = from (own_of u s.subscribers) refl
    where
      here : (p : ℕ) → position_of u s.subscribers ≡ Some p → (o : Option T) → slice_get (values s) p ≡ o
          → P (option_map_or (λ value. answer (Rattle.flow_law.specs.declared.outcome.Next.TheVariants.Value value) (settle (advance u (p + 1) s))) o (answer Rattle.flow_law.specs.declared.outcome.Next.TheVariants.Empty s)).after
      here p e None f = h
      here p e (Some v) f = k.advances u p v e f

      at : (o : Option ℕ) → position_of u s.subscribers ≡ o → P (option_map_or (λ position. read u position s) o (answer Rattle.flow_law.specs.declared.outcome.Next.TheVariants.Gone s)).after
      at None e = h
      at (Some p) e = here p e (slice_get (values s) p) refl

      from : (own : List T) → own_of u s.subscribers ≡ own → P (next_from u own s).after
      from [] e = at (position_of u s.subscribers) refl
      from (v ∷ own) e = k.takes_own u v own e

  -- a call keeps what each move keeps
  pub call_keeps : (P : SharedFlowState T → Type 0) (s : SharedFlowState T) → P s → Keeps P s → (c : SharedCall T) → P (answer_to c s).after
  call_keeps P s h k (call.TryEmit v) = try_emit_keeps P s v h k
  call_keeps P s h k (call.Emit v) = emit_keeps P s v h k
  call_keeps P s h k (call.Poll e) = h
  call_keeps P s h k (call.Cancel e) = k.withdraws e
  call_keeps P s h k (call.Subscribe name first) = issued_or_kept P s _ h (k.enrolls first)
  call_keeps P s h k (call.TakeNext u) = next_keeps P s u h k
  call_keeps P s h k (call.Unsubscribe u) = k.leaves u
  call_keeps P s h k call.ReplayCache = h
  call_keeps P s h k call.ResetReplayCache = k.forgets
  call_keeps P s h k call.SubscriptionCount = h

  pub event_keeps : (P : SharedFlowState T → Type 0) (s : SharedFlowState T) → P s → Keeps P s → (c : SharedCall T) (r : SharedReply T) → P (after s c r)
  event_keeps P s h k c r = cond_both (is_refused r) s (answer_to c s).after P (λ _. h) (λ _. call_keeps P s h k c)

  -- what every move keeps holds after each history
  pub history_keeps : (P : SharedFlowState T → Type 0) → ((s : SharedFlowState T) → P s → Keeps P s) → (s : SharedFlowState T) (h : History T) → P s → P (shared_after_all s h)
  history_keeps P k s [] p = p
  history_keeps P k s (e ∷ es) p = history_keeps P k (after s e.what.call e.what.reply) es (event_keeps P s p (k s p) e.what.call e.what.reply)

  -- admission keeps what each admitted value keeps
  pub admit_keeps : (P : SharedFlowState T → Type 0)
      → ((s : SharedFlowState T) (e : Numbered T) (q : List (Numbered T)) → is_blocked s ≡ false → P (record s { queue = e ∷ q }) → P (record s { emitted = s.emitted ++ e ∷ []; queue = q }))
      → (s : SharedFlowState T) (q : List (Numbered T)) → P (record s { queue = q }) → P (admit s q)
  admit_keeps P k s [] h = h
  admit_keeps P k s (e ∷ q) h = cond_both (is_blocked s) (record s { queue = e ∷ q }) (admit (record s { emitted = s.emitted ++ e ∷ [] }) q) P
      (λ _. h)
      (λ free. admit_keeps P k (record s { emitted = s.emitted ++ e ∷ [] }) q (k s e q free h))
