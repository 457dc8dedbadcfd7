-- Why a flow refuses a call.
use Rattle.std.proofs.Common.{◌≡◌, ◌⊎◌, inl, inr, ℕ, ◌+◌, List, [], ◌∷◌, Option, Some, None}
use Rattle.std.specs.Prelude.{Err}
use Rattle.std.specs.List.{slice_get}
use Rattle.std.specs.Option.{option_map_or}
use Rattle.std.proofs.lemmas.Bool.{cond_both}
use Rattle.flow_law.specs.declared.fault.FlowFault.{FlowFault}
use Rattle.flow_law.specs.declared.fault.FlowFault.TheVariants.{OutOfMemory, Exhausted}
use Rattle.flow_law.specs.declared.call.SharedCall.{SharedCall}
use Rattle.flow_law.specs.declared.call.SharedCall.TheVariants as call
use Rattle.flow_law.specs.declared.call.SharedReply.{SharedReply}
use Rattle.flow_law.specs.declared.call.SharedReply.TheVariants as reply
use Rattle.flow_law.specs.declared.call.StateCall.{StateCall}
use Rattle.flow_law.specs.declared.call.StateCall.TheVariants as state_call
use Rattle.flow_law.specs.declared.call.StateReply.{StateReply}
use Rattle.flow_law.specs.declared.call.StateReply.TheVariants as state_reply
use Rattle.flow_law.specs.declared.outcome.Next.TheVariants.{Value, Empty, Gone}
use Rattle.flow_law.specs.flow.SharedFlow.{SharedFlowState, Replied, answer, issuing, is_exhausted, values, position_of, own_of}
use Rattle.flow_law.specs.flow.EmitRule.{EmitCase, appends, offers, queues, drops_latest, drops_oldest, emit_case, emit_in, try_emit_in}
use Rattle.flow_law.specs.flow.SharedStep.{settle, advance, enroll, read, next_from, next}
use Rattle.flow_law.specs.flow.SharedHistory.{Replies, reply_by, answer_to}
use Rattle.flow_law.specs.flow.StateFlow.{StateFlowState, Receives, last_got_by}
use Rattle.flow_law.specs.flow.StateFlow as flow
use Rattle.flow_law.proofs.ReplyLemmas.{replies_cases, state_replies_cases}

-- a call that may be refused as out of memory or, as is shown, for this
memory_or : {P : Type 0} (fault : FlowFault) → (P → fault ≡ Exhausted) → P ⊎ (fault ≡ OutOfMemory) → (fault ≡ OutOfMemory) ⊎ (fault ≡ Exhausted)
memory_or {P} fault shown cases = elim cases as (λ _. (fault ≡ OutOfMemory) ⊎ (fault ≡ Exhausted)) [
  | inl p ↦ inr (shown p)
  | inr e ↦ inl e
]

-- one that is never refused otherwise
memory_alone : {P : Type 0} (fault : FlowFault) → (P → ⊥) → P ⊎ (fault ≡ OutOfMemory) → fault ≡ OutOfMemory
memory_alone {P} fault never cases = elim cases as (λ _. fault ≡ OutOfMemory) [
  | inl p ↦ absurd (never p)
  | inr e ↦ e
]

-- ---- shared flows

module _ {T : Type 0} (s : SharedFlowState T) (fault : FlowFault) where
  abbrev Refuses : SharedReply T → Type 0
  Refuses r = reply.Refused fault ≡ r

  same_fault : (other : FlowFault) → Refuses (reply.Refused other) → fault ≡ other
  same_fault other e = cc

  issuing_exhausted : {R : Type 0} (wrap : R → SharedReply T) (a : Replied R T) → (Refuses (reply_by wrap a.reply) → fault ≡ Exhausted) → Refuses (reply_by wrap (issuing s a).reply) → fault ≡ Exhausted
  issuing_exhausted wrap a h = cond_both (is_exhausted s) (record { reply = Err Exhausted; after = s }) a (λ b. Refuses (reply_by wrap b.reply) → fault ≡ Exhausted) (λ _ e. cc) (λ _. h)

  emit_exhausted : (m : EmitCase) (v : T) → Refuses (reply_by reply.Emitted (emit_in m v s).reply) → fault ≡ Exhausted
  emit_exhausted appends v = issuing_exhausted reply.Emitted _ (λ e. absurd (cc))
  emit_exhausted offers v = issuing_exhausted reply.Emitted _ (λ e. absurd (cc))
  emit_exhausted queues v = issuing_exhausted reply.Emitted _ (λ e. absurd (cc))
  emit_exhausted drops_latest v = λ e. absurd (cc)
  emit_exhausted drops_oldest v = issuing_exhausted reply.Emitted _ (λ e. absurd (cc))

  try_emit_exhausted : (m : EmitCase) (v : T) → Refuses (reply_by reply.Tested (try_emit_in m v s).reply) → fault ≡ Exhausted
  try_emit_exhausted appends v = issuing_exhausted reply.Tested _ (λ e. absurd (cc))
  try_emit_exhausted offers v = λ e. absurd (cc)
  try_emit_exhausted queues v = λ e. absurd (cc)
  try_emit_exhausted drops_latest v = λ e. absurd (cc)
  try_emit_exhausted drops_oldest v = issuing_exhausted reply.Tested _ (λ e. absurd (cc))

  next_given : (u : ℕ) → Refuses (reply_by reply.Received (next u s).reply) → ⊥
  next_given u = from (own_of u s.subscribers)
    where
      here : (p : ℕ) (o : Option T) → Refuses (reply_by reply.Received (option_map_or (λ value. answer (Value value) (settle (advance u (p + 1) s))) o (answer Empty s)).reply) → ⊥
      here p None = λ e. absurd (cc)
      here p (Some v) = λ e. absurd (cc)

      at : (o : Option ℕ) → Refuses (reply_by reply.Received (option_map_or (λ position. read u position s) o (answer Gone s)).reply) → ⊥
      at None = λ e. absurd (cc)
      at (Some p) = here p (slice_get (values s) p)

      from : (own : List T) → Refuses (reply_by reply.Received (next_from u own s).reply) → ⊥
      from [] = at (position_of u s.subscribers)
      from (v ∷ own) = λ e. absurd (cc)

  -- the documented reply, or out of memory
  refused_cases : (c : SharedCall T) → Replies s c (reply.Refused fault) → Refuses (answer_to c s).reply ⊎ (fault ≡ OutOfMemory)
  refused_cases c h = elim (replies_cases s c (reply.Refused fault) h) as (λ _. Refuses (answer_to c s).reply ⊎ (fault ≡ OutOfMemory)) [
    | inl is ↦ inl is
    | inr out ↦ inr (same_fault OutOfMemory out.0)
  ]

  pub emit_refused : (v : T) → Replies s (call.Emit v) (reply.Refused fault) → (fault ≡ OutOfMemory) ⊎ (fault ≡ Exhausted)
  emit_refused v h = memory_or fault (emit_exhausted (emit_case s) v) (refused_cases (call.Emit v) h)

  -- there is always room for the value
  pub try_emit_refused : (v : T) → Replies s (call.TryEmit v) (reply.Refused fault) → fault ≡ Exhausted
  try_emit_refused v h = elim (replies_cases s (call.TryEmit v) (reply.Refused fault) h) as (λ _. fault ≡ Exhausted) [
    | inl is ↦ try_emit_exhausted (emit_case s) v is
    | inr out ↦ absurd (cc (out.1))
  ]

  pub subscribe_refused : (name : List ℕ) (first : List T) → Replies s (call.Subscribe name first) (reply.Refused fault) → (fault ≡ OutOfMemory) ⊎ (fault ≡ Exhausted)
  subscribe_refused name first h = memory_or fault (issuing_exhausted reply.Subscribed (answer (s.issued + 1) (enroll first s)) (λ e. absurd (cc))) (refused_cases (call.Subscribe name first) h)

  pub next_refused : (u : ℕ) → Replies s (call.TakeNext u) (reply.Refused fault) → fault ≡ OutOfMemory
  next_refused u h = memory_alone fault (next_given u) (refused_cases (call.TakeNext u) h)

  pub cache_refused : Replies s call.ReplayCache (reply.Refused fault) → fault ≡ OutOfMemory
  cache_refused h = memory_alone fault (λ e. absurd (cc)) (refused_cases call.ReplayCache h)

-- ---- state flows

module _ {T : Type 0} (s : StateFlowState T) (fault : FlowFault) where
  state_cases : (c : StateCall T) → flow.StateFlowReplies s c (state_reply.Refused fault) → flow.IsReply s c (state_reply.Refused fault) ⊎ (fault ≡ OutOfMemory)
  state_cases c h = elim (state_replies_cases s c (state_reply.Refused fault) h) as (λ _. flow.IsReply s c (state_reply.Refused fault) ⊎ (fault ≡ OutOfMemory)) [
    | inl is ↦ inl is
    | inr out ↦ inr (cc (out.0))
  ]

  received : (o : Option (Option T)) → Receives s.value o (state_reply.Refused fault) → ⊥
  received None told = cc
  received (Some last) told = elim told as (λ _. ⊥) [
    | inl empty ↦ absurd (cc (empty.1))
    | inr got ↦ absurd (cc (got.1))
  ]

  pub value_refused : flow.StateFlowReplies s state_call.GetValue (state_reply.Refused fault) → fault ≡ OutOfMemory
  value_refused h = memory_alone fault (λ e. absurd (cc)) (state_cases state_call.GetValue h)

  pub state_cache_refused : flow.StateFlowReplies s state_call.ReplayCache (state_reply.Refused fault) → fault ≡ OutOfMemory
  state_cache_refused h = memory_alone fault (λ e. absurd (cc)) (state_cases state_call.ReplayCache h)

  pub state_next_refused : (u : ℕ) → flow.StateFlowReplies s (state_call.TakeNext u) (state_reply.Refused fault) → fault ≡ OutOfMemory
  state_next_refused u h = memory_alone fault (received (last_got_by u s.subscribers)) (state_cases (state_call.TakeNext u) h)

  pub state_subscribe_refused : (name : List ℕ) → flow.StateFlowReplies s (state_call.Subscribe name) (state_reply.Refused fault) → (fault ≡ OutOfMemory) ⊎ (fault ≡ Exhausted)
  state_subscribe_refused name h = memory_or fault
      (cond_both (flow.is_state_exhausted s) (state_reply.Refused Exhausted) (state_reply.Subscribed (s.issued + 1)) (λ (r : StateReply T). ◌≡◌ {A = StateReply T} (state_reply.Refused fault) r → fault ≡ Exhausted) (λ _ e. cc) (λ _ e. absurd (cc)))
      (state_cases (state_call.Subscribe name) h)
