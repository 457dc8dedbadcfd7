-- A flow of one thread never answers Busy.
use Rattle.std.proofs.Common.{◌≢◌, ℕ, ◌+◌, List, [], ◌∷◌, Option, Some, None}
use Rattle.std.specs.Prelude.{Err}
use Rattle.std.specs.List.{slice_get}
use Rattle.std.specs.Option.{option_map_or}
use Rattle.std.proofs.lemmas.Bool.{cond_both}
use Rattle.flow_law.specs.declared.fault.FlowFault.TheVariants.{Busy, Exhausted}
use Rattle.flow_law.specs.declared.call.SharedCall.{SharedCall}
use Rattle.flow_law.specs.declared.call.SharedCall.TheVariants as call
use Rattle.flow_law.specs.declared.call.SharedReply.{SharedReply}
use Rattle.flow_law.specs.declared.call.SharedReply.TheVariants as reply
use Rattle.flow_law.specs.declared.outcome.Next.TheVariants.{Value, Empty, Gone}
use Rattle.flow_law.specs.flow.SharedFlow.{SharedFlowState, Replied, answer, issuing, is_exhausted, values, position_of, own_of}
use Rattle.flow_law.specs.flow.EmitRule.{EmitCase, appends, offers, queues, drops_latest, drops_oldest, emit_case, emit_in, try_emit_in}
use Rattle.flow_law.specs.flow.SharedStep.{settle, advance, enroll, read, next_from, next}
use Rattle.flow_law.specs.flow.SharedHistory.{Replies, reply_by}

module _ {T : Type 0} (s : SharedFlowState T) where
  abbrev Busied : SharedReply T
  Busied = reply.Refused Busy

  -- a call that issues a number is refused as Exhausted, or replies what it would
  issuing_not_busy : {R : Type 0} (wrap : R → SharedReply T) (a : Replied R T) → Busied ≢ reply_by wrap a.reply → Busied ≢ reply_by wrap (issuing s a).reply
  issuing_not_busy wrap a h = cond_both (is_exhausted s) (record { reply = Err Exhausted; after = s }) a (λ b. Busied ≢ reply_by wrap b.reply) (λ _ e. absurd (cc)) (λ _. h)

  emit_not_busy : (m : EmitCase) (v : T) → Busied ≢ reply_by reply.Emitted (emit_in m v s).reply
  emit_not_busy appends v = issuing_not_busy reply.Emitted _ (λ e. absurd (cc))
  emit_not_busy offers v = issuing_not_busy reply.Emitted _ (λ e. absurd (cc))
  emit_not_busy queues v = issuing_not_busy reply.Emitted _ (λ e. absurd (cc))
  emit_not_busy drops_latest v = λ e. absurd (cc)
  emit_not_busy drops_oldest v = issuing_not_busy reply.Emitted _ (λ e. absurd (cc))

  try_emit_not_busy : (m : EmitCase) (v : T) → Busied ≢ reply_by reply.Tested (try_emit_in m v s).reply
  try_emit_not_busy appends v = issuing_not_busy reply.Tested _ (λ e. absurd (cc))
  try_emit_not_busy offers v = λ e. absurd (cc)
  try_emit_not_busy queues v = λ e. absurd (cc)
  try_emit_not_busy drops_latest v = λ e. absurd (cc)
  try_emit_not_busy drops_oldest v = issuing_not_busy reply.Tested _ (λ e. absurd (cc))

  next_not_busy : (u : ℕ) → Busied ≢ reply_by reply.Received (next u s).reply
  next_not_busy u = from (own_of u s.subscribers)
    where
      here : (p : ℕ) (o : Option T) → Busied ≢ reply_by reply.Received (option_map_or (λ value. answer (Value value) (settle (advance u (p + 1) s))) o (answer Empty s)).reply
      here p None = λ e. absurd (cc)
      here p (Some v) = λ e. absurd (cc)

      at : (o : Option ℕ) → Busied ≢ reply_by reply.Received (option_map_or (λ position. read u position s) o (answer Gone s)).reply
      at None = λ e. absurd (cc)
      at (Some p) = here p (slice_get (values s) p)

      from : (own : List T) → Busied ≢ reply_by reply.Received (next_from u own s).reply
      from [] = at (position_of u s.subscribers)
      from (v ∷ own) = λ e. absurd (cc)

  pub never_busy : (c : SharedCall T) → Replies s c (reply.Refused Busy) → ⊥
  never_busy (call.TryEmit v) = try_emit_not_busy (emit_case s) v
  never_busy (call.Emit v) = emit_not_busy (emit_case s) v
  never_busy (call.Poll e) = λ e. absurd (cc)
  never_busy (call.Cancel e) = λ e. absurd (cc)
  never_busy (call.Subscribe name first) = issuing_not_busy reply.Subscribed (answer (s.issued + 1) (enroll first s)) (λ e. absurd (cc))
  never_busy (call.TakeNext u) = next_not_busy u
  never_busy (call.Unsubscribe u) = λ e. absurd (cc)
  never_busy call.ReplayCache = λ e. absurd (cc)
  never_busy call.ResetReplayCache = λ e. absurd (cc)
  never_busy call.SubscriptionCount = λ e. absurd (cc)
