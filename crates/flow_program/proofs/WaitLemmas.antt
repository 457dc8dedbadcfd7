-- What a caller has done after a call that waits.
use Rattle.std.proofs.Common.{inl, inr, ◌≡◌, ℕ, ◌+◌, ◌<◌, length, true, false, List, [], ◌∷◌, Ok, ◌∙◌, subst}
use Rattle.flow_law.specs.declared.fault.FlowFault.{FlowFault}
use Rattle.flow_law.specs.declared.history.Knowledge.{Knowledge}
use Rattle.flow_law.specs.declared.outcome.Emit.TheVariants.{Done, Queued}
use Rattle.flow_law.specs.declared.outcome.Next.TheVariants.{Value}
use Rattle.flow_law.specs.declared.call.SharedCall.TheVariants as call
use Rattle.flow_law.specs.declared.call.SharedReply.TheVariants as reply
use Rattle.flow_law.specs.declared.states.SharedFlowState.{SharedFlowState}
use Rattle.flow_law.specs.declared.config.Overflow.TheVariants.{Suspend}
use Rattle.flow_law.specs.history.Growth.{first_knowledge}
use Rattle.flow_law.specs.history.Rounds.{HasClosedHistory}
use Rattle.flow_law.specs.history.History.{IsHistory}
use Rattle.flow_law.specs.flow.SharedHistory.{shared_flow}
use Rattle.flow_gate.specs.Tokens.{GateOrigin}
use Rattle.flow_shared.specs.Calls.{GateNumbered, Subscribes}
use Rattle.flow_shared.specs.EmitFutures.{EndsAfter, EmitsOnce}
use Rattle.flow_shared.specs.Receiving.{NextsAfter, FlowReceives}
use Rattle.flow_shared.specs.SharedReplies.{SharedToken, SharedCalls}
use Rattle.flow_program.specs.Callers.{Says, OnlyEmits, Reads}
use Rattle.flow_program.proofs.CallerLemmas.{emits_one, emits_poll, emits_refused, emits_more, reads_one, reads_empty, reads_more}
use Rattle.flow_program.proofs.PairLemmas.{got_what_was_sent}

module _ {T : Type 0} (flow : GateOrigin (SharedFlowState T)) where
  polled : (us : List (SharedToken T)) (e : ℕ) (t after : SharedToken T) → EndsAfter flow us e t after → OnlyEmits [] t.knows after.knows
  polled [] e t after c = emits_poll (IsHistory shared_flow flow.first) t.knows after.knows e (reply.Tested false) c.1
  polled (u ∷ us) e t after c = emits_more [] [] t.knows u.knows after.knows (emits_poll (IsHistory shared_flow flow.first) t.knows u.knows e (reply.Tested true) c.0.1) (polled us e u after c.1)

  pub emitted_once : (v : T) (before after : SharedToken T) → EmitsOnce flow v before after → OnlyEmits (v ∷ []) before.knows after.knows
  emitted_once v before after (inl done) = emits_one (IsHistory shared_flow flow.first) before.knows after.knows v Done done.1
  emitted_once v before after (inr q) = emits_more (v ∷ []) [] before.knows q.1.knows after.knows
      (emits_one (IsHistory shared_flow flow.first) before.knows q.1.knows v (Queued q.0) q.2.1) (polled q.3.0 q.0 q.1 after q.3.1)

  pub emit_refused : (v : T) (fault : FlowFault) (before after : SharedToken T) → SharedCalls flow before (call.Emit v) (reply.Refused fault) after → OnlyEmits [] before.knows after.knows
  emit_refused v fault before after c = emits_refused (IsHistory shared_flow flow.first) before.knows after.knows v fault c.1

  abbrev pub Reader : Type 0
  Reader = GateNumbered (Says T)

  nexts_read : (us : List Reader) (v : T) (old new : Reader) → NextsAfter shared_flow flow us old (Ok (Value v)) new → Reads old.number (v ∷ []) old.token.knows new.token.knows × (new.number ≡ old.number)
  nexts_read [] v old new c = (reads_one (IsHistory shared_flow flow.first) old.number old.token.knows new.token.knows v c.0.1, c.1)
  nexts_read (u ∷ us) v old new c =
      let rest = nexts_read us v u new c.1 in (
        reads_more old.number [] (v ∷ []) old.token.knows u.token.knows new.token.knows (reads_empty (IsHistory shared_flow flow.first) old.number old.token.knows u.token.knows c.0.0.1)
            (subst (λ n. Reads n (v ∷ []) u.token.knows new.token.knows) c.0.1 rest.0),
        rest.1 ∙ c.0.1,
      )

  pub value_received : (v : T) (old new : Reader) → FlowReceives shared_flow flow old (Ok v) new → Reads old.number (v ∷ []) old.token.knows new.token.knows × (new.number ≡ old.number)
  value_received v old new r = nexts_read r.0 v old new r.1

  -- a seat that subscribed and then sent, and its subscription, which got as many values: it got what was sent
  pub handed_over : flow.first.config.overflow ≡ Suspend → 0 < flow.first.config.replay + flow.first.config.extra → (seat after : SharedToken T) (s : Reader) → seat.knows ≡ first_knowledge
      → Subscribes shared_flow flow shared_flow.subscribe seat (Ok s) after → (xs got : List T) (sender reader : Knowledge (Says T)) → OnlyEmits xs after.knows sender → Reads s.number got s.token.knows reader
      → length got ≡ length xs → HasClosedHistory shared_flow flow.first (sender ∷ reader ∷ []) → got ≡ xs
  handed_over suspends room seat after s begins sub xs got sender reader emits reads count ended =
      got_what_was_sent flow.first suspends room seat.knows sub.0.knows sender reader s.number xs got begins sub.1.1
      (subst (λ (t : SharedToken T). OnlyEmits xs t.knows sender) sub.2 emits) (subst (λ (t : SharedToken T). Reads s.number got t.knows reader) sub.3 reads) count ended
