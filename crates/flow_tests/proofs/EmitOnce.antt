-- How often a seat has emitted after a whole run of its emit future.
use Rattle.std.proofs.Common.{◌≡◌, ℕ, ◌+◌, inl, inr, true, false, List, [], ◌∷◌, ◌∙◌}
use Rattle.flow_law.specs.declared.outcome.Emit.TheVariants.{Done, Queued}
use Rattle.flow_law.specs.declared.call.SharedCall.TheVariants as call
use Rattle.flow_law.specs.declared.call.SharedReply.{SharedReply}
use Rattle.flow_law.specs.declared.call.SharedReply.TheVariants as reply
use Rattle.flow_law.specs.declared.states.SharedFlowState.{SharedFlowState}
use Rattle.flow_gate.specs.Tokens.{GateOrigin}
use Rattle.flow_shared.specs.declared.emit_future.EmitStage.TheVariants.{Fresh}
use Rattle.flow_shared.specs.declared.emit_future.Sent.{Sent}
use Rattle.flow_shared.specs.declared.emit_future.Sent.TheVariants as sent
use Rattle.flow_shared.specs.SharedReplies.{SharedToken, SharedCalls}
use Rattle.flow_shared.specs.EmitFutures.{EndsAfter, EmitEnds, EmitsOnce, FutureSends, GivesSent, emitting_at, EmitsOne}
use Rattle.flow_shared.proofs.EmitCountLemmas.{count, count_called, plus_zero}

module _ {T : Type 0} (flow : GateOrigin (SharedFlowState T)) where
  polled_none : (t u : SharedToken T) (e : ℕ) (r : SharedReply T) → SharedCalls flow t (call.Poll e) r u → count u ≡ count t
  polled_none t u e r called = count_called flow t u (call.Poll e) r called ∙ plus_zero (count t)

  ends_none : (us : List (SharedToken T)) (e : ℕ) (t u : SharedToken T) → EndsAfter flow us e t u → count u ≡ count t
  ends_none [] e t u h = polled_none t u e (reply.Tested false) h
  ends_none (w ∷ us) e t u h = ends_none us e w u h.1 ∙ polled_none t w e (reply.Tested true) h.0

  emits_once : (v : T) (t u : SharedToken T) → EmitsOnce flow v t u → count u ≡ count t + 1
  emits_once v t u (inl called) = count_called flow t u (call.Emit v) (reply.Emitted Done) called
  emits_once v t u (inr q) = ends_none q.3.0 q.0 q.1 u q.3.1 ∙ count_called flow t q.1 (call.Emit v) (reply.Emitted (Queued q.0)) q.2

module _ {T A : Type 0} where
  pub gives_one : (flow : GateOrigin (SharedFlowState T)) (t : SharedToken T) (v : T) (s : Sent T A) → GivesSent (emitting_at flow (Fresh t v)) s → EmitsOne t s
  gives_one flow t v (sent.Done u) h = emits_once flow v t u h.1
  gives_one flow t v (sent.Refused u w fault) h = count_called flow t u (call.Emit v) (reply.Refused fault) h.1.2
