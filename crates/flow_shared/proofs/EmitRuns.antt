-- From one poll of an emit future to what its whole run gives.
use Rattle.std.proofs.Common.{◌≡◌, ℕ, ◌⊎◌, inl, inr, true, false, List, [], ◌∷◌, subst}
use Rattle.futures.specs.declared.task.Poll.{Poll as Polled}
use Rattle.futures.specs.declared.task.Poll.TheVariants.{Ready, Pending}
use Rattle.futures.specs.Poll.{IfReady, OnPending}
use Rattle.flow_law.specs.declared.outcome.Emit.TheVariants.{Done, Queued}
use Rattle.flow_law.specs.declared.call.SharedCall.{SharedCall}
use Rattle.flow_law.specs.declared.call.SharedCall.TheVariants as call
use Rattle.flow_law.specs.declared.call.SharedReply.{SharedReply}
use Rattle.flow_law.specs.declared.call.SharedReply.TheVariants as reply
use Rattle.flow_law.specs.declared.states.SharedFlowState.{SharedFlowState}
use Rattle.flow_law.specs.flow.SharedHistory.{shared_flow}
use Rattle.flow_law.specs.history.Tokens.{IsBusy}
use Rattle.flow_gate.specs.Tokens.{GateOrigin}
use Rattle.flow_shared.specs.declared.emit_future.EmitStage.{EmitStage}
use Rattle.flow_shared.specs.declared.emit_future.EmitStage.TheVariants.{Fresh, Waiting, Ended}
use Rattle.flow_shared.specs.declared.emit_future.Sent.{Sent}
use Rattle.flow_shared.specs.declared.emit_future.Sent.TheVariants as sent
use Rattle.flow_shared.specs.Futures.{SharedNumbered}
use Rattle.flow_shared.specs.SharedReplies.{SharedToken, SharedCalls, SharedCallsAtOnce}
use Rattle.flow_shared.specs.EmitFutures.{Emitting, EmitPolls, SentRefusedIfDue, EndsAfter, EmitEnds, EmitsOnce, FutureSends, GivesSent, sent_token}
use Rattle.flow_shared.proofs.Refusals.{emit_fault}
use Rattle.flow_shared.proofs.Waits as waits

module _ {T : Type 0} (flow : GateOrigin (SharedFlowState T)) where
  pub called_later : (t u w : SharedToken T) (c : SharedCall T) (r : SharedReply T) → IsBusy t u → SharedCalls flow u c r w → SharedCalls flow t c r w
  called_later = waits.called_later shared_flow flow

  ends_by : (us : List (SharedToken T)) (e : ℕ) (t u w : SharedToken T) → IsBusy t u → EndsAfter flow us e u w → EndsAfter flow us e t w
  ends_by [] e t u w busy h = called_later t u w (call.Poll e) (reply.Tested false) busy h
  ends_by (x ∷ us) e t u w busy h = (called_later t u x (call.Poll e) (reply.Tested true) busy h.0, h.1)

  ends_later : (e : ℕ) (t u w : SharedToken T) → IsBusy t u → EmitEnds flow e u w → EmitEnds flow e t w
  ends_later e t u w busy h = (h.0, ends_by h.0 e t u w busy h.1)

  waits_same : (e f : SharedNumbered T) (w : SharedToken T) → (IsBusy e.token f.token ⊎ SharedCallsAtOnce flow e.token (call.Poll e.number) (reply.Tested true) f.token) → EmitEnds flow e.number f.token w → EmitEnds flow e.number e.token w
  waits_same e f w (inl busy) h = ends_later e.number e.token f.token w busy h
  waits_same e f w (inr called) h = (f.token ∷ h.0, (called.0, h.1))

  -- a busy poll before the value was emitted
  emits_later : (v : T) (t u w : SharedToken T) → IsBusy t u → EmitsOnce flow v u w → EmitsOnce flow v t w
  emits_later v t u w busy (inl called) = inl (called_later t u w (call.Emit v) (reply.Emitted Done) busy called)
  emits_later v t u w busy (inr q) = inr (q.0, q.1, called_later t u q.1 (call.Emit v) (reply.Emitted (Queued q.0)) busy q.2, q.3)

module _ {T A : Type 0} (flow : GateOrigin (SharedFlowState T)) where
  sends_value : (s : EmitStage T A) (p : Polled (Sent T A)) (s' : EmitStage T A) → EmitPolls flow s p s' → IfReady p (FutureSends flow s)
  sends_value s Pending s' h = tt
  sends_value (Fresh t v) (Ready (sent.Done u)) Ended h = inl h.0
  sends_value (Fresh t v) (Ready (sent.Refused u w fault)) Ended h = (h.0, emit_fault flow t u v fault h.2.0, h.2.0)
  sends_value (Waiting e) (Ready (sent.Done u)) Ended h = ([], h.0)
  sends_value (Fresh t v) (Ready (sent.Done u)) (Fresh x w) h = absurd h
  sends_value (Fresh t v) (Ready (sent.Done u)) (Waiting e) h = absurd h
  sends_value (Fresh t v) (Ready (sent.Refused u w fault)) (Fresh x y) h = absurd h
  sends_value (Fresh t v) (Ready (sent.Refused u w fault)) (Waiting e) h = absurd h
  sends_value (Waiting e) (Ready (sent.Done u)) (Fresh t w) h = absurd h
  sends_value (Waiting e) (Ready (sent.Done u)) (Waiting f) h = absurd h
  sends_value (Waiting e) (Ready (sent.Refused u w fault)) s' h = absurd h
  sends_value Ended (Ready x) s' h = absurd h

  fresh_same : (t u : SharedToken T) (v w : T) → (w ≡ v) × IsBusy t u → (x : Sent T A) → FutureSends flow (Fresh u w) x → FutureSends flow (Fresh t v) x
  fresh_same t u v w p (sent.Done x) h = subst (λ z. FutureSends {A = A} flow (Fresh t z) (sent.Done x)) p.0 (emits_later flow w t u x p.1 h)
  fresh_same t u v w p (sent.Refused x y fault) h = subst (λ z. FutureSends {A = A} flow (Fresh t z) (sent.Refused x y fault)) p.0
      (h.0, h.1, called_later flow t u x (call.Emit w) (reply.Refused fault) p.1 h.2)

  queued_same : (t : SharedToken T) (v : T) (e : SharedNumbered T) → SharedCallsAtOnce flow t (call.Emit v) (reply.Emitted (Queued e.number)) e.token → (x : Sent T A) → FutureSends flow (Waiting e) x → FutureSends flow (Fresh t v) x
  queued_same t v e p (sent.Done x) h = inr (e.number, e.token, p.0, h)
  queued_same t v e p (sent.Refused x y fault) h = absurd h

  waited_same : (e f : SharedNumbered T) → (f.number ≡ e.number) × (IsBusy e.token f.token ⊎ SharedCallsAtOnce flow e.token (call.Poll e.number) (reply.Tested true) f.token) → (x : Sent T A) → FutureSends flow (Waiting f) x → FutureSends flow (Waiting e) x
  waited_same e f p (sent.Done x) h = waits_same flow e f x p.1 (subst (λ n. EmitEnds flow n f.token x) p.0 h)
  waited_same e f p (sent.Refused x y fault) h = absurd h

  pub sends_same : (s s' : EmitStage T A) → EmitPolls flow s Pending s' → (x : Sent T A) → FutureSends flow s' x → FutureSends flow s x
  sends_same (Fresh t v) (Fresh u w) p = fresh_same t u v w p
  sends_same (Fresh t v) (Waiting e) p = queued_same t v e p
  sends_same (Fresh t v) Ended p = absurd p
  sends_same (Waiting e) (Waiting f) p = waited_same e f p
  sends_same (Waiting e) (Fresh t v) p = absurd p
  sends_same (Waiting e) Ended p = absurd p
  sends_same Ended Ended p = λ x h. h
  sends_same Ended (Fresh t v) p = absurd p
  sends_same Ended (Waiting e) p = absurd p

  is_due_in : (s : EmitStage T A) (x : Sent T A) → FutureSends flow s x → SentRefusedIfDue x
  is_due_in s (sent.Done u) h = tt
  is_due_in (Fresh t v) (sent.Refused u w fault) h = h.1
  is_due_in (Waiting e) (sent.Refused u w fault) h = absurd h
  is_due_in Ended (sent.Refused u w fault) h = absurd h

  pub is_due : (s : EmitStage T A) (p : Polled (Sent T A)) (s' : EmitStage T A) → EmitPolls flow s p s' → IfReady p SentRefusedIfDue
  is_due s Pending s' h = tt
  is_due s (Ready x) s' h = is_due_in s x (sends_value s (Ready x) s' h)

module _ {T A : Type 0} where
  pub gives_value : (f f' : Emitting T A) (p : Polled (Sent T A)) → EmitPolls f.flow f.stage p f'.stage → IfReady p (λ s. (sent_token s).table_id ≡ f.flow.table_id) → IfReady p (GivesSent f)
  gives_value f f' Pending h at = tt
  gives_value f f' (Ready x) h at = (at, sends_value f.flow f.stage (Ready x) f'.stage h)

  pub gives_same : (f f' : Emitting T A) (p : Polled (Sent T A)) → f'.flow ≡ f.flow → EmitPolls f.flow f.stage p f'.stage → OnPending p ((x : Sent T A) → GivesSent f' x → GivesSent f x)
  gives_same f f' (Ready x) is h = tt
  gives_same f f' Pending is h = λ x g. let there = subst (λ flow. ((sent_token x).table_id ≡ flow.table_id) × FutureSends flow f'.stage x) is g in
      (there.0, sends_same f.flow f.stage f'.stage h x there.1)
