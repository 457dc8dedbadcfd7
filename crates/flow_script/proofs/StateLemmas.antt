-- A call of the state core, as the documented flow's call with its line.
use Rattle.std.proofs.Common.{◌≡◌, ◌≢◌, ◌⊎◌, ℤ, true, false, if◌then◌else◌, Option, Some, None, refl, sym, ap, ◌∙◌, inl, inr}
use Rattle.std.specs.Ordering.{int_eq}
use Rattle.std.proofs.lemmas.Bool.Decides.{Decides-int_eq}
use Rattle.flow_law.specs.declared.outcome.Next.TheVariants.{Value, Empty}
use Rattle.flow_law.specs.declared.call.StateCall.{StateCall}
use Rattle.flow_law.specs.declared.call.StateCall.TheVariants as call
use Rattle.flow_law.specs.declared.call.StateReply.{StateReply}
use Rattle.flow_law.specs.declared.call.StateReply.TheVariants as reply
use Rattle.flow_law.specs.declared.states.StateFlowState.{StateFlowState}
use Rattle.flow_law.specs.flow.StateFlow.{last_got_by}
use Rattle.flow_law.specs.flow.StateFlow as documented
use Rattle.flow_script.specs.StateMeaning.{documented_state_reply, received_by_state, is_last}

pub same : (a b : ℤ) → a ≡ b → int_eq a b ≡ true
same a b e = (Decides-int_eq a b).1 e

pub differs : (a b : ℤ) → a ≢ b → int_eq a b ≡ false
differs a b ne = elim (int_eq a b) as (λ t. int_eq a b ≡ t → t ≡ false) [ true ↦ λ h. absurd (ne ((Decides-int_eq a b).0 h)) | false ↦ λ _. refl ] refl

compared : (v a : ℤ) (r : StateReply ℤ) → ((v ≡ a) × (r ≡ reply.Answered true)) ⊎ ((v ≢ a) × (r ≡ reply.Answered false)) → r ≡ reply.Answered (int_eq v a)
compared v a r (inl w) = w.1 ∙ ap reply.Answered (sym (same v a w.0))
compared v a r (inr w) = w.1 ∙ ap reply.Answered (sym (differs v a w.0))

last-same : (v : ℤ) (last : Option ℤ) → last ≡ Some v → is_last v last ≡ true
last-same v last e = ap (is_last v) e ∙ same v v refl

last-differs : (v : ℤ) (last : Option ℤ) → last ≢ Some v → is_last v last ≡ false
last-differs v None ne = refl
last-differs v (Some x) ne = differs x v (λ e. ne (ap Some e))

received-is : (v : ℤ) (last : Option (Option ℤ)) (r : StateReply ℤ) → documented.Receives v last r → r ≡ received_by_state v last
received-is v None r is = is
received-is v (Some last) r (inl w) = w.1 ∙ ap (λ t. if t then reply.Received Empty else reply.Received (Value v)) (sym (last-same v last w.0))
received-is v (Some last) r (inr w) = w.1 ∙ ap (λ t. if t then reply.Received Empty else reply.Received (Value v)) (sym (last-differs v last w.0))

-- the documented reply is the computed one
pub reply-is : (c : StateCall ℤ) (s : StateFlowState ℤ) (r : StateReply ℤ) → documented.IsReply s c r → r ≡ documented_state_reply c s
reply-is call.GetValue s r is = is
reply-is (call.Set x) s r is = is
reply-is (call.TryEmit x) s r is = is
reply-is (call.CompareAndSet a b) s r is = compared s.value a r is
reply-is (call.Subscribe name) s r is = is
reply-is (call.TakeNext u) s r is = received-is s.value (last_got_by u s.subscribers) r is
reply-is (call.Unsubscribe u) s r is = is
reply-is call.SubscriptionCount s r is = is
reply-is call.ReplayCache s r is = is
reply-is call.ResetReplayCache s r is = is
