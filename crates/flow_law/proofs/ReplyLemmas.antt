-- Each reply of a flow is the documented one, or out of memory.
use Rattle.std.proofs.Common.{inl, inr, ◌≡◌, ◌⊎◌, not, ◌&&◌, refl}
use Rattle.std.specs.Prelude.{IsTrue}
use Rattle.flow_law.specs.declared.fault.FlowFault.TheVariants.{OutOfMemory}
use Rattle.flow_law.specs.declared.call.SharedCall.{SharedCall}
use Rattle.flow_law.specs.declared.call.SharedReply.{SharedReply}
use Rattle.flow_law.specs.declared.call.SharedReply.TheVariants as shared
use Rattle.flow_law.specs.declared.call.StateCall.{StateCall}
use Rattle.flow_law.specs.declared.call.StateReply.{StateReply}
use Rattle.flow_law.specs.declared.call.StateReply.TheVariants as state
use Rattle.flow_law.specs.flow.SharedFlow.{SharedFlowState}
use Rattle.flow_law.specs.flow.SharedHistory.{answer_to, is_refused, may_need_memory, Replies}
use Rattle.flow_law.specs.flow.StateFlow.{StateFlowState, IsReply}
use Rattle.flow_law.specs.flow.StateFlow as flow

module _ {T : Type 0} where
  pub replies_cases : (s : SharedFlowState T) (c : SharedCall T) (r : SharedReply T) → Replies s c r
      → (r ≡ (answer_to c s).reply) ⊎ ((r ≡ shared.Refused OutOfMemory) × IsTrue (may_need_memory s c && not (is_refused (answer_to c s).reply)))
  replies_cases s c (shared.Refused OutOfMemory) h = inr (refl, h)
  replies_cases s c r h = inl h

  pub state_replies_cases : (s : StateFlowState T) (c : StateCall T) (r : StateReply T) → flow.StateFlowReplies s c r
      → IsReply s c r ⊎ ((r ≡ state.Refused OutOfMemory) × flow.MayNeedMemory s c)
  state_replies_cases s c (state.Refused OutOfMemory) h = inr (refl, h)
  state_replies_cases s c r h = inl h
