-- The values that a shared flow accepted: emitted at once, or queued. Begin with `accepted`.
use Rattle.std.specs.Prelude.{◌≡◌, Bool, true, false, List, [], ◌∷◌, ◌++◌, map, flat_map}
use Rattle.std.specs.List.{AllByRecursion}
use Rattle.flow_law.specs.declared.config.Config.{Config}
use Rattle.flow_law.specs.declared.config.Overflow.TheVariants.{Suspend}
use Rattle.flow_law.specs.declared.history.HistoryEvent.{HistoryEvent}
use Rattle.flow_law.specs.declared.history.Said.{Said}
use Rattle.flow_law.specs.declared.call.SharedCall.{SharedCall}
use Rattle.flow_law.specs.declared.call.SharedCall.TheVariants as call
use Rattle.flow_law.specs.declared.call.SharedReply.{SharedReply}
use Rattle.flow_law.specs.declared.call.SharedReply.TheVariants as reply
use Rattle.flow_law.specs.flow.SharedFlow.{SharedFlowState}
use Rattle.flow_law.specs.flow.SharedHistory.{History, IsLegalShared, state_after}

module _ {T : Type 0} where
  -- the value that a call gave to the flow, if its reply says that the flow took it (under `DropLatest` the flow may have dropped it)
  abbrev pub accepted_by : SharedCall T → SharedReply T → List T
  accepted_by (call.TryEmit v) (reply.Tested true) = v ∷ []
  accepted_by (call.Emit v) (reply.Emitted e) = v ∷ []
  accepted_by _ _ = []

  -- the values that these calls gave to the flow, in order
  abbrev pub accepted : List (Said (SharedCall T) (SharedReply T)) → List T
  accepted = flat_map (λ (e : Said (SharedCall T) (SharedReply T)). accepted_by e.call e.reply)

  -- the call is a `cancel`
  abbrev pub is_cancel : SharedCall T → Bool
  is_cancel (call.Cancel e) = true
  is_cancel _ = false

  -- no `cancel` was called
  abbrev pub NoneCancelled : History T → Type 0
  NoneCancelled = AllByRecursion (λ (e : HistoryEvent (Said (SharedCall T) (SharedReply T))). is_cancel e.what.call ≡ false)

  -- the emitted values, and then the queued ones
  abbrev pub emitted_and_queued : SharedFlowState T → List T
  emitted_and_queued s = map (λ e. e.value) (s.emitted ++ s.queue)

-- the law: in a flow that suspends, the emitted values and then the queued ones are what the flow accepted, in order, if no
-- `cancel` was called
abbrev pub LawAccepted : Type 0 → Type 0
LawAccepted T = (config : Config) (h : History T) → IsLegalShared config h → config.overflow ≡ Suspend → NoneCancelled h
    → emitted_and_queued (state_after config h) ≡ accepted (map (λ e. e.what) h)
