-- What one poll of a future over a shared flow does, for emissions and for subscribers. Begin with `PollsOnce`.
-- `flow` is the flow: which one, and its configuration.
use Rattle.std.specs.Prelude.{◌≡◌, ◌⊎◌, Bool, true, false, Option, Some, IfSome}
use Rattle.futures.specs.declared.task.Poll.{Poll as Polled}
use Rattle.futures.specs.declared.task.Poll.TheVariants.{Ready, Pending}
use Rattle.flow_law.specs.declared.history.Said.{Said}
use Rattle.flow_law.specs.declared.outcome.Emit.TheVariants.{Queued}
use Rattle.flow_law.specs.declared.outcome.Next.TheVariants.{Empty}
use Rattle.flow_law.specs.declared.call.SharedCall.{SharedCall}
use Rattle.flow_law.specs.declared.call.SharedReply.{SharedReply}
use Rattle.flow_law.specs.declared.call.SharedReply.TheVariants as reply
use Rattle.flow_law.specs.declared.states.SharedFlowState.{SharedFlowState}
use Rattle.flow_law.specs.history.Tokens.{IsBusy}
use Rattle.flow_gate.specs.Tokens.{GateOrigin}
use Rattle.flow_shared.specs.Calls.{GateNumbered}
use Rattle.flow_shared.specs.SharedReplies.{SharedToken, SharedCallsAtOnce}

-- a subscription to a shared flow, or an emission into one
abbrev pub SharedNumbered : Type 0 → Type 0
SharedNumbered T = GateNumbered (Said (SharedCall T) (SharedReply T))

module _ {T : Type 0} where
  -- what `emit`, `poll` and `next` reply to a caller that has to ask again: the emission waits, or there is no value
  -- yet
  abbrev pub is_wait : SharedReply T → Bool
  is_wait (reply.Emitted (Queued e)) = true
  is_wait (reply.Tested true) = true
  is_wait (reply.Received Empty) = true
  is_wait _ = false

  module _ {Answer : Type 0} (Says : Answer → SharedReply T → Type 0) where
    -- pending if the reply is a wait, else ready with an answer that says what the reply says
    abbrev pub AnswersAs : Polled Answer → SharedReply T → Type 0
    AnswersAs Pending r = is_wait r ≡ true
    AnswersAs (Ready answer) r = (is_wait r ≡ false) × Says answer r

    -- The poll was busy: one exchange was lost, nothing else has changed, and it is pending. Or it made this one call, lost no
    -- exchange, and passes the reply on.
    abbrev pub PollsOnce : GateOrigin (SharedFlowState T) → SharedToken T → SharedCall T → Polled Answer → SharedToken T → Type 0
    PollsOnce flow before call polled after = (IsBusy before after × (polled ≡ Pending)) ⊎ ((r : SharedReply T) × SharedCallsAtOnce flow before call r after × AnswersAs polled r)

    -- While the future holds a token, each poll is busy or makes this one call through it, and does not lose the token.
    abbrev pub OneEach : GateOrigin (SharedFlowState T) → Option (SharedToken T × SharedCall T) → Polled Answer → Option (SharedToken T) → Type 0
    OneEach flow held polled after = IfSome held (λ h. (t : SharedToken T) × (after ≡ Some t) × PollsOnce flow h.0 h.1 polled t)
