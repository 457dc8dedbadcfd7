-- What calls of a word flow answer that a shared flow behind a gate answers otherwise: no flow was made, and calls that try once.
use Rattle.std.specs.Prelude.{◌≡◌, ◌≢◌, ℕ, min, List, ◌++◌, length, Some, None, Result, Ok, Err}
use Rattle.flow_law.specs.declared.config.Config.{Config}
use Rattle.flow_law.specs.declared.config.Overflow.TheVariants.{Suspend, DropOldest}
use Rattle.flow_law.specs.declared.fault.FlowFault.{FlowFault}
use Rattle.flow_law.specs.declared.fault.FlowFault.TheVariants.{OutOfMemory, Busy}
use Rattle.flow_law.specs.declared.call.SharedCall.TheVariants as call
use Rattle.flow_law.specs.declared.call.SharedReply.TheVariants as reply
use Rattle.flow_law.specs.declared.outcome.Emit.TheVariants.{Done}
use Rattle.flow_law.specs.declared.outcome.Next.{Next}
use Rattle.flow_law.specs.declared.outcome.Next.TheVariants.{Gone}
use Rattle.flow_law.specs.declared.states.SharedFlowState.{SharedFlowState}
use Rattle.flow_law.specs.flow.SharedFlow.{config_fault}
use Rattle.flow_law.specs.flow.SharedHistory.{shared_flow}
use Rattle.flow_law.specs.flow.Draining.{NextsGive}
use Rattle.flow_law.specs.history.Tokens.{NextsIn, IsBusy}
use Rattle.flow_law.specs.history.Promise.{CallsAtOnceIn}
use Rattle.flow_word_shared.specs.declared.fault.WordFlowFault.{WordFlowFault}
use Rattle.flow_word_shared.specs.declared.fault.WordFlowFault.TheVariants.{Flow, Strategy}
use Rattle.flow_word_shared.specs.Steps.{SeesMore}
use Rattle.flow_word_shared.specs.Tokens.{WordFlowToken, WordFlowNumbered}

-- the most numbers that a word flow issues
abbrev pub most_numbers : ℕ
most_numbers = 9223372036854775807

-- the configuration with its limit, or that most if the limit is greater
abbrev pub with_word_limit : Config → Config
with_word_limit config = record config { limit = min config.limit most_numbers }

-- Making a word flow of this configuration may fail so: by the fault that a shared flow of it has; else because of its strategy, if that is
-- not `DropOldest`; else out of memory
abbrev pub NoWordFlow : Config → WordFlowFault → Type 0
NoWordFlow config (Flow OutOfMemory) = (config_fault config ≡ None) × (config.overflow ≡ DropOldest)
NoWordFlow config (Flow fault) = config_fault config ≡ Some fault
NoWordFlow config (Strategy overflow) = (config_fault config ≡ None) × (overflow ≡ config.overflow) × (overflow ≢ DropOldest)

-- Making a word flow for so many subscribers may fail so: by the fault that a shared flow of the configuration has; else because it
-- suspends; else out of memory
abbrev pub NoPlacedFlow : Config → WordFlowFault → Type 0
NoPlacedFlow config (Flow OutOfMemory) = (config_fault config ≡ None) × (config.overflow ≢ Suspend)
NoPlacedFlow config (Flow fault) = config_fault config ≡ Some fault
NoPlacedFlow config (Strategy overflow) = (config_fault config ≡ None) × (overflow ≡ config.overflow) × (overflow ≡ Suspend)

module _ {T : Type 0} where
  -- the same token, later: it has made no call, and may have seen more and lost attempts
  abbrev pub HasTried : WordFlowToken T → WordFlowToken T → Type 0
  HasTried before after = (after.table_id ≡ before.table_id) × ((failed : ℕ) × SeesMore failed before.knows after.knows)

  -- Emitters have overwritten what the subscriber read: one attempt failed, and the token has seen more of the history, all of it by others.
  abbrev pub IsOverrun : WordFlowToken T → WordFlowToken T → Type 0
  IsOverrun before after = (after.table_id ≡ before.table_id) × SeesMore 1 before.knows after.knows

module _ {T : Type 0} (first : SharedFlowState T) where
  -- an `emit` that tries once
  abbrev pub WordEmitsNow : WordFlowToken T → T → Result (Unit {0}) FlowFault → WordFlowToken T → Type 0
  WordEmitsNow before value (Ok none) after = CallsAtOnceIn shared_flow first before (call.Emit value) (reply.Emitted Done) after
  WordEmitsNow before value (Err Busy) after = IsBusy before after
  WordEmitsNow before value (Err fault) after = CallsAtOnceIn shared_flow first before (call.Emit value) (reply.Refused fault) after

  -- a reset that tries once
  abbrev pub WordResetsNow : WordFlowToken T → Result (Unit {0}) FlowFault → WordFlowToken T → Type 0
  WordResetsNow before (Ok none) after = CallsAtOnceIn shared_flow first before call.ResetReplayCache reply.Reset after
  WordResetsNow before (Err fault) after = (fault ≡ Busy) × IsBusy before after

  -- a `next` that tries once
  abbrev pub WordNextsNow : WordFlowNumbered T → Result (Next T) FlowFault → WordFlowNumbered T → Type 0
  WordNextsNow old (Ok next) new = (next ≢ Gone) × (new.number ≡ old.number) × CallsAtOnceIn shared_flow first old.token (call.TakeNext old.number) (reply.Received next) new.token
  WordNextsNow old (Err fault) new = (fault ≡ Busy) × (new.number ≡ old.number) × IsOverrun old.token new.token

  -- a `next`, after which the subscription has the same number
  abbrev pub WordFlowNexts : WordFlowNumbered T → Result (Next T) FlowFault → WordFlowNumbered T → Type 0
  WordFlowNexts old result new = NextsIn shared_flow first old result new × (new.number ≡ old.number)

-- `count` values were taken by calls of `next` in a row, and appended to the list
pub record NextsTaken {X T : Type 0} (Nexts : X → Result (Next T) FlowFault → X → Type 0) (count : ℕ) (old : X) (old_list new_list : List T) (new : X) : Type 0 where
  pub values : List T
  pub taken : NextsGive Nexts old values new
  pub appended : new_list ≡ old_list ++ values
  pub counted : length values ≡ count
