-- A state that follows a hot flow. Begin with `Derives`.
use Rattle.std.specs.Prelude.{◌≡◌, Result, Ok, Err}
use Rattle.atomic_table.specs.Seated.{TableId}
use Rattle.flow_law.specs.declared.call.StateCall.{StateCall}
use Rattle.flow_law.specs.declared.call.StateCall.TheVariants.{Set}
use Rattle.flow_law.specs.declared.call.StateReply.{StateReply}
use Rattle.flow_law.specs.declared.call.StateReply.TheVariants.{Done}
use Rattle.flow_law.specs.declared.fault.FlowFault.{FlowFault}
use Rattle.flow_law.specs.declared.history.Said.{Said}
use Rattle.flow_law.specs.declared.states.StateFlowState.{StateFlowState}
use Rattle.flow_law.specs.history.Handles.{CallerOf}
use Rattle.flow_shared.specs.StateReplies.{StateCalls}

-- a handle that sets a state
abbrev pub SetterOf : Type 0 → Type 0
SetterOf U = CallerOf TableId (StateFlowState U) (Said (StateCall U) (StateReply U))

-- `receives` says what the reader received, and `maps` which result the function gives for a value
module _ {T U : Type 0} (receives : Result T FlowFault → Type 0) (maps : T → U → Type 0) where
  -- This value was received, and the state was set to its result; or the value was refused, and nothing was set.
  abbrev pub Derives : SetterOf U → Result T FlowFault → SetterOf U → Type 0
  Derives old (Ok x) new = receives (Ok x) × ((y : U) × maps x y × StateCalls old.flow old.token (Set y) Done new.token)
  Derives old (Err fault) new = receives (Err fault) × (new ≡ old)
