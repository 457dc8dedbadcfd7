-- An update of a state flow by a function of its value (`update`, `getAndUpdate`, `updateAndGet`): rounds of two events, a read
-- of the value and a `compare_and_set` from it to the function's answer. All rounds except the last fail. Begin with `Updates`.
use Rattle.std.specs.Prelude.{◌⊎◌, Bool, true, false, Result, Ok, Err}
use Rattle.flow_law.specs.declared.fault.FlowFault.TheVariants as fault
use Rattle.flow_law.specs.declared.history.Said.{Said}
use Rattle.flow_law.specs.declared.call.StateCall.{StateCall}
use Rattle.flow_law.specs.declared.call.StateCall.TheVariants.{GetValue, CompareAndSet}
use Rattle.flow_law.specs.declared.call.StateReply.{StateReply}
use Rattle.flow_law.specs.declared.call.StateReply.TheVariants.{Got, Answered, Refused}
use Rattle.flow_law.specs.declared.states.StateFlowState.{StateFlowState}
use Rattle.flow_law.specs.flow.StateFlow.{state_flow}
use Rattle.flow_law.specs.history.Promise.{Token, CallsIn}

-- a token of a state flow
abbrev pub StateTokenOf : Type 0 → Type 0 → Type 0
StateTokenOf Id T = Token Id (Said (StateCall T) (StateReply T))

-- `Gives x y`: the function may answer y to x
module _ {Id T : Type 0} (first : StateFlowState T) (Gives : T → T → Type 0) where
  -- the token read x, the function answered y to it, and the `compare_and_set` from x to y succeeded (`won`) or not
  pub record IsRound (won : Bool) (before : StateTokenOf Id T) (x y : T) (after : StateTokenOf Id T) : Type 0 where
    pub between : StateTokenOf Id T
    pub read : CallsIn state_flow first before GetValue (Got x) between
    pub answered : Gives x y
    pub exchanged : CallsIn state_flow first between (CompareAndSet x y) (Answered won) after

  -- any number of rounds that failed
  pub data LosesRounds : StateTokenOf Id T → StateTokenOf Id T → Type 0 where
    none_lost : {t : StateTokenOf Id T} → LosesRounds t t
    one_lost : {s t u : StateTokenOf Id T} {x y : T} → LosesRounds s t → IsRound false t x y u → LosesRounds s u

  -- any number of rounds failed (perhaps none), and then one succeeded, in which the token read x and the function answered y
  pub record Updates (before : StateTokenOf Id T) (x y : T) (after : StateTokenOf Id T) : Type 0 where
    pub between : StateTokenOf Id T
    pub lost : LosesRounds before between
    pub won : IsRound true between x y after

-- `Gives x r`: the function may answer r to x, or refuse
module _ {T E : Type 0} (Gives : T → Result T E → Type 0) where
  -- the function answered y
  abbrev pub Accepts : T → T → Type 0
  Accepts x y = Gives x (Ok y)

  -- the function refuses this value
  abbrev pub Refuses : T → Type 0
  Refuses x = (e : E) × Gives x (Err e)

  -- the function refuses this value, or it answered a value of which no copy could be kept
  abbrev pub RefusesOrKeepsNone : T → Type 0
  RefusesOrKeepsNone x = Refuses x ⊎ ((y : T) × Accepts x y)

module _ {Id T : Type 0} (first : StateFlowState T) where
  -- a read that was refused with `OutOfMemory`, or that gave a value x at which the update stops
  abbrev pub ReadsInVain : (T → Type 0) → StateTokenOf Id T → StateTokenOf Id T → Type 0
  ReadsInVain Stops before after = CallsIn state_flow first before GetValue (Refused fault.OutOfMemory) after ⊎ ((x : T) × CallsIn state_flow first before GetValue (Got x) after × Stops x)

  -- any number of rounds failed (perhaps none), and then the update stopped at a read: nothing was set
  pub record StopsAt (Gives : T → T → Type 0) (Stops : T → Type 0) (before after : StateTokenOf Id T) : Type 0 where
    pub between : StateTokenOf Id T
    pub lost : LosesRounds first Gives before between
    pub stopped : ReadsInVain Stops between after
