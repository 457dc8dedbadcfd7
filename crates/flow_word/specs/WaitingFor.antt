-- What a wait for a state that passes a test does. Begin with `WordReceivesIf`. `first` is the state that the flow began with.
use Rattle.std.specs.Prelude.{◌≡◌, Option, Some, None}
use Rattle.flow_law.specs.declared.call.StateCall.{StateCall}
use Rattle.flow_law.specs.declared.call.StateCall.TheVariants.{GetValue}
use Rattle.flow_law.specs.declared.call.StateReply.{StateReply}
use Rattle.flow_law.specs.declared.call.StateReply.TheVariants.{Got}
use Rattle.flow_law.specs.declared.history.Said.{Said}
use Rattle.flow_law.specs.declared.outcome.Next.TheVariants.{Value, Empty}
use Rattle.flow_law.specs.declared.states.StateFlowState.{StateFlowState}
use Rattle.flow_law.specs.flow.StateFlow.{state_flow}
use Rattle.flow_law.specs.history.Tokens as flows
use Rattle.flow_law.specs.history.Promise.{CallsAtOnceIn}
use Rattle.flow_word.specs.Receiving.{WordNextGives, WordReceives, FindsNone}

abbrev pub StateNumberedOf : (Id T : Type 0) → Type 0
StateNumberedOf Id T = flows.NumberedToken Id (Said (StateCall T) (StateReply T))

module _ {Id T : Type 0} (first : StateFlowState T) where
  -- one `value` through the seat of the subscription, which keeps its number
  abbrev pub ValueBy : StateNumberedOf Id T → T → StateNumberedOf Id T → Type 0
  ValueBy old value new = CallsAtOnceIn state_flow first old.token GetValue (Got value) new.token × (new.number ≡ old.number)

  -- One `value`, and then one `next`. The result is what the `next` gave or, if that found nothing, what the `value` had given.
  pub data WordLooks : StateNumberedOf Id T → T → StateNumberedOf Id T → Type 0 where
    got_now : {s t u : StateNumberedOf Id T} {shown value : T} → ValueBy s shown t → WordNextGives state_flow first t (Value value) u → WordLooks s value u
    got_before : {s t u : StateNumberedOf Id T} {value : T} → ValueBy s value t → WordNextGives state_flow first t Empty u → WordLooks s value u

  -- one look, and then calls of `next` as long as the value failed the test, up to this value
  pub data WordComesTo (Fails : T → Type 0) : StateNumberedOf Id T → T → StateNumberedOf Id T → Type 0 where
    looked : {s t : StateNumberedOf Id T} {value : T} → WordLooks s value t → WordComesTo Fails s value t
    passed_over : {s t u : StateNumberedOf Id T} {failed value : T} → WordComesTo Fails s failed t → Fails failed → WordReceives state_flow first t value u → WordComesTo Fails s value u

  -- the last value of these passed the test
  abbrev pub WordReceivesIf : (Passes Fails : T → Type 0) → StateNumberedOf Id T → T → StateNumberedOf Id T → Type 0
  WordReceivesIf Passes Fails old value new = WordComesTo Fails old value new × Passes value

  -- the last value of these failed the test, and then calls of `next` found nothing
  pub record PassesNone (Fails : T → Type 0) (old new : StateNumberedOf Id T) : Type 0 where
    pub value : T
    pub between : StateNumberedOf Id T
    pub came : WordComesTo Fails old value between
    pub fails : Fails value
    pub empty : FindsNone state_flow first between new

  -- what a wait with a time limit for a value that passes a test does: it gives such a value, or none has passed
  abbrev pub ReceivesIfInTime : (Passes Fails : T → Type 0) → StateNumberedOf Id T → Option T → StateNumberedOf Id T → Type 0
  ReceivesIfInTime Passes Fails old (Some value) new = WordReceivesIf Passes Fails old value new
  ReceivesIfInTime Passes Fails old None new = PassesNone Fails old new
