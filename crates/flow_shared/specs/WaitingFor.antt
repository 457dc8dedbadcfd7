-- What a wait for a state that passes a test does. Begin with `NextsIf`. `flow` is the flow: which one, and the state that it
-- began with.
use Rattle.std.specs.Prelude.{◌≡◌, Result, Ok, Err}
use Rattle.flow_law.specs.declared.call.StateCall.{StateCall}
use Rattle.flow_law.specs.declared.call.StateCall.TheVariants.{GetValue}
use Rattle.flow_law.specs.declared.call.StateReply.{StateReply}
use Rattle.flow_law.specs.declared.fault.FlowFault.{FlowFault}
use Rattle.flow_law.specs.declared.history.Said.{Said}
use Rattle.flow_law.specs.declared.outcome.Next.{Next}
use Rattle.flow_law.specs.declared.outcome.Next.TheVariants.{Value, Empty}
use Rattle.flow_law.specs.declared.states.StateFlowState.{StateFlowState}
use Rattle.flow_law.specs.flow.StateFlow.{state_flow}
use Rattle.flow_core.specs.StateCore.{value_reply}
use Rattle.flow_gate.specs.Tokens.{GateOrigin}
use Rattle.flow_shared.specs.Calls.{GateNumbered, NextsOf}
use Rattle.flow_shared.specs.Receiving.{NextsUntil, as_next}
use Rattle.flow_shared.specs.StateReplies.{StateCalls}

abbrev pub StateNumbered : Type 0 → Type 0
StateNumbered T = GateNumbered (Said (StateCall T) (StateReply T))

module _ {T : Type 0} (flow : GateOrigin (StateFlowState T)) where
  -- one `value` through the seat of the subscription, which keeps its number
  abbrev pub ValuesBy : StateNumbered T → Result T FlowFault → StateNumbered T → Type 0
  ValuesBy old answer new = StateCalls flow old.token GetValue (value_reply answer) new.token × (new.number ≡ old.number)

  -- One `value`, and then one `next`. The result is what the `next` gave or, if that found nothing, what the `value` had given.
  pub data Looks : StateNumbered T → Result T FlowFault → StateNumbered T → Type 0 where
    got_now : {s t u : StateNumbered T} {shown value : T} → ValuesBy s (Ok shown) t → NextsOf state_flow flow t (Ok (Value value)) u → Looks s (Ok value) u
    got_before : {s t u : StateNumbered T} {value : T} → ValuesBy s (Ok value) t → NextsOf state_flow flow t (Ok Empty) u → Looks s (Ok value) u
    not_shown : {s t : StateNumbered T} {fault : FlowFault} → ValuesBy s (Err fault) t → Looks s (Err fault) t
    not_given : {s t u : StateNumbered T} {shown : T} {fault : FlowFault} → ValuesBy s (Ok shown) t → NextsOf state_flow flow t (Err fault) u → Looks s (Err fault) u

  -- one look, and then calls of `next` as long as the value failed the test, up to this value
  pub data ComesTo (Fails : T → Type 0) : StateNumbered T → T → StateNumbered T → Type 0 where
    looked : {s t : StateNumbered T} {value : T} → Looks s (Ok value) t → ComesTo Fails s value t
    passed_over : {s t u : StateNumbered T} {failed value : T} → ComesTo Fails s failed t → Fails failed → NextsUntil state_flow flow t (Ok (Value value)) u → ComesTo Fails s value u

  -- The last value of these passed the test. Or the look was refused. Or the last value failed, and the calls of `next` after it
  -- were refused or found nothing.
  pub data NextsIf (Passes Fails : T → Type 0) : StateNumbered T → Result (Next T) FlowFault → StateNumbered T → Type 0 where
    passed : {s t : StateNumbered T} {value : T} → ComesTo Fails s value t → Passes value → NextsIf Passes Fails s (Ok (Value value)) t
    look_refused : {s t : StateNumbered T} {fault : FlowFault} → Looks s (Err fault) t → NextsIf Passes Fails s (Err fault) t
    next_refused : {s t u : StateNumbered T} {failed : T} {fault : FlowFault} → ComesTo Fails s failed t → Fails failed → NextsUntil state_flow flow t (Err fault) u → NextsIf Passes Fails s (Err fault) u
    none_passed : {s t u : StateNumbered T} {failed : T} → ComesTo Fails s failed t → Fails failed → NextsUntil state_flow flow t (Ok Empty) u → NextsIf Passes Fails s (Ok Empty) u

  -- `NextsIf` without a time limit: this value passed, or this was the refusal
  abbrev pub ReceivesIf : (Passes Fails : T → Type 0) → StateNumbered T → Result T FlowFault → StateNumbered T → Type 0
  ReceivesIf Passes Fails old result new = NextsIf Passes Fails old (as_next result) new
