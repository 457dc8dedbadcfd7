-- What a documented flow answers to a sharing. A turn over it is `flow_turn`, unless it runs out of memory.
-- Begin with `shared_reply` and `state_reply`.
use Rattle.std.specs.Prelude.{◌≡◌, ◌≢◌, ◌⊎◌, ℕ, Bool, true, false, if◌then◌else◌, List, length, Option, Some, None, Result, Ok, Err}
use Rattle.flow_law.specs.declared.fault.FlowFault.{FlowFault}
use Rattle.flow_law.specs.declared.fault.FlowFault.TheVariants.{OutOfMemory}
use Rattle.flow_law.specs.declared.chain.ChainFault.TheVariants as chain_fault
use Rattle.flow_law.specs.declared.call.SharedCall.TheVariants as call
use Rattle.flow_law.specs.declared.call.SharedReply.TheVariants as reply
use Rattle.flow_law.specs.declared.outcome.Emit.{Emit}
use Rattle.flow_law.specs.declared.outcome.Emit.TheVariants.{Done, Queued}
use Rattle.flow_law.specs.declared.sharing.Started.{Started}
use Rattle.flow_law.specs.declared.sharing.SharingObservation.{SharingObservation}
use Rattle.flow_law.specs.declared.report.Event.TheVariants as event
use Rattle.flow_law.specs.declared.report.Report.{Report}
use Rattle.flow_law.specs.declared.report.ShareFault.{ShareFault}
use Rattle.flow_law.specs.declared.report.ShareFault.TheVariants.{Chain, Flow}
use Rattle.flow_law.specs.declared.states.SharedFlowState.{SharedFlowState}
use Rattle.flow_law.specs.flow.SharedHistory.{Replies}
pub use Rattle.flow_law.specs.declared.states.EmittingFlow.{EmittingFlow}
pub use Rattle.flow_law.specs.declared.states.StateAndInitial.{StateAndInitial}
use Rattle.flow_law.specs.flow.SharedStep as flow
use Rattle.flow_law.specs.sharing.Sharing.{is_running}
use Rattle.flow_law.specs.sharing.Steps.{After, Takes, plays}
use Rattle.flow_law.specs.sharing.SharingCalls.{HubCall, HubAnswer, counts, puts, polls, cancels, resets, ChainAndHub, CallDoes, call_reply}
use Rattle.flow_law.specs.sharing.TurnMeaning.{HasAccount, BetweenTurns, IsCommand, TurnMeans, TurnResets}
use Rattle.flow_law.specs.sharing.SharingTurn.{SharingState, Turned, turn_steps}

-- ---- a shared flow

module _ {T : Type 0} where
  -- there is an emission, and it still waits
  abbrev pub still_waits : Option ℕ → SharedFlowState T → Bool
  still_waits None f = false
  still_waits (Some number) f = flow.is_waiting number f

  -- the state after the emission, if there is one, is cancelled
  abbrev pub cancelled : Option ℕ → SharedFlowState T → SharedFlowState T
  cancelled None f = f
  cancelled (Some number) f = (flow.cancel number f).after

  -- the outcome of a put, by that of its emission; a refused one changes nothing
  abbrev pub emitted : EmittingFlow T → Result Emit FlowFault → SharedFlowState T → After (Result Bool FlowFault) (EmittingFlow T)
  emitted s (Ok Done) after = record { result = Ok false; state = record { flow = after; waiting = None } }
  emitted s (Ok (Queued number)) after = record { result = Ok true; state = record { flow = after; waiting = Some number } }
  emitted s (Err fault) after = record { result = Err fault; state = s }

  -- a put emits; a poll or a cancel is of the emission that waited, if there is one; a reset empties the replay cache
  abbrev pub shared_reply : (c : HubCall T) → EmittingFlow T → After (HubAnswer c) (EmittingFlow T)
  shared_reply counts s = record { result = Ok (length s.flow.subscribers); state = s }
  shared_reply (puts x) s = emitted s (flow.emit x s.flow).reply (flow.emit x s.flow).after
  shared_reply polls s = record {
    result = Ok (still_waits s.waiting s.flow);
    state = record s { waiting = if still_waits s.waiting s.flow then s.waiting else None };
  }
  shared_reply cancels s = record {
    result = Ok (still_waits s.waiting s.flow);
    state = record { flow = cancelled s.waiting s.flow; waiting = None };
  }
  shared_reply resets s = record { result = Ok tt; state = record s { flow = (flow.reset_replay_cache s.flow).after } }

  -- a put may be refused with `OutOfMemory`
  abbrev pub MayLackMemory : HubCall T → EmittingFlow T → Type 0
  MayLackMemory counts s = ⊥
  MayLackMemory (puts x) s = Replies s.flow (call.Emit x) (reply.Refused OutOfMemory)
  MayLackMemory polls s = ⊥
  MayLackMemory cancels s = ⊥
  MayLackMemory resets s = ⊥

  -- the flow answers as documented, or refuses a put with `OutOfMemory` and does nothing
  abbrev pub SharedDoes : (c : HubCall T) → EmittingFlow T → HubAnswer c → EmittingFlow T → Type 0
  SharedDoes call old answer new =
      (shared_reply call old ≡ record { result = answer; state = new })
      ⊎ (MayLackMemory call old × (answer ≡ Err OutOfMemory) × (new ≡ old))

-- ---- a state flow

module _ {T : Type 0} where
  -- the flow with another value
  abbrev pub with_value : T → StateAndInitial T → StateAndInitial T
  with_value x s = record s { flow = record s.flow { value = x } }

  -- a put sets the value, and a reset sets the initial one; nothing waits, and nothing is refused
  abbrev pub state_reply : (c : HubCall T) → StateAndInitial T → After (HubAnswer c) (StateAndInitial T)
  state_reply counts s = record { result = Ok (length s.flow.subscribers); state = s }
  state_reply (puts x) s = record { result = Ok false; state = with_value x s }
  state_reply polls s = record { result = Ok false; state = s }
  state_reply cancels s = record { result = Ok false; state = s }
  state_reply resets s = record { result = Ok tt; state = with_value s.initial s }

  -- the flow answers as documented; or it has no memory for a copy of the initial value, refuses a reset, and does nothing
  abbrev pub StateDoes : (c : HubCall T) → StateAndInitial T → HubAnswer c → StateAndInitial T → Type 0
  StateDoes call old answer new =
      (state_reply call old ≡ record { result = answer; state = new })
      ⊎ ((call ≡ resets) × (answer ≡ Err OutOfMemory) × (new ≡ old))

-- ---- a turn

-- a turn over a flow that answers by `reply`, if neither the flow nor the chain runs out of memory
abbrev pub flow_turn : {T F : Type 0} → ((c : HubCall T) → F → After (HubAnswer c) F) → Started → ℕ → List SharingObservation → SharingState T → ChainAndHub T F → After (Turned T) (ChainAndHub T F)
flow_turn reply started now seen s both = plays (call_reply reply) (turn_steps started now seen s) both

-- the answer is not `OutOfMemory`
abbrev pub HadMemory : {R : Type 0} → Result R ShareFault → Type 0
HadMemory (Err (Flow OutOfMemory)) = ⊥
HadMemory (Err (Chain chain_fault.OutOfMemory)) = ⊥
HadMemory answer = Unit {0}

-- an answer of a turn over a flow of one thread: never Busy
abbrev pub IsNotBusy : Result Report ShareFault → Type 0
IsNotBusy (Ok report) = report.event ≢ event.Busy
IsNotBusy (Err fault) = Unit {0}

-- an answer of a turn over a flow that refuses nothing except with `OutOfMemory`, and in which nothing waits
abbrev pub IsAtOnce : Result Report ShareFault → Type 0
IsAtOnce (Ok report) = (report.event ≢ event.Busy) × (report.event ≢ event.Queued) × (report.event ≢ event.Waiting)
IsAtOnce (Err (Flow fault)) = fault ≡ OutOfMemory
IsAtOnce (Err fault) = Unit {0}

-- A turn over a documented flow, from `old` to `new`. `reply` is what the flow answers, `does` also allows `OutOfMemory`.
pub record DocumentedTurn {T F : Type 0} (does : (c : HubCall T) → F → HubAnswer c → F → Type 0) (reply : (c : HubCall T) → F → After (HubAnswer c) F) (Is : Result Report ShareFault → Type 0) (started : Started) (now : ℕ) (seen : List SharingObservation) (s : SharingState T) (old : ChainAndHub T F) (turned : Turned T) (new : ChainAndHub T F) : Type 0 where
  -- its steps
  pub steps : Takes (CallDoes does) (turn_steps started now seen s) old turned new
  -- its outcome, if the answer is not `OutOfMemory`
  pub computed : HadMemory turned.answer → flow_turn reply started now seen s old ≡ record { result = turned; state = new }
  pub answered : Is turned.answer
  -- no cancel is left for a later turn
  pub cancelled : s.cancel_due ≡ false → turned.state.cancel_due ≡ false
  -- what the answer means for the items that the flow has accepted
  pub means : s.runs ≡ is_running started seen → BetweenTurns s old → (accepted : List T) → HasAccount accepted s old
      → TurnMeans does accepted s old turned.answer turned.state new
  -- what becomes of a reset, by the command of the observations
  pub reset : TurnResets does (IsCommand started seen turned.seen) s old.hub turned.answer turned.state new.hub
