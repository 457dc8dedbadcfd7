-- A turn over a core, as a turn over the documented flow that the core stands for. Begin with `LawTurnOverCore`.
use Rattle.std.specs.Prelude.{◌≡◌, ℕ, List}
use Rattle.flow_law.specs.declared.sharing.Started.{Started}
use Rattle.flow_law.specs.declared.sharing.SharingObservation.{SharingObservation}
use Rattle.flow_law.specs.flow.Standing.{StandsFor}
use Rattle.flow_law.specs.sharing.Steps.{Takes}
use Rattle.flow_law.specs.sharing.SharingCalls.{ChainAndHub, with_hub, CallDoes, HubStep}
use Rattle.flow_law.specs.sharing.SharingTurn.{SharingState, Turned, turn_steps}
use Rattle.flow_law.specs.declared.states.EmittingFlow.{EmittingFlow}
use Rattle.flow_law.specs.sharing.SharingFlows.{shared_reply, SharedDoes, state_reply, StateDoes, IsNotBusy, IsAtOnce, DocumentedTurn}
use Rattle.flow_turns.specs.declared.core_hub.CoreHub.{CoreHub}
use Rattle.flow_turns.specs.declared.state_hub.StateHub.{StateHub}
use Rattle.flow_turns.specs.CoreHub.{CoreHubDoes, is_hub_waiting, hub_emission, core_of}
use Rattle.flow_turns.specs.StateHub.{StateHubDoes, never_waits, state_flow_of}

module _ {T A : Type 0} where
  -- the hub's core stands for the flow, and its emission is the one that waits there
  abbrev pub StandsForEmitting : CoreHub T A → EmittingFlow T → Type 0
  StandsForEmitting hub f = StandsFor (core_of hub) f.flow × (hub_emission hub ≡ f.waiting)

-- A turn over a core is a turn over the documented flow, in each state that the core stands for, and the core stands for the state after
-- it. The turn is never busy.
abbrev pub LawTurnOverCore : Type 0 → Type 0 → Type 0
LawTurnOverCore T A =
    (started : Started) (now : ℕ) (seen : List SharingObservation) (s : SharingState T) (f : EmittingFlow T)
    (old new : ChainAndHub T (CoreHub T A)) (turned : Turned T) →
    StandsForEmitting old.hub f → Takes (CallDoes (HubStep CoreHubDoes is_hub_waiting)) (turn_steps started now seen s) old turned new →
    (g : EmittingFlow T) × StandsForEmitting new.hub g
    × DocumentedTurn SharedDoes shared_reply IsNotBusy started now seen s (with_hub old f) turned (with_hub new g)

-- A turn over a state core is a turn over the documented state flow. Nothing waits, and a refusal is always `OutOfMemory`.
abbrev pub LawTurnOverStateCore : Type 0 → Type 0 → Type 0
LawTurnOverStateCore T A =
    (started : Started) (now : ℕ) (seen : List SharingObservation) (s : SharingState T)
    (old new : ChainAndHub T (StateHub T A)) (turned : Turned T) →
    Takes (CallDoes (HubStep StateHubDoes never_waits)) (turn_steps started now seen s) old turned new →
    DocumentedTurn StateDoes state_reply IsAtOnce started now seen s
    (with_hub old (state_flow_of old.hub)) turned (with_hub new (state_flow_of new.hub))
