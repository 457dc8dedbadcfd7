-- Sharings that scripts play on, as the documented ones. No public clause cites this module.
use Rattle.std.specs.Prelude.{◌≡◌, ℕ, ℤ, Bool, List}
use Rattle.flow_law.specs.declared.sharing.Started.{Started}
use Rattle.flow_law.specs.declared.sharing.SharingObservation.{SharingObservation}
use Rattle.flow_law.specs.sharing.SharingCalls.{HubCall, HubAnswer, HubStep, ChainAndHub, CallDoes, with_hub}
use Rattle.flow_law.specs.sharing.SharingFlows.{HadMemory, flow_turn}
use Rattle.flow_law.specs.sharing.SharingTurn.{SharingState, Turned, turn_steps}
use Rattle.flow_law.specs.sharing.Steps.{After, Takes}
use Rattle.flow_cold.specs.declared.script_chain.ScriptChain.{ScriptChain}
use Rattle.flow_cold.specs.ScriptChain.{node_whole, node_rest}
use Rattle.flow_turns.specs.declared.sharing.Sharing.{Sharing}
use Rattle.flow_turns.specs.SharingViews.{sharing_state, chain_and_hub, HasObserved}
use Rattle.flow_script.specs.SharingMeaning.{SharingPlay}

-- the chain and the hub of a sharing, as contracts see them
abbrev pub both_of : {H : Type 0} → Sharing ScriptChain H ℤ → ChainAndHub ℤ H
both_of sharing = chain_and_hub (λ chain. node_whole chain.node) (λ chain. node_rest chain.node) sharing

-- `Stands` says which flows a hub stands for
module _ {H F : Type 0} (Stands : H → F → Type 0) where
  -- the sharing stands for this one of the definitions
  pub record ShowsSharing (sharing : Sharing ScriptChain H ℤ) (p : SharingPlay F) : Type 0 where
    pub observed : HasObserved p.started sharing p.seen
    pub state : sharing_state sharing ≡ p.state
    pub both : with_hub (both_of sharing) p.both.hub ≡ p.both
    pub flow : Stands sharing.hub p.both.hub

-- unless memory is refused, a turn over a hub that stands for a flow is the documented turn with that flow
abbrev pub TurnsAsDocumented : {H F : Type 0} → ((c : HubCall ℤ) → H → HubAnswer c → H → Type 0) → (H → Bool) → (H → F → Type 0) → ((c : HubCall ℤ) → F → After (HubAnswer c) F) → Type 0
TurnsAsDocumented {H} {F} does waits Stands reply =
    (started : Started) (now : ℕ) (seen : List SharingObservation) (s : SharingState ℤ) (f : F) (old new : ChainAndHub ℤ H) (turned : Turned ℤ) →
    Stands old.hub f → Takes (CallDoes (HubStep does waits)) (turn_steps started now seen s) old turned new → HadMemory turned.answer →
    (g : F) × Stands new.hub g × (flow_turn reply started now seen s (with_hub old f) ≡ record { result = turned; state = with_hub new g })
