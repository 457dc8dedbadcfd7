-- The steps of a script on a shared chain (`shareIn`, `stateIn`), for both kinds of flow.
-- Begin with `sharing_step`. A turn is that of SharingFlows in flow_law. Any other step is one on the flow; scripts have only steps there that
-- read it.
use Rattle.std.specs.Prelude.{ℕ, ℤ, List, []}
use Rattle.flow_law.specs.declared.sharing.Started.{Started}
use Rattle.flow_law.specs.declared.sharing.SharingObservation.{SharingObservation}
use Rattle.flow_law.specs.declared.states.EmittingFlow.{EmittingFlow}
use Rattle.flow_law.specs.declared.states.SharedFlowState.{SharedFlowState}
use Rattle.flow_law.specs.declared.states.StateAndInitial.{StateAndInitial}
use Rattle.flow_law.specs.declared.states.StateFlowState.{StateFlowState}
use Rattle.flow_law.specs.chain.ChainRun.{ChainRun}
use Rattle.flow_law.specs.sharing.SharingCalls.{HubCall, HubAnswer, ChainAndHub, with_hub}
use Rattle.flow_law.specs.sharing.SharingFlows as sharing
use Rattle.flow_law.specs.sharing.SharingTurn.{SharingState, at_rest}
use Rattle.flow_law.specs.sharing.Steps.{After}
use Rattle.script_format.specs.declared.script.FlowStep.{FlowStep}
use Rattle.script_format.specs.declared.script.FlowStep.TheVariants as step
use Rattle.flow_script.specs.FlowMeaning.{Turn, as_part}
use Rattle.flow_script.specs.Answers.{turn_answer}
use Rattle.flow_script.specs.Numbers.{Numbers}

-- a sharing of a script, between two of its steps
pub record SharingPlay (F : Type 0) : Type 0 where
  pub started : Started
  -- the observations, the newest one first
  pub seen : List SharingObservation
  pub state : SharingState ℤ
  -- the chain, and the flow into which it is shared
  pub both : ChainAndHub ℤ F

-- a sharing before its first turn
abbrev pub first_sharing : {F : Type 0} → ChainRun ℤ → Started → F → SharingPlay F
first_sharing whole started f = record { started = started; seen = []; state = at_rest; both = record { whole = whole; rest = whole; hub = f } }

-- a step on a shared flow into which a chain is shared; it leaves the sharing's own emission as it is
abbrev pub beside_emission : (FlowStep → SharedFlowState ℤ → Numbers → Turn (SharedFlowState ℤ)) → FlowStep → EmittingFlow ℤ → Numbers → Turn (EmittingFlow ℤ)
beside_emission flow step f n = as_part (λ s. record f { flow = s }) (flow step f.flow n)

-- a step on a state flow into which a chain is shared; it leaves the initial value as it is
abbrev pub beside_initial : (FlowStep → StateFlowState ℤ → Numbers → Turn (StateFlowState ℤ)) → FlowStep → StateAndInitial ℤ → Numbers → Turn (StateAndInitial ℤ)
beside_initial flow step f n = as_part (λ s. record f { flow = s }) (flow step f.flow n)

-- a step on the flow into which a chain is shared; it leaves the sharing as it is
abbrev pub beside_sharing : {F : Type 0} → (FlowStep → F → Numbers → Turn F) → FlowStep → SharingPlay F → Numbers → Turn (SharingPlay F)
beside_sharing flow step p n = as_part (λ f. record p { both = with_hub p.both f }) (flow step p.both.hub n)

-- `reply` says what the flow replies to the sharing
module _ {F : Type 0} (reply : (c : HubCall ℤ) → F → After (HubAnswer c) F) where
  -- a turn at this moment
  abbrev pub turn_at_moment : ℕ → SharingPlay F → Numbers → Turn (SharingPlay F)
  turn_at_moment now p n =
      let t = sharing.flow_turn reply p.started now p.seen p.state p.both in
      record {
        answer = turn_answer t.result.answer;
        after = record p { seen = t.result.seen; state = t.result.state; both = t.state };
        numbers = n;
      }

-- A step on a sharing: a turn, or a step on the flow. `flow` says what a step does on the flow, `reply` what the flow replies to the sharing
abbrev pub sharing_step : {F : Type 0} → (FlowStep → F → Numbers → Turn F) → ((c : HubCall ℤ) → F → After (HubAnswer c) F) → FlowStep → SharingPlay F → Numbers → Turn (SharingPlay F)
sharing_step flow reply (step.Turn now) p n = turn_at_moment reply now p n
sharing_step flow reply other p n = beside_sharing flow other p n
