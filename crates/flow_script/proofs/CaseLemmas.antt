-- The cases of steps, for what the player keeps.
use Rattle.std.proofs.Common.{◌≡◌, ◌≢◌, ℤ, Global, Option, Some, None, if◌then◌else◌, refl, sym, ap, ◌∙◌}
use Rattle.std.specs.Ordering.{int_eq}
use Rattle.flow_core.specs.declared.shared.SharedCore.{SharedCore}
use Rattle.flow_core.specs.declared.state.StateCore.{StateCore}
use Rattle.flow_cold.specs.declared.script_chain.ScriptChain.{ScriptChain}
use Rattle.flow_law.specs.declared.states.SharedFlowState.{SharedFlowState}
use Rattle.flow_law.specs.declared.states.StateFlowState.{StateFlowState}
use Rattle.flow_law.specs.flow.Standing.{StandsFor}
use Rattle.flow_turns.specs.declared.core_hub.CoreHub.{CoreHub}
use Rattle.flow_turns.specs.declared.sharing.Sharing.{Sharing}
use Rattle.flow_turns.specs.declared.state_hub.StateHub.{StateHub}
use Rattle.script_format.specs.declared.script.FlowStep.{FlowStep}
use Rattle.flow_script.specs.declared.case.Case.{Case}
use Rattle.flow_script.specs.declared.case.Case.TheVariants.{Plain, Stores, Conflates, Keeps}
use Rattle.flow_script.specs.declared.player.Player.TheVariants.{Shared, State, Share, StateIn}
use Rattle.flow_script.specs.declared.row.PlayedFlow.{PlayedFlow as Kept}
use Rattle.flow_script.specs.Cases.{shared_case, state_case, player_case, place_case}
use Rattle.flow_script.specs.Players.{ShowsPlayer}
use Rattle.flow_script.specs.Rows.{ShowsFlow, ShowsPlace}
use Rattle.flow_script.specs.ScriptMeaning.{Player, PlayedFlow, shared, state, share, state_in}
use Rattle.flow_script.proofs.StateLemmas.{same, differs}

-- ---- values of state flows

pub conflates : (v x : ℤ) → v ≡ x → Conflates ≡ (if int_eq v x then Conflates else Stores)
conflates v x e = ap (λ t. if t then Conflates else Stores) (sym (same v x e))

pub stores : (v x : ℤ) → v ≢ x → Stores ≡ (if int_eq v x then Conflates else Stores)
stores v x ne = ap (λ t. if t then Conflates else Stores) (sym (differs v x ne))

pub compares : (v expect : ℤ) (case taken : Case) → v ≡ expect → case ≡ taken → case ≡ (if int_eq v expect then taken else Keeps)
compares v expect case taken e is = is ∙ ap (λ t. if t then taken else Keeps) (sym (same v expect e))

pub keeps : (v expect : ℤ) (taken : Case) → v ≢ expect → Keeps ≡ (if int_eq v expect then taken else Keeps)
keeps v expect taken ne = ap (λ t. if t then taken else Keeps) (sym (differs v expect ne))

-- ---- players

pub of-shared : (step : FlowStep) (core : SharedCore ℤ Global) (case : Case) → ((s : SharedFlowState ℤ) → StandsFor core s → case ≡ shared_case step s)
    → (p : Player) → ShowsPlayer (Shared core) p → case ≡ player_case step p
of-shared step core case takes (shared s) shows = takes s shows
of-shared step core case takes (state s) shows = absurd shows
of-shared step core case takes (share p) shows = absurd shows
of-shared step core case takes (state_in p) shows = absurd shows

pub of-state : (step : FlowStep) (core : StateCore ℤ Global) (case : Case) → case ≡ state_case step core → (p : Player) → ShowsPlayer (State core) p → case ≡ player_case step p
of-state step core case takes (shared s) shows = absurd shows
of-state step core case takes (state s) shows = takes ∙ ap (λ (t : StateFlowState ℤ). state_case step t) shows
of-state step core case takes (share p) shows = absurd shows
of-state step core case takes (state_in p) shows = absurd shows

pub of-share : (step : FlowStep) (sharing : Sharing ScriptChain (CoreHub ℤ Global) ℤ) (p : Player) → ShowsPlayer (Share sharing) p → Plain ≡ player_case step p
of-share step sharing (shared s) shows = absurd shows
of-share step sharing (state s) shows = absurd shows
of-share step sharing (share p) shows = refl
of-share step sharing (state_in p) shows = absurd shows

pub of-state-in : (step : FlowStep) (sharing : Sharing ScriptChain (StateHub ℤ Global) ℤ) (p : Player) → ShowsPlayer (StateIn sharing) p → Plain ≡ player_case step p
of-state-in step sharing (shared s) shows = absurd shows
of-state-in step sharing (state s) shows = absurd shows
of-state-in step sharing (share p) shows = absurd shows
of-state-in step sharing (state_in p) shows = refl

-- ---- places

pub of-flow : (step : FlowStep) (kept : Kept) (case : Case) → ((flow : PlayedFlow) → ShowsFlow kept flow → case ≡ player_case step flow.player)
    → (flow : Option PlayedFlow) → ShowsPlace (Some kept) flow → case ≡ place_case step flow
of-flow step kept case takes None shows = absurd shows
of-flow step kept case takes (Some flow) shows = takes flow shows

pub of-none : (step : FlowStep) (flow : Option PlayedFlow) → ShowsPlace None flow → Plain ≡ place_case step flow
of-none step None shows = refl
of-none step (Some flow) shows = absurd shows
