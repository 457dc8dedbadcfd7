-- Small facts on results and lists, and steps on a state flow.
use Rattle.std.proofs.Common.{◌≡◌, ℤ, Result, Ok, Err, OnOk, Global, List, [], ◌∷◌, length, refl, ap, ◌∙◌, arith}
use Rattle.std.specs.Prelude.{IfOk}
use Rattle.flow_script.specs.declared.answer.Answer.{Answer as Given}
use Rattle.flow_script.specs.Answers.{as_answer, no_flow}
use Rattle.flow_script.specs.ScriptMeaning.{shared, state, share, state_in, state_turn, player_turn, player_subscribes_with}
use Rattle.flow_script.specs.Shown.{FollowsStep}
use Rattle.flow_script.specs.Players.{ShowsPlayer}
use Rattle.flow_script.specs.declared.numbers.Numbers.{Numbers as Kept}
use Rattle.flow_script.specs.declared.player.Player.{Player as KeptPlayer}
use Rattle.flow_script.specs.declared.player.Player.TheVariants.{Shared, State, Share, StateIn}
use Rattle.script_format.specs.declared.script.FlowStep.{FlowStep}
use Rattle.flow_core.specs.declared.shared.SharedCore.{SharedCore}
use Rattle.flow_core.specs.declared.state.StateCore.{StateCore}
use Rattle.flow_law.specs.declared.states.StateAndInitial.{StateAndInitial}
use Rattle.flow_law.specs.declared.states.StateFlowState.{StateFlowState}
use Rattle.flow_script.specs.Shown.{kept_numbers}
use Rattle.flow_script.specs.SharingMeaning.{beside_initial}
use Rattle.flow_turns.specs.declared.state_hub.StateHub.{StateHub}
use Rattle.flow_turns.specs.StateHub.{state_flow_of}

pub none-left : {X : Type 0} (xs : List X) → length xs ≡ 0 → xs ≡ []
none-left [] is = refl
none-left (x ∷ xs) is = absurd (omega arith)

pub on-ok : {A E B C : Type 0} (r : Result A E) → (B → C) → OnOk r B → OnOk r C
on-ok (Ok a) f b = f b
on-ok (Err e) f b = tt

pub if-ok : {A E : Type 0} {P Q : A → Type 0} (r : Result A E) → ((a : A) → P a → Q a) → IfOk r P → IfOk r Q
if-ok (Ok a) f p = f a p
if-ok (Err e) f p = tt

pub state-follows : (step : FlowStep) (old new : StateCore ℤ Global) (n m : Kept) (answer : Given)
    → FollowsStep (λ core s. core ≡ s) (state_turn step) old new n m answer → FollowsStep ShowsPlayer (player_turn step) (State old) (State new) n m answer
state-follows step old new n m answer follows (shared s) shows = absurd shows
state-follows step old new n m answer follows (state s) shows = follows s shows
state-follows step old new n m answer follows (share p) shows = absurd shows
state-follows step old new n m answer follows (state_in p) shows = absurd shows

-- a step on the flow of a state hub leaves its initial value
pub hub-follows : (step : FlowStep) (old new : StateHub ℤ Global) (n m : Kept) (answer : Given)
    → FollowsStep (λ core s. core ≡ s) (state_turn step) old.core new.core n m answer → new.initial ≡ old.initial
    → FollowsStep (λ hub s. state_flow_of hub ≡ s) (beside_initial state_turn step) old new n m answer
hub-follows step old new n m answer follows same p shows =
    let did = follows p.flow (ap (λ (x : StateAndInitial ℤ). x.flow) shows) in
    let t = state_turn step p.flow (kept_numbers n) in (
      ap (λ (core : StateFlowState ℤ). record { flow = core; initial = new.initial }) did.0
          ∙ ap (λ (x : ℤ). record { flow = t.after; initial = x }) (same ∙ ap (λ (x : StateAndInitial ℤ). x.initial) shows),
      did.1,
      did.2,
    )

-- a subscription with first values on a flow that does not have it changes nothing
pub others-follow : (first : List ℤ) (player : KeptPlayer) (n : Kept) (answer : Given) → ((core : SharedCore ℤ Global) → player ≡ Shared core → ⊥)
    → as_answer answer ≡ no_flow → FollowsStep ShowsPlayer (player_subscribes_with first) player player n n answer
others-follow first (Shared core) n answer other is p shows = absurd (other core refl)
others-follow first (State core) n answer other is (shared s) shows = absurd shows
others-follow first (State core) n answer other is (state s) shows = (shows, refl, is)
others-follow first (State core) n answer other is (share p) shows = absurd shows
others-follow first (State core) n answer other is (state_in p) shows = absurd shows
others-follow first (Share sharing) n answer other is (shared s) shows = absurd shows
others-follow first (Share sharing) n answer other is (state s) shows = absurd shows
others-follow first (Share sharing) n answer other is (share p) shows = (shows, refl, is)
others-follow first (Share sharing) n answer other is (state_in p) shows = absurd shows
others-follow first (StateIn sharing) n answer other is (shared s) shows = absurd shows
others-follow first (StateIn sharing) n answer other is (state s) shows = absurd shows
others-follow first (StateIn sharing) n answer other is (share p) shows = absurd shows
others-follow first (StateIn sharing) n answer other is (state_in p) shows = (shows, refl, is)
