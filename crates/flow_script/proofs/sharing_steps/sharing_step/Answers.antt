use Rattle.std.proofs.Common.{◌≡◌, ℕ, ℤ, refl, subst}
use Rattle.std.specs.Prelude.{IfOk}
use Rattle.flow_law.specs.sharing.SharingCalls.{HubCall, HubAnswer}
use Rattle.flow_law.specs.sharing.Steps.{After}
use Rattle.script_format.specs.declared.script.FlowStep.{FlowStep}
use Rattle.script_format.specs.declared.script.FlowStep.TheVariants as step
use Rattle.flow_script.specs.FlowMeaning.{Turn}
use Rattle.flow_script.specs.Numbers.{Numbers}
use Rattle.flow_script.specs.SharingMeaning.{SharingPlay, beside_sharing, sharing_step}
use Rattle.flow_script.specs.Sharings.{ShowsSharing}
use Rattle.flow_script.specs.Shown.{FollowsStep}
use Rattle.flow_script.proofs.sharing_steps.sharing_step.Goals as goal

other-step : {F : Type 0} (flow : FlowStep → F → Numbers → Turn F) (reply : (c : HubCall ℤ) → F → After (HubAnswer c) F) (s : FlowStep) → ((now : ℕ) → s ≡ step.Turn now → ⊥)
    → beside_sharing flow s ≡ sharing_step flow reply s
other-step flow reply (step.Turn now) other = absurd (other now refl)
other-step flow reply _ other = refl

pub returns-in_default-clause-plays : goal.returns-in_default-clause-plays
returns-in_default-clause-plays g c =
    let P : (SharingPlay g.row.H-State.Denot → Numbers → Turn (SharingPlay g.row.H-State.Denot)) → Type 0 = λ t.
    IfOk c.step_on_flow.result (FollowsStep (ShowsSharing g.H.ScriptHub.stands) t c.args.sharing.now c.step_on_flow.new.sharing c.args.numbers.now c.step_on_flow.new.numbers) in
    subst P (other-step g.H.ScriptHub.flow g.H.ScriptHub.reply c.args.step c.in_default.not-Turn) c.step_on_flow.ensures.plays
