use Rattle.std.proofs.Common.{refl, subst}
use Rattle.std.specs.Prelude.{IfOk}
use Rattle.flow_law.specs.flow.StateFlow.{state_flow}
use Rattle.flow_script.specs.FlowMeaning.{flow_step_turn}
use Rattle.flow_script.specs.StateMeaning.{IsState, plays_state}
use Rattle.flow_script.specs.Shown.{FollowsStep}
use Rattle.flow_script.proofs.PlayLemmas.{if-ok, hub-follows}
use Rattle.flow_script.proofs.script_hub.StateHubI64ScriptHub.step.Goals as goal

pub returns-clause-plays : goal.returns-clause-plays
returns-clause-plays c =
    let plays = subst (λ core. IfOk c.flow_step.result (FollowsStep IsState (flow_step_turn state_flow plays_state c.args.step) core c.flow_step.new.core
    c.args.numbers.now c.flow_step.new.numbers)) c.core_mut.ensures.core c.flow_step.ensures.plays in
    if-ok c.flow_step.result (λ answer follows. hub-follows c.args.step c.args.self.now (record { core = c.flow_step.new.core; initial = c.args.self.now.initial })
    c.args.numbers.now c.flow_step.new.numbers answer follows refl) plays
