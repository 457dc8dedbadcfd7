use Rattle.std.proofs.Common.{refl, sym, ap, ◌∙◌}
use Rattle.flow_law.specs.sharing.SharingCalls.{with_hub}
use Rattle.flow_law.specs.sharing.SharingFlows.{flow_turn, state_reply}
use Rattle.flow_turns.specs.StateHub.{state_flow_of}
use Rattle.flow_script.proofs.script_hub.StateHubI64ScriptHub.law_turn.Goals as goal

pub returns : goal.returns
returns c = λ started now seen s f old new turned stands takes had.
    let over = c.law_turn_over_state_core.ensures started now seen s old new turned takes in
    (state_flow_of new.hub, refl, ap (λ g. flow_turn state_reply started now seen s (with_hub old g)) (sym stands) ∙ over.computed had)
