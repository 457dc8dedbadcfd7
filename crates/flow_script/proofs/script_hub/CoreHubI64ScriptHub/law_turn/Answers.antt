use Rattle.flow_script.proofs.script_hub.CoreHubI64ScriptHub.law_turn.Goals as goal

pub returns : goal.returns
returns c = λ started now seen s f old new turned stands takes had.
    let over = c.law_turn_over_core.ensures started now seen s f old new turned stands takes in
    (over.0, over.1, over.2.computed had)
