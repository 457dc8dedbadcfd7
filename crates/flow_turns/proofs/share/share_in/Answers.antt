use Rattle.std.proofs.Common.{◌≡◌, None, refl, sym, ap, ◌∙◌, subst}
use Rattle.flow_law.specs.declared.config.Config.{Config}
use Rattle.flow_law.specs.flow.SharedFlow.{NoFlow, config_fault, first_state}
use Rattle.flow_law.specs.flow.Standing.{Core, StandsFor}
use Rattle.flow_turns.specs.CoreHub.{core_of}
use Rattle.flow_turns.proofs.share.share_in.Goals as goal

pub returns-in-Ok-clause-flow : goal.returns-in-Ok-clause-flow
returns-in-Ok-clause-flow g c =
    let T = g.row.C-Item.Denot in
    let P : Config → Core T → Type 0 = λ config core. (config_fault config ≡ None) × StandsFor core (first_state {T = T} config) in
    subst (P _) (sym (ap core_of c.new-in-Ok-2.ensures.hub ∙ c.new-in-Ok.ensures.core)) (subst (λ config. P config c.in-Ok.core) c.sharing_config.ensures c.in-Ok.ensures)

pub returns-in-Ok-clause-chain : goal.returns-in-Ok-clause-chain
returns-in-Ok-clause-chain g c = c.new-in-Ok-2.ensures.chain

pub returns-in-Err-clause-flow : goal.returns-in-Err-clause-flow
returns-in-Err-clause-flow g c = (c.in-Err.fault, subst (λ config. NoFlow config c.in-Err.fault) c.sharing_config.ensures c.in-Err.ensures, refl)
