use Rattle.std.proofs.Common.{ap, sym, ◌∙◌}
use Rattle.flow_script.specs.Cases.{as_case, shared_case}
use Rattle.flow_script.proofs.case.shared_case.Goals as goal

pub returns-in-TryEmit : goal.returns-in-TryEmit
returns-in-TryEmit c = λ s stands.
    c.case_of_emission.ensures ∙ ap as_case (c.emission_case.ensures.documented s stands) ∙ sym (ap (λ step. shared_case step s) c.in-TryEmit.is)

pub returns-in-Emit : goal.returns-in-Emit
returns-in-Emit c = λ s stands.
    c.case_of_emission-in-Emit.ensures ∙ ap as_case (c.emission_case-in-Emit.ensures.documented s stands) ∙ sym (ap (λ step. shared_case step s) c.in-Emit.is)
