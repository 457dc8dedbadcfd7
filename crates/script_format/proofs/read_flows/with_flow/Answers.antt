use Rattle.std.proofs.Common.{ap, subst, sym, Err}
use Rattle.script_chain_format.specs.Results.{Gives}
use Rattle.script_format.specs.Flows.{with_named_flow}
use Rattle.script_format.specs.Actions.{named_head}
use Rattle.script_format.specs.HeadViews.{flows_result}
use Rattle.script_chain_format.proofs.ResultLemmas.{gives_after}
use Rattle.script_format.proofs.read_flows.with_flow.Goals as goal

pub returns-in-Err : goal.returns-in-Err
returns-in-Err c = λ m o flows flow.
    subst (λ fault. Gives (with_named_flow m o) (Err fault)) (sym c.first_fault.ensures)
    (gives_after named_head m o (with_named_flow m o) c.in-Err.fault c.args.flow (subst (λ r. Gives m (flows_result r)) c.in-Err.is flows) flow (λ f is. ap (λ r. with_named_flow r o) is))
