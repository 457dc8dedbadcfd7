use Rattle.std.proofs.Common.{ap, subst, sym, Err}
use Rattle.script_chain_format.specs.Results.{Gives}
use Rattle.script_chain_format.specs.ChainFormat.{joined_to}
use Rattle.script_chain_format.specs.Chains.{build_result, operator_build}
use Rattle.script_chain_format.proofs.ResultLemmas.{gives_after}
use Rattle.script_chain_format.proofs.read_chain.joined_to.Goals as goal

pub returns-in-Err : goal.returns-in-Err
returns-in-Err c = λ m o chain op.
    subst (λ fault. Gives (joined_to m o) (Err fault)) (sym c.first_fault.ensures)
    (gives_after operator_build m o (joined_to m o) c.in-Err.fault c.args.op (subst (λ r. Gives m (build_result r)) c.in-Err.is chain) op (λ f is. ap (λ r. joined_to r o) is))
