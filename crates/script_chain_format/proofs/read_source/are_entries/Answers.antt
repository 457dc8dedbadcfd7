use Rattle.std.proofs.Common.{sym, ap, arith}
use Rattle.std.specs.Prelude.{is_some}
use Rattle.script_chain_format.specs.SourceFormat.{entry_in}
use Rattle.script_chain_format.proofs.ChainLemmas.{each-more, each-none}
use Rattle.script_chain_format.proofs.read_source.are_entries.Goals as goal

pub returns-in_default : goal.returns-in_default
returns-in_default c =
    sym (each-none entry_in c.args.values.now c.loop-value.value-index c.value-item.result _ (omega arith) c.value-item.is (ap is_some (sym c.in_default.ensures)) c.loop-value.invariant)

pub loop-value-preserved : goal.loop-value-preserved
loop-value-preserved c =
    each-more entry_in c.args.values.now c.loop-value.value-index c.value-item.result _ (omega arith) c.value-item.is (ap is_some (sym c.in-Some.ensures)) c.loop-value.invariant
