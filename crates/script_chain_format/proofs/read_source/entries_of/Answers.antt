use Rattle.std.proofs.Common.{sym, ap}
use Rattle.script_chain_format.specs.declared.reading.fault.ScriptFault.TheVariants.{BadShape}
use Rattle.script_chain_format.specs.Results.{or_fault}
use Rattle.script_chain_format.specs.SourceFormat.{entry_in}
use Rattle.script_chain_format.proofs.ChainLemmas.{all-more, all-none, all-over}
use Rattle.script_chain_format.proofs.read_source.entries_of.Goals as goal

pub returns-in_default : goal.returns-in_default
returns-in_default c =
    ap (or_fault (BadShape c.args.at)) (all-none entry_in c.args.values.now c.loop-value.value-index c.value-item.result c.loop-value.entries.items _ c.loop-value-test.true c.value-item.is
    (sym c.in_default.ensures) c.loop-value.invariant)

pub loop-value-preserved : goal.loop-value-preserved
loop-value-preserved c =
    all-more entry_in c.args.values.now c.loop-value.value-index c.value-item.result c.in-Some.entry c.loop-value.entries.items c.push.new.self.items _ c.loop-value-test.true c.value-item.is
    (sym c.in-Some.ensures) c.in_ok-push.ensures.items c.loop-value.invariant

pub returns : goal.returns
returns c = ap (or_fault (BadShape c.args.at)) (all-over entry_in c.args.values.now c.loop-value.value-index c.loop-value.entries.items _ c.loop-value-test.false c.loop-value.invariant)
