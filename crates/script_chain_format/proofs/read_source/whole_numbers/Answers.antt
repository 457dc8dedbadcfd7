use Rattle.std.proofs.Common.{rules, ◌≡◌, [], ◌∷◌, ◌++◌, w64, sym, ap, ◌∙◌}
use Rattle.std.proofs.Math.Facts.{to_z-of_z}
use mir.Val.{to_z, of_z}
use Rattle.script_chain_format.specs.declared.reading.fault.ScriptFault.TheVariants.{BadShape}
use Rattle.script_chain_format.specs.Results.{or_fault}
use Rattle.script_chain_format.specs.SourceFormat.{whole_number}
use Rattle.script_chain_format.proofs.ChainLemmas.{all-more, all-none, all-over}
use Rattle.script_chain_format.proofs.read_source.whole_numbers.Goals as goal

pub returns-in_default : goal.returns-in_default
returns-in_default c =
    ap (or_fault (BadShape c.args.at)) (all-none whole_number c.args.values.now c.loop-value.value-index c.value-item.result c.loop-value.numbers.items _ c.loop-value-test.true c.value-item.is
    (sym c.in_default.ensures) c.loop-value.invariant)

pub loop-value-preserved : goal.loop-value-preserved
loop-value-preserved c =
    let number = c.in-Some.number in
    let same : to_z w64 (of_z w64 number) ≡ number = search (rules, to_z-of_z) in
    all-more whole_number c.args.values.now c.loop-value.value-index c.value-item.result number c.loop-value.numbers.items c.push.new.self.items _ c.loop-value-test.true c.value-item.is
    (sym c.in-Some.ensures) (c.in_ok-push.ensures.items ∙ ap (λ x. c.loop-value.numbers.items ++ x ∷ []) same) c.loop-value.invariant

pub returns : goal.returns
returns c = ap (or_fault (BadShape c.args.at)) (all-over whole_number c.args.values.now c.loop-value.value-index c.loop-value.numbers.items _ c.loop-value-test.false c.loop-value.invariant)
