use Rattle.std.proofs.Common.{sym, ◌∙◌, arith}
use Rattle.std.proofs.lemmas.Iterator.Adapters.{position_from-zero}
use Rattle.script_format.specs.Actions.{heads_of, named_head}
use Rattle.script_format.specs.Checks.{is_named}
use Rattle.script_format.proofs.NameLemmas.{position-here, position-next, position-over}
use Rattle.script_format.proofs.read_place.place_named.Goals as goal

pub loop-place-init : goal.loop-place-init
loop-place-init c = sym (position_from-zero (λ flow. is_named c.args.name.now flow) (heads_of c.args.flows.now))

pub returns-then-is_named : goal.returns-then-is_named
returns-then-is_named c =
    position-here (λ flow. is_named c.args.name.now flow) named_head c.args.flows.now c.loop-place.place c.index-flows-place.result _ (omega arith) c.index-flows-place.is
    (sym c.is_named.ensures ∙ c.if-is_named.true) c.loop-place.invariant

pub loop-place-preserved : goal.loop-place-preserved
loop-place-preserved c =
    position-next (λ flow. is_named c.args.name.now flow) named_head c.args.flows.now c.loop-place.place c.index-flows-place.result _ (omega arith) c.index-flows-place.is
    (sym c.is_named.ensures ∙ c.if-is_named.false) c.loop-place.invariant

pub returns : goal.returns
returns c = position-over (λ flow. is_named c.args.name.now flow) named_head c.args.flows.now c.loop-place.place _ (omega arith) c.loop-place.invariant
