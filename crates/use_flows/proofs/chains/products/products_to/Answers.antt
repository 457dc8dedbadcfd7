use Rattle.std.proofs.Common.{◌≡◌, ◌<◌, ◌^◌, ℤ, pos, ◌*ℤ◌, Ok, sym, ap, ◌∙◌, subst, arith, rules}
use Rattle.std.proofs.lemmas.Grind.{common_steps}
use Rattle.flow_law.specs.chain.ChainRun.{Collects}
use Rattle.flow_law.specs.chain.OperatorRuns.{flat_map_run, map_run}
use Rattle.flow_operators.specs.Numbers.{ranged}
use Rattle.flow_operators.specs.Sources.{range_run}
use Rattle.use_flows.proofs.ProductsLemmas.{multiples_run, products_run, readings}
use Rattle.use_flows.proofs.chains.products.products_to.Goals as goal

-- of what the outer closure answers at x, `range` and `inner` are its calls of `OfRange::new` and `map`
pub returns-clause-collects : goal.returns-clause-collects
returns-clause-collects c =
    let small : c.args.last < 2 ^ 32 = omega (arith, c.ranges.last.fits) in
    let numbers : range_run c.new.result.first c.new.result.last ≡ range_run (pos 1) (pos c.args.last) = grind (arith, common_steps, c.new.ensures.whole, c.from.ensures) in
    let whole = c.flat_map_concat-chain.ensures.whole tt readings multiples_run in
    let reads = c.flat_map_concat-chain.ensures.reads tt readings multiples_run c.new.ensures.reads (λ x r p.
    let range = p.said-raw.1.1.0 in
    let inner = p.said-raw.1.1.1.0 in
    let f = λ (y : ℤ). ranged (x *ℤ y) in
    let reads_so = inner.ensures.1.0 tt f range.ensures.1.0 (λ y s q. search rules) in
    let runs_so = inner.ensures.1.1.1.0 tt f ∙ ap (map_run f) range.ensures.1.1.1.0 in
    rw p.said-raw.1.1.1.1 (reads_so, sym (ap Ok runs_so))) in
    let collected = c.in_ok-collect_all.field-0 in
    subst (λ w. Collects w collected.items.items collected.end) (whole ∙ ap (flat_map_run multiples_run) numbers ∙ products_run c.args.last small) (c.in_ok-collect_all.ensures.collects ((tt, readings), multiples_run) reads)

-- neither closure answers out of memory, and each inner chain is one of numbers
pub returns-clause-given : goal.returns-clause-given
returns-clause-given c =
    let given = c.flat_map_concat-chain.ensures.given tt
    (λ x r p. rw p.said-raw.1.1.1.1 (λ e. grind (arith, common_steps)))
    (λ x s p.
    let range = p.said-raw.1.1.0 in
    let inner = p.said-raw.1.1.1.0 in
    let inner_given = inner.ensures.1.1.0 range.ensures.1.1.0 (λ y r q. search rules) in
    let same : s ≡ inner.result = grind (arith, common_steps, p.said-raw.1.1.1.1) in
    rw same inner_given) in
    c.in_ok-collect_all.ensures.given given
