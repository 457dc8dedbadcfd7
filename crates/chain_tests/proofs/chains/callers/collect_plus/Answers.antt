use Rattle.std.proofs.Common.{◌+ℤ◌, ℤ, rules}
use Rattle.flow_cold.specs.Numbers.{ranged}
use Rattle.chain_tests.proofs.chains.callers.collect_plus.Goals as goal

pub returns-clause-collects : goal.returns-clause-collects
returns-clause-collects c =
    let f = λ (x : ℤ). ranged (x +ℤ c.args.k) in
    let reads = c.map-chain.ensures.reads tt f c.new.ensures.reads (λ x r p. search rules) in
    rw (c.map-chain.ensures.whole tt f, c.new.ensures.whole) at (c.in_ok-collect_all.ensures.collects (tt, f) reads)
