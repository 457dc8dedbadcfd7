use Rattle.std.proofs.Common.{◌*ℤ◌, ℤ, rules, to_z-of_z}
use Rattle.flow_cold.specs.Numbers.{ranged}
use Rattle.flow_operators.specs.Numbers.{is_even}
use Rattle.chain_tests.proofs.chains.callers.even_times.Goals as goal

pub returns : goal.returns
returns c =
    let f = λ (x : ℤ). ranged (x *ℤ c.args.k) in
    let evens = c.filter.ensures.reads tt is_even c.new.ensures.reads (λ x b p. search rules) in
    let products = c.map.ensures.reads (tt, is_even) f evens (λ x r p. search rules) in
    simp (to_z-of_z, c.ranges.last) at
    (rw (c.in_ok-chain.ensures.whole ((tt, is_even), f), c.map.ensures.whole (tt, is_even) f, c.filter.ensures.whole tt is_even, c.new.ensures.whole) at
    (c.in_ok-collect_all.ensures.collects ((tt, is_even), f) (c.in_ok-chain.ensures.reads ((tt, is_even), f) products)))
