use Rattle.std.proofs.Common.{Ok, arith}
use Rattle.std.proofs.lemmas.Grind.{common_steps}
use Rattle.flow_law.proofs.ChainLemmas.{map_means}
use Rattle.flow_operators.proofs.chain.Chain.map_value.Goals as goal

pub returns-clause-meaning : goal.returns-clause-meaning
returns-clause-meaning g c = λ m f. let means = map_means (λ x. Ok (f x)) (g.Self.Cold.whole c.args.self m) in grind (arith, common_steps)
