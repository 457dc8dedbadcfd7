use Rattle.std.proofs.Common.{rules, arith}
use Rattle.flow_word_shared.proofs.SeatSteps.{opens}
use Rattle.flow_word_shared.proofs.token.WordFlow.begin.Goals as goal

pub of_words-requires : goal.of_words-requires
of_words-requires g c = opens _ _ _ _ _ (record { strategy = c.requires.strategy.0; buffer = omega arith; room = omega arith; limit = c.requires.limit; width = (let wide = c.WIDTH-width.ensures in let some = g.met.T.Words.width_fits.0 in omega (arith, wide, some)) }) (search rules) (search rules)
