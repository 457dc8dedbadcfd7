use Rattle.std.proofs.Common.{rules}
use Rattle.flow_word.proofs.SeatSteps.{opens}
use Rattle.flow_word.proofs.token.WordState.new.Goals as goal

pub of_words-requires : goal.of_words-requires
of_words-requires g c = opens _ _ _ _ c.pack.ensures.packs (search rules)
