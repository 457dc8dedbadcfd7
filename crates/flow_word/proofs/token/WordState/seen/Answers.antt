use Rattle.flow_law.proofs.RealTimeLemmas.{in_real_time}
use Rattle.flow_law.proofs.SeenLemmas.{history_conflates, history_converges}
use Rattle.flow_word.proofs.token.WordState.seen.Goals as goal

pub returns-clause-conflated : goal.returns-clause-conflated
returns-clause-conflated g c = history_conflates _ _ c.look.ensures.history

pub returns-clause-current : goal.returns-clause-current
returns-clause-current g c = history_converges _ _ c.look.ensures.history

pub returns-clause-in_real_time : goal.returns-clause-in_real_time
returns-clause-in_real_time g c = in_real_time _ c.look.ensures.timed
