use Rattle.flow_law.proofs.RealTimeLemmas.{in_real_time}
use Rattle.flow_law.proofs.SeenLemmas.{history_conflates, history_converges}
use Rattle.flow_shared.proofs.laws.Flow+StateCore+T+A+A.seen.Goals as goal

pub returns-clause-laws : goal.returns-clause-laws
returns-clause-laws g c =
    let history = c.look.ensures.history in
    record {
      history = history;
      in_real_time = in_real_time _ c.look.ensures.timed;
      conflated = history_conflates _ _ history;
      current = history_converges _ _ history;
    }
