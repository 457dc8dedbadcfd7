use Rattle.flow_law.proofs.RealTimeLemmas.{in_real_time}
use Rattle.flow_law.proofs.SeenLemmas.{history_admits, history_calm, history_delivers, history_lags, history_replays}
use Rattle.flow_shared.proofs.laws.Flow+SharedCore+T+A+A.seen.Goals as goal

pub returns-clause-laws : goal.returns-clause-laws
returns-clause-laws g c =
    let history = c.look.ensures.history in
    record {
      history = history;
      in_real_time = in_real_time _ c.look.ensures.timed;
      delivered = history_delivers _ _ history;
      no_idle_queue = history_calm _ _ history;
      admitted = history_admits _ _ history;
      lagged = history_lags _ _ history;
      replayed = history_replays _ _ history;
    }
