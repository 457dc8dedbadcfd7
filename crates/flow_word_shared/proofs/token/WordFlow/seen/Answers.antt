use Rattle.flow_law.proofs.RealTimeLemmas.{in_real_time}
use Rattle.flow_law.proofs.SeenLemmas.{history_admits, history_calm, history_delivers, history_lags, history_replays}
use Rattle.flow_word_shared.proofs.token.WordFlow.seen.Goals as goal

pub returns-clause-delivered : goal.returns-clause-delivered
returns-clause-delivered g c = history_delivers _ _ c.look_back.ensures.history

pub returns-clause-no_idle_queue : goal.returns-clause-no_idle_queue
returns-clause-no_idle_queue g c = history_calm _ _ c.look_back.ensures.history

pub returns-clause-admitted : goal.returns-clause-admitted
returns-clause-admitted g c = history_admits _ _ c.look_back.ensures.history

pub returns-clause-lagged : goal.returns-clause-lagged
returns-clause-lagged g c = history_lags _ _ c.look_back.ensures.history

pub returns-clause-replayed : goal.returns-clause-replayed
returns-clause-replayed g c = history_replays _ _ c.look_back.ensures.history

pub returns-clause-in_real_time : goal.returns-clause-in_real_time
returns-clause-in_real_time g c = in_real_time _ c.look_back.ensures.timed
