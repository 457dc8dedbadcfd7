use Rattle.std.proofs.Common.{subst}
use Rattle.flow_law.specs.laws.Laws.{Delivers}
use Rattle.flow_word_shared.proofs.handles.emitter.WordEmitter.seen.Goals as goal

pub returns-clause-delivered : goal.returns-clause-delivered
returns-clause-delivered g c = λ u. subst (λ flow. Delivers {T = g.row.T.Denot} u flow.first.config c.seen.new.seat.knows.seen) c.deref.ensures (c.seen.ensures.delivered u)
