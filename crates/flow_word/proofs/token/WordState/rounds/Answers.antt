use Rattle.std.proofs.Common.{refl, sym, subst, ◌∙◌}
use Rattle.flow_law.specs.history.Updates.{none_lost, one_lost}
use Rattle.flow_word.proofs.token.WordState.rounds.Goals as goal

pub loop-init : goal.loop-init
loop-init g c = (tt, tt, refl, none_lost)

pub loop-preserved : goal.loop-preserved
loop-preserved g c =
    let gives = subst (λ (z : g.row.T.Denot × g.row.T.Denot). goal.F-post g c.args.f z.0 z.1) (λ i. (c.unpack.ensures i, sym c.pack-new.ensures.value i)) c.f.ensures in
    (tt, tt, c.if-exchange.ensures.0.0 ∙ (c.word-old.ensures.called.0.0 ∙ c.loop.invariant.2), one_lost c.loop.invariant.3 (record { between = c.word-old.new.seat; read = c.word-old.ensures.called.0; answered = gives; exchanged = c.if-exchange.ensures.0 }))

pub unreachable-unreachable : goal.unreachable-unreachable
unreachable-unreachable g c = absurd c.unreachable.result

pub returns-then-exchange-clause-rounds : goal.returns-then-exchange-clause-rounds
returns-then-exchange-clause-rounds g c =
    let gives = subst (λ (z : g.row.T.Denot × g.row.T.Denot). goal.F-post g c.args.f z.0 z.1) (λ i. (c.unpack.ensures i, sym c.pack-new.ensures.value i)) c.f.ensures in
    record { between = c.loop.seat; lost = c.loop.invariant.3; won = record { between = c.word-old.new.seat; read = c.word-old.ensures.called.0; answered = gives; exchanged = c.if-exchange.ensures.0 } }
