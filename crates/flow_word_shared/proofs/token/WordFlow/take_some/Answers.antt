use Rattle.std.proofs.Common.{List, Some, ap, subst, ◌∙◌}
use Rattle.std.specs.Prelude.{Ok}
use Rattle.flow_law.specs.declared.outcome.Next.TheVariants.{Empty}
use Rattle.flow_word_shared.specs.Answers.{WordFlowNexts, NextsTaken}
use Rattle.flow_word_shared.proofs.Chains.{tried_overrun}
use Rattle.flow_word_shared.proofs.Told.{tried_takes, tried_nexts}
use Rattle.flow_word_shared.proofs.token.WordFlow.take_some.Goals as goal

pub loop-preserved : goal.loop-preserved
loop-preserved g c = let late = c.try_some.ensures.late c.in-None-try_some.is in
    (tt, tt, late.3 ∙ c.loop.invariant.2, tried_overrun _ _ _ c.loop.invariant.3 late.4, late.0 ∙ c.loop.invariant.4, late.1 ∙ c.loop.invariant.5, late.2 ∙ c.loop.invariant.6)

pub returns-in-Some-try_some-clause-taken : goal.returns-in-Some-try_some-clause-taken
returns-in-Some-try_some-clause-taken g c = let t = c.in-Some-try_some.ensures.taken in (
  t.0,
  λ some. subst (λ (l : List g.row.T.Denot). NextsTaken (WordFlowNexts c.args.self.now.first) c.in-Some-try_some.count c.args.subscription.now l c.try_some.new.values.items c.try_some.new.subscription) c.loop.invariant.4
      (tried_takes c.args.self.now.first c.in-Some-try_some.count _ _ _ _ _ c.loop.invariant.3 c.loop.invariant.2 some (t.1 some)),
)

pub returns-in-Some-try_some-clause-empty : goal.returns-in-Some-try_some-clause-empty
returns-in-Some-try_some-clause-empty g c = λ none. let e = c.in-Some-try_some.ensures.empty (ap Some none) in
    (e.0 ∙ c.loop.invariant.4, tried_nexts c.args.self.now.first _ _ _ (Ok Empty) c.loop.invariant.3 c.loop.invariant.2 e.1)
