use Rattle.std.proofs.Common.{[]}
use Rattle.flow_law.specs.declared.call.SharedCall.TheVariants.{Subscribe}
use Rattle.flow_word_shared.proofs.Chains.{tried_again, tried_subscribes}
use Rattle.flow_word_shared.proofs.token.WordFlow.subscribe.Goals as goal

pub loop-preserved : goal.loop-preserved
loop-preserved g c = (tt, tt, tried_again _ _ _ c.loop.invariant.2 (c.try_subscription.ensures.lost c.in-None-try_subscription.is))

pub returns-in-Some-try_subscription-clause-subscribed : goal.returns-in-Some-try_subscription-clause-subscribed
returns-in-Some-try_subscription-clause-subscribed g c = tried_subscribes _ (λ name. Subscribe name []) _ _ _ c.try_subscription.new.seat c.loop.invariant.2 c.in-Some-try_subscription.ensures.subscribed

pub unreachable-unreachable : goal.unreachable-unreachable
unreachable-unreachable g c = absurd c.unreachable.result
