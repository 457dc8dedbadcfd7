use Rattle.std.proofs.Common.{◌≡◌, ap, subst}
use Rattle.std.specs.Prelude.{Ok}
use Rattle.flow_law.specs.flow.SharedHistory.{shared_flow}
use Rattle.flow_shared.specs.Calls.{Nexts}
use Rattle.flow_tests.specs.LentFlows.{HasAll}
use Rattle.flow_tests.proofs.LentLemmas.{has_all_now, reads_in_order}
use Rattle.flow_tests.proofs.lent.next_in_order.Goals as goal

pub returns-clause-in_order : goal.returns-clause-in_order
returns-clause-in_order g c = reads_in_order _ _ _ (c.seen_by_subscription.ensures.laws.lagged _ c.seen_by_subscription.ensures.subscribed)

pub returns-clause-all : goal.returns-clause-all
returns-clause-all g c = λ empty.
    has_all_now c.args.flow.now c.args.subscription.now c.next-next.result c.next-next.new.subscription c.seen_by_subscription.new.subscription c.next-next.ensures.called c.next-next.ensures.number c.seen_by_subscription.ensures.unchanged c.seen_by_subscription.ensures.laws.delivered empty
