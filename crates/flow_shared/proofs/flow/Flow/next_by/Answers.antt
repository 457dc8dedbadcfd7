use Rattle.flow_core.specs.SubId.{number_of}
use Rattle.flow_shared.proofs.NextTries.{still_subscribed, next_tried, next_armed}
use Rattle.flow_shared.proofs.flow.Flow.next_by.Goals as goal

pub invariant_of-subscription : goal.invariant_of-subscription
invariant_of-subscription g c =
    still_subscribed g.S.FlowCore.kind g.S.FlowCore.lawful c.args.self.now g.E.Entry.is_at_once (number_of c.subscription.inside.id) c.subscription.inside.seat c.call_by-tried.new.seat c.subscription.invariant _ c.call_by-tried.result
    c.call_by-tried.ensures.called c.call_by-tried.ensures.at_once c.call_by-tried.ensures.busy

pub returns-clause-called : goal.returns-clause-called
returns-clause-called g c =
    next_tried g.S.FlowCore.kind g.S.FlowCore.lawful c.args.self.now g.E.Entry.is_at_once (number_of c.subscription.inside.id) c.subscription.inside.seat c.call_by-tried.new.seat c.subscription.invariant _ c.call_by-tried.result
    c.call_by-tried.ensures.called c.call_by-tried.ensures.at_once c.call_by-tried.ensures.busy _ _ c.subscription.view_is c.unwrap_or.ensures

pub returns-clause-armed : goal.returns-clause-armed
returns-clause-armed g c =
    next_armed g.S.FlowCore.kind g.S.FlowCore.lawful c.args.self.now g.E.Entry.is_at_once (number_of c.subscription.inside.id) c.subscription.inside.seat c.call_by-tried.new.seat c.subscription.invariant _ c.call_by-tried.result
    c.call_by-tried.ensures.called c.call_by-tried.ensures.at_once c.call_by-tried.ensures.busy (g.W.Waiter.is_armed c.call_by-tried.new.waiter) _ c.unwrap_or.ensures c.call_by-tried.ensures.armed
