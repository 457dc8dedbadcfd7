use Rattle.flow_word.proofs.token.WordState.subscribe.Goals as goal

pub unreachable-unreachable : goal.unreachable-unreachable
unreachable-unreachable g c = absurd c.unreachable.result

pub returns-in-Some-try_subscribe : goal.returns-in-Some-try_subscribe
returns-in-Some-try_subscribe g c = record {
  subscribed = rw c.loop.invariant.2 at c.in-Some-try_subscribe.ensures.subscribed;
  refused = c.in-Some-try_subscribe.ensures.refused;
}
