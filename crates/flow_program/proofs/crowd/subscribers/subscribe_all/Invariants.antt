use Rattle.std.proofs.Common.{◌≡◌, ℕ, ◌+◌, ◌<◌, ◌≤◌, get_or, vec_items, vec_len, vec_capacity}
use Rattle.flow_law.specs.history.Done.{done_by}
use Rattle.flow_program.specs.Crowds.{IsMaker, IsNewSubscription}
use Rattle.flow_program.proofs.crowd.subscribers.subscribe_all.Given as goal

abbrev pub invariant-loop-subscribed : goal.invariant-loop-subscribed
invariant-loop-subscribed g l =
    let start = l.fn.maker in
    (l.maker.flow ≡ start.flow)
    × IsMaker l.maker.token.knows
    × (l.maker.token.knows.made ≡ start.token.knows.made + l._subscribed)
    × (vec_len l.readers ≡ l._subscribed)
    × ((k : ℕ) (d : _) → k < l._subscribed → (get_or (vec_items l.readers) k d).flow ≡ start.flow)
    × ((k : ℕ) (d : _) → k < l._subscribed → IsNewSubscription (done_by l.maker.token.knows) (start.token.knows.made + k) (get_or (vec_items l.readers) k d).subscription)
    × (l.count ≤ vec_capacity l.readers)
