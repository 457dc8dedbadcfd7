use Rattle.flow_containers.proofs.FreshLemmas.{sound_fresh, standing_fresh}
use Rattle.flow_containers.proofs.subscribers.Subscribers.new.Goals as goal

pub invariant_of-result : goal.invariant_of-result
invariant_of-result g c =
    sound_fresh c.args.window c.in_ok-counts.counts.emitted c.new-2.result.last c.in_ok-counts.counts.row c.new-2.result.members
    c.requires.some c.in_ok-counts.ensures.row c.in_ok-counts.ensures.emitted c.new-2.ensures.empty c.new-2.ensures.last

pub returns : goal.returns
returns g c =
    standing_fresh c.args.window c.in_ok-counts.counts.emitted c.new-2.result.last c.in_ok-counts.counts.row c.new-2.result.members c.new-2.result.by_key
    c.in_ok-counts.ensures.row c.in_ok-counts.ensures.emitted c.new-2.ensures.empty c.new-2.ensures.last c.new-2.ensures.keys
