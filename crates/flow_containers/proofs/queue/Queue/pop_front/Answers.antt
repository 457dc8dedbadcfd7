use Rattle.flow_containers.proofs.QueueLemmas.{rises_popped}
use Rattle.flow_containers.proofs.queue.Queue.pop_front.Goals as goal

pub invariant_of-self : goal.invariant_of-self
invariant_of-self g c = rises_popped c.pop_front.result c.self.inside.items.items _ c.pop_front.ensures.items c.self.invariant
