use Rattle.std.proofs.Common.{◌-◌, map, sym, subst, arith}
use Rattle.flow_law.specs.laws.Laws.{RisesTo}
use Rattle.flow_containers.proofs.QueueLemmas.{rises_pushed}
use Rattle.flow_containers.proofs.queue.Queue.push.Goals as goal

pub invariant_of-self : goal.invariant_of-self
invariant_of-self g c = rises_pushed c.push_back.result c.args.number c.args.value c.self.inside.items.items _ c.requires.positive (omega (arith, c.ranges.number))
    (subst (λ k. RisesTo 0 (map (λ q. q.number) k) (c.args.number - 1)) (sym c.self.view_is) c.requires.above) c.self.invariant c.push_back.ensures.items
