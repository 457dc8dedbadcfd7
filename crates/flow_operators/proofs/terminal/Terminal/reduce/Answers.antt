use Rattle.std.proofs.Common.{inl, inr, subst}
use Rattle.flow_operators.specs.Stopping.{StandsAfterFirst}
use Rattle.flow_operators.proofs.terminal.Terminal.reduce.Goals as goal

pub returns-in-Some-clause-stands : goal.returns-in-Some-clause-stands
returns-in-Some-clause-stands g c = elim c.in-Err.ensures.stands [
  | inl own ↦ inl own
  | inr stands ↦ inr (λ m r.
      let now = c.rewind.ensures.reads m r in
      let first = rw c.in-Some.is at c.in_ok-first.ensures.stands in (
        c.in-Some.first,
        g.Self.Cold.rest c.next_item.new.chain m,
        subst (λ k. StandsAfterFirst c.in-Some.first k (g.Self.Cold.rest c.next_item.new.chain m)) (c.rewind.ensures.rest m) (first m now),
        stands m (c.next_item.ensures.stays.reads m now),
      ))
]
