use Rattle.std.proofs.Common.{inl, inr, arith, rules}
use Rattle.std.proofs.lemmas.Grind.{common_steps}
use Rattle.flow_operators.proofs.BoundLemmas.{opened-fewer}
use Rattle.flow_operators.proofs.SameChainLemmas.{stays-then}
use Rattle.flow_operators.proofs.operators.flat_map_concat.FlatMapConcatCold.ask.Goals as goal

pub returns-in-Item : goal.returns-in-Item
returns-in-Item g c = record {
  callable = grind (arith, common_steps);
  reads = λ m r. ((c.loop-item.invariant.stays.reads m.0.0 r.0.0, c.in-Item.ensures.reads m.0.1 (c.loop-item.invariant.inner_reads m.0.1 m.1 r.0.1 r.1)), c.loop-item.invariant.computes m.0.1 m.1 r.1);
  whole = grind (arith, common_steps);
  gives = λ m r. grind (arith, common_steps, c.loop-item.invariant.rest m.0.0 m.0.1 m.1 r.0.0 r.0.1 r.1, c.in-Item.ensures.gives m.0.1 (c.loop-item.invariant.inner_reads m.0.1 m.1 r.0.1 r.1));
  fewer = grind (arith, common_steps);
  over = grind (arith, common_steps);
  answered = grind (arith, common_steps);
  behind = λ running m r. grind (arith, common_steps, c.loop-item.invariant.behind m.0.0 m.0.1 m.1 r.0.0 r.0.1 r.1, c.in-Item.ensures.gives m.0.1 (c.loop-item.invariant.inner_reads m.0.1 m.1 r.0.1 r.1));
  given = grind (arith, common_steps);
  lasting = grind (arith, common_steps);
  end = grind (arith, common_steps);
}

pub returns-in-Pending-clause-reads : goal.returns-in-Pending-clause-reads
returns-in-Pending-clause-reads g c = λ m r. ((c.loop-item.invariant.stays.reads m.0.0 r.0.0, c.in-Pending.ensures.reads m.0.1 (c.loop-item.invariant.inner_reads m.0.1 m.1 r.0.1 r.1)), c.loop-item.invariant.computes m.0.1 m.1 r.1)

pub returns-in-Pending-clause-gives : goal.returns-in-Pending-clause-gives
returns-in-Pending-clause-gives g c = λ m r. grind (arith, common_steps, c.loop-item.invariant.rest m.0.0 m.0.1 m.1 r.0.0 r.0.1 r.1, c.in-Pending.ensures.gives m.0.1 (c.loop-item.invariant.inner_reads m.0.1 m.1 r.0.1 r.1))

pub returns-in-Pending-clause-behind : goal.returns-in-Pending-clause-behind
returns-in-Pending-clause-behind g c = λ running m r. grind (arith, common_steps, c.loop-item.invariant.behind m.0.0 m.0.1 m.1 r.0.0 r.0.1 r.1, c.in-Pending.ensures.gives m.0.1 (c.loop-item.invariant.inner_reads m.0.1 m.1 r.0.1 r.1))

pub returns-in-Fault : goal.returns-in-Fault
returns-in-Fault g c = record {
  callable = grind (arith, common_steps);
  reads = grind (arith, common_steps);
  whole = grind (arith, common_steps);
  gives = λ m r. grind (arith, common_steps, c.loop-item.invariant.rest m.0.0 m.0.1 m.1 r.0.0 r.0.1 r.1, c.in-Fault.ensures.gives m.0.1 (c.loop-item.invariant.inner_reads m.0.1 m.1 r.0.1 r.1));
  fewer = grind (arith, common_steps);
  over = grind (arith, common_steps);
  answered = grind (arith, common_steps);
  behind = λ running m r. grind (arith, common_steps, c.loop-item.invariant.behind m.0.0 m.0.1 m.1 r.0.0 r.0.1 r.1, c.in-Fault.ensures.gives m.0.1 (c.loop-item.invariant.inner_reads m.0.1 m.1 r.0.1 r.1));
  given = grind (arith, common_steps);
  lasting = grind (arith, common_steps);
  end = grind (arith, common_steps);
}

pub loop-item-preserved : goal.loop-item-preserved
loop-item-preserved g c = record {
  stays = stays-then c.loop-item.invariant.stays c.in-Ok.ensures.stays;
  inner_lasting = grind (arith, common_steps);
  inner = c.in-Ok-open.ensures.callable;
  closure = c.loop-item.invariant.closure;
  opens = c.loop-item.invariant.opens;
  computes = c.loop-item.invariant.computes;
  runs = c.in-Ok.ensures.runs.1;
  fewer =
      let most = opened-fewer _ _ g.D.Cold.bound.limit _ c.in-Ok.ensures.fewer (g.met.D.Cold.limited (search rules) c.in-Ok-open.inner.chain) in
      grind (arith, common_steps);
  inner_reads = λ n f i o. (c.in-Ok-open.ensures.opens n f (c.loop-item.invariant.computes n f o)).0;
  rest = λ m n f r i o.
      let left = c.loop-item.invariant.rest m n f r i o in
      let asked = c.in-End.ensures.gives n (c.loop-item.invariant.inner_reads n f i o) in
      let gives = c.in-Ok.ensures.behind (λ e. grind (arith, common_steps)) m (c.loop-item.invariant.stays.reads m r) in
      let opened = c.in-Ok-open.ensures.opens n f (c.loop-item.invariant.computes n f o) in
      grind (arith, common_steps, left, asked, gives, opened.1);
  behind = λ m n f r i o.
      let left = c.loop-item.invariant.behind m n f r i o in
      let asked = c.in-End.ensures.gives n (c.loop-item.invariant.inner_reads n f i o) in
      let gives = c.in-Ok.ensures.behind (λ e. grind (arith, common_steps)) m (c.loop-item.invariant.stays.reads m r) in
      let opened = c.in-Ok-open.ensures.opens n f (c.loop-item.invariant.computes n f o) in
      grind (arith, common_steps, left, asked, gives, opened.1);
}

pub returns-in-Err-open : goal.returns-in-Err-open
returns-in-Err-open g c = record {
  callable = grind (arith, common_steps);
  reads = grind (arith, common_steps);
  whole = grind (arith, common_steps);
  gives = λ m r. grind (arith, common_steps, c.loop-item.invariant.rest m.0.0 m.0.1 m.1 r.0.0 r.0.1 r.1, c.in-End.ensures.gives m.0.1 (c.loop-item.invariant.inner_reads m.0.1 m.1 r.0.1 r.1), c.in-Ok.ensures.behind (λ e. grind (arith, common_steps)) m.0.0 (c.loop-item.invariant.stays.reads m.0.0 r.0.0), c.in-Err-open.ensures.opens m.0.1 m.1 (c.loop-item.invariant.computes m.0.1 m.1 r.1));
  fewer = grind (arith, common_steps);
  over = grind (arith, common_steps);
  answered = grind (arith, common_steps);
  behind = λ running m r. grind (arith, common_steps, c.loop-item.invariant.behind m.0.0 m.0.1 m.1 r.0.0 r.0.1 r.1, c.in-End.ensures.gives m.0.1 (c.loop-item.invariant.inner_reads m.0.1 m.1 r.0.1 r.1), c.in-Ok.ensures.behind (λ e. grind (arith, common_steps)) m.0.0 (c.loop-item.invariant.stays.reads m.0.0 r.0.0), c.in-Err-open.ensures.opens m.0.1 m.1 (c.loop-item.invariant.computes m.0.1 m.1 r.1));
  given = grind (arith, common_steps);
  lasting = grind (arith, common_steps);
  end = grind (arith, common_steps);
}

pub returns-in-Err : goal.returns-in-Err
returns-in-Err g c = record {
  callable = grind (arith, common_steps);
  reads = grind (arith, common_steps);
  whole = grind (arith, common_steps);
  gives = λ m r. grind (arith, common_steps, c.loop-item.invariant.rest m.0.0 m.0.1 m.1 r.0.0 r.0.1 r.1, c.in-End.ensures.gives m.0.1 (c.loop-item.invariant.inner_reads m.0.1 m.1 r.0.1 r.1), c.in-Err.ensures.behind (λ e. grind (arith, common_steps)) m.0.0 (c.loop-item.invariant.stays.reads m.0.0 r.0.0));
  fewer = elim c.in-Err.ensures.pends [
    | inl final ↦ inl final
    | inr fewer ↦ inr (let most = opened-fewer _ _ g.D.Cold.bound.limit 0 fewer (omega arith) in grind (arith, common_steps))
  ];
  over = grind (arith, common_steps);
  answered = grind (arith, common_steps);
  behind = λ running m r. grind (arith, common_steps, c.loop-item.invariant.behind m.0.0 m.0.1 m.1 r.0.0 r.0.1 r.1, c.in-End.ensures.gives m.0.1 (c.loop-item.invariant.inner_reads m.0.1 m.1 r.0.1 r.1), c.in-Err.ensures.behind (λ e. grind (arith, common_steps)) m.0.0 (c.loop-item.invariant.stays.reads m.0.0 r.0.0));
  given = grind (arith, common_steps);
  lasting = grind (arith, common_steps);
  end = grind (arith, common_steps);
}

pub returns-then-self : goal.returns-then-self
returns-then-self g c = grind (arith, common_steps)

pub loop-item-preserved-in-Ok-open : goal.loop-item-preserved-in-Ok-open
loop-item-preserved-in-Ok-open g c = grind (arith, common_steps)
