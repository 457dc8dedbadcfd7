use Rattle.std.proofs.Common.{sym, subst}
use Rattle.std.specs.Result.{OnErr}
use Rattle.flow_law.specs.flow.Draining.{IsFull}
use Rattle.flow_shared.proofs.DrainEnds.{drain_fault, ends_alike}
use Rattle.flow_shared.proofs.Drains.{never_ends_gone}
use Rattle.flow_shared.proofs.flow.Flow.drain.Goals as goal

pub drain_end-requires-clause-live : goal.drain_end-requires-clause-live
drain_end-requires-clause-live g c =
    never_ends_gone g.S.FlowCore.kind g.S.FlowCore.lawful c.args.self.now c.args.most _ _ _ _ _ c.drain_by-ended.ensures.drained c.subscription.invariant

pub drain_end-requires-clause-memory : goal.drain_end-requires-clause-memory
drain_end-requires-clause-memory g c =
    drain_fault g.S.FlowCore.kind g.S.FlowCore.lawful c.args.self.now c.args.most _ _ _ _ _ c.drain_by-ended.ensures.drained

pub returns-clause-drained : goal.returns-clause-drained
returns-clause-drained g c = rw (c.drain_end.ensures) (rw (← c.subscription.view_is) (c.drain_by-ended.ensures.drained))

pub returns-clause-full : goal.returns-clause-full
returns-clause-full g c = λ always. ends_alike (IsFull c.drain_by-ended.new.values) c.drain_end.result (subst (λ r. OnErr r (IsFull c.drain_by-ended.new.values)) (sym c.drain_end.ensures) (c.drain_by-ended.ensures.full always))
