use Rattle.std.proofs.Common.{◌≡◌, ◌≢◌, ◌+◌, ◌-◌, ◌≤◌, ℕ, List, ◌∙◌, sym, ap, subst, arith}
use Rattle.std.specs.Prelude.{Ok, Err, Result}
use Rattle.std.proofs.lemmas.Result.{err_from_is_err_and}
use Rattle.flow_law.specs.declared.fault.FlowFault.{FlowFault}
use Rattle.flow_law.specs.declared.outcome.Next.{Next}
use Rattle.flow_law.specs.declared.outcome.Drained.{Drained}
use Rattle.flow_law.specs.declared.outcome.Drained.TheVariants as drained
use Rattle.flow_law.specs.flow.Draining.{DrainsBy}
use Rattle.flow_law.specs.history.Tokens.{numbered_token}
use Rattle.flow_law.proofs.DrainingLemmas.{HasTaken}
use Rattle.flow_core.specs.SubId.{number_of}
use Rattle.flow_shared.specs.Calls.{NextsOf}
use Rattle.flow_shared.proofs.Drains.{taken_room, drained_within}
use Rattle.flow_shared.proofs.flow.Flow.drain_by.Goals as goal

-- the drain has values left to take, and the list has room for some of them
module _ {X T : Type 0} (R : X → Result (Next T) FlowFault → X → Type 0) (most left room : ℕ) (old now after : X) (old_list list same longer : List T) (taken : HasTaken R (most - left) old old_list list now)
    (within : left ≤ most) (fits : room ≤ left) (is : same ≡ list) (result : Result Drained FlowFault) (d : DrainsBy R room now same result longer after) where
  so_far : HasTaken R (most - left) old old_list same now
  so_far = subst (λ (l : List T). HasTaken R (most - left) old old_list l now) (sym is) taken

  takes_on : result ≡ Ok drained.Most → HasTaken R (most - (left - room)) old old_list longer after
  takes_on all =
      let far : (most - left) + room ≡ most - (left - room) = omega (arith, within, fits) in
      subst (λ (n : ℕ). HasTaken R n old old_list longer after) far
      (taken_room R (most - left) room old now after old_list same longer so_far (subst (λ (r : Result Drained FlowFault). DrainsBy R room now same r longer after) all d))

  ends_with : (given : Result Drained FlowFault) → result ≡ given → given ≢ Ok drained.Most → DrainsBy R most old old_list given longer after
  ends_with given e other =
      drained_within R (most - left) room old now after old_list same longer so_far most given (omega (arith, within, fits)) other (subst (λ (r : Result Drained FlowFault). DrainsBy R room now same r longer after) e d)

pub loop-left-preserved : goal.loop-left-preserved
loop-left-preserved g c =
    let n = number_of c.args.id in
    record {
      within = omega (arith, c.loop-left.invariant.within);
      taken = takes_on (NextsOf g.S.FlowCore.kind c.args.self.now) c.args.most c.loop-left.left c.min-room.result (numbered_token c.args.seat.now n) (numbered_token c.loop-left.seat n) (numbered_token c.take.new.seat n)
          c.args.values.now.items c.loop-left.values.items c.reserve.new.self.items c.take.new.values.items c.loop-left.invariant.taken c.loop-left.invariant.within (omega (arith, c.min-room.ensures))
          c.reserve.ensures.items c.take.result c.take.ensures.drained (c.in_ok-ended.was ∙ ap Ok c.in-Most.is);
      subscribed = c.take.ensures.subscribed;
      flow = c.take.ensures.flow ∙ c.loop-left.invariant.flow;
    }

pub returns-in_default : goal.returns-in_default
returns-in_default g c =
    let n = number_of c.args.id in
    let drained = ends_with (NextsOf g.S.FlowCore.kind c.args.self.now) c.args.most c.loop-left.left c.min-room.result (numbered_token c.args.seat.now n) (numbered_token c.loop-left.seat n) (numbered_token c.take.new.seat n)
    c.args.values.now.items c.loop-left.values.items c.reserve.new.self.items c.take.new.values.items c.loop-left.invariant.taken c.loop-left.invariant.within (omega (arith, c.min-room.ensures))
    c.reserve.ensures.items c.take.result c.take.ensures.drained (Ok c.in_ok-ended.ended) c.in_ok-ended.was (λ e. c.in_default.not-Most (cc e)) in
    record { drained = drained; subscribed = c.take.ensures.subscribed; flow = c.take.ensures.flow ∙ c.loop-left.invariant.flow ∙ sym c.requires.flow; full = λ _. tt }

pub returns-in_err-ended-clause-drained : goal.returns-in_err-ended-clause-drained
returns-in_err-ended-clause-drained g c =
    let n = number_of c.args.id in
    let given = err_from_is_err_and c.from_residual.result c.from_residual.ensures.1 in
    subst (λ (r : Result Drained FlowFault). DrainsBy (NextsOf g.S.FlowCore.kind c.args.self.now) c.args.most (numbered_token c.args.seat.now n) c.args.values.now.items r c.take.new.values.items (numbered_token c.take.new.seat n)) (sym given.1)
    (ends_with (NextsOf g.S.FlowCore.kind c.args.self.now) c.args.most c.loop-left.left c.min-room.result (numbered_token c.args.seat.now n) (numbered_token c.loop-left.seat n) (numbered_token c.take.new.seat n)
    c.args.values.now.items c.loop-left.values.items c.reserve.new.self.items c.take.new.values.items c.loop-left.invariant.taken c.loop-left.invariant.within (omega (arith, c.min-room.ensures))
    c.reserve.ensures.items c.take.result c.take.ensures.drained (Err given.0) (c.in_err-ended.was ∙ ap Err (sym given.2)) (λ e. cc))
