use Rattle.std.proofs.Common.{◌∙◌, ap, subst}
use Rattle.flow_law.specs.declared.call.SharedCall.TheVariants as call
use Rattle.flow_law.specs.flow.SharedHistory.{Replies, after}
use Rattle.flow_law.specs.flow.Standing.{StandsFor}
use Rattle.flow_core.specs.SharedCore.{try_emit_reply}
use Rattle.use_flows.specs.Readings.{with_reading}
use Rattle.use_flows.proofs.ReadingsLemmas.{stands_after, added}
use Rattle.use_flows.proofs.readings.Readings.add.Goals as goal

pub returns-clause-added : goal.returns-clause-added
returns-clause-added g c =
    let x = c.args.value in
    let s = c.self.invariant.0 in
    let stands = c.self.invariant.1 in
    let unread = c.self.invariant.2 in
    let new = c.try_emit.new.self in
    let done = subst (λ r. Replies s (call.TryEmit x) (try_emit_reply r) × StandsFor new (after s (call.TryEmit x) (try_emit_reply r))) c.in_ok-try_emit.was (c.try_emit.ensures.documented.0 s stands) in
    let longer = subst (λ t. StandsFor new t) (stands_after x s c.in_ok-try_emit.field-0 unread done.0) done.1 in
    added x c.self.inside.flow new s stands unread longer ∙ ap (with_reading x) c.self.view_is
