use Rattle.std.proofs.Common.{refl, sym, ◌∙◌}
use Rattle.flow_check.proofs.record.fault_at.Goals as goal

pub returns-then-is_over_before : goal.returns-then-is_over_before
returns-then-is_over_before g c =
    (c.in_ok-call.call, sym c.recorded.ensures ∙ c.in_ok-call.was, sym c.is_over_before.ensures ∙ c.if-is_over_before.true)

pub returns : goal.returns
returns g c = (
  c.args.index,
  (
    c.in_ok-call.call,
    (
      c.in_ok-next.next,
      refl,
      sym c.recorded.ensures ∙ c.in_ok-call.was,
      sym c.recorded-2.ensures ∙ c.in_ok-next.was,
      sym c.may_follow.ensures ∙ c.if-may_follow.false,
    ),
  ),
)
