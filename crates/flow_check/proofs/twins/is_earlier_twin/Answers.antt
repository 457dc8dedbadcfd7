use Rattle.std.proofs.Common.{sym, ◌∙◌}
use Rattle.flow_check.proofs.twins.is_earlier_twin.Goals as goal

pub returns : goal.returns
returns g c = λ yes. (
  c.in-Some.call,
  sym c.in-Some.ensures,
  (
    c.in-Some-next_call.twin,
    sym c.in-Some-next_call.ensures,
    (
      (c.in-Some-end.end, c.in-Some-end.is, sym c.is_over_before.ensures ∙ c.if-not-is_over_before.false),
      c.begins_after.ensures yes,
      c.may_come_next.ensures.yes c.if-not-may_come_next.false,
      c.are_twins.ensures c.if-not-are_twins.false,
    ),
  ),
)
