use Rattle.std.proofs.Common.{◌≡◌, Some, sym, ap, ◌∙◌}
use Rattle.flow_check.specs.Remaining.{placing}
use Rattle.flow_check.proofs.Parts.{not_none}
use Rattle.flow_check.proofs.settling.after_private.Goals as goal

pub returns : goal.returns
returns g c =
    let made : g.M.Machine.stepped c.args.node.now.state c.args.caller c.in-Some.call.call ≡ Some c.in-Some-stepped.state = cc (c.in_ok-stepped.ensures, c.in-Some-stepped.is) in (
      c.in-Some.call,
      sym c.in-Some.ensures,
      not_none c.in-Some.call.end c.is_none.result c.is_none.ensures c.if-is_none.false,
      sym c.is_private.ensures ∙ c.if-not-is_private.false,
      made,
      c.place.ensures c.if-not-place.false ∙ ap (placing c.args.caller) (c.in_ok-placed.ensures.items ∙ c.as_slice.ensures.value),
    )
