use Rattle.std.proofs.Common.{suc, refl}
use Rattle.std.specs.Prelude.{⊤}
use Rattle.std.proofs.lemmas.Option.{MatchOption-at_some}
use Rattle.flow_check.specs.declared.node.Node.{Node}
use Rattle.flow_check.specs.Reached.{reached}
use Rattle.flow_check.specs.Settling.{MakesPrivate}
use Rattle.flow_check.proofs.settling.settled.Goals as goal

pub loop-init : goal.loop-init
loop-init g c = (0, refl)

pub loop-preserved : goal.loop-preserved
loop-preserved g c = (
  suc c.loop.invariant.0,
  (
    reached c.loop.node,
    c.loop.invariant.1,
    (
      c.in-Some.private.caller,
      MatchOption-at_some ⊤ (λ (n : Node g.row.M.Denot). MakesPrivate g.M.Machine.stepped g.M.Machine.is_private c.args.callers.now c.in-Some.private.caller (reached c.loop.node) (reached n)) c.in-Some-made.after c.in-Some-made.is c.in_ok-made.ensures,
    ),
  ),
)
