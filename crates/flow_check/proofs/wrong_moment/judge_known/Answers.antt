use Rattle.std.specs.Prelude.{⊤}
use Rattle.std.proofs.lemmas.Option.{MatchOption-at_some}
use Rattle.flow_check.specs.Moments.{IsKnown}
use Rattle.flow_check.proofs.KnownOrders.{known_judged}
use Rattle.flow_check.proofs.wrong_moment.judge_known.Goals as goal

pub returns : goal.returns
returns g c = known_judged (g.K.Checker.explains c.args.checker.now) c.args.cut c.args.calls.now c.in-Some.known
    (MatchOption-at_some ⊤ (IsKnown c.args.cut c.args.calls.now) c.in-Some.known c.in-Some.is c.in_ok-made.ensures.cut) c.in_ok-verdict.verdict c.in_ok-verdict.ensures
