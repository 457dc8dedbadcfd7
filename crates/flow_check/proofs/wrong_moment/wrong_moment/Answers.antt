use Rattle.std.proofs.Common.{subst}
use Rattle.flow_check.specs.declared.moments.Cut.TheVariants.{Before, By}
use Rattle.flow_check.specs.Moments.{JudgesKnown}
use Rattle.flow_check.proofs.KnownOrders.{goes_wrong}
use Rattle.flow_check.proofs.wrong_moment.wrong_moment.Goals as goal

pub returns : goal.returns
returns g c =
    let explains = g.K.Checker.explains c.args.checker.now in
    goes_wrong explains c.law_cut_off.ensures c.args.calls.now c.callers-callers.ensures.well c.in-Some.moment
    (subst (JudgesKnown explains (Before c.in-Some.moment) c.args.calls.now) c.in-Legal-Illegal.is-0 c.in_ok-before.ensures)
    (subst (JudgesKnown explains (By c.in-Some.moment) c.args.calls.now) c.in-Legal-Illegal.is-1 c.in_ok-by.ensures)
