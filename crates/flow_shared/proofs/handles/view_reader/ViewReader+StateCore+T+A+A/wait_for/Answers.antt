use Rattle.std.proofs.Common.{subst}
use Rattle.std.specs.Prelude.{true, false}
use Rattle.std.specs.Fn.{FnReturnsAt}
use Rattle.flow_law.specs.history.HandleFaults.{answer_by, memory_fault}
use Rattle.flow_shared.specs.WaitingFor.{ReceivesIf}
use Rattle.flow_shared.proofs.handles.view_reader.ViewReader+StateCore+T+A+A.wait_for.Goals as goal

pub returns-clause-received : goal.returns-clause-received
returns-clause-received g c =
    subst (λ r. ReceivesIf r.flow (λ value. FnReturnsAt g.F.Fn c.args.test value true) (λ value. FnReturnsAt g.F.Fn c.args.test value false)
    r.subscription (answer_by memory_fault c.wait_for.result) c.wait_for.new.self.subscription) c.self.view_is c.wait_for.ensures.received
