use Rattle.std.proofs.Common.{sym, subst}
use Rattle.futures.specs.declared.task.Poll.TheVariants.{Ready, Pending}
use Rattle.flow_shared.specs.declared.token.Emitted.TheVariants as emitted
use Rattle.flow_shared.specs.declared.emit_future.EmitStage.TheVariants.{Fresh, Waiting, Ended}
use Rattle.flow_shared.specs.declared.emit_future.Sent.TheVariants as sent
use Rattle.flow_shared.specs.EmitFutures.{EmitPolls}
use Rattle.flow_shared.proofs.Emissions.{emits_at_once}
use Rattle.flow_shared.proofs.emit_future.EmitFuture.emit.Goals as goal

pub returns-in-Done-clause-polls : goal.returns-in-Done-clause-polls
returns-in-Done-clause-polls g c =
    let emits = emits_at_once {A = g.row.A.Denot} c.self.inside.flow.now c.args.seat c.args.value (emitted.Done c.in-Done.seat) c.in-Done.ensures.emits in
    let polled = subst (λ f. EmitPolls {A = g.row.A.Denot} f.flow (Fresh c.args.seat c.args.value) (Ready (sent.Done c.in-Done.seat)) Ended) c.self.view_is emits in
    subst (λ stage. EmitPolls {A = g.row.A.Denot} c.args.self.now.flow (Fresh c.args.seat c.args.value) (Ready (sent.Done c.in-Done.seat)) stage) (sym c.requires.0) polled

pub returns-in-Queued-clause-polls : goal.returns-in-Queued-clause-polls
returns-in-Queued-clause-polls g c =
    let emits = emits_at_once {A = g.row.A.Denot} c.self.inside.flow.now c.args.seat c.args.value (emitted.Queued c.in-Queued.emission) c.in-Queued.ensures.emits in
    subst (λ f. EmitPolls {A = g.row.A.Denot} f.flow (Fresh c.args.seat c.args.value) Pending (Waiting c.in-Queued.emission)) c.self.view_is emits
