use Rattle.std.proofs.Common.{subst}
use Rattle.std.proofs.lemmas.Result.{IfOk-weaker}
use Rattle.std.specs.Prelude.{IfOk}
use Rattle.flow_shared.specs.EmitFutures.{GivesSent, EmitsOne}
use Rattle.flow_tests.proofs.EmitOnce.{gives_one}
use Rattle.flow_tests.proofs.awaiting.send.Goals as goal

pub returns-clause-emits : goal.returns-clause-emits
returns-clause-emits g c = IfOk-weaker c.block_on.result _ (EmitsOne c.args.seat) (λ s. gives_one c.args.flow.now c.args.seat c.args.value s)
    (subst (λ f. IfOk c.block_on.result (GivesSent f)) c.new.ensures c.block_on.ensures)
