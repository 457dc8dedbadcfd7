use Rattle.std.proofs.Common.{subst}
use Rattle.std.proofs.Math.Logic.{∥∥₁_map}
use Rattle.flow_law.specs.declared.call.StateCall.TheVariants.{GetValue}
use Rattle.flow_law.specs.declared.call.StateReply.TheVariants.{Got}
use Rattle.flow_law.specs.flow.StateFlow.{state_flow}
use Rattle.flow_law.specs.history.Promise.{CallsIn}
use Rattle.flow_messages.proofs.BeforeLemmas.{reads_after}
use Rattle.flow_messages.proofs.message.Message.read_after.Goals as goal

pub returns-clause-after : goal.returns-clause-after
returns-clause-after g c =
    let one = c.args.reader.now in let met = c.meet.new.self in let read = c.value.new.self in
    ∥∥₁_map c.args.self.set (λ s. reads_after one.flow.first one.token c.args.self.caller.token met.token c.meet.new.other.token read.token c.args.self.value c.value.result s c.meet.ensures.met
    (subst (λ f. CallsIn state_flow f.first met.token GetValue (Got c.value.result) read.token) c.meet.ensures.flow.0 c.value.ensures.called.0))
