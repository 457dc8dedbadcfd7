use Rattle.std.proofs.Common.{◌∙◌, get_or, subst}
use Rattle.flow_law.specs.declared.call.StateCall.TheVariants as call
use Rattle.flow_law.specs.declared.call.StateReply.TheVariants as reply
use Rattle.flow_law.specs.history.Rounds.{MeetsInTurn}
use Rattle.flow_law.specs.flow.StateFlow.{state_flow}
use Rattle.flow_law.specs.history.Promise.{CallsIn}
use Rattle.flow_law.proofs.RoundLemmas.{final_value}
use Rattle.flow_word.proofs.handles.setter.WordSetter.final_value.Goals as goal

pub returns-clause-value : goal.returns-clause-value
returns-clause-value g c =
    let one = c.args.self.now in let met = c.meet_all.new.self in let read = c.value-value.new.self in let end = c.meet_all-2.new.self in
    let xs = c.args.others.now in let ys = c.meet_all.new.others in let zs = c.meet_all-2.new.others in
    final_value one.flow.first (λ w. w.token) one.token met.token read.token end.token xs ys zs c.value-value.result c.meet_all.ensures.meets c.meet_all.ensures.met
    (subst (λ f. CallsIn state_flow f.first met.token call.GetValue (reply.Got c.value-value.result) read.token) c.meet_all.ensures.flow c.value-value.ensures.called.0)
    (λ i d l. subst (λ f. MeetsInTurn state_flow f.first read.token.knows end.token.knows (get_or ys i d).token (get_or zs i d).token) (c.value-value.ensures.flow ∙ c.meet_all.ensures.flow)
    (c.meet_all-2.ensures.met i d (rw c.meet_all.ensures.count l)))
