use Rattle.std.proofs.Common.{◌∙◌, ap, sym, subst}
use Rattle.flow_law.specs.declared.call.StateCall.TheVariants.{Set, GetValue}
use Rattle.flow_law.specs.declared.call.StateReply.TheVariants.{Done, Got}
use Rattle.flow_law.specs.history.Promise.{CallsIn}
use Rattle.flow_law.specs.flow.StateFlow.{state_flow}
use Rattle.flow_law.specs.history.Tokens.{MeetsIn}
use Rattle.flow_messages.proofs.ApartLemmas.{sees_both}
use Rattle.flow_messages.proofs.apart.set_and_read_apart.Goals as goal

pub meet-requires : goal.meet-requires
meet-requires c = ap (λ f. f.table_id) (c.set.ensures.flow ∙ c.requires.0)

pub meet-requires-2 : goal.meet-requires-2
meet-requires-2 c = ap (λ f. f.table_id) (c.value-found.ensures.flow ∙ c.requires.1 ∙ sym c.meet.ensures.flow.0)

pub returns-clause-order : goal.returns-clause-order
returns-clause-order c =
    let third = c.args.third.now in let setter = c.set.new.self in let reader = c.value-found.new.self in let between = c.meet.new.self in let end = c.meet-2.new.self in
    let two = subst (λ f. MeetsIn state_flow f.first between.token reader.token end.token c.meet-2.new.other.token) c.meet.ensures.flow.0 c.meet-2.ensures.met in
    sees_both third.flow.first third.token setter.token reader.token between.token c.meet.new.other.token end.token c.meet-2.new.other.token c.meet.ensures.met two
    c.args.setter.now.token c.args.reader.now.token c.args.value c.value-found.result
    (subst (λ f. CallsIn state_flow f.first c.args.setter.now.token (Set c.args.value) Done setter.token) c.requires.0 c.set.ensures.called.0)
    (subst (λ f. CallsIn state_flow f.first c.args.reader.now.token GetValue (Got c.value-found.result) reader.token) c.requires.1 c.value-found.ensures.called.0)
    (c.law_linearizable.ensures.1 third.flow.first two.history two.is_history two.timed).in_real_time
