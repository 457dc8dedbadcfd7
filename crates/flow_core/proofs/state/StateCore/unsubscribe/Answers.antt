use Rattle.std.proofs.Common.{◌≡◌, ◌∙◌, map, refl, sym, ap}
use Rattle.std.specs.Prelude.{is_some}
use Rattle.flow_law.specs.declared.call.StateReply.TheVariants as reply
use Rattle.flow_law.specs.declared.states.StateFlowState.{StateFlowState}
use Rattle.flow_law.specs.flow.StateFlow.{last_got_by, without_subscriber}
use Rattle.flow_core.specs.StateCore.{state_subscriber_of, state_fields_of}
use Rattle.flow_core.proofs.StateLemmas.{last_is}
use Rattle.flow_containers.proofs.SubscriberLemmas.{without_subscriber-row}
use Rattle.flow_core.proofs.state.StateCore.unsubscribe.Goals as goal

pub returns : goal.returns
returns g c = record {
  documented = (
    λ s same.
        let number = c.args.id.number in
        let members = c.self.inside.subscribers.members in
        let now : state_fields_of c.self.inside ≡ s = c.self.view_is ∙ same in
        let left = ap (map state_subscriber_of) c.remove.ensures.members ∙ sym (without_subscriber-row state_subscriber_of (λ member. refl) number members) in (
          ap reply.Answered (c.is_some.ensures ∙ ap is_some (c.remove.ensures.value ∙ sym (last_is number members)) ∙ ap (λ (k : StateFlowState _). is_some (last_got_by number k.subscribers)) now),
          ap (λ us. record (state_fields_of c.self.inside) { subscribers = us }) left ∙ ap (λ (k : StateFlowState _). record k { subscribers = without_subscriber number k.subscribers }) now,
        ),
    tt,
  );
}
