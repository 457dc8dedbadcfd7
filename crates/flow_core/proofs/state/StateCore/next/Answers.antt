use Rattle.std.proofs.Common.{inl, inr, ◌≡◌, ◌≢◌, ◌∙◌, Some, None, map, refl, sym, ap, subst}
use Rattle.flow_law.specs.declared.outcome.Next.TheVariants.{Value, Empty, Gone}
use Rattle.flow_law.specs.declared.call.StateReply.TheVariants as reply
use Rattle.flow_law.specs.declared.states.StateFlowState.{StateFlowState}
use Rattle.flow_law.specs.declared.call.StateCall.TheVariants as call
use Rattle.flow_law.specs.flow.StateFlow.{last_got_by, with_last, Receives, StateFlowReplies}
use Rattle.flow_containers.specs.Members.{with_row}
use Rattle.flow_core.specs.StateCore.{state_subscriber_of, state_fields_of}
use Rattle.flow_core.proofs.StateLemmas.{last_is, got, copy_refused}
use Rattle.flow_core.proofs.state.StateCore.next.Goals as goal

pub returns-in_default-clause-documented : goal.returns-in_default-clause-documented
returns-in_default-clause-documented g c = (
  λ s same.
      let number = c.args.id.number in
      let members = c.self.inside.subscribers.members in
      let gone : last_got_by number (state_fields_of c.self.inside).subscribers ≡ None = last_is number members ∙ sym c.in_default.ensures in (
        subst (λ (k : StateFlowState _). Receives k.value (last_got_by number k.subscribers) (reply.Received Gone)) (c.self.view_is ∙ same)
            (subst (λ o. Receives c.self.inside.value o (reply.Received Gone)) (sym gone) refl),
        same,
      ),
  tt,
)

pub returns-then-has_got-clause-documented : goal.returns-then-has_got-clause-documented
returns-then-has_got-clause-documented g c = (
  λ s same.
      let number = c.args.id.number in
      let members = c.self.inside.subscribers.members in
      let there : last_got_by number (state_fields_of c.self.inside).subscribers ≡ Some c.in-Some.last.now = last_is number members ∙ sym c.in-Some.ensures in (
        subst (λ (k : StateFlowState _). Receives k.value (last_got_by number k.subscribers) (reply.Received Empty)) (c.self.view_is ∙ same)
            (subst (λ o. Receives c.self.inside.value o (reply.Received Empty)) (sym there) (inl (c.has_got.ensures.0 c.if-has_got.true, refl))),
        same,
      ),
  tt,
)

pub returns-in-Ok-clause-documented : goal.returns-in-Ok-clause-documented
returns-in-Ok-clause-documented g c = (
  λ s same.
      let number = c.args.id.number in
      let members = c.self.inside.subscribers.members in
      let value = c.in-Ok.value in
      let there : last_got_by number (state_fields_of c.self.inside).subscribers ≡ Some c.in-Some.last.now = last_is number members ∙ sym c.in-Some.ensures in
      let copied : value ≡ c.self.inside.value = c.in-Ok.ensures.copies.1 in
      let received : Receives c.self.inside.value (last_got_by number (state_fields_of c.self.inside).subscribers) (reply.Received (Value value)) =
      subst (λ o. Receives c.self.inside.value o (reply.Received (Value value))) (sym there)
      (inr (λ is. Rattle.std.proofs.lemmas.Bool.both_ways c.has_got.result c.if-has_got.false (c.has_got.ensures.1 is), ap (λ v. reply.Received (Value v)) copied)) in
      let same_last = c.in-Ok.ensures.copies.0 ∙ sym copied in
      let moved = ap (map state_subscriber_of) c.set.ensures.members
      ∙ ap (λ v. map state_subscriber_of (with_row number (Some v) members)) same_last
      ∙ got number value c.in-Some.last.now members (sym c.in-Some.ensures) in (
        subst (λ (k : StateFlowState _). Receives k.value (last_got_by number k.subscribers) (reply.Received (Value value))) (c.self.view_is ∙ same) received,
        ap (λ us. record (state_fields_of c.self.inside) { subscribers = us }) moved ∙ ap (λ (k : StateFlowState _). record k { subscribers = with_last number value k.subscribers }) (c.self.view_is ∙ same),
      ),
  tt,
)

pub returns-in-Err-clause-documented : goal.returns-in-Err-clause-documented
returns-in-Err-clause-documented g c = (
  λ s same.
      let number = c.args.id.number in
      let members = c.self.inside.subscribers.members in
      let there : last_got_by number (state_fields_of c.self.inside).subscribers ≡ Some c.in-Some.last.now = last_is number members ∙ sym c.in-Some.ensures in
      let differs : c.in-Some.last.now ≢ Some c.self.inside.value = λ is. Rattle.std.proofs.lemmas.Bool.both_ways c.has_got.result c.if-has_got.false (c.has_got.ensures.1 is) in (
        subst (λ (k : StateFlowState _). StateFlowReplies k (call.TakeNext number) (reply.Refused c.in-Err.fault)) (c.self.view_is ∙ same)
            (copy_refused (state_fields_of c.self.inside) number c.in-Some.last.now c.in-Err.fault there differs c.in-Err.ensures.memory),
        same,
      ),
  refl,
)
