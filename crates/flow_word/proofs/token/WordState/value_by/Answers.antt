use Rattle.std.proofs.Common.{◌≡◌, rules, sym, ap, ◌∙◌, subst, List, [], ◌∷◌}
use Rattle.atomic_table.specs.Table.{Me}
use Rattle.flow_law.specs.declared.call.StateCall.TheVariants as call
use Rattle.flow_law.specs.declared.call.StateReply.TheVariants as reply
use Rattle.flow_law.specs.declared.states.StateFlowState.{StateFlowState}
use Rattle.flow_law.specs.history.Promise.{AddsOne, CallsAtOnceIn}
use Rattle.flow_law.specs.flow.StateFlow.{state_flow, IsStateHistory}
use Rattle.flow_word.specs.declared.view.Known.{Known}
use Rattle.flow_word.specs.declared.view.Start.{Start}
use Rattle.flow_word.specs.View.{begun, got_last, only_in_view}
use Rattle.flow_word.specs.Steps.{HasGot}
use Rattle.flow_word.specs.Tokens.{WordNumbered, token_of, word_id}
use Rattle.flow_word.proofs.Subscribing.{reading_by}
use Rattle.flow_word.proofs.token.WordState.value_by.Goals as goal

pub load-requires : goal.load-requires
load-requires g c = (search rules, search rules, reading_by _ _ _ _ _ _ _ _ (ap (λ m. m.0) c.subscription.invariant.0) c.subscription.invariant.1 c.subscription.invariant.2)

pub unpack-requires : goal.unpack-requires
unpack-requires g c = let s = c.subscription.inside in (c.load.ensures.2 (got_last s.number s.last) c.subscription.invariant.1).0

pub invariant_of-subscription : goal.invariant_of-subscription
invariant_of-subscription g c =
    let packs = g.T.Packed.packs in let value_of = g.T.Packed.value_of in let s = c.subscription.inside in
    let told = c.load.ensures.2 (got_last s.number s.last) c.subscription.invariant.1 in let new = only_in_view c.load.new.seat.me.0 in (
      told.1.2 ∙ ap (λ (m : Me Unit (List (Known g.row.T.Denot))). (new ∷ [], m.1)) c.subscription.invariant.0,
      told.2,
      subst (λ (z : Start). HasGot packs value_of (begun value_of z) new.knows s.number s.last) (sym told.1.1) told.3,
    )

pub returns-clause-called : goal.returns-clause-called
returns-clause-called g c =
    let value_of = g.T.Packed.value_of in let s = c.subscription.inside in let old = only_in_view s.seat.me.0 in let new = only_in_view c.load.new.seat.me.0 in
    let told = c.load.ensures.2 (got_last s.number s.last) c.subscription.invariant.1 in
    let first : begun value_of old.start ≡ c.args.self.now.first =
    ap (λ (n : WordNumbered g.row.T.Denot). begun value_of n.token.table_id.start) c.subscription.view_is
    ∙ (ap (λ z. begun value_of z.start) c.requires ∙ (ap (λ z. begun value_of z.table_id.start) (sym c.self.view_is) ∙ ap (λ z. z.first) c.self.view_is)) in
    let adds = subst (λ (z : StateFlowState g.row.T.Denot × g.row.T.Denot). AddsOne (IsStateHistory z.0) old.knows call.GetValue (reply.Got z.1) new.knows) (λ i. (first i, sym c.unpack.ensures i)) told.1.0 in
    subst (λ (n : WordNumbered g.row.T.Denot). CallsAtOnceIn state_flow c.args.self.now.first n.token call.GetValue (reply.Got c.unpack.result) (token_of c.load.new.seat)) c.subscription.view_is
    (((λ i. word_id (c.load.ensures.0 i) (told.1.1 i)), adds), told.1.3)
