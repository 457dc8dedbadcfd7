use Rattle.std.proofs.Common.{rules, ◌≡◌, ◌==◌, ◌∙◌, refl, sym, ap, subst, ℕ, true, false, eqb, List, [], ◌∷◌, Option, Some, None}
use Rattle.std.specs.Option.{option_eq}
use Rattle.std.proofs.lemmas.Bool.{cond-true, cond-false}
use Rattle.atomic_table.specs.Table.{Me}
use Rattle.flow_law.specs.declared.call.StateCall.TheVariants as call
use Rattle.flow_law.specs.declared.call.StateReply.TheVariants as reply
use Rattle.flow_law.specs.declared.outcome.Next.{Next}
use Rattle.flow_law.specs.declared.outcome.Next.TheVariants.{Value, Empty}
use Rattle.flow_law.specs.declared.states.StateFlowState.{StateFlowState}
use Rattle.flow_law.specs.history.Promise.{AddsOne, CallsIn}
use Rattle.flow_law.specs.flow.StateFlow.{state_flow, IsStateHistory}
use Rattle.flow_word.specs.declared.view.Known.{Known}
use Rattle.flow_word.specs.declared.view.Start.{Start}
use Rattle.flow_word.specs.View.{begun, got_last, only_in_view}
use Rattle.flow_word.specs.Steps.{HasGot, word_received}
use Rattle.flow_word.specs.Tokens.{WordNumbered, token_of, word_id}
use Rattle.flow_word.proofs.Subscribing.{receiving}
use Rattle.flow_word.proofs.token.WordState.next.Goals as goal
use Rattle.flow_word.proofs.token.WordState.next.Goals.{then-eq, else-eq}

-- the word found is the one that the subscriber got last, or another one
received_empty : {T : Type 0} (value_of : ℕ → T) (last : Option ℕ) (found : ℕ) → option_eq eqb last (Some found) ≡ true → word_received value_of last found ≡ Empty
received_empty value_of None found e = absurd (cc)
received_empty value_of (Some last) found e = cond-true (last == found) Empty (Value (value_of found)) e

received_value : {T : Type 0} (value_of : ℕ → T) (last : Option ℕ) (found : ℕ) → option_eq eqb last (Some found) ≡ false → word_received value_of last found ≡ Value (value_of found)
received_value value_of None found e = refl
received_value value_of (Some last) found e = cond-false (last == found) Empty (Value (value_of found)) e

pub load-word-requires : goal.load-word-requires
load-word-requires g c =
    (search rules, search rules, receiving _ _ _ _ g.met.T.Packed.one_pack _ _ _ _ (ap (λ m. m.0) c.subscription.invariant.0) c.subscription.invariant.1 c.subscription.invariant.2)

pub unpack-requires : goal.unpack-requires
unpack-requires g c = let s = c.subscription.inside in (c.load-word.ensures.2 (got_last s.number s.last) c.subscription.invariant.1).0

pub invariant_of-subscription : goal.invariant_of-subscription
invariant_of-subscription g c =
    let packs = g.T.Packed.packs in let value_of = g.T.Packed.value_of in let s = c.subscription.inside in
    let told = c.load-word.ensures.2 (got_last s.number s.last) c.subscription.invariant.1 in let new = only_in_view c.load-word.new.seat.me.0 in (
      told.1.2 ∙ ap (λ (m : Me Unit (List (Known g.row.T.Denot))). (new ∷ [], m.1)) c.subscription.invariant.0,
      subst (λ (o : Option ℕ). new.subscriber ≡ Some (got_last s.number o)) (sym c.replace-last.ensures.after) told.2,
      subst (λ (z : Start × Option ℕ). HasGot packs value_of (begun value_of z.0) new.knows s.number z.1) (λ i. (sym told.1.1 i, sym c.replace-last.ensures.after i)) told.3,
    )

pub returns-clause-called : goal.returns-clause-called
returns-clause-called g c =
    let value_of = g.T.Packed.value_of in let s = c.subscription.inside in let old = only_in_view s.seat.me.0 in let new = only_in_view c.load-word.new.seat.me.0 in let found = c.load-word.result in
    let told = c.load-word.ensures.2 (got_last s.number s.last) c.subscription.invariant.1 in
    let was = c.replace-last.ensures.value in
    let is : c.if-eq.result ≡ word_received value_of s.last found = elim c.if-eq.branch [
      | then-eq w ↦ w.result-is ∙ sym (received_empty value_of s.last found (subst (λ (o : Option ℕ). option_eq eqb o (Some found) ≡ true) was (sym w.if-eq.ensures)))
      | else-eq w ↦ w.result-is ∙ ap Value w.unpack.ensures ∙ sym (received_value value_of s.last found (subst (λ (o : Option ℕ). option_eq eqb o (Some found) ≡ false) was (sym w.if-eq.ensures)))
    ] in
    let first : begun value_of old.start ≡ c.args.self.now.first =
    ap (λ (n : WordNumbered g.row.T.Denot). begun value_of n.token.table_id.start) c.subscription.view_is
    ∙ (ap (λ z. begun value_of z.start) c.requires ∙ (ap (λ z. begun value_of z.table_id.start) (sym c.self.view_is) ∙ ap (λ z. z.first) c.self.view_is)) in
    let adds = subst (λ (z : StateFlowState g.row.T.Denot × Next g.row.T.Denot). AddsOne (IsStateHistory z.0) old.knows (call.TakeNext s.number) (reply.Received z.1) new.knows) (λ i. (first i, sym is i)) told.1.0 in
    subst (λ (n : WordNumbered g.row.T.Denot). CallsIn state_flow c.args.self.now.first n.token (call.TakeNext n.number) (reply.Received c.if-eq.result) (token_of c.load-word.new.seat)) c.subscription.view_is
    ((λ i. word_id (c.load-word.ensures.0 i) (told.1.1 i)), adds)
