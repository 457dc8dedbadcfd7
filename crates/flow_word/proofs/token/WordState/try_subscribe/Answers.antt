use Rattle.std.proofs.Common.{rules, Some, None, ◌≡◌, ◌+◌, ◌/◌, ◌∷◌, [], map, refl, sym, ap, subst, ◌∙◌, arith}
use Rattle.flow_law.specs.declared.call.StateCall.TheVariants.{Subscribe}
use Rattle.flow_law.specs.declared.call.StateReply.TheVariants.{Subscribed}
use Rattle.flow_law.specs.declared.states.StateFlowState.{StateFlowState}
use Rattle.flow_law.specs.history.Growth.{makes, child}
use Rattle.flow_law.specs.history.Promise.{AddsOne}
use Rattle.flow_law.specs.flow.StateFlow.{IsStateHistory}
use Rattle.flow_law.specs.history.Tokens.{token, subscription_name}
use Rattle.flow_word.specs.View.{StateKnowledge, begun, only_in_view, with_knows}
use Rattle.flow_word.specs.Tokens.{word_id, token_of}
use Rattle.flow_word.proofs.SeatSteps.{making}
use Rattle.flow_word.proofs.Subscribing.{finding, entering}
use Rattle.flow_word.proofs.token.WordState.try_subscribe.Goals as goal

-- `Some` is not `None`
answered : {X P : Type 0} (x : X) → Some x ≡ None → P
answered x is = absurd (cc)

pub load-word-requires : goal.load-word-requires
load-word-requires g c = (search rules, search rules, finding _ _ _ _ _ _ _ (ap (λ m. m.0) c.seat.invariant))

pub compare_exchange-found-requires : goal.compare_exchange-found-requires
compare_exchange-found-requires g c =
    let limit : (only_in_view c.seat.inside.seat.me.0).start.limit ≡ c.self.inside.limit = ap (λ z. z.table_id.start.limit) c.seat.view_is ∙ (ap (λ z. z.start.limit) c.requires ∙ (ap (λ z. z.table_id.start.limit) (sym c.self.view_is) ∙ c.self.invariant.1)) in
    let told = c.load-word.ensures.2.1 (omega arith) in
    let same : (only_in_view c.load-word.new.seat.me.0).start.limit ≡ (only_in_view c.seat.inside.seat.me.0).start.limit = ap (λ m. (only_in_view m.0).start.limit) told.1 in
    (search rules, search rules, entering _ _ _ _ _ _ _ _ _ (subst (λ m. m.0 ≡ only_in_view m.0 ∷ []) (sym told.1) refl) (omega arith) (omega arith))

pub split_seat-requires : goal.split_seat-requires
split_seat-requires g c =
    let won = c.compare_exchange-found.ensures.2.0 c.if-found-word.false in
    (search rules, search rules, making _ _ _ _ _ _ (ap (λ m. m.0) won.0.2))

pub returns-clause-subscribed : goal.returns-clause-subscribed
returns-clause-subscribed g c =
    let value_of = g.T.Packed.value_of in let e = c.compare_exchange-found in let l = c.load-word.new.seat in let p = c.split_seat in
    let limit : (only_in_view c.seat.inside.seat.me.0).start.limit ≡ c.self.inside.limit = ap (λ z. z.table_id.start.limit) c.seat.view_is ∙ (ap (λ z. z.start.limit) c.requires ∙ (ap (λ z. z.table_id.start.limit) (sym c.self.view_is) ∙ c.self.invariant.1)) in
    let told = c.load-word.ensures.2.1 (omega arith) in let won = e.ensures.2.0 c.if-found-word.false in let alone = ap (λ m. m.0) won.0.2 in
    let before : token_of l ≡ c.args.seat.now = (λ i. token (word_id (c.load-word.ensures.0 i) (only_in_view (told.1 i).0).start) (only_in_view (told.1 i).0).knows) ∙ c.seat.view_is in
    let first : begun value_of (only_in_view l.me.0).start ≡ c.args.self.now.first =
    ap (λ z. begun value_of z.table_id.start) before ∙ (ap (λ z. begun value_of z.start) c.requires ∙ (ap (λ z. begun value_of z.table_id.start) (sym c.self.view_is) ∙ ap (λ z. z.first) c.self.view_is)) in
    let now = token_of e.new.seat in (
      now,
      (
        (λ i. word_id (e.ensures.0 i) (won.0.1 i)) ∙ ap (λ z. z.table_id) before,
        subst (λ (z : StateFlowState g.row.T.Denot × StateKnowledge g.row.T.Denot). AddsOne (IsStateHistory z.0) z.1 (Subscribe (subscription_name z.1)) (Subscribed (c.load-word.result / 4294967296 + 1)) now.knows) (λ i. (first i, (before i).knows)) won.0.0,
      ),
      (λ i. token (word_id (p.ensures.0 i) (only_in_view (p.ensures.2 i).0).start) (only_in_view (p.ensures.2 i).0).knows)
          ∙ (λ i. token (word_id e.new.seat.table_id (only_in_view (map (with_knows makes) (alone i))).start) (only_in_view (map (with_knows makes) (alone i))).knows),
      (λ i. token (word_id (p.ensures.3 i) (only_in_view (p.ensures.4 i).0).start) (only_in_view (p.ensures.4 i).0).knows)
          ∙ (λ i. token (word_id e.new.seat.table_id (only_in_view (map (with_knows child) (alone i))).start) (only_in_view (map (with_knows child) (alone i))).knows),
    )

pub returns-then-issued-from-clause-lost : goal.returns-then-issued-from-clause-lost
returns-then-issued-from-clause-lost g c = λ is. answered _ is

pub returns-clause-lost : goal.returns-clause-lost
returns-clause-lost g c = λ is. answered _ is
