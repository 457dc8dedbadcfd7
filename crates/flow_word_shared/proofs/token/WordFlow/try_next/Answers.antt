use Rattle.std.proofs.Common.{◌≡◌, sym, ap, subst, ◌∙◌, arith}
use Rattle.flow_law.specs.declared.call.SharedCall.TheVariants as call
use Rattle.flow_law.specs.declared.call.SharedReply.TheVariants as reply
use Rattle.flow_law.specs.declared.outcome.Next.TheVariants.{Value}
use Rattle.flow_law.specs.flow.SharedHistory.{shared_flow}
use Rattle.flow_law.specs.history.Promise.{CallsAtOnceIn}
use Rattle.flow_word_shared.specs.Answers.{IsOverrun}
use Rattle.flow_word_shared.specs.Rule.{capacity_of}
use Rattle.flow_word_shared.specs.Tokens.{WordFlowNumbered, ring_token}
use Rattle.flow_word_shared.proofs.Told.{saw_then, saw_overrun}
use Rattle.flow_word_shared.proofs.token.WordFlow.try_next.Goals as goal

pub returns-then-length-position-clause-late : goal.returns-then-length-position-clause-late
returns-then-length-position-clause-late g c = λ _.
    let more = c.if-seen-position-2.false in let behind = c.if-length-position.true in
    let room : capacity_of c.args.self.now.table_id.start ≡ c.self.inside.capacity = ap (λ z. capacity_of z.table_id.start) (sym c.self.view_is) ∙ c.self.invariant.3 in
    subst (λ (n : WordFlowNumbered g.row.T.Denot). IsOverrun n.token (ring_token c.read-words.new.seat)) c.subscription.view_is
    (saw_overrun _ _ _ (c.look.ensures.more (omega (arith, more))) (c.read-words.ensures.late (omega (arith, behind, room))).0)

pub returns-clause-called : goal.returns-clause-called
returns-clause-called g c =
    let more = c.if-seen-position-2.false in let kept = c.if-length-position.false in
    let room : capacity_of c.args.self.now.table_id.start ≡ c.self.inside.capacity = ap (λ z. capacity_of z.table_id.start) (sym c.self.view_is) ∙ c.self.invariant.3 in
    subst (λ (z : WordFlowNumbered g.row.T.Denot × g.row.T.Denot). CallsAtOnceIn shared_flow c.args.self.now.first z.0.token (call.TakeNext z.0.number) (reply.Received (Value z.1)) (ring_token c.read-words.new.seat)) (λ i. (c.subscription.view_is i, sym (c.of_words.ensures ∙ ap g.T.Words.value_in c.as_slice.ensures.value) i))
    (saw_then c.args.self.now.first _ _ _ _ _ (c.look.ensures.more (omega (arith, more))) (c.read-words.ensures.fresh (omega (arith, kept, room))).1)

pub of_words-requires : goal.of_words-requires
of_words-requires g c =
    let kept = c.if-length-position.false in
    let room : capacity_of c.args.self.now.table_id.start ≡ c.self.inside.capacity = ap (λ z. capacity_of z.table_id.start) (sym c.self.view_is) ∙ c.self.invariant.3 in
    subst g.T.Words.are_words (sym c.as_slice.ensures.value) (c.read-words.ensures.fresh (omega (arith, kept, room))).0
