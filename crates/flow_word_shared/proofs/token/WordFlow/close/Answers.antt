use Rattle.std.proofs.Common.{◌≡◌, ℕ, ◌+◌, ◌-◌, ◌*◌, ◌/◌, ◌%◌, ◌≤◌, refl, ap, sym, subst, ◌∙◌, arith}
use Rattle.std.specs.Prelude.{max}
use Rattle.std.specs.Mem.Slots.{slots_items}
use Rattle.flow_law.specs.declared.states.SharedFlowState.{SharedFlowState}
use Rattle.flow_law.specs.history.Growth.{Fits}
use Rattle.flow_law.specs.flow.SharedHistory.{shared_flow}
use Rattle.flow_law.specs.flow.Standing.{StandsForHistory}
use Rattle.flow_word_shared.specs.Closing.{StandsAsClosed, closed_flow}
use Rattle.flow_word_shared.specs.Rule.{head, words_from}
use Rattle.flow_word_shared.specs.View.{only}
use Rattle.flow_word_shared.proofs.LastState.{Ended, ends}
use Rattle.flow_word_shared.proofs.token.WordFlow.close.Goals as goal
use Rattle.flow_word_shared.proofs.token.WordFlow.close.Goals.{After-max-first}

-- what the words show, and the history
ended : (g : _) (c : After-max-first g)
    → Ended g.row.T.Denot g.T.Words.are_words g.T.Words.value_in c.self.inside.table.shared.key (only c.into_inner.result.me.0).knows (slots_items c.close_with-closed.result.words) (c.word-word.result / 2) c.word-subscribers.result c.max-first.result
ended g c =
    let replay = c.self.invariant.4 in
    ends _ _ _ _ _ _ _ _ (ap (λ m. m.0) c.into_inner.ensures.idle.0) c.close_with-closed.ensures.values.2 c.word-word.result c.word-subscribers.result c.word-mark.result _ _ c.word-word.ensures c.word-subscribers.ensures c.word-mark.ensures refl
    (c.max-first.ensures ∙ ap (max c.word-mark.result) (let l : c.saturating_sub.result ≡ c.word-word.result / 2 - c.self.inside.table.shared.key.config.replay = omega (arith, c.saturating_sub.ensures, replay) in l))

pub close_with-closed-requires : goal.close_with-closed-requires
close_with-closed-requires g c = ap (λ z. z.table_id.table) c.into_inner.ensures.token ∙ (ap (λ z. z.table) c.requires ∙ sym (ap (λ z. z.table_id.table) c.self.view_is))

pub word-word-requires : goal.word-word-requires
word-word-requires g c = let count = c.close_with-closed.ensures.counts.0 in let words = c.self.invariant.0 in (omega (arith, count, words), c.close_with-closed.ensures.values.0)

pub word-subscribers-requires : goal.word-subscribers-requires
word-subscribers-requires g c = let count = c.close_with-closed.ensures.counts.0 in let words = c.self.invariant.0 in (omega (arith, count, words), c.close_with-closed.ensures.values.0)

pub word-mark-requires : goal.word-mark-requires
word-mark-requires g c = let count = c.close_with-closed.ensures.counts.0 in let words = c.self.invariant.0 in (omega (arith, count, words), c.close_with-closed.ensures.values.0)

pub invariant_of-result : goal.invariant_of-result
invariant_of-result g c =
    let e = ended g (goal.at.invariant_of-result g c).After-max-first in let counts = c.close_with-closed.ensures.counts in let less = c.self.invariant.7 in (
      counts.1 ∙ c.self.invariant.10,
      c.close_with-closed.ensures.values.0,
      subst (λ n. 4 + c.self.inside.room * g.T.Words.WIDTH ≤ n) (sym counts.0) c.self.invariant.0,
      c.self.invariant.6,
      omega arith,
      e.within,
      λ k a b. subst (λ (z : ℕ × ℕ). g.T.Words.are_words (words_from z.1 (slots_items c.close_with-closed.result.words) (head + k % z.0 * z.1))) (λ i. (c.self.invariant.2 i, c.self.invariant.11 i)) (e.packed k a b),
    )

pub returns : goal.returns
returns g c =
    let e = ended g (goal.at.returns g c).After-max-first in let words = slots_items c.close_with-closed.result.words in (
      e.history,
      subst (λ (z : SharedFlowState g.row.T.Denot × (ℕ × ℕ)). StandsForHistory shared_flow StandsAsClosed z.0 (closed_flow g.T.Words.value_in z.1.0 z.1.1 words (c.word-word.result / 2) c.word-subscribers.result c.max-first.result) e.history)
          (λ i. (ap (λ z. z.first) c.self.view_is i, (c.self.invariant.11 i, c.self.invariant.2 i))) e.stands,
      subst (λ t. Fits e.history t.knows) c.into_inner.ensures.token e.fits,
    )
