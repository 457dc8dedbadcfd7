use Rattle.std.proofs.Common.{◌≡◌, ◌+◌, ◌-◌, ◌*◌, ◌%◌, ◌++◌, length, Some, sym, ap, subst, ◌∙◌, arith}
use Rattle.std.specs.List.{slice_get}
use Rattle.std.proofs.Math.Nat.{mod-lt}
use Rattle.std.proofs.lemmas.List.{take_all}
use Rattle.std.specs.Mem.Slots.{slots_items}
use Rattle.flow_word_shared.specs.Rule.{words_from}
use Rattle.flow_word_shared.proofs.Cells.{before}
use Rattle.flow_word_shared.proofs.LastState.{cell_is, length_cells, taken_more}
use Rattle.flow_word_shared.proofs.Masks.{cells_in}
use Rattle.flow_word_shared.proofs.closing.ClosedWordFlow.copy_cache.Goals as goal
use Rattle.flow_word_shared.proofs.closing.ClosedWordFlow.copy_cache.Goals.{At-loop-i}

-- the number of values in the cache
count_is : (g : _) (c : At-loop-i g) → length c.args.self.now.replay_cache ≡ c.self.inside.emitted - c.self.inside.first
count_is g c = ap (λ z. length z.replay_cache) (sym c.self.view_is) ∙ length_cells g.T.Words.value_in g.T.Words.WIDTH c.self.inside.room (slots_items c.self.inside.closed.words) (c.self.inside.emitted - c.self.inside.first) c.self.inside.first

pub value_at-requires-clause-full : goal.value_at-requires-clause-full
value_at-requires-clause-full g c = c.self.invariant.1

pub value_at-requires-clause-there : goal.value_at-requires-clause-there
value_at-requires-clause-there g c =
    let some = c.self.invariant.4 in let words = cells_in _ c.self.inside.room g.T.Words.WIDTH c.WIDTH-width.result c.self.invariant.2 c.WIDTH-width.ensures in let k = c.self.inside.first + c.loop-i.i in
    let l = mod-lt k {m = c.self.inside.room} (omega arith) in let far = before c.WIDTH-width.result (k % c.self.inside.room) c.self.inside.room l in omega (arith, far, words, c.WIDTH-width.ensures)

pub value_at-requires-clause-words : goal.value_at-requires-clause-words
value_at-requires-clause-words g c =
    let less = c.loop-i-test.true in let k = c.self.inside.first + c.loop-i.i in
    subst (λ w. g.T.Words.are_words (words_from g.T.Words.WIDTH (slots_items c.self.inside.closed.words) (4 + k % c.self.inside.room * w))) (sym c.WIDTH-width.ensures) (c.self.invariant.6 k (omega arith) (omega arith))

pub push_reserved-requires : goal.push_reserved-requires
push_reserved-requires g c =
    let count = count_is g (goal.at.push_reserved-requires g c).At-loop-i in let inv = c.loop-i.invariant in let fits = c.requires in let less = c.loop-i-test.true in omega (arith, count, inv.room.0, inv.room.1, fits, less)

pub loop-i-preserved : goal.loop-i-preserved
loop-i-preserved g c =
    let inv = c.loop-i.invariant in let less = c.loop-i-test.true in let cache = ap (λ z. z.replay_cache) c.self.view_is in
    let here = cell_is g.T.Words.value_in g.T.Words.WIDTH c.self.inside.room (slots_items c.self.inside.closed.words) (c.self.inside.emitted - c.self.inside.first) c.self.inside.first c.loop-i.i (omega arith)
    ∙ ap (λ w. Some (g.T.Words.value_in (words_from g.T.Words.WIDTH (slots_items c.self.inside.closed.words) (4 + (c.self.inside.first + c.loop-i.i) % c.self.inside.room * w)))) (sym c.WIDTH-width.ensures) ∙ ap Some (sym c.value_at.ensures) in record {
      copied = taken_more c.args.self.now.replay_cache c.loop-i.i c.value_at.result _ _ _ (subst (λ l. slice_get l c.loop-i.i ≡ Some c.value_at.result) cache here) inv.copied c.push_reserved.ensures.items;
      room = (omega (arith, c.push_reserved.ensures.len, inv.room.0), c.push_reserved.ensures.capacity ∙ inv.room.1);
    }

pub returns : goal.returns
returns g c =
    let count = count_is g (goal.at.returns g c).At-loop-i in let over = c.loop-i-test.false in
    c.loop-i.invariant.copied ∙ ap (λ l. c.args.values.now.items ++ l) (take_all c.loop-i.i c.args.self.now.replay_cache (omega (arith, count, over)))
