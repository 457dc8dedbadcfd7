use Rattle.std.proofs.Common.{◌≡◌, ◌+◌, [], ◌∷◌, ◌++◌, length, sym, ap, subst, ◌∙◌, arith}
use Rattle.std.specs.Mem.Slots.{slots_items}
use Rattle.flow_word_shared.specs.Rule.{words_from}
use Rattle.flow_word_shared.proofs.Cells.{length_from, words_more}
use Rattle.flow_word_shared.proofs.LastState.{word_at}
use Rattle.flow_word_shared.proofs.closing.value_at.Goals as goal
use Rattle.flow_word_shared.proofs.closing.value_at.Goals.{At-loop-place}

pub loop-place-init : goal.loop-place-init
loop-place-init g c = c.new-words.ensures

pub word-word-requires : goal.word-word-requires
word-word-requires g c = let there = c.requires.there in let less = c.loop-place-test.true in let wide = c.WIDTH-width.ensures in (omega (arith, there, less, wide), c.requires.full)

pub push-requires : goal.push-requires
push-requires g c =
    let count = ap length c.loop-place.invariant ∙ length_from c.loop-place.place (slots_items c.args.closed.now.words) c.args.cell in let less = c.loop-place-test.true in let wide = c.WIDTH-width.ensures in let most = g.met.T.Words.width_fits.1 in
    omega (arith, count, less, wide, most)

pub loop-place-preserved : goal.loop-place-preserved
loop-place-preserved g c =
    let words = slots_items c.args.closed.now.words in let place = c.loop-place.place in
    c.push.ensures.items ∙ (λ i. c.loop-place.invariant i ++ sym (word_at words (c.args.cell + place) c.word-word.result c.word-word.ensures) i ∷ []) ∙ sym (words_more place words c.args.cell)

-- the words that were read
words_are : (g : _) (c : At-loop-place g) → c.loop-place.place ≡ g.T.Words.WIDTH → c.loop-place.words.items ≡ words_from g.T.Words.WIDTH (slots_items c.args.closed.now.words) c.args.cell
words_are g c all = c.loop-place.invariant ∙ ap (λ n. words_from n (slots_items c.args.closed.now.words) c.args.cell) all

pub of_words-requires : goal.of_words-requires
of_words-requires g c = let over = c.loop-place-test.false in let end = c.loop-place.auto in let wide = c.WIDTH-width.ensures in
    subst g.T.Words.are_words (sym (c.as_slice.ensures.value ∙ words_are g (goal.at.of_words-requires g c).At-loop-place (omega (arith, over, end, wide)))) c.requires.words

pub returns : goal.returns
returns g c = let over = c.loop-place-test.false in let end = c.loop-place.auto in let wide = c.WIDTH-width.ensures in
    c.of_words.ensures ∙ ap g.T.Words.value_in (c.as_slice.ensures.value ∙ words_are g (goal.at.returns g c).At-loop-place (omega (arith, over, end, wide)))
