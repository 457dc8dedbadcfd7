use Rattle.std.proofs.Common.{◌++◌, Some, map, sym, ap, subst, ◌∙◌, arith}
use Rattle.std.proofs.lemmas.List.{take_all, length-map}
use Rattle.flow_word_shared.specs.Steps.{values_of}
use Rattle.flow_word_shared.proofs.Cells.{value_is, each_is, part_is, length_values_of}
use Rattle.flow_word_shared.proofs.LastState.{taken_more}
use Rattle.flow_word_shared.proofs.drain.unpack_all.Goals as goal

pub of_words-requires : goal.of_words-requires
of_words-requires g c =
    subst g.T.Words.are_words (part_is c.loop-i.i c.WIDTH-width.result g.T.Words.WIDTH c.args.words.now c.WIDTH-width.ensures) (each_is g.T.Words.are_words g.T.Words.WIDTH c.args.count c.loop-i.i c.args.words.now c.requires.packed c.loop-i-test.true)

pub loop-i-preserved : goal.loop-i-preserved
loop-i-preserved g c =
    let inv = c.loop-i.invariant in let words = c.args.words.now in
    let here = value_is g.T.Words.value_in g.T.Words.WIDTH c.args.count c.loop-i.i words c.loop-i-test.true
    ∙ ap (λ l. Some (g.T.Words.value_in l)) (part_is c.loop-i.i c.WIDTH-width.result g.T.Words.WIDTH words c.WIDTH-width.ensures) ∙ ap Some (sym c.of_words.ensures) in record {
      items = taken_more (map g.T.Words.value_in (values_of g.T.Words.WIDTH c.args.count words)) c.loop-i.i c.of_words.result _ _ _ here inv.items c.push_reserved.ensures.items;
      room = (omega (arith, c.push_reserved.ensures.len, inv.room.0), c.push_reserved.ensures.capacity ∙ inv.room.1);
    }

pub returns-clause-items : goal.returns-clause-items
returns-clause-items g c =
    let over = c.loop-i-test.false in let all = length-map (values_of g.T.Words.WIDTH c.args.count c.args.words.now) g.T.Words.value_in ∙ length_values_of g.T.Words.WIDTH c.args.count c.args.words.now in
    c.loop-i.invariant.items ∙ ap (λ l. c.args.values.now.items ++ l) (take_all c.loop-i.i (map g.T.Words.value_in (values_of g.T.Words.WIDTH c.args.count c.args.words.now)) (omega (arith, over, all)))
