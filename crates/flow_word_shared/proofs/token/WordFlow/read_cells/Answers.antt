use Rattle.std.proofs.Common.{rules, length, ◌+◌, ◌≤◌, ◌∙◌, arith}
use Rattle.flow_word_shared.proofs.Cells.{before}
use Rattle.flow_word_shared.proofs.Told.{saw_saw}
use Rattle.flow_word_shared.proofs.token.WordFlow.read_cells.Goals as goal

pub read_value-requires : goal.read_value-requires
read_value-requires g c =
    let inv = c.loop-i.invariant in let less = c.loop-i-test.true in let far = before g.T.Words.WIDTH c.loop-i.i c.args.count less in let count = inv.count in let fits = c.requires.fits in let there = c.requires.there in (
      search rules,
      (inv.sees.0 ∙ c.requires.flow, (inv.count, ((let room : length c.loop-i.words.items + g.T.Words.WIDTH ≤ 64 = omega (arith, far, count, fits) in room), (inv.reading, ((omega (arith, there, less), fits.0), inv.found))))),
    )

pub loop-i-preserved : goal.loop-i-preserved
loop-i-preserved g c = let e = c.read_value.ensures in record {
  count = e.count;
  reading = e.reading;
  found = e.found;
  sees = saw_saw _ _ _ c.loop-i.invariant.sees e.sees;
}
