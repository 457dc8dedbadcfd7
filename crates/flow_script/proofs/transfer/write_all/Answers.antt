use Rattle.std.proofs.Common.{arith, length-drop, ◌∙◌}
use Rattle.std.proofs.Math.Seq.{take-add}
use Rattle.flow_script.proofs.ByteLemmas.{appends_more, rest_whole, took_some}
use Rattle.flow_script.proofs.transfer.write_all.Goals as goal

pub loop-at-preserved : goal.loop-at-preserved
loop-at-preserved g c =
    let bound = rw (rest_whole c.loop-at.at c.args.text.now) at c.in-Ok.ensures.bound in
    record {
      within = omega (arith, bound, length-drop c.loop-at.at c.args.text.now);
      written = rw (take-add c.loop-at.at c.in-Ok.count c.args.text.now)
          (appends_more _ _ _ _ _ c.loop-at.invariant.written (rw (rest_whole c.loop-at.at c.args.text.now) at c.in-Ok.ensures.bytes));
      failed = c.in-Ok.ensures.failed ∙ took_some _ c.in-Ok.count _ c.in-Ok.count-test.1 ∙ c.loop-at.invariant.failed;
    }
