use Rattle.script_drawing.proofs.ListingLemmas.{adds-more}
use Rattle.script_drawing.proofs.listing.add_listing.Goals as goal

pub loop-place-preserved : goal.loop-place-preserved
loop-place-preserved c = adds-more c.args.played.lines.now c.loop-place.place _ _ _ _ c.loop-place-test.true c.loop-place.invariant c.in_ok-add_entry.ensures
