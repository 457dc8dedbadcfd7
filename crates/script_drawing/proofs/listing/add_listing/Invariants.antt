use Rattle.std.proofs.Common.{take, string_bytes}
use Rattle.script_drawing.specs.Listing.{AddsLines, told}
use Rattle.script_drawing.proofs.listing.add_listing.Given as goal

abbrev pub invariant-loop-place : goal.invariant-loop-place
invariant-loop-place l = AddsLines (told (take l.place l.lines)) (string_bytes l.fn.listing) (string_bytes l.listing)
