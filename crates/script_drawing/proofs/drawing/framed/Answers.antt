use Rattle.std.proofs.Common.{◌++◌, string_bytes, ap, subst, ◌∙◌}
use Rattle.script_drawing.specs.Listing.{AddsLines, told}
use Rattle.script_drawing.proofs.ListingLemmas.{tells-framed}
use Rattle.script_drawing.proofs.drawing.framed.Goals as goal

pub returns : goal.returns
returns c =
    let lines = told c.args.played.lines.now in
    let listing = string_bytes c.add_listing.new.listing in
    let before = string_bytes c.args.frame.before in
    tells-framed lines before listing c.as_str-2.result.now (string_bytes c.push_str.new.self) _
    (subst (λ start. AddsLines lines start listing) c.new-listing.ensures.bytes c.in_ok-add_listing.ensures)
    (c.in_ok-push_str.ensures.bytes ∙ ap (λ t. before ++ t) c.as_str.ensures.value) c.in_ok-push_str-2.ensures.bytes
