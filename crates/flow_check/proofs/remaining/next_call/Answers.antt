use Rattle.std.proofs.Common.{ℕ, List, length, refl, sym, ap, ◌∙◌}
use Rattle.std.specs.Prelude.{slice_get}
use Rattle.std.proofs.lemmas.Option.{slice_get_past, slice_get_read}
use Rattle.flow_check.specs.Remaining.{next_at}
use Rattle.flow_check.proofs.remaining.next_call.Goals as goal

pub returns-in-None : goal.returns-in-None
returns-in-None g c =
    let counts = c.as_slice.result.now in
    ap (next_at c.args.callers.now c.args.caller) (sym (slice_get_past counts c.args.caller c.in-None.ensures.lookup.3) ∙ ap (λ (xs : List ℕ). slice_get xs c.args.caller) c.as_slice.ensures.value)

pub returns-in-Some : goal.returns-in-Some
returns-in-Some g c =
    let counts = c.as_slice.result.now in
    let found = slice_get_read counts (length counts) c.args.caller c.in-Some.index.now refl c.in-Some.ensures.lookup.3.0 c.in-Some.ensures.lookup.1 in
    c.recorded.ensures ∙ ap (next_at c.args.callers.now c.args.caller) (sym found ∙ ap (λ (xs : List ℕ). slice_get xs c.args.caller) c.as_slice.ensures.value)
