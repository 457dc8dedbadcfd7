use Rattle.std.proofs.Common.{arith, length, string_bytes, refl, sym, ap, ◌∙◌}
use Rattle.std.specs.Prelude.{slice_get}
use Rattle.std.specs.Option.{option_map}
use Rattle.std.proofs.lemmas.Option.{slice_get_past, slice_get_read, slice_get-map}
use Rattle.record_judging.specs.Verdicts.{named}
use Rattle.record_judging.proofs.written.Sheet.name.Goals as goal

pub returns-in-None : goal.returns-in-None
returns-in-None c =
    let names = c.args.self.now.names.items in
    ap named (sym (slice_get-map string_bytes names c.args.caller ∙ ap (option_map string_bytes) (slice_get_past names c.args.caller (omega (arith, ap length c.deref.ensures.value, c.in-None.ensures.lookup.3)))))

pub returns-in-Some : goal.returns-in-Some
returns-in-Some c =
    let names = c.args.self.now.names.items in
    let lent = c.deref.result.now in
    let read = slice_get_read lent (length lent) c.args.caller c.in-Some.name.now refl c.in-Some.ensures.lookup.3.0 c.in-Some.ensures.lookup.1 in
    let found = ap (λ names. slice_get names c.args.caller) (sym c.deref.ensures.value) ∙ read in
    c.as_str.ensures.value ∙ ap named (sym (slice_get-map string_bytes names c.args.caller ∙ ap (option_map string_bytes) found))
