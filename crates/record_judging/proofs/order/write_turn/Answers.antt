use Rattle.std.proofs.Common.{ℕ, Option, map, string_bytes, sym, subst}
use Rattle.std.specs.Prelude.{OnOk}
use Rattle.std.specs.Option.{option_map}
use Rattle.record_judging.specs.declared.written.WrittenCall.{WrittenCall}
use Rattle.record_judging.specs.Verdicts.{name_of, call_number}
use Rattle.record_judging.specs.Cursors.{AddsCallLine}
use Rattle.record_judging.proofs.order.write_turn.Goals as goal

pub returns-in-None : goal.returns-in-None
returns-in-None c =
    subst (λ (next : Option (WrittenCall × ℕ)). OnOk c.write_named.result (AddsCallLine (call_number (option_map (λ part. part.0) next))
    (name_of (map string_bytes c.args.sheet.now.names.items) c.args.caller) (string_bytes c.args.out.now) (string_bytes c.write_named.new.out))) (sym c.in-None.is) c.write_named.ensures
