use Rattle.std.proofs.Common.{◌≡◌, ◌<◌, ℕ, Option, length, Some, None, refl, sym, ap, arith, ◌∙◌}
use Rattle.std.specs.Prelude.{slice_get}
use Rattle.std.specs.Option.{option_map}
use Rattle.std.proofs.lemmas.Option.{slice_get_past, slice_get_read}
use Rattle.record_judging.specs.declared.written.WrittenCall.{WrittenCall}
use Rattle.record_judging.proofs.Cursors.{next_is, none_is, stays, goes_on}
use Rattle.record_judging.proofs.order.Cursor.next.Goals as goal

pub returns-in_err-call : goal.returns-in_err-call
returns-in_err-call c = λ lists turns is.
    let calls = c.args.calls.now in
    let past : slice_get calls c.args.self.now.call ≡ None = slice_get_past calls c.args.self.now.call (omega (arith, c.in_err-call.ensures.lookup.3)) in (
      ap (λ (next : Option (WrittenCall × ℕ)). option_map (λ part. part.0) next) c.from_residual.ensures ∙ sym (none_is c.args.flow lists calls turns c.args.self.now is past),
      stays c.args.flow lists calls turns c.args.self.now is past,
    )

pub returns : goal.returns
returns c = λ lists turns is.
    let calls = c.args.calls.now in
    let call = c.in_ok-call.field-0.now in
    let here : slice_get calls c.args.self.now.call ≡ Some call =
    slice_get_read calls (length calls) c.args.self.now.call call refl c.in_ok-call.ensures.lookup.3.0 c.in_ok-call.ensures.lookup.1 in
    let near : c.args.self.now.call < length calls = omega (arith, c.in_ok-call.ensures.lookup.3.0) in (
      sym (next_is c.args.flow lists calls turns c.args.self.now is call here),
      goes_on c.args.flow lists calls turns c.args.self.now is call c.parts_of.result c.pass.new.self here (c.parts_of.ensures lists) c.pass.ensures.within (λ e. c.pass.ensures.last e near),
    )
