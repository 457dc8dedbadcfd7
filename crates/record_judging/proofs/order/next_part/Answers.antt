use Rattle.std.proofs.Common.{◌≡◌, ◌+◌, ℕ, List, Option, length, set, Some, None, refl, sym, ap, subst, arith, ◌∙◌}
use Rattle.std.specs.Prelude.{slice_get, Vec}
use Rattle.std.specs.Option.{option_map}
use Rattle.std.specs.declared.alloc.Global.{Global}
use Rattle.std.proofs.lemmas.Option.{slice_get_past, slice_get_read}
use Rattle.flow_check.specs.Orders.{turns_of}
use Rattle.record_judging.specs.declared.written.WrittenCall.{WrittenCall}
use Rattle.record_judging.specs.NextCalls.{calls_of_parts}
use Rattle.record_judging.specs.Verdicts.{read_of}
use Rattle.record_judging.specs.Cursors.{IsAt}
use Rattle.record_judging.proofs.Cursors.{uncalled, unmoved, called, moved}
use Rattle.record_judging.proofs.order.next_part.Goals as goal

pub returns-in_err-calls : goal.returns-in_err-calls
returns-in_err-calls c = λ before are.
    let read = read_of c.args.sheet.now in
    let cursors = c.args.cursors.now.items in
    let none : slice_get read.rows c.args.caller ≡ None =
    slice_get_past read.rows c.args.caller (omega (arith, ap length c.deref.ensures.value, c.in_err-calls.ensures.lookup.3)) in (
      ap (λ (next : Option (WrittenCall × ℕ)). option_map (λ part. part.0) next) c.from_residual.ensures ∙ uncalled read before cursors are c.args.caller none,
      unmoved read before cursors are c.args.caller cursors none refl,
    )

pub returns : goal.returns
returns c = λ before are.
    let read = read_of c.args.sheet.now in
    let cursors = c.args.cursors.now.items in
    let caller = c.args.caller in
    let calls = c.in_ok-calls.calls.now in
    let cursor = c.in_ok-cursor.field-0.now in
    let turns = turns_of caller before in
    let here : slice_get read.rows caller ≡ Some calls =
    ap (λ (rows : List (Vec WrittenCall Global)). slice_get rows caller) (sym c.deref.ensures.value)
    ∙ slice_get_read c.deref.result.now (length c.deref.result.now) caller calls refl c.in_ok-calls.ensures.lookup.3.0 c.in_ok-calls.ensures.lookup.1 in
    let was : slice_get cursors caller ≡ Some cursor =
    ap (λ cs. slice_get cs caller) (sym c.deref-2.ensures.value)
    ∙ slice_get_read c.deref-2.result.now (length c.deref-2.result.now) caller cursor refl c.in_ok-cursor.ensures.lookup.3.0 c.in_ok-cursor.ensures.lookup.1 in
    let next = c.next-next.ensures read.lists turns
    (subst (λ (row : List WrittenCall). IsAt read.flow read.lists row turns cursor) (sym c.as_slice.ensures.value) (are.each caller calls cursor here was)) in (
      called read before cursors are caller calls here (option_map {T = WrittenCall × ℕ} {U = WrittenCall} (λ part. part.0) c.next-next.result)
          (next.0 ∙ ap (λ (row : List WrittenCall). slice_get (calls_of_parts read.flow read.lists row) turns) c.as_slice.ensures.value),
      moved read before cursors are caller calls here cursor c.next-next.new.self (set cursors caller c.next-next.new.self) was
          (subst (λ (row : List WrittenCall). IsAt read.flow read.lists row (turns + 1) c.next-next.new.self) c.as_slice.ensures.value next.1) refl,
    )
