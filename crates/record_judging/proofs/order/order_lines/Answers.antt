use Rattle.std.proofs.Common.{◌≡◌, arith, ℕ, List, length, replicate, take, string_bytes, sym, ap, subst, ◌∙◌}
use Rattle.std.specs.Option.{option_map}
use Rattle.std.proofs.lemmas.List.{take_more}
use Rattle.record_judging.specs.declared.order.Cursor.{Cursor}
use Rattle.record_judging.specs.declared.written.WrittenCall.{WrittenCall}
use Rattle.record_judging.specs.Verdicts.{read_of}
use Rattle.record_judging.specs.Cursors.{AreAt}
use Rattle.record_judging.proofs.Cursors.{at_start}
use Rattle.record_judging.proofs.Telling.{line_told}
use Rattle.record_judging.proofs.order.order_lines.Goals as goal

pub loop-caller-init : goal.loop-caller-init
loop-caller-init c =
    let first : Cursor = record { call = 0; part = 0 } in
    let size : c.len.result ≡ length c.args.sheet.now.rows.items = omega (arith, c.len.ensures, c.args.sheet.now.rows.ok.0) in
    let is : c.in_ok-cursors.cursors.items ≡ replicate (length c.args.sheet.now.rows.items) first =
    c.in_ok-cursors.ensures.items_if_clones_equal (λ y h. h) ∙ ap (λ n. replicate n first) size in
    (at_start (read_of c.args.sheet.now) c.in_ok-cursors.cursors.items is, c.new-lines.ensures.bytes)

pub loop-caller-preserved : goal.loop-caller-preserved
loop-caller-preserved c =
    let read = read_of c.args.sheet.now in
    let order = c.args.order.now in
    let i = c.loop-caller.caller-index in
    let next = c.next_part-next.ensures (take i order) c.loop-caller.invariant.0 in (
      subst (λ (turns : List ℕ). AreAt read turns c.next_part-next.new.cursors.items) (sym (take_more order i 0 c.loop-caller-test.true)) next.1,
      line_told read order i (option_map {T = WrittenCall × ℕ} {U = WrittenCall} (λ part. part.0) c.next_part-next.result) (string_bytes c.loop-caller.lines)
          (string_bytes c.write_turn.new.out) c.loop-caller-test.true c.loop-caller.invariant.1 next.0 c.in_ok-write_turn.ensures,
    )
