use Rattle.std.proofs.Common.{◌≡◌, [], ◌∷◌, Some}
use Rattle.std.specs.Prelude.{take}
use Rattle.flow_word_shared.specs.declared.view.Hold.{Hold}
use Rattle.flow_word_shared.specs.View.{with_hold, only}
use Rattle.flow_word_shared.proofs.token.WordFlow.fill.Given as goal

abbrev pub invariant-loop-place : goal.invariant-loop-place
invariant-loop-place g l = record {
  table : l.seat.table_id ≡ l.fn.seat.table_id;
  filled : (h : Hold) → (only l.fn.seat.me.0).hold ≡ Some h → l.seat.me ≡ (with_hold (Some (record h { cells = take l.place l.words })) (only l.fn.seat.me.0) ∷ [], l.fn.seat.me.1);
}
