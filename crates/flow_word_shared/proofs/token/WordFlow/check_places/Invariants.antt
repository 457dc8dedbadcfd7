use Rattle.std.proofs.Common.{◌≡◌, ◌+◌, ◌<◌, Some}
use Rattle.flow_word_shared.specs.declared.view.Hold.{Hold}
use Rattle.flow_word_shared.specs.Rule.{capacity_of}
use Rattle.flow_word_shared.specs.Steps.{Holds}
use Rattle.flow_word_shared.specs.View.{only}
use Rattle.flow_word_shared.proofs.token.WordFlow.check_places.Given as goal

abbrev pub invariant-loop-place : goal.invariant-loop-place
invariant-loop-place g l = record {
  table : l.seat.table_id ≡ l.fn.seat.table_id;
  looked : (h : Hold) → (only l.fn.seat.me.0).hold ≡ Some h → Holds l.fn.seat.me (Some (record h { checked = l.place; least = l.least })) l.seat.me;
  near : l.fn.length < l.least + capacity_of l.fn.self.table_id.start;
}
