-- Where the cursors are that go through an order. No public clause cites this module.
use Rattle.std.specs.Prelude.{◌≡◌, ◌<◌, ◌++◌, ℕ, List, length, drop, slice_get, Some, Vec}
use Rattle.std.specs.declared.alloc.Global.{Global}
use Rattle.flow_check.specs.Orders.{turns_of}
use Rattle.record_judging.specs.declared.order.Cursor.{Cursor}
use Rattle.record_judging.specs.declared.written.WrittenCall.{WrittenCall}
use Rattle.record_judging.specs.declared.written.WrittenFlow.{WrittenFlow}
use Rattle.record_judging.specs.NextCalls.{part_count, calls_of_parts}
use Rattle.record_judging.specs.Verdicts.{Read, IsLineOf}

-- after this number of the caller's turns the cursor is at the caller's next part
pub record IsAt (flow : WrittenFlow) (lists : List ℕ) (calls : List WrittenCall) (turns : ℕ) (cursor : Cursor) : Type 0 where
  -- the calls of the parts to come
  pub left : drop turns (calls_of_parts flow lists calls) ≡ drop cursor.part (calls_of_parts flow lists (drop cursor.call calls))
  -- it is at a part that its call has
  pub within : (call : WrittenCall) → slice_get calls cursor.call ≡ Some call → cursor.part < part_count flow lists call

-- after these turns each caller's cursor is at the caller's next part
pub record AreAt (read : Read) (before : List ℕ) (cursors : List Cursor) : Type 0 where
  pub one_each : length cursors ≡ length read.rows
  pub each : (caller : ℕ) (calls : Vec WrittenCall Global) (cursor : Cursor) → slice_get read.rows caller ≡ Some calls → slice_get cursors caller ≡ Some cursor
      → IsAt read.flow read.lists calls.items (turns_of caller before) cursor

-- a line of a call of this number and a caller of this name was added
abbrev pub AddsCallLine : ℕ → List ℕ → List ℕ → List ℕ → Type 0
AddsCallLine number name old new = (line : List ℕ) × (new ≡ old ++ line) × IsLineOf number name line
