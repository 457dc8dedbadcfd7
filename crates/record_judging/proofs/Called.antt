-- Each turn of an order that explains a record's calls has a call.
use Rattle.std.proofs.Common.{◌≡◌, ℕ, suc, zero, ◌<◌, List, [], ◌∷◌, length, take, map, replicate, Option, Some, None, refl, sym, ap, ◌∙◌, arith}
use Rattle.std.specs.Prelude.{slice_get, IsSome, Vec}
use Rattle.std.specs.List.{flat_map}
use Rattle.std.specs.Option.{option_map}
use Rattle.std.specs.declared.alloc.Global.{Global}
use Rattle.std.proofs.lemmas.Option.{slice_get_within, same_Some, slice_get-map}
use Rattle.std.proofs.lemmas.List.{length-append, length-map, length-replicate}
use Rattle.std.proofs.lemmas.Simd.{map-map}
use Rattle.flow_check.specs.declared.timed.Timed.{Timed}
use Rattle.flow_check.specs.declared.state_calls.StateEntry.{StateEntry}
use Rattle.flow_check.specs.declared.shared_calls.SharedEntry.{SharedEntry}
use Rattle.flow_check.specs.declared.verdict.Verdict.TheVariants.{Legal}
use Rattle.flow_check.specs.Records.{CallsByCaller, recorded, call_in}
use Rattle.flow_check.specs.Orders.{turns_of}
use Rattle.flow_law.specs.declared.config.Config.{Config}
use Rattle.record_judging.specs.declared.written.WrittenCall.{WrittenCall}
use Rattle.record_judging.specs.declared.written.WrittenFlow.{WrittenFlow}
use Rattle.record_judging.specs.declared.written.WrittenFlow.TheVariants.{State, Shared}
use Rattle.record_judging.specs.StateRows.{Rows, AreStateCalls, state_parts, state_row}
use Rattle.record_judging.specs.SharedRows.{AreSharedCalls, plain, shared_entries, shared_row}
use Rattle.record_judging.specs.NextCalls.{part_count, calls_of_parts, call_of_turn}
use Rattle.record_judging.specs.Judged.{JudgesCalls}

-- ---- counts of parts

map_each : {A B : Type 0} (f g : A → B) → ((x : A) → f x ≡ g x) → (xs : List A) → map f xs ≡ map g xs
map_each f g same [] = refl
map_each {A} {B} f g same (x ∷ xs) = ap (λ (y : B). y ∷ map f xs) (same x) ∙ ap (λ (ys : List B). g x ∷ ys) (map_each f g same xs)

-- a caller has as many parts as it has calls of parts
module _ {P : Type 0} (flow : WrittenFlow) (lists : List ℕ) (parts : WrittenCall → List P) (counts : (call : WrittenCall) → length (parts call) ≡ part_count flow lists call) where
  parts_counted : (calls : List WrittenCall) → length (flat_map parts calls) ≡ length (calls_of_parts flow lists calls)
  parts_counted [] = refl
  parts_counted (call ∷ calls) =
      let one = counts call in
      let copies = length-replicate (part_count flow lists call) call in
      let rest = parts_counted calls in
      let these = length-append (parts call) (flat_map parts calls) in
      let those = length-append (replicate (part_count flow lists call) call) (calls_of_parts flow lists calls) in
      omega (arith, one, copies, rest, these, those)

-- the callers that are judged have as many parts as the written calls have
AreCounted : {C : Type 0} → WrittenFlow → List ℕ → Rows → CallsByCaller C → Type 0
AreCounted flow lists rows callers = map (λ row. length row.items) callers ≡ map (λ row. length (calls_of_parts flow lists row.items)) rows

state_counted : (initial : ℕ) (lists : List ℕ) (rows : Rows) (callers : CallsByCaller StateEntry) → AreStateCalls lists rows callers → AreCounted (State initial) lists rows callers
unfolding AreCounted
state_counted initial lists rows callers are =
    sym (map-map length (λ row. row.items) callers) ∙ ap (map length) are ∙ map-map length (λ row. state_row lists row.items) rows
    ∙ map_each (λ row. length (state_row lists row.items)) (λ row. length (calls_of_parts (State initial) lists row.items))
    (λ row. parts_counted (State initial) lists (state_parts lists) (λ call. refl) row.items) rows

shared_counted : (config : Config) (lists : List ℕ) (rows : Rows) (callers : CallsByCaller SharedEntry) → AreSharedCalls lists rows callers → AreCounted (Shared config) lists rows callers
unfolding AreCounted
shared_counted config lists rows callers are =
    map_each (λ row. length row.items) (λ row. length (map plain row.items)) (λ row. sym (length-map row.items plain)) callers
    ∙ sym (map-map length (λ row. map plain row.items) callers) ∙ ap (map length) are ∙ map-map length (λ row. shared_row lists row.items) rows
    ∙ map_each (λ row. length (shared_row lists row.items)) (λ row. length (calls_of_parts (Shared config) lists row.items))
    (λ row. parts_counted (Shared config) lists (shared_entries lists) (λ call. refl) row.items) rows

-- ---- turns

none_or_some : {A : Type 0} (x : A) → None ≡ Some x → ⊥
none_or_some x e = cc

there : {A : Type 0} (k : ℕ) (xs : List A) → k < length xs → IsSome (slice_get xs k)
there k [] l = absurd (omega arith)
there zero (x ∷ xs) l = refl
there (suc k) (x ∷ xs) l = there k xs (omega arith)

module _ {C : Type 0} (flow : WrittenFlow) (lists : List ℕ) where
  turn_has : (k : ℕ) (c : Timed C) (one : Option (Vec (Timed C) Global)) (other : Option (Vec WrittenCall Global))
      → option_map (λ row. length row.items) one ≡ option_map (λ row. length (calls_of_parts flow lists row.items)) other → call_in one k ≡ Some c
      → IsSome (call_of_turn flow lists other k)
  turn_has k c None other e at = absurd (none_or_some c at)
  turn_has k c (Some one) None e at = absurd (none_or_some (length one.items) (sym e))
  turn_has k c (Some one) (Some other) e at =
      let near = slice_get_within one.items k c at in
      let size = same_Some (length one.items) (length (calls_of_parts flow lists other.items)) e in
      there k (calls_of_parts flow lists other.items) (omega (arith, near, size))

  turn_called : (rows : Rows) (callers : CallsByCaller C) → AreCounted flow lists rows callers → (caller k : ℕ) (c : Timed C) → recorded callers caller k ≡ Some c
      → IsSome (call_of_turn flow lists (slice_get rows caller) k)
  unfolding AreCounted
  turn_called rows callers are caller k c at =
      turn_has k c (slice_get callers caller) (slice_get rows caller)
      (sym (slice_get-map (λ row. length row.items) callers caller) ∙ ap (λ (sizes : List ℕ). slice_get sizes caller) are
      ∙ slice_get-map (λ row. length (calls_of_parts flow lists row.items)) rows caller) at

-- each turn of a legal order has a call
pub has_calls : (flow : WrittenFlow) (lists : List ℕ) (rows : Rows) (order : Vec ℕ Global) → JudgesCalls flow lists rows (Legal order)
    → (n caller : ℕ) → slice_get order.items n ≡ Some caller → IsSome (call_of_turn flow lists (slice_get rows caller) (turns_of caller (take n order.items)))
has_calls (State initial) lists rows order judges n caller at =
    let turn = judges.2.1.turns n caller at in
    turn_called (State initial) lists rows judges.0 (state_counted initial lists rows judges.0 judges.1) caller (turns_of caller (take n order.items)) turn.0 turn.1.1
has_calls (Shared config) lists rows order judges n caller at =
    let turn = judges.2.1.turns n caller at in
    turn_called (Shared config) lists rows judges.0 (shared_counted config lists rows judges.0 judges.1) caller (turns_of caller (take n order.items)) turn.0 turn.1.1
