-- How the cursors go through an order.
use Rattle.std.proofs.Common.{◌≡◌, ℕ, ◌+◌, ◌<◌, ◌≤◌, List, [], ◌∷◌, ◌++◌, length, set, replicate, Option, Some, None, refl, sym, ap, ◌∙◌, subst, inl, inr, arith}
use Rattle.std.specs.Prelude.{slice_get, Vec}
use Rattle.std.specs.declared.alloc.Global.{Global}
use Rattle.std.proofs.Math.Nat.{eq-or-lt_of_le}
use Rattle.std.proofs.lemmas.List.{length-set, length-replicate, get_or-replicate}
use Rattle.std.proofs.lemmas.Bool.Decides.{eqb_tells}
use Rattle.flow_law.proofs.MailboxSteps.{past_here}
use Rattle.std.proofs.lemmas.Option.{slice_get_within, get_or_from_slice_get, same_Some}
use Rattle.flow_check.specs.Orders.{turns_of}
use Rattle.flow_check.proofs.Places.{get-set_same, get-set_other}
use Rattle.flow_check.proofs.Turns.{turns-snoc, turns-snoc_other}
use Rattle.record_judging.specs.declared.order.Cursor.{Cursor}
use Rattle.record_judging.specs.declared.words.CallWord.{CallWord}
use Rattle.record_judging.specs.declared.words.CallWord.TheVariants as word
use Rattle.record_judging.specs.declared.written.WrittenCall.{WrittenCall}
use Rattle.record_judging.specs.declared.written.WrittenFlow.{WrittenFlow}
use Rattle.record_judging.specs.declared.written.WrittenFlow.TheVariants.{State, Shared}
use Rattle.record_judging.specs.StateRows.{state_parts_by}
use Rattle.record_judging.specs.SharedRows.{first_parts, main_part, last_operation, last_parts}
use Rattle.record_judging.specs.NextCalls.{part_count, calls_of_parts, call_of_turn}
use Rattle.record_judging.specs.Verdicts.{Read, next_call}
use Rattle.record_judging.specs.Cursors.{IsAt, AreAt}
use Rattle.record_judging.proofs.Copies.{next_here, part_left, call_left, none_here, none_left_after}

-- ---- a caller's calls

-- a call has a part
state_some : (w : CallWord) (lists : List ℕ) (call : WrittenCall) → 0 < length (state_parts_by w lists call)
state_some w lists call = grind (arith)

middle : {A : Type 0} (xs ys : List A) (x : A) → 0 < length (xs ++ x ∷ ys)
middle [] ys x = omega arith
middle (y ∷ xs) ys x = omega arith

pub some_part : (flow : WrittenFlow) (lists : List ℕ) (call : WrittenCall) → 0 < part_count flow lists call
some_part (State initial) lists call = state_some call.call lists call
some_part (Shared config) lists call = middle (first_parts call.call call) (last_parts (last_operation call.call call.answer) call) (main_part lists call)

module _ (flow : WrittenFlow) (lists : List ℕ) (calls : List WrittenCall) where
  pub at_first : (first : Cursor) → first ≡ record { call = 0; part = 0 } → IsAt flow lists calls 0 first
  at_first first e = subst (IsAt flow lists calls 0) (sym e) (record { left = refl; within = λ call here. some_part flow lists call })

  module _ (turns : ℕ) (old : Cursor) (is : IsAt flow lists calls turns old) where
    pub next_is : (call : WrittenCall) → slice_get calls old.call ≡ Some call → slice_get (calls_of_parts flow lists calls) turns ≡ Some call
    next_is call here = next_here (part_count flow lists) calls turns old.call old.part call is.left here (is.within call here)

    pub none_is : slice_get calls old.call ≡ None → slice_get (calls_of_parts flow lists calls) turns ≡ None
    none_is past = none_here (part_count flow lists) calls turns old.call old.part is.left past

    pub stays : slice_get calls old.call ≡ None → IsAt flow lists calls (turns + 1) old
    stays past = record { left = none_left_after (part_count flow lists) calls turns old.call old.part is.left past; within = is.within }

    pub goes_on : (call : WrittenCall) (parts : ℕ) (new : Cursor) → slice_get calls old.call ≡ Some call → parts ≡ part_count flow lists call
        → (old.part + 1 < parts → new ≡ record old { part = old.part + 1 }) → (old.part + 1 ≡ parts → new ≡ record { call = old.call + 1; part = 0 })
        → IsAt flow lists calls (turns + 1) new
    goes_on call parts new here are within last =
        let inside = is.within call here in
        let most : old.part + 1 ≤ parts = omega (arith, are, inside) in elim (eq-or-lt_of_le most) [
          | inl e ↦ subst (IsAt flow lists calls (turns + 1)) (sym (last e)) (record {
            left = call_left (part_count flow lists) calls turns old.call old.part call is.left here inside (e ∙ are);
            within = λ other there. some_part flow lists other;
          })
          | inr l ↦ subst (IsAt flow lists calls (turns + 1)) (sym (within l)) (record {
            left = part_left (part_count flow lists) calls turns old.call old.part call is.left here inside;
            within = λ other there. subst (λ c. old.part + 1 < part_count flow lists c) (same_Some call other (sym here ∙ there)) (subst (λ n. old.part + 1 < n) are l);
          })
        ]

-- ---- all callers

none_or_some : {A : Type 0} (x : A) → None ≡ Some x → ⊥
none_or_some x e = cc

-- each of n copies is the one that was copied
copy_is : (n i : ℕ) (x y : Cursor) → slice_get (replicate n x) i ≡ Some y → y ≡ x
copy_is n i x y e =
    let size = length-replicate n x in
    let near = slice_get_within (replicate n x) i y e in
    sym (get_or_from_slice_get (replicate n x) i y x e) ∙ get_or-replicate n i x x (omega (arith, size, near))

pub at_start : (read : Read) (cursors : List Cursor) → cursors ≡ replicate (length read.rows) (record { call = 0; part = 0 }) → AreAt read [] cursors
at_start read cursors e = record {
  one_each = ap length e ∙ length-replicate (length read.rows) (record { call = 0; part = 0 });
  each = λ caller calls cursor row at.
      at_first read.flow read.lists calls.items cursor
      (copy_is (length read.rows) caller (record { call = 0; part = 0 }) cursor (subst (λ (cs : List Cursor). slice_get cs caller ≡ Some cursor) e at));
}

module _ (read : Read) (before : List ℕ) (old : List Cursor) (are : AreAt read before old) where
  -- a caller that has no calls has no next call, and no cursor that moves
  pub uncalled : (caller : ℕ) → slice_get read.rows caller ≡ None → None ≡ next_call read before caller
  uncalled caller none = sym (ap (λ (o : Option (Vec WrittenCall Global)). call_of_turn read.flow read.lists o (turns_of caller before)) none)

  pub unmoved : (caller : ℕ) (new : List Cursor) → slice_get read.rows caller ≡ None → new ≡ old → AreAt read (before ++ caller ∷ []) new
  unmoved caller new none e = record {
    one_each = ap length e ∙ are.one_each;
    each = λ other calls cursor row at. elim (eqb_tells caller other) [
      | inl is ↦ absurd (no_row other calls row is.1)
      | inr is ↦ subst (λ n. IsAt read.flow read.lists calls.items n cursor) (sym (turns-snoc_other caller other before is.1))
          (are.each other calls cursor row (ap (λ (cs : List Cursor). slice_get cs other) (sym e) ∙ at))
    ];
  }
    where
      no_row : (other : ℕ) (calls : Vec WrittenCall Global) → slice_get read.rows other ≡ Some calls → caller ≡ other → ⊥
      no_row other calls row is = let all = sym none ∙ ap (slice_get read.rows) is ∙ row in none_or_some calls all

  module _ (caller : ℕ) (calls : Vec WrittenCall Global) (here : slice_get read.rows caller ≡ Some calls) where
    -- each caller that has calls has a cursor
    pub has_cursor : slice_get old caller ≡ None → ⊥
    has_cursor none =
        let far = past_here caller old none in
        let near = slice_get_within read.rows caller calls here in
        let size = are.one_each in absurd (omega (arith, far, near, size))

    pub moved : (cursor after : Cursor) (new : List Cursor) → slice_get old caller ≡ Some cursor → IsAt read.flow read.lists calls.items (turns_of caller before + 1) after
        → new ≡ set old caller after → AreAt read (before ++ caller ∷ []) new
    moved cursor after new was is e = record {
      one_each = ap length e ∙ length-set old caller after ∙ are.one_each;
      each = λ other row_of found row at. elim (eqb_tells caller other) [
        | inl same ↦ own other row_of found same.1 row (ap (λ (cs : List Cursor). slice_get cs other) (sym e) ∙ at)
        | inr apart ↦ subst (λ n. IsAt read.flow read.lists row_of.items n found) (sym (turns-snoc_other caller other before apart.1))
            (are.each other row_of found row (sym (get-set_other old caller other after apart.1 (inside other row_of row)) ∙ ap (λ (cs : List Cursor). slice_get cs other) (sym e) ∙ at))
      ];
    }
      where
        inside : (other : ℕ) (row_of : Vec WrittenCall Global) → slice_get read.rows other ≡ Some row_of → other < length old
        inside other row_of row = let near = slice_get_within read.rows other row_of row in let size = are.one_each in omega (arith, near, size)

        own : (other : ℕ) (row_of : Vec WrittenCall Global) (found : Cursor) → caller ≡ other → slice_get read.rows other ≡ Some row_of
            → slice_get (set old caller after) other ≡ Some found → IsAt read.flow read.lists row_of.items (turns_of other (before ++ caller ∷ [])) found
        own other row_of found same row at =
            let near = slice_get_within old caller cursor was in
            let it : after ≡ found =
            same_Some after found (sym (get-set_same old caller after near) ∙ ap (slice_get (set old caller after)) same ∙ at) in
            let calls_are : calls ≡ row_of = same_Some calls row_of (sym here ∙ ap (slice_get read.rows) same ∙ row) in
            let turns_are : turns_of caller before + 1 ≡ turns_of other (before ++ caller ∷ []) =
            sym (turns-snoc caller before) ∙ ap (λ n. turns_of n (before ++ caller ∷ [])) same in
            subst (λ n. IsAt read.flow read.lists row_of.items n found) turns_are (
            subst (λ (c : Cursor). IsAt read.flow read.lists row_of.items (turns_of caller before + 1) c) it (
            subst (λ (v : Vec WrittenCall Global). IsAt read.flow read.lists v.items (turns_of caller before + 1) after) calls_are is))

    -- the caller's next call is that of its next part
    pub called : (next : Option WrittenCall) → next ≡ slice_get (calls_of_parts read.flow read.lists calls.items) (turns_of caller before) → next ≡ next_call read before caller
    called next e = e ∙ ap (λ (o : Option (Vec WrittenCall Global)). call_of_turn read.flow read.lists o (turns_of caller before)) (sym here)
