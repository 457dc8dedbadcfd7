-- Two calls that set the same value may be swapped, and two that subscribe. Begin with `twins` and `keep_swapped`.
use Rattle.std.proofs.Common.{◌≡◌, ◌≢◌, ℕ, Bool, true, false, ◌==◌, ◌&&◌, cond, List, Option, Some, None, refl, sym, ap, ◌∙◌, subst, inl, inr}
use Rattle.std.specs.Prelude.{slice_get}
use Rattle.std.proofs.lemmas.Bool.{false≢true, or_cases, and_parts}
use Rattle.std.proofs.lemmas.Bool.Decides.{Decides-eqb}
use Rattle.std.proofs.lemmas.List.{set_comm}
use Rattle.std.proofs.lemmas.Option.{cond_some}
use Rattle.flow_law.proofs.Rows.{split}
use Rattle.flow_check.specs.declared.state_calls.StateOperation.{StateOperation}
use Rattle.flow_check.specs.declared.state_calls.StateOperation.TheVariants as operation
use Rattle.flow_check.specs.declared.state_calls.StateAnswer.{StateAnswer}
use Rattle.flow_check.specs.declared.state_calls.StateAnswer.TheVariants as answer
use Rattle.flow_check.specs.declared.state_calls.StateEntry.{StateEntry}
use Rattle.flow_check.specs.Remaining.{IsStep}
use Rattle.flow_check.specs.Subscribed.{kept_in, present}
use Rattle.flow_check.specs.StateMachine.{StateKept, reader_of, state_next_answer, subscribe_answer, unsubscribe_answer, state_own_answer, state_agrees, with_reader, state_moved, state_stepped, state_may_skip}
use Rattle.flow_check.specs.StateTwins.{same_write_by, is_same_write, subscribe_by, both_subscribe, out_in, is_out, are_out, are_state_twins, SubscribedInstead, IsStateSwapped}
use Rattle.flow_check.specs.Twins.{KeepSwapped, AreTwins}
use Rattle.flow_check.proofs.KeptLemmas.{present-set_more}
use Rattle.flow_check.proofs.Leaving.{get-set_else}

abbrev Readers : Type 0
Readers = List (Option (Option ℕ))

-- the state after a call with this answer, None if the answer is not the flow's own
abbrev stepped_by : StateOperation → Option StateAnswer → StateKept → ℕ → Option StateKept
stepped_by op written s caller = state_stepped s caller (record { operation = op; answer = written })

-- ---- calls that set the same value

same_by : (o : StateOperation) (w : Option StateAnswer) (p : StateOperation) (x : Option StateAnswer) (s : StateKept) (one other : ℕ) → same_write_by o w p x ≡ true
    → stepped_by o w s one ≡ stepped_by p x s other
same_by (operation.Set v) (Some answer.Done) (operation.Set w) (Some answer.Done) s one other same = ap (λ (n : ℕ). Some (record s { value = n })) ((Decides-eqb v w).0 same)
same_by _ _ _ _ s one other same = absurd (false≢true same)

-- ---- calls that subscribe

out_of : (o : Option (Option (Option ℕ))) → out_in o ≡ true → o ≡ Some None
out_of None out = absurd (false≢true out)
out_of (Some None) out = refl
out_of (Some (Some last)) out = absurd (false≢true out)

module _ (v : StateKept) (caller other : ℕ) (out : slice_get v.readers caller ≡ Some None) (other_out : slice_get v.readers other ≡ Some None) where
  abbrev mine : StateKept
  mine = with_reader caller (Some None) v

  abbrev theirs : StateKept
  theirs = with_reader other (Some None) v

  -- ---- calls of others meanwhile

  counts_same : present theirs.readers ≡ present mine.readers
  counts_same = present-set_more v.readers other None other_out ∙ sym (present-set_more v.readers caller None out)

  module _ (third : ℕ) (from_caller : caller ≢ third) (from_other : other ≢ third) where
    sees_same : reader_of third theirs.readers ≡ reader_of third mine.readers
    sees_same = ap kept_in (get-set_else v.readers other third (Some None) from_other ∙ sym (get-set_else v.readers caller third (Some None) from_caller))

    answers_same : (op : StateOperation) → state_own_answer third op theirs ≡ state_own_answer third op mine
    answers_same operation.Value = refl
    answers_same (operation.Set w) = refl
    answers_same (operation.TryEmit w) = refl
    answers_same (operation.CompareAndSet a b) = refl
    answers_same operation.Subscribe = ap subscribe_answer sees_same
    answers_same operation.Next = ap (state_next_answer v.value) sees_same
    answers_same operation.Unsubscribe = ap unsubscribe_answer sees_same
    answers_same operation.SubscriptionCount = ap (λ (n : ℕ). Some (answer.Number n)) counts_same
    answers_same operation.ReplayCache = refl

    -- the states after a call that sets what is kept of the third caller
    set_apart : (kept : Option (Option ℕ)) → SubscribedInstead caller other (with_reader third kept mine) (with_reader third kept theirs)
    set_apart kept = (
      with_reader third kept v,
      get-set_else v.readers third caller kept (λ e. from_caller (sym e)) ∙ out,
      get-set_else v.readers third other kept (λ e. from_other (sym e)) ∙ other_out,
      ap (λ (readers : Readers). record v { readers = readers }) (set_comm v.readers caller third (Some None) kept from_caller),
      ap (λ (readers : Readers). record v { readers = readers }) (set_comm v.readers other third (Some None) kept from_other),
    )

    -- the states after a call that sets the value
    value_set : (w : ℕ) → SubscribedInstead caller other (record mine { value = w }) (record theirs { value = w })
    value_set w = (record v { value = w }, out, other_out, refl, refl)

    unchanged : SubscribedInstead caller other mine theirs
    unchanged = (v, out, other_out, refl, refl)

    stays_swapped : (op : StateOperation) → SubscribedInstead caller other (state_moved third op mine) (state_moved third op theirs)
    stays_swapped operation.Value = unchanged
    stays_swapped (operation.Set w) = value_set w
    stays_swapped (operation.TryEmit w) = value_set w
    stays_swapped (operation.CompareAndSet a b) =
        split (v.value == a) (λ c. SubscribedInstead caller other (cond c (record mine { value = b }) mine) (cond c (record theirs { value = b }) theirs)) (λ _. value_set b) (λ _. unchanged)
    stays_swapped operation.Subscribe = set_apart (Some None)
    stays_swapped operation.Next = set_apart (Some (Some v.value))
    stays_swapped operation.Unsubscribe = set_apart None
    stays_swapped operation.SubscriptionCount = unchanged
    stays_swapped operation.ReplayCache = unchanged

    steps_swapped : (e : StateEntry) (after : StateKept) → state_stepped mine third e ≡ Some after → (u : StateKept) × (state_stepped theirs third e ≡ Some u) × SubscribedInstead caller other after u
    steps_swapped e after step =
        let told = cond_some (state_agrees (state_own_answer third e.operation mine) e.answer) (state_moved third e.operation mine) after step in (
          state_moved third e.operation theirs,
          ap (λ (b : Bool). cond b (Some (state_moved third e.operation theirs)) None) (ap (λ (a : Option StateAnswer). state_agrees a e.answer) (answers_same e.operation) ∙ told.0),
          subst (λ (x : StateKept). SubscribedInstead caller other x (state_moved third e.operation theirs)) told.1 (stays_swapped e.operation),
        )

  -- ---- the call that is swapped

  -- the state after a caller that was not subscribed has subscribed
  subscribes : (u : StateKept) (one : ℕ) → reader_of one u.readers ≡ None → stepped_by operation.Subscribe (Some answer.Done) u one ≡ Some (with_reader one (Some None) u)
  subscribes u one none = ap (λ (r : Option (Option ℕ)). cond (state_agrees (subscribe_answer r) (Some answer.Done)) (Some (with_reader one (Some None) u)) None) none

  ends_by : (o : StateOperation) (w : Option StateAnswer) (p : StateOperation) (x : Option StateAnswer) (after : StateKept) → caller ≢ other → subscribe_by o w p x ≡ true
      → stepped_by p x mine other ≡ Some after → stepped_by o w theirs caller ≡ Some after
  ends_by operation.Subscribe (Some answer.Done) operation.Subscribe (Some answer.Done) after apart both step =
      let told = cond_some (state_agrees (state_own_answer other operation.Subscribe mine) (Some answer.Done)) (state_moved other operation.Subscribe mine) after step in
      subscribes theirs caller (ap kept_in (get-set_else v.readers other caller (Some None) (λ e. apart (sym e)) ∙ out))
      ∙ ap Some (ap (λ (readers : Readers). record v { readers = readers }) (set_comm v.readers other caller (Some None) (Some None) (λ e. apart (sym e))) ∙ told.1)
  ends_by _ _ _ _ after apart both step = absurd (false≢true both)

  begins_by : (o : StateOperation) (w : Option StateAnswer) (p : StateOperation) (x : Option StateAnswer) (after : StateKept) → subscribe_by o w p x ≡ true
      → stepped_by o w v caller ≡ Some after → (u : StateKept) × (stepped_by p x v other ≡ Some u) × SubscribedInstead caller other after u
  begins_by operation.Subscribe (Some answer.Done) operation.Subscribe (Some answer.Done) after both step =
      let told = cond_some (state_agrees (state_own_answer caller operation.Subscribe v) (Some answer.Done)) (state_moved caller operation.Subscribe v) after step in
      (theirs, subscribes v other (ap kept_in other_out), (v, out, other_out, sym told.1, refl))
  begins_by _ _ _ _ after both step = absurd (false≢true both)

-- ---- all calls

pub twins : (caller other : ℕ) (c d : StateEntry) (s : StateKept) → are_state_twins caller other c d s ≡ true → AreTwins state_stepped state_may_skip IsStateSwapped s caller other c d
twins caller other c d s may = λ after step. elim step [
  | inr skipped ↦ absurd (false≢true skipped.0)
  | inl made ↦ elim (or_cases (is_same_write c d) (both_subscribe c d && are_out caller other s) may) [
    | inl same ↦ (after, inl (sym (same_by c.operation c.answer d.operation d.answer s caller other same) ∙ made), inl (same, refl))
    | inr both ↦
        let parts = and_parts (both_subscribe c d) (are_out caller other s) both in
        let outs = and_parts (is_out caller s) (is_out other s) parts.1 in
        let begun = begins_by s caller other (out_of (slice_get s.readers caller) outs.0) (out_of (slice_get s.readers other) outs.1) c.operation c.answer d.operation d.answer after parts.0 made in
        (begun.0, inl begun.1, inr (parts.0, begun.2))
  ]
]

-- between two calls that subscribe
keeps_between : (s t after : StateKept) (caller other third : ℕ) (e : StateEntry) → (third ≡ caller → ⊥) → (third ≡ other → ⊥) → SubscribedInstead caller other s t
    → state_stepped s third e ≡ Some after → (u : StateKept) × (state_stepped t third e ≡ Some u) × SubscribedInstead caller other after u
keeps_between s t after caller other third e from_caller from_other swapped step =
    let here = subst (λ (x : StateKept). state_stepped x third e ≡ Some after) swapped.3 step in
    let then = steps_swapped swapped.0 caller other swapped.1 swapped.2 third (λ z. from_caller (sym z)) (λ z. from_other (sym z)) e after here in
    (then.0, subst (λ (x : StateKept). state_stepped x third e ≡ Some then.0) (sym swapped.4) then.1, then.2)

ends_both : (s t after : StateKept) (caller other : ℕ) (c d : StateEntry) → (caller ≡ other → ⊥) → both_subscribe c d ≡ true → SubscribedInstead caller other s t
    → state_stepped s other d ≡ Some after → state_stepped t caller c ≡ Some after
ends_both s t after caller other c d apart both swapped step =
    let here = subst (λ (x : StateKept). state_stepped x other d ≡ Some after) swapped.3 step in
    subst (λ (x : StateKept). state_stepped x caller c ≡ Some after) (sym swapped.4) (
    ends_by swapped.0 caller other swapped.1 swapped.2 c.operation c.answer d.operation d.answer after apart both here)

pub keep_swapped : KeepSwapped state_stepped state_may_skip IsStateSwapped
keep_swapped = record {
  keeps = λ s t after caller other third c d e from_caller from_other swapped step. elim step [
    | inr skipped ↦ absurd (false≢true skipped.0)
    | inl made ↦ elim swapped [
      | inl same ↦ (after, inl (subst (λ (x : StateKept). state_stepped x third e ≡ Some after) (sym same.1) made), inl (same.0, refl))
      | inr both ↦ let then = keeps_between s t after caller other third e from_caller from_other both.1 made in (then.0, inl then.1, inr (both.0, then.2))
    ]
  ];
  ends = λ s t after caller other c d apart swapped step. elim step [
    | inr skipped ↦ absurd (false≢true skipped.0)
    | inl made ↦ elim swapped [
      | inl same ↦ inl (same_by c.operation c.answer d.operation d.answer t caller other same.0 ∙ subst (λ (x : StateKept). state_stepped x other d ≡ Some after) (sym same.1) made)
      | inr both ↦ inl (ends_both s t after caller other c d apart both.0 both.1 made)
    ]
  ];
}
