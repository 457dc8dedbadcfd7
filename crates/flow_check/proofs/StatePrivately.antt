-- A `next` of a state flow that gave a value is private. Begin with `private_calls`.
use Rattle.std.proofs.Common.{◌≡◌, ℕ, Bool, true, false, ◌==◌, cond, List, Option, Some, None, refl, sym, ap, ◌∙◌, subst, inl, inr}
use Rattle.std.proofs.lemmas.Bool.{false≢true}
use Rattle.std.proofs.lemmas.Bool.Decides.{Decides-eqb}
use Rattle.std.proofs.lemmas.List.{set_comm}
use Rattle.std.proofs.lemmas.Option.{cond_some}
use Rattle.flow_law.proofs.Rows.{split}
use Rattle.flow_check.specs.declared.state_calls.StateOperation.{StateOperation}
use Rattle.flow_check.specs.declared.state_calls.StateOperation.TheVariants as operation
use Rattle.flow_check.specs.declared.state_calls.StateAnswer.{StateAnswer}
use Rattle.flow_check.specs.declared.state_calls.StateAnswer.TheVariants as answer
use Rattle.flow_check.specs.declared.state_calls.StateEntry.{StateEntry}
use Rattle.flow_check.specs.PrivateCalls.{ArePrivate}
use Rattle.flow_check.specs.Subscribed.{kept_in, present}
use Rattle.flow_check.specs.StateMachine.{StateKept, reader_of, state_next_answer, subscribe_answer, unsubscribe_answer, state_own_answer, state_agrees, with_reader, state_moved, state_stepped, state_may_skip}
use Rattle.flow_check.specs.StateLooks.{IsAlwaysSound}
use Rattle.flow_check.specs.StatePrivate.{is_state_private, state_private_by, HasReceived, ahead_by, IsStateAhead}
use Rattle.flow_check.proofs.KeptLemmas.{kept_within, kept_at, present-set_same}
use Rattle.flow_check.proofs.Leaving.{get-set_else}
use Rattle.flow_check.proofs.StateLooking.{same}

abbrev Readers : Type 0
Readers = List (Option (Option ℕ))

-- ---- a `next` that gave a value

-- a caller that receives a value is subscribed, and the value is the current one
found_value : (v w : ℕ) (o : Option (Option ℕ)) → state_agrees (state_next_answer v o) (Some (answer.Value w)) ≡ true → (v ≡ w) × ((last : Option ℕ) × (o ≡ Some last))
found_value v w None told = absurd (false≢true told)
found_value v w (Some None) told = ((Decides-eqb v w).0 told, (None, refl))
found_value v w (Some (Some last)) told = (
  split (last == v) (λ t. state_agrees (Some (cond t answer.Empty (answer.Value v))) (Some (answer.Value w)) ≡ true → v ≡ w) (λ _ h. absurd (false≢true h)) (λ _ h. (Decides-eqb v w).0 h) told,
  (Some last, refl),
)

received : (s : StateKept) (caller v : ℕ) → state_agrees (state_own_answer caller operation.Next s) (Some (answer.Value v)) ≡ true → HasReceived v caller s (state_moved caller operation.Next s)
received s caller v told =
    let found = found_value s.value v (reader_of caller s.readers) told in
    (found.1.0, found.1.1, ap (λ (n : ℕ). with_reader caller (Some (Some n)) s) found.0)

-- ---- calls of others meanwhile

module _ (s : StateKept) (caller other v : ℕ) (apart : caller ≡ other → ⊥) (last : Option ℕ) (there : reader_of caller s.readers ≡ Some last) where
  abbrev t : StateKept
  t = with_reader caller (Some (Some v)) s

  sees_same : reader_of other t.readers ≡ reader_of other s.readers
  sees_same = ap kept_in (get-set_else s.readers caller other (Some (Some v)) apart)

  counts_same : present t.readers ≡ present s.readers
  counts_same = present-set_same s.readers caller (Some v) last (kept_at s.readers caller (kept_within s.readers caller last there) ∙ ap Some there)

  answers_same : (op : StateOperation) → state_own_answer other op t ≡ state_own_answer other op s
  answers_same operation.Value = refl
  answers_same (operation.Set w) = refl
  answers_same (operation.TryEmit w) = refl
  answers_same (operation.CompareAndSet a b) = refl
  answers_same operation.Subscribe = ap subscribe_answer sees_same
  answers_same operation.Next = ap (state_next_answer s.value) sees_same
  answers_same operation.Unsubscribe = ap unsubscribe_answer sees_same
  answers_same operation.SubscriptionCount = ap (λ (n : ℕ). Some (answer.Number n)) counts_same
  answers_same operation.ReplayCache = refl

  -- the state after a call that sets what is kept of the other caller
  set_apart : (kept : Option (Option ℕ)) → HasReceived v caller (with_reader other kept s) (with_reader other kept t)
  set_apart kept = (
    last,
    ap kept_in (get-set_else s.readers other caller kept (λ e. apart (sym e))) ∙ there,
    ap (λ (readers : Readers). record s { readers = readers }) (set_comm s.readers caller other (Some (Some v)) kept apart),
  )

  -- the state after a call that sets the value
  value_set : (w : ℕ) → HasReceived v caller (record s { value = w }) (record t { value = w })
  value_set w = (last, there, refl)

  unchanged : HasReceived v caller s t
  unchanged = (last, there, refl)

  stays_ahead : (op : StateOperation) → HasReceived v caller (state_moved other op s) (state_moved other op t)
  stays_ahead operation.Value = unchanged
  stays_ahead (operation.Set w) = value_set w
  stays_ahead (operation.TryEmit w) = value_set w
  stays_ahead (operation.CompareAndSet a b) = split (s.value == a) (λ c. HasReceived v caller (cond c (record s { value = b }) s) (cond c (record t { value = b }) t)) (λ _. value_set b) (λ _. unchanged)
  stays_ahead operation.Subscribe = set_apart (Some None)
  stays_ahead operation.Next = set_apart (Some (Some s.value))
  stays_ahead operation.Unsubscribe = set_apart None
  stays_ahead operation.SubscriptionCount = unchanged
  stays_ahead operation.ReplayCache = unchanged

  steps_ahead : (d : StateEntry) (after : StateKept) → state_stepped s other d ≡ Some after → (u : StateKept) × (state_stepped t other d ≡ Some u) × HasReceived v caller after u
  steps_ahead d after step =
      let told = cond_some (state_agrees (state_own_answer other d.operation s) d.answer) (state_moved other d.operation s) after step in (
        state_moved other d.operation t,
        ap (λ (b : Bool). cond b (Some (state_moved other d.operation t)) None) (ap (λ (a : Option StateAnswer). state_agrees a d.answer) (answers_same d.operation) ∙ told.0),
        subst (λ (x : StateKept). HasReceived v caller x (state_moved other d.operation t)) told.1 (stays_ahead d.operation),
      )

-- ---- private calls

module _ (s : StateKept) (caller : ℕ) where
  begins_by : (op : StateOperation) (written : Option StateAnswer) → state_private_by op written ≡ true → state_agrees (state_own_answer caller op s) written ≡ true → ahead_by op written caller s (state_moved caller op s)
  begins_by operation.Next (Some (answer.Value v)) own told = received s caller v told
  begins_by operation.Value written own told = same s caller operation.Value written own told
  begins_by (operation.Set w) written own told = same s caller (operation.Set w) written own told
  begins_by (operation.TryEmit w) written own told = same s caller (operation.TryEmit w) written own told
  begins_by (operation.CompareAndSet a b) written own told = same s caller (operation.CompareAndSet a b) written own told
  begins_by operation.Subscribe written own told = same s caller operation.Subscribe written own told
  begins_by operation.Unsubscribe written own told = same s caller operation.Unsubscribe written own told
  begins_by operation.SubscriptionCount written own told = same s caller operation.SubscriptionCount written own told
  begins_by operation.ReplayCache written own told = same s caller operation.ReplayCache written own told
  begins_by operation.Next None own told = same s caller operation.Next None own told
  begins_by operation.Next (Some answer.Done) own told = same s caller operation.Next (Some answer.Done) own told
  begins_by operation.Next (Some (answer.Truth b)) own told = same s caller operation.Next (Some (answer.Truth b)) own told
  begins_by operation.Next (Some answer.Empty) own told = same s caller operation.Next (Some answer.Empty) own told
  begins_by operation.Next (Some (answer.Number n)) own told = same s caller operation.Next (Some (answer.Number n)) own told

same_ahead : (s t after : StateKept) (other : ℕ) (d : StateEntry) → t ≡ s → state_stepped s other d ≡ Some after → (u : StateKept) × (state_stepped t other d ≡ Some u) × (u ≡ after)
same_ahead s t after other d is step = (after, subst (λ (x : StateKept). state_stepped x other d ≡ Some after) (sym is) step, refl)

keeps_by : (op : StateOperation) (written : Option StateAnswer) (s t after : StateKept) (caller other : ℕ) (d : StateEntry) → (caller ≡ other → ⊥) → ahead_by op written caller s t → state_stepped s other d ≡ Some after
    → (u : StateKept) × (state_stepped t other d ≡ Some u) × ahead_by op written caller after u
keeps_by operation.Next (Some (answer.Value v)) s t after caller other d apart ahead step =
    subst (λ (x : StateKept). (u : StateKept) × (state_stepped x other d ≡ Some u) × HasReceived v caller after u) (sym ahead.2) (steps_ahead s caller other v apart ahead.0 ahead.1 d after step)
keeps_by operation.Value written s t after caller other d apart ahead step = same_ahead s t after other d ahead step
keeps_by (operation.Set w) written s t after caller other d apart ahead step = same_ahead s t after other d ahead step
keeps_by (operation.TryEmit w) written s t after caller other d apart ahead step = same_ahead s t after other d ahead step
keeps_by (operation.CompareAndSet a b) written s t after caller other d apart ahead step = same_ahead s t after other d ahead step
keeps_by operation.Subscribe written s t after caller other d apart ahead step = same_ahead s t after other d ahead step
keeps_by operation.Unsubscribe written s t after caller other d apart ahead step = same_ahead s t after other d ahead step
keeps_by operation.SubscriptionCount written s t after caller other d apart ahead step = same_ahead s t after other d ahead step
keeps_by operation.ReplayCache written s t after caller other d apart ahead step = same_ahead s t after other d ahead step
keeps_by operation.Next None s t after caller other d apart ahead step = same_ahead s t after other d ahead step
keeps_by operation.Next (Some answer.Done) s t after caller other d apart ahead step = same_ahead s t after other d ahead step
keeps_by operation.Next (Some (answer.Truth b)) s t after caller other d apart ahead step = same_ahead s t after other d ahead step
keeps_by operation.Next (Some answer.Empty) s t after caller other d apart ahead step = same_ahead s t after other d ahead step
keeps_by operation.Next (Some (answer.Number n)) s t after caller other d apart ahead step = same_ahead s t after other d ahead step

ends_by : (op : StateOperation) (written : Option StateAnswer) (s t : StateKept) (caller : ℕ) → state_private_by op written ≡ true → ahead_by op written caller s t → state_agrees (state_own_answer caller op s) written ≡ true
    → state_moved caller op s ≡ t
ends_by operation.Next (Some (answer.Value v)) s t caller own ahead told = (received s caller v told).2 ∙ sym ahead.2
ends_by operation.Value written s t caller own ahead told = same s caller operation.Value written own told ∙ sym ahead
ends_by (operation.Set w) written s t caller own ahead told = same s caller (operation.Set w) written own told ∙ sym ahead
ends_by (operation.TryEmit w) written s t caller own ahead told = same s caller (operation.TryEmit w) written own told ∙ sym ahead
ends_by (operation.CompareAndSet a b) written s t caller own ahead told = same s caller (operation.CompareAndSet a b) written own told ∙ sym ahead
ends_by operation.Subscribe written s t caller own ahead told = same s caller operation.Subscribe written own told ∙ sym ahead
ends_by operation.Unsubscribe written s t caller own ahead told = same s caller operation.Unsubscribe written own told ∙ sym ahead
ends_by operation.SubscriptionCount written s t caller own ahead told = same s caller operation.SubscriptionCount written own told ∙ sym ahead
ends_by operation.ReplayCache written s t caller own ahead told = same s caller operation.ReplayCache written own told ∙ sym ahead
ends_by operation.Next None s t caller own ahead told = same s caller operation.Next None own told ∙ sym ahead
ends_by operation.Next (Some answer.Done) s t caller own ahead told = same s caller operation.Next (Some answer.Done) own told ∙ sym ahead
ends_by operation.Next (Some (answer.Truth b)) s t caller own ahead told = same s caller operation.Next (Some (answer.Truth b)) own told ∙ sym ahead
ends_by operation.Next (Some answer.Empty) s t caller own ahead told = same s caller operation.Next (Some answer.Empty) own told ∙ sym ahead
ends_by operation.Next (Some (answer.Number n)) s t caller own ahead told = same s caller operation.Next (Some (answer.Number n)) own told ∙ sym ahead

pub private_calls : ArePrivate state_stepped state_may_skip IsAlwaysSound is_state_private IsStateAhead
private_calls = record {
  begins = λ s t caller c sound own step.
      let told = cond_some (state_agrees (state_own_answer caller c.operation s) c.answer) (state_moved caller c.operation s) t step in
      subst (λ (x : StateKept). IsStateAhead caller c s x) told.1 (begins_by s caller c.operation c.answer own told.0);
  keeps = λ s t after caller other c d apart sound own ahead step. elim step [
    | inl made ↦ let then = keeps_by c.operation c.answer s t after caller other d apart ahead made in (then.0, inl then.1, then.2)
    | inr skipped ↦ absurd (false≢true skipped.0)
  ];
  ends = λ s t after caller c sound own ahead step. elim step [
    | inl made ↦
        let told = cond_some (state_agrees (state_own_answer caller c.operation s) c.answer) (state_moved caller c.operation s) after made in
        sym told.1 ∙ ends_by c.operation c.answer s t caller own ahead told.0
    | inr skipped ↦ absurd (false≢true skipped.0)
  ];
}
