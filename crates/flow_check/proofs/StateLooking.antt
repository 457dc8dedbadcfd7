-- Looks at a state flow change nothing. Begin with `looks`.
use Rattle.std.proofs.Common.{◌≡◌, ℕ, suc, zero, Bool, true, false, not, ◌==◌, cond, List, [], ◌∷◌, set, Option, Some, None, refl, sym, ap, ◌∙◌}
use Rattle.std.proofs.lemmas.Bool.{false≢true, cond-false}
use Rattle.std.proofs.lemmas.Bool.Decides.{Decides-eqb}
use Rattle.std.proofs.lemmas.Option.{cond_some}
use Rattle.flow_law.proofs.Rows.{split}
use Rattle.flow_check.specs.declared.state_calls.StateOperation.{StateOperation}
use Rattle.flow_check.specs.declared.state_calls.StateOperation.TheVariants as operation
use Rattle.flow_check.specs.declared.state_calls.StateAnswer.{StateAnswer}
use Rattle.flow_check.specs.declared.state_calls.StateAnswer.TheVariants as answer
use Rattle.flow_check.specs.Looks.{IsKept, OnlyLooks}
use Rattle.flow_check.specs.Subscribed.{kept_of}
use Rattle.flow_check.specs.StateMachine.{StateKept, reader_of, state_next_answer, state_own_answer, state_agrees, state_moved, state_stepped}
use Rattle.flow_check.specs.StateLooks.{state_looks_by, is_state_look, IsAlwaysSound}

pub kept : IsKept state_stepped IsAlwaysSound
kept s after caller c sound step = tt

-- what is kept of a caller, set again
set_again : (xs : List (Option (Option ℕ))) (i : ℕ) (x : Option (Option ℕ)) → kept_of i xs ≡ x → set xs i x ≡ xs
set_again [] i x e = refl
set_again (y ∷ xs) zero x e = ap (λ (z : Option (Option ℕ)). z ∷ xs) (sym e)
set_again (y ∷ xs) (suc i) x e = ap (λ (zs : List (Option (Option ℕ))). y ∷ zs) (set_again xs i x e)

not_true : (b : Bool) → not b ≡ true → b ≡ false
not_true true e = absurd (false≢true e)
not_true false e = refl

-- an exchange that failed
failed : (s : StateKept) (a b : ℕ) (succeeded : Bool) → not succeeded ≡ true → state_agrees (Some (answer.Truth (s.value == a))) (Some (answer.Truth succeeded)) ≡ true
    → cond (s.value == a) (record s { value = b }) s ≡ s
failed s a b true e told = absurd (false≢true e)
failed s a b false e told = cond-false (s.value == a) (record s { value = b }) s (not_true (s.value == a) (
    split (s.value == a) (λ t. cond t false (not false) ≡ true → not t ≡ true) (λ _ h. h) (λ _ h. h) told))

-- a caller that receives nothing has received the current value
found_nothing : (v : ℕ) (o : Option (Option ℕ)) → state_agrees (state_next_answer v o) (Some answer.Empty) ≡ true → o ≡ Some (Some v)
found_nothing v None told = absurd (false≢true told)
found_nothing v (Some None) told = absurd (false≢true told)
found_nothing v (Some (Some last)) told = split (last == v) (λ t. (last == v) ≡ t → state_agrees (Some (cond t answer.Empty (answer.Value v))) (Some answer.Empty) ≡ true → Some (Some last) ≡ Some (Some v))
    (λ _ is _. ap (λ (n : ℕ). Some (Some n)) ((Decides-eqb last v).0 is)) (λ _ _ h. absurd (false≢true h)) refl told

pub same : (s : StateKept) (caller : ℕ) (op : StateOperation) (written : Option StateAnswer) → state_looks_by op written ≡ true → state_agrees (state_own_answer caller op s) written ≡ true → state_moved caller op s ≡ s
same s caller operation.Value written look told = refl
same s caller operation.SubscriptionCount written look told = refl
same s caller operation.ReplayCache written look told = refl
same s caller (operation.CompareAndSet a b) (Some (answer.Truth succeeded)) look told = failed s a b succeeded look told
same s caller operation.Next (Some answer.Empty) look told =
    ap (λ (readers : List (Option (Option ℕ))). record s { readers = readers })
    (set_again s.readers caller (Some (Some s.value)) (found_nothing s.value (reader_of caller s.readers) told))
same s caller _ _ look told = absurd (false≢true look)

pub looks : OnlyLooks state_stepped IsAlwaysSound is_state_look
looks s after caller entry sound look step =
    let told = cond_some (state_agrees (state_own_answer caller entry.operation s) entry.answer) (state_moved caller entry.operation s) after step in
    sym told.1 ∙ same s caller entry.operation entry.answer look told.0
