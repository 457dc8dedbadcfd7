-- Looks at a shared flow change nothing, in states that keep the values that are needed. Begin with `kept` and `looks`.
use Rattle.std.proofs.Common.{◌≡◌, ℕ, suc, zero, ◌+◌, ◌-◌, ◌<◌, ◌≤◌, Bool, true, false, not, ◌==◌, cond, List, [], ◌∷◌, ◌++◌, length, drop, map, set, Option, Some, None, refl, sym, ap, ◌∙◌, subst, arith, eq-eqb}
use Rattle.std.specs.Prelude.{max, min, filter, slice_get}
use Rattle.std.proofs.lemmas.Bool.{false≢true, cond-true}
use Rattle.std.proofs.lemmas.List.{length-drop, length-append}
use Rattle.std.proofs.lemmas.Option.{cond_some, slice_get-get_or}
use Rattle.flow_law.proofs.Rows.{split}
use Rattle.flow_law.proofs.CoveringLemmas.{slice_get-drop}
use Rattle.flow_check.specs.declared.shared_machine.Held.{Held}
use Rattle.flow_check.specs.declared.shared_machine.EmitCase.{EmitCase}
use Rattle.flow_check.specs.declared.shared_machine.EmitCase.TheVariants as emits
use Rattle.flow_check.specs.declared.shared_calls.SharedOperation.{SharedOperation}
use Rattle.flow_check.specs.declared.shared_calls.SharedOperation.TheVariants as operation
use Rattle.flow_check.specs.declared.shared_calls.SharedAnswer.{SharedAnswer}
use Rattle.flow_check.specs.declared.shared_calls.SharedAnswer.TheVariants as answer
use Rattle.flow_check.specs.declared.shared_calls.SharedEntry.{SharedEntry}
use Rattle.flow_law.specs.declared.config.Config.{Config}
use Rattle.flow_check.specs.Records.{CallsByCaller}
use Rattle.flow_check.specs.Looks.{IsKept, OnlyLooks}
use Rattle.flow_check.specs.Subscribed.{kept_of, none_subscribed}
use Rattle.flow_check.specs.SharedMachine.{Kept, tested, agrees, own_answer, own_left, most_lag, raised, cleared, kept_window, is_kept_blocked, offering, is_caller_waiting, is_offered_by, last_values, value_at, next_answer, next_value, emitted_answer, first_lag, lag_at_first, with_lag, with_own_kept, append_kept, admit_kept, settle_kept, hold, kept_emit_case, emit_in_kept, try_emit_in_kept, try_emit_answer, withdraw_kept, cancel_kept, receive_by, receive, made_kept, trim, stepped}
use Rattle.flow_check.specs.SharedLooks.{looks_by, is_look, HasValues, KeepsWhatIsNeeded}
use Rattle.flow_check.proofs.LagLemmas.{lag_upto, most_raised, most_cleared, most-set, most-set_none}
use Rattle.flow_check.proofs.QueueLemmas.{kept_same}
use Rattle.flow_check.proofs.SharedJudging.{begun}

-- ---- the values that are needed stay

append_has : (caller v : ℕ) (s : Kept) → HasValues s → HasValues (append_kept caller v s)
append_has caller v s has =
    let count = length-append s.values (v ∷ []) in
    let most = most_raised (kept_window s) s.lags in
    let lags = has.0 in
    let cached = has.1 in
    (omega arith, omega arith)

admit_has : (s : Kept) (queue : List Held) → HasValues s → HasValues (admit_kept s queue)
admit_has s [] has = has
admit_has s (h ∷ queue) has = split (is_kept_blocked s) (λ b. HasValues (cond b (record s { queue = h ∷ queue }) (admit_kept (append_kept h.caller h.value s) queue)))
    (λ _. has) (λ _. admit_has (append_kept h.caller h.value s) queue (append_has h.caller h.value s has))

settle_has : (s : Kept) → HasValues s → HasValues (settle_kept s)
settle_has s has = admit_has s s.queue has

emit_has : (kind : EmitCase) (caller v : ℕ) (s : Kept) → HasValues s → HasValues (emit_in_kept kind caller v s)
emit_has emits.Appends caller v s has = append_has caller v s has
emit_has emits.Offers caller v s has = append_has caller v s has
emit_has emits.Queues caller v s has = has
emit_has emits.DropsLatest caller v s has = has
emit_has emits.DropsOldest caller v s has = append_has caller v s has

try_emit_has : (kind : EmitCase) (caller v : ℕ) (s : Kept) → HasValues s → HasValues (try_emit_in_kept kind caller v s)
try_emit_has emits.Appends caller v s has = append_has caller v s has
try_emit_has emits.Offers caller v s has = has
try_emit_has emits.Queues caller v s has = has
try_emit_has emits.DropsLatest caller v s has = has
try_emit_has emits.DropsOldest caller v s has = append_has caller v s has

withdraw_has : (caller : ℕ) (s : Kept) → HasValues s → HasValues (withdraw_kept caller s)
withdraw_has caller s has = split (is_offered_by caller (offering s)) (λ b. HasValues (cond b (record s { lags = map cleared s.lags }) (record s { queue = filter (λ held. not (held.caller == caller)) s.queue })))
    (λ _. let none = most_cleared s.lags in (omega arith, has.1)) (λ _. has)

cancel_has : (caller : ℕ) (s : Kept) → HasValues s → HasValues (cancel_kept caller s)
cancel_has caller s has = split (is_caller_waiting caller s) (λ b. HasValues (cond b (settle_kept (withdraw_kept caller s)) s))
    (λ _. settle_has (withdraw_kept caller s) (withdraw_has caller s has)) (λ _. has)

-- the state still has the values that are needed, with a lag of at most as many values as it has
lag_has : (caller lag : ℕ) (s : Kept) → HasValues s → lag ≤ length s.values → HasValues (with_lag caller (Some lag) s)
lag_has caller lag s has upto = let most = most-set s.lags caller lag in let lags = has.0 in (omega arith, has.1)

no_lag_has : (caller : ℕ) (s : Kept) → HasValues s → HasValues (with_lag caller None s)
no_lag_has caller s has = let most = most-set_none s.lags caller in let lags = has.0 in (omega arith, has.1)

first_upto : (s : Kept) → HasValues s → first_lag s ≤ length s.values
first_upto s has = split (most_lag s.lags == 0) (λ b. (most_lag s.lags == 0) ≡ b → lag_at_first s.cached (cond b None s.offered) ≤ length s.values)
    (λ _ _. has.1) (λ _ e. at s.offered e) refl
  where
    at : (o : Option ℕ) → (most_lag s.lags == 0) ≡ false → lag_at_first s.cached o ≤ length s.values
    at None e = has.1
    at (Some caller) e = let lags = has.0 in some_upto (most_lag s.lags) e lags
      where
        some_upto : (n : ℕ) → (n == 0) ≡ false → n ≤ length s.values → 1 ≤ length s.values
        some_upto zero e upto = absurd (false≢true (sym e))
        some_upto (suc n) e upto = omega arith

receive_has : (caller : ℕ) (own : List ℕ) (lag : Option ℕ) (s : Kept) → kept_of caller s.lags ≡ lag → HasValues s → HasValues (receive_by caller own lag s)
receive_has caller (v ∷ own) lag s e has = has
receive_has caller [] None s e has = has
receive_has caller [] (Some lag) s e has = split (lag == 0) (λ b. HasValues (cond b s (settle_kept (with_lag caller (Some (lag - 1)) s))))
    (λ _. has)
    (λ _. let low = lag_upto s.lags caller lag e in
    let lags = has.0 in
    let upto : lag - 1 ≤ length s.values = omega arith in
    settle_has (with_lag caller (Some (lag - 1)) s) (lag_has caller (lag - 1) s has upto))

made_has : (caller : ℕ) (op : SharedOperation) (s : Kept) → HasValues s → HasValues (made_kept caller op s)
made_has caller (operation.TryEmit v) s has = try_emit_has (kept_emit_case s) caller v s has
made_has caller (operation.Emit v) s has = emit_has (kept_emit_case s) caller v s has
made_has caller (operation.EmitOrNot v) s has = emit_has (kept_emit_case s) caller v s has
made_has caller operation.EmitReturned s has = has
made_has caller operation.EmitCancelled s has = cancel_has caller s has
made_has caller (operation.Subscribe own) s has = lag_has caller (first_lag s) s has (first_upto s has)
made_has caller operation.Next s has = receive_has caller (own_left caller s.owns) (kept_of caller s.lags) s refl has
made_has caller operation.Unsubscribe s has = settle_has (with_own_kept caller [] (with_lag caller None s)) (no_lag_has caller s has)
made_has caller operation.ReplayCache s has = has
made_has caller operation.ResetReplayCache s has = (has.0, omega arith)
made_has caller operation.SubscriptionCount s has = has

-- ---- a state without other values

abbrev needed : Kept → ℕ
needed s = max (most_lag s.lags) s.cached

last_length : (count : ℕ) (values : List ℕ) → count ≤ length values → length (last_values count values) ≡ count
last_length count values upto = length-drop (length values - count) values ∙ omega arith

last_again : (count : ℕ) (values : List ℕ) → length values ≡ count → last_values count values ≡ values
last_again count values e = let none : length values - count ≡ 0 = omega arith in ap (λ (n : ℕ). drop n values) none

offered_again : (s : Kept) → offering (trim s) ≡ offering s
offered_again s = split (most_lag s.lags == 0) (λ b. cond b None (cond b None s.offered) ≡ cond b None s.offered) (λ _. refl) (λ _. refl)

pub trim_sound : (s : Kept) → HasValues s → KeepsWhatIsNeeded (trim s)
trim_sound s has =
    let lags = has.0 in
    let cached = has.1 in
    let upto : needed s ≤ length s.values = omega arith in
    let count = last_length (needed s) s.values upto in (
      (omega arith, omega arith),
      kept_same (trim (trim s)) (trim s) refl (last_again (needed s) (last_values (needed s) s.values) count) refl refl refl refl (offered_again s),
    )

pub kept : IsKept stepped KeepsWhatIsNeeded
kept s after caller entry sound step =
    let told = cond_some (agrees (own_answer caller entry.operation s) entry.answer) (trim (made_kept caller entry.operation s)) after step in
    subst KeepsWhatIsNeeded told.1 (trim_sound (made_kept caller entry.operation s) (made_has caller entry.operation s sound.0))

-- the state before any call
pub begun_sound : (callers : CallsByCaller SharedEntry) (config : Config) → KeepsWhatIsNeeded (begun callers config)
begun_sound callers config =
    let none = none_most callers in
    let state = begun callers config in (
      (omega arith, omega arith),
      kept_same (trim state) state refl (drop_none (0 - needed state)) refl refl refl refl (split (most_lag state.lags == 0) (λ b. cond b None state.offered ≡ state.offered) (λ _. refl) (λ _. refl)),
    )
  where
    none_most : {C : Type 0} (cs : List C) → most_lag (none_subscribed cs) ≡ 0
    none_most [] = refl
    none_most (c ∷ cs) = none_most cs

    drop_none : (n : ℕ) → drop {A = ℕ} n [] ≡ []
    drop_none zero = refl
    drop_none (suc n) = refl

-- ---- looks

not_taken : (s : Kept) (kind : EmitCase) (caller v : ℕ) (taken : Bool) → not taken ≡ true → agrees (Some (tested (try_emit_answer kind))) (Some (answer.Truth taken)) ≡ true → try_emit_in_kept kind caller v s ≡ s
not_taken s kind caller v true e told = absurd (false≢true e)
not_taken s emits.Appends caller v false e told = absurd (false≢true told)
not_taken s emits.Offers caller v false e told = refl
not_taken s emits.Queues caller v false e told = refl
not_taken s emits.DropsLatest caller v false e told = absurd (false≢true told)
not_taken s emits.DropsOldest caller v false e told = absurd (false≢true told)

-- a subscriber that receives nothing has nothing to receive
none_there : (lag : ℕ) (values : List ℕ) → lag ≤ length values → value_at lag values ≡ None → lag ≡ 0
none_there zero values upto e = refl
none_there (suc lag) values upto e =
    let low : length values - suc lag < length values = omega arith in
    let there = slice_get-get_or values (length values - suc lag) 0 low in
    absurd (cc (sym e ∙ slice_get-drop (length values - suc lag) values ∙ there))

found_nothing : (o : Option ℕ) → agrees (Some (emitted_answer o)) (Some answer.Empty) ≡ true → o ≡ None
found_nothing None told = refl
found_nothing (Some v) told = absurd (false≢true told)

nothing_received : (s : Kept) (caller : ℕ) (own : List ℕ) (lag : Option ℕ) → HasValues s → kept_of caller s.lags ≡ lag → agrees (next_answer own lag s.values) (Some answer.Empty) ≡ true → receive_by caller own lag s ≡ s
nothing_received s caller own None has e told = absurd (false≢true told)
nothing_received s caller (v ∷ own) (Some lag) has e told = absurd (false≢true told)
nothing_received s caller [] (Some lag) has e told =
    let low = lag_upto s.lags caller lag e in
    let lags = has.0 in
    let none = none_there lag s.values (omega arith) (found_nothing (value_at lag s.values) told) in
    cond-true (lag == 0) s (settle_kept (with_lag caller (Some (lag - 1)) s)) (eq-eqb lag 0 none)

same : (s : Kept) (caller : ℕ) (op : SharedOperation) (written : Option SharedAnswer) → HasValues s → looks_by op written ≡ true → agrees (own_answer caller op s) written ≡ true → made_kept caller op s ≡ s
same s caller operation.EmitReturned written has look told = refl
same s caller operation.ReplayCache written has look told = refl
same s caller operation.SubscriptionCount written has look told = refl
same s caller (operation.TryEmit v) (Some (answer.Truth taken)) has look told = not_taken s (kept_emit_case s) caller v taken look told
same s caller operation.Next (Some answer.Empty) has look told = nothing_received s caller (own_left caller s.owns) (kept_of caller s.lags) has refl told
same s caller _ _ has look told = absurd (false≢true look)

pub looks : OnlyLooks stepped KeepsWhatIsNeeded is_look
looks s after caller entry sound look step =
    let told = cond_some (agrees (own_answer caller entry.operation s) entry.answer) (trim (made_kept caller entry.operation s)) after step in
    sym told.1 ∙ ap trim (same s caller entry.operation entry.answer sound.0 look told.0) ∙ sound.1
