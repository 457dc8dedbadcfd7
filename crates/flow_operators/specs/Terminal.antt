-- What the terminal operators return, by the list of a chain's items and by its ending.
--   items and ending       fold (+) 0    reduce (+)       first          last           single         count        any even     all even
--   [1, 2], Completed      Ok 3          Ok (Some 3)      Ok (Some 1)    Ok (Some 2)    Ok None        Ok 2         Ok true      Ok false
--   [1, 2], Failed fault   Err fault     Err fault        Ok (Some 1)    Err fault      Ok None        Err fault    Ok true      Ok false
--   [2], Completed         Ok 2          Ok (Some 2)      Ok (Some 2)    Ok (Some 2)    Ok (Some 2)    Ok 1         Ok true      Ok true
--   [], Completed          Ok 0          Ok None          Ok None        Ok None        Ok None        Ok 0         Ok false     Ok true
--   [], Failed fault       Err fault, for each
-- Each may return out of memory instead (`Follows`).
use Rattle.std.specs.Prelude.{◌≡◌, ◌⊎◌, ℕ, ◌^◌, nat_lt, Bool, true, false, not, cond, List, [], ◌∷◌, length, Option, Some, None, Result, Ok, Err}
use Rattle.std.specs.List.{list_all, list_any}
use Rattle.flow_law.specs.declared.chain.ChainFault.{ChainFault}
use Rattle.flow_law.specs.declared.chain.ChainFault.TheVariants.{OutOfMemory, Overflow}
use Rattle.flow_law.specs.declared.chain.End.{End}
use Rattle.flow_law.specs.declared.chain.End.TheVariants.{Completed, Failed}
use Rattle.flow_law.specs.chain.ChainRun.{ChainRun, ends, items, ending}
use Rattle.flow_operators.specs.Closures.{Follows}

-- the result is `meant` of the run's items and its ending, or out of memory
abbrev pub FollowsRun : {A B : Type 0} → (List A → End → Result B ChainFault) → ChainRun A → Result B ChainFault → Type 0
FollowsRun meant run result = Follows (meant (items run) (ending run)) result

-- x if the chain completed, else its fault
abbrev pub at_ending : {T : Type 0} → T → End → Result T ChainFault
at_ending x Completed = Ok x
at_ending x (Failed fault) = Err fault

-- k of the closure's value, or the closure's fault
abbrev pub proceeding : {B C : Type 0} → Result B ChainFault → (B → Result C ChainFault) → Result C ChainFault
proceeding (Ok y) k = k y
proceeding (Err fault) k = Err fault

-- the last result of a `fold`: f makes each of the one before and an item
abbrev pub folded : {A B : Type 0} → (B × A → Result B ChainFault) → B → List A → End → Result B ChainFault
folded f last [] e = at_ending last e
folded f last (x ∷ xs) e = proceeding (f (last, x)) (λ y. folded f y xs e)

-- the last result of a `reduce`, whose first result is the first item; None if the chain has no item
abbrev pub reduced_to : {A : Type 0} → (A × A → Result A ChainFault) → List A → End → Result (Option A) ChainFault
reduced_to f [] e = at_ending None e
reduced_to f (x ∷ xs) e = proceeding (folded f x xs e) (λ y. Ok (Some y))

-- the first item, whatever follows it
abbrev pub first_of : {A : Type 0} → List A → End → Result (Option A) ChainFault
first_of [] e = at_ending None e
first_of (x ∷ xs) e = Ok (Some x)

-- the last of the items, or `last` if the list is empty
abbrev pub last_after : {A : Type 0} → Option A → List A → End → Result (Option A) ChainFault
last_after last [] e = at_ending last e
last_after last (x ∷ xs) e = last_after (Some x) xs e

-- the last item
abbrev pub last_of : {A : Type 0} → List A → End → Result (Option A) ChainFault
last_of xs e = last_after None xs e

-- the only item; None if the chain has no item or a second one
abbrev pub single_of : {A : Type 0} → List A → End → Result (Option A) ChainFault
single_of [] e = at_ending None e
single_of (x ∷ []) e = at_ending (Some x) e
single_of (x ∷ y ∷ xs) e = Ok None

-- the number of items; Overflow if it needs more than 64 bits
abbrev pub counted : {A : Type 0} → List A → End → Result ℕ ChainFault
counted xs e = cond (nat_lt (length xs) (2 ^ 64)) (at_ending (length xs) e) (Err Overflow)

-- whether an item passes; if one does, the ending does not matter
abbrev pub any_of : {A : Type 0} → (A → Bool) → List A → End → Result Bool ChainFault
any_of test xs e = cond (list_any test xs) (Ok true) (at_ending false e)

-- whether all items pass; if one fails, the ending does not matter
abbrev pub all_of : {A : Type 0} → (A → Bool) → List A → End → Result Bool ChainFault
all_of test xs e = cond (list_all test xs) (at_ending true e) (Ok false)

-- a call of the closure may answer the fault; `post` says what a call may answer
abbrev pub CallFails : {A B C : Type 0} → (A → B → Result C ChainFault → Type 0) → ChainFault → Type 0
CallFails {A} {B} post fault = (x : A) × (y : B) × post x y (Err fault)

-- a call of a closure that changes may answer the fault: f at an item x, and f becomes g
abbrev pub VisitFails : {A F : Type 0} → (F → A → Result (Unit {0}) ChainFault → F → Type 0) → ChainFault → Type 0
VisitFails {A} {F} step fault = (f : F) × (x : A) × (g : F) × step f x (Err fault) g

-- f is called at each item, in order, up to its first fault; `step` says what a call answers, and what f becomes
abbrev pub Visits : {A F : Type 0} → (F → A → Result (Unit {0}) ChainFault → F → Type 0) → F → List A → End → Result (Unit {0}) ChainFault → Type 0
Visits step f [] e result = Follows (at_ending tt e) result
Visits {F = F} step f (x ∷ xs) e result =
    (result ≡ Err OutOfMemory)
    ⊎ ((g : F) × step f x (Ok tt) g × Visits step g xs e result)
    ⊎ ((fault : ChainFault) × (g : F) × step f x (Err fault) g × (result ≡ Err fault))

-- the next item, or the end if the chain has no item left; pending turns are skipped
abbrev pub GivesItem : {T : Type 0} → ChainRun T → Result (Option T) ChainFault → ChainRun T → Type 0
GivesItem before (Ok (Some x)) after = (items before ≡ x ∷ items after) × (ending before ≡ ending after)
GivesItem before (Ok None) after = (items before ≡ []) × (ending before ≡ Completed) × (after ≡ ends Completed)
GivesItem before (Err fault) after = (((items before ≡ []) × (ending before ≡ Failed fault)) ⊎ (fault ≡ OutOfMemory)) × (after ≡ ends Completed)

-- P if there was no item
abbrev pub OnNoItem : {T : Type 0} → Result (Option T) ChainFault → Type 0 → Type 0
OnNoItem (Ok (Some x)) P = Unit {0}
OnNoItem (Ok None) P = P
OnNoItem (Err fault) P = P

-- whether `find` looks for x: for items that pass if `wanted` is true, else for items that fail
abbrev pub sought : {A : Type 0} → Bool → (A → Bool) → A → Bool
sought wanted test x = cond wanted (test x) (not (test x))
