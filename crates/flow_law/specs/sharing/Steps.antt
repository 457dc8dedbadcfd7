-- A program of calls, each chosen by the answers to the calls before it, with a result at the end.
-- It is defined once as a tree, which is read in two ways. `Takes` says that its calls may lead from one state to another with
-- this result; `plays` computes the result and the state if a function answers the calls.
use Rattle.std.specs.Prelude.{◌≡◌}

-- a tree of calls; `Answer c` is the type of answers to the call c
pub data Steps (C : Type 0) (Answer : C → Type 0) (R : Type 0) : Type 0 where
  answers : R → Steps C Answer R
  calls : (c : C) → (Answer c → Steps C Answer R) → Steps C Answer R

-- a result, and the state after it
pub record After (R S : Type 0) : Type 0 where
  pub result : R
  pub state : S

module _ {C : Type 0} {Answer : C → Type 0} {R S : Type 0} where
  -- the steps may lead from `old` to `new` with this result, if `does` says what a call may answer in a state, and the state after it
  abbrev pub Takes : ((c : C) → S → Answer c → S → Type 0) → Steps C Answer R → S → R → S → Type 0
  Takes does (answers r) old result new = (result ≡ r) × (new ≡ old)
  Takes does (calls c next) old result new = (a : Answer c) × (s : S) × does c old a s × Takes does (next a) s result new

  -- the result of all steps, and the state after them, if `reply` answers each call
  abbrev pub plays : ((c : C) → S → After (Answer c) S) → Steps C Answer R → S → After R S
  plays reply (answers r) s = record { result = r; state = s }
  plays reply (calls c next) s = plays reply (next (reply c s).result) (reply c s).state
