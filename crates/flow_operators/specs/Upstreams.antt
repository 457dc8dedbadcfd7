-- The upstream of an operator: a chain, and whether the operator has ended. Begin with `left_of` and `NextGives`.
use Rattle.std.specs.Prelude.{◌≡◌, ◌⊎◌, Bool, true, false, Result, Ok, Err}
use Rattle.flow_law.specs.declared.chain.ChainFault.{ChainFault}
use Rattle.flow_law.specs.declared.chain.ChainFault.TheVariants.{OutOfMemory}
use Rattle.flow_law.specs.declared.chain.End.TheVariants.{Completed, Failed}
use Rattle.flow_law.specs.chain.ChainRun.{ChainRun, gives, pends, ends}
use Rattle.flow_operators.specs.declared.cold.Asked.{Asked}
use Rattle.flow_operators.specs.declared.cold.Asked.TheVariants.{Item, Pending, End as Ended, Fault}
use Rattle.flow_operators.specs.declared.upstream.Upstream.{Upstream}
use Rattle.flow_operators.specs.Behind.{AsksOnce}
use Rattle.flow_operators.specs.Kept.{unless_ended}

module _ {C : Type 0} where
  -- the upstream chain
  abbrev pub chain_of : Upstream C → C
  chain_of u = u.chain

  -- the operator has ended
  abbrev pub is_ended : Upstream C → Bool
  is_ended u = u.ended

  -- the rest of the chain's run; nothing if the operator has ended
  abbrev pub left_of : {T : Type 0} → (C → ChainRun T) → Upstream C → ChainRun T
  left_of rest u = unless_ended u.ended (rest u.chain)

  -- the operator asks the chain once
  abbrev pub AsksUpstream : {A B : Type 0} → (C → ChainRun A) → Upstream C → Asked B → Upstream C → Type 0
  AsksUpstream rest old result new = AsksOnce (rest old.chain) result (rest new.chain)

-- the chain's answer is no item, and the operator passes it on
abbrev pub PassesOn : {A B : Type 0} → ChainRun A → Asked B → ChainRun A → Type 0
PassesOn before (Item y) after = ⊥
PassesOn before Pending after = before ≡ pends after
PassesOn before Ended after = (before ≡ ends Completed) × (after ≡ ends Completed)
PassesOn before (Fault fault) after = ((before ≡ ends (Failed fault)) ⊎ (fault ≡ OutOfMemory)) × (after ≡ ends Completed)

-- the chain's next item, or its answer if that is no item
abbrev pub NextGives : {A B : Type 0} → ChainRun A → Result A (Asked B) → ChainRun A → Type 0
NextGives before (Ok x) after = before ≡ gives x after
NextGives before (Err asked) after = PassesOn before asked after

-- P of the answer; if there is an item instead, P of every answer, as the operator may make any of it
abbrev pub WithAnswer : {A B : Type 0} → Result A (Asked B) → (Asked B → Type 0) → Type 0
WithAnswer {B = B} (Ok x) P = (asked : Asked B) → P asked
WithAnswer (Err asked) P = P asked

-- what an operator made of an item, as an answer
abbrev pub answer_of : {B : Type 0} → Result B ChainFault → Asked B
answer_of (Ok y) = Item y
answer_of (Err fault) = Fault fault

-- the result is a fault
abbrev pub is_fault : {B : Type 0} → Result B ChainFault → Bool
is_fault (Ok y) = false
is_fault (Err fault) = true
