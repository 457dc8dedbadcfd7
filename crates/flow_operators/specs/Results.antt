-- The rest of a `scan`, by its upstream, its initial value and its last result.
use Rattle.std.specs.Prelude.{◌≡◌, ◌⊎◌, ◌+◌, ℕ, Bool, true, false, Option, Some, Result, Ok, Err}
use Rattle.flow_law.specs.declared.chain.ChainFault.{ChainFault}
use Rattle.flow_law.specs.declared.chain.ChainFault.TheVariants.{OutOfMemory}
use Rattle.flow_law.specs.chain.ChainRun.{ChainRun, gives}
use Rattle.flow_operators.specs.declared.cold.Asked.{Asked}
use Rattle.flow_operators.specs.declared.cold.Asked.TheVariants.{Item, Pending, End as Ended, Fault}
use Rattle.flow_operators.specs.declared.operators.results.Results.{Results}
use Rattle.flow_operators.specs.Asking.{AskGives}
use Rattle.flow_operators.specs.Behind.{Leaves, after_scan}
use Rattle.flow_operators.specs.Kept.{unless_ended, has_begun, scan_rest}

-- n, or 0 if the scan has begun
abbrev pub unless_begun : Bool → ℕ → ℕ
unless_begun true n = 0
unless_begun false n = n

module _ {C U : Type 0} where
  -- the chain that is scanned
  abbrev pub scanned : Results C U → C
  scanned s = s.upstream.chain

  -- the initial value
  abbrev pub initial_of : Results C U → U
  initial_of s = s.initial

  -- the last result, if one was emitted
  abbrev pub last_result : Results C U → Option U
  last_result s = s.last

  -- the scan has ended
  abbrev pub is_scan_over : Results C U → Bool
  is_scan_over s = s.upstream.ended

  -- how often the scan can be asked: as often as its upstream, and once more before it has emitted its initial value
  abbrev pub most_results : (C → ℕ) → Results C U → ℕ
  most_results most s = most s.upstream.chain + unless_begun (has_begun s.last) 1

  -- what the closure made of an item is the answer, and also the last result; the scan may have failed with `OutOfMemory`
  abbrev pub KeepsResult : Result U ChainFault → Asked U → Results C U → Type 0
  KeepsResult made (Item y) new = (made ≡ Ok y) × (new.last ≡ Some y) × (new.upstream.ended ≡ false)
  KeepsResult made Pending new = ⊥
  KeepsResult made Ended new = ⊥
  KeepsResult made (Fault fault) new = ((made ≡ Err fault) ⊎ (fault ≡ OutOfMemory)) × (new.upstream.ended ≡ true)

module _ {C A U : Type 0} (rest : C → ChainRun A) where
  -- the rest of the scan
  abbrev pub results_rest : (U × A → Result U ChainFault) → Results C U → ChainRun U
  results_rest f s = unless_ended s.upstream.ended (scan_rest f s.initial s.last (rest s.upstream.chain))

  -- the last result and the next item, or the answer of the scan in place of them (its initial value is one), whatever function it
  -- applies to them
  abbrev pub ResultGives : Results C U → Result (U × A) (Asked U) → Results C U → Type 0
  ResultGives old (Ok pair) new =
      (old.upstream.ended ≡ false) × (new.upstream.ended ≡ false)
      × (old.last ≡ Some pair.0) × (rest old.upstream.chain ≡ gives pair.1 (rest new.upstream.chain))
  ResultGives old (Err asked) new =
      (f : U × A → Result U ChainFault) → AskGives (results_rest f old) asked (results_rest f new)

  -- what one ask takes from the upstream
  abbrev pub AsksScanned : Results C U → Asked U → Results C U → Type 0
  AsksScanned old asked new = Leaves (after_scan (has_begun old.last) (rest old.upstream.chain)) asked (rest new.upstream.chain)
