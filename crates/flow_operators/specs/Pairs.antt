-- The rest of a `zip`, by its two sides and the left item that it keeps. L and R are the types of the chains, A and B those of their items.
use Rattle.std.specs.Prelude.{◌≡◌, ◌+◌, ℕ, Bool, false, Result, Ok, Err}
use Rattle.flow_law.specs.declared.chain.ChainFault.{ChainFault}
use Rattle.flow_law.specs.chain.ChainRun.{ChainRun, gives}
use Rattle.flow_law.specs.chain.OperatorRuns.{zip_run}
use Rattle.flow_operators.specs.declared.cold.Asked.{Asked}
use Rattle.flow_operators.specs.declared.operators.pairs.Pairs.{Pairs}
use Rattle.flow_operators.specs.Asking.{AskGives}
use Rattle.flow_operators.specs.Behind.{AsksLeft, AsksRight}
use Rattle.flow_operators.specs.Kept.{unless_ended, with_kept}

module _ {L R A : Type 0} where
  -- the chain on the left side
  abbrev pub left_chain : Pairs L R A → L
  left_chain p = p.left.chain

  -- the chain on the right side
  abbrev pub right_chain : Pairs L R A → R
  right_chain p = p.right

  -- the zip has ended
  abbrev pub is_zip_over : Pairs L R A → Bool
  is_zip_over p = p.left.ended

  -- how often the two sides can be asked, together
  abbrev pub most_pairs : (L → ℕ) → (R → ℕ) → Pairs L R A → ℕ
  most_pairs left right p = left p.left.chain + right p.right

  -- the rest of the left side, with the kept item first
  abbrev pub left_side : (L → ChainRun A) → Pairs L R A → ChainRun A
  left_side rest p = with_kept p.kept (rest p.left.chain)

module _ {L R A B C : Type 0} (left : L → ChainRun A) (right : R → ChainRun B) where
  -- the rest of the zip
  abbrev pub pairs_rest : (A × B → Result C ChainFault) → Pairs L R A → ChainRun C
  pairs_rest f p = unless_ended p.left.ended (zip_run f (left_side left p) (right p.right))

  -- the next pair, or the answer of the zip if it has no pair, whatever function it applies to pairs
  abbrev pub PairGives : Pairs L R A → Result (A × B) (Asked C) → Pairs L R A → Type 0
  PairGives old (Ok pair) new =
      (old.left.ended ≡ false) × (new.left.ended ≡ false)
      × (left_side left old ≡ gives pair.0 (left_side left new)) × (right old.right ≡ gives pair.1 (right new.right))
  PairGives old (Err asked) new =
      (f : A × B → Result C ChainFault) → AskGives (pairs_rest f old) asked (pairs_rest f new)

  -- what one ask takes from each side
  abbrev pub AsksSides : Pairs L R A → Asked C → Pairs L R A → Type 0
  AsksSides old asked new =
      AsksLeft old.kept (left old.left.chain) asked (left new.left.chain)
      × AsksRight (left_side left old) (right old.right) asked (right new.right)
