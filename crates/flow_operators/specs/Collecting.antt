-- What is left of a chain's run after some of its items were taken.
use Rattle.std.specs.Prelude.{◌≡◌, List, ◌∷◌, ◌++◌}
use Rattle.flow_law.specs.chain.ChainRun.{ChainRun, items, ending}

module _ {T : Type 0} where
  -- `rest` has the last items of `whole`, and its end
  abbrev pub IsRestOf : ChainRun T → ChainRun T → Type 0
  IsRestOf whole rest = (xs : List T) × (items whole ≡ xs ++ items rest) × (ending whole ≡ ending rest)

  -- the chain is just after some item of `whole`
  abbrev pub StandsAfterItem : ChainRun T → ChainRun T → Type 0
  StandsAfterItem whole rest = (xs : List T) × (x : T) × (items whole ≡ xs ++ (x ∷ items rest)) × (ending whole ≡ ending rest)
