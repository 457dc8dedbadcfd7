-- The rest of a run from its first item that passes a test.
--   a run                                from its first item above 1
--   gives 1 (gives 2 (ends e))           gives 2 (ends e)
--   gives 1 (pends (gives 2 (ends e)))   pends (gives 2 (ends e))
--   gives 1 (ends e)                     ends e
use Rattle.std.specs.Prelude.{Bool, cond}
use Rattle.flow_law.specs.chain.ChainRun.{ChainRun, gives, pends, ends}

-- the run from its first item that passes; from a pending turn or from the end if that is earlier
abbrev pub from_passing : {A : Type 0} → (A → Bool) → ChainRun A → ChainRun A
from_passing test (gives x r) = cond (test x) (gives x r) (from_passing test r)
from_passing test (pends r) = pends r
from_passing test (ends e) = ends e
