-- What a verdict says. Begin with `Judges`.
use Rattle.std.specs.Prelude.{ℕ, List}
use Rattle.flow_check.specs.declared.verdict.Verdict.{Verdict}
use Rattle.flow_check.specs.declared.verdict.Verdict.TheVariants.{Legal, Illegal, GaveUp}

-- `IsExplainedIn order` says that the order explains the record
abbrev pub Judges : (List ℕ → Type 0) → Verdict → Type 0
Judges IsExplainedIn (Legal order) = IsExplainedIn order.items
Judges IsExplainedIn Illegal = (order : List ℕ) → IsExplainedIn order → ⊥
Judges IsExplainedIn GaveUp = Unit {0}
