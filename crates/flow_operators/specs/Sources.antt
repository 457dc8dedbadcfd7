-- The runs of the sources. The run of a list is `list_run`.
use Rattle.std.specs.Prelude.{ℕ, zero, suc, ◌+◌, ◌-◌, ℤ, pos, ◌+ℤ◌, ◌-ℤ◌, int_lt, nat_abs, cond, List, [], ◌∷◌, drop}
use Rattle.flow_law.specs.declared.chain.ChainFault.TheVariants.{Source}
use Rattle.flow_law.specs.declared.chain.End.TheVariants.{Completed, Failed}
use Rattle.flow_law.specs.chain.ChainRun.{ChainRun, gives, pends, ends, list_run}
use Rattle.flow_operators.specs.declared.sources.of_range.OfRange.{OfRange}
use Rattle.flow_operators.specs.declared.sources.scripted.Entry.{Entry}
use Rattle.flow_operators.specs.declared.sources.scripted.Entry.TheVariants.{Item, Pending, Fault}
use Rattle.flow_operators.specs.declared.sources.scripted.Scripted.{Scripted}

-- n numbers: first, first + 1, and so on
abbrev pub count_up : ℤ → ℕ → List ℤ
count_up first zero = []
count_up first (suc n) = first ∷ count_up (first +ℤ pos 1) n

-- how many numbers there are from first to last
abbrev pub span : ℤ → ℤ → ℕ
span first last = cond (int_lt last first) 0 (nat_abs (last -ℤ first) + 1)

-- the run of the numbers from first to last
abbrev pub range_run : ℤ → ℤ → ChainRun ℤ
range_run first last = list_run (count_up first (span first last))

-- how many numbers a range has left: those from `next` to `last`, without `last` if it was emitted
abbrev pub range_left : OfRange → ℕ
range_left s = span s.next s.last - cond s.gave_last 1 0

abbrev pub range_rest : OfRange → ChainRun ℤ
range_rest s = list_run (count_up s.next (range_left s))

-- the run of a script's entries, up to the first fault, which is the end
abbrev pub scripted_run : {T : Type 0} → List (Entry T) → ChainRun T
scripted_run [] = ends Completed
scripted_run (Item x ∷ es) = gives x (scripted_run es)
scripted_run (Pending ∷ es) = pends (scripted_run es)
scripted_run (Fault number ∷ es) = ends (Failed (Source number))

-- the rest of a scripted source
abbrev pub scripted_rest : {T A : Type 0} → Scripted T A → ChainRun T
scripted_rest s = scripted_run (drop s.at s.entries.items)
