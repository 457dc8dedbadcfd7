-- The lines that a crowd or a count prints, and how the program then ends. Begin with `Runs`.
use Rattle.std.specs.Prelude.{◌≡◌, ◌⊎◌, ℕ, zero, suc, ℤ, pos, ◌+◌, ◌*◌, Bool, List, [], ◌++◌, Option, codes, decimal}
use Rattle.std.specs.Fmt.{signed_decimal}
use Rattle.flow_program.specs.Counting.{Counting}
use Rattle.flow_program.specs.declared.crowd.size.CrowdSize.{CrowdSize}
use Rattle.flow_script.specs.Lines.{lined}
use Rattle.flow_script.specs.Telling.{Tells, memory_line}
use Rattle.flow_program.specs.Arguments.{Command, Crowd, Count}

-- the line of a subscriber: its number, and how many values it got, each emitter's in its order
abbrev pub subscriber_line : ℕ → ℕ → List ℕ
subscriber_line number count = codes "subscriber " ++ (decimal number ++ (codes " got " ++ (decimal count ++ lined (codes " in order"))))

-- the lines of several subscribers, numbered from `number` on, each of which got `count` values
abbrev pub subscriber_lines : ℕ → ℕ → ℕ → List ℕ
subscriber_lines number zero count = []
subscriber_lines number (suc n) count = subscriber_line number count ++ subscriber_lines (number + 1) n count

-- the lines of a crowd: each subscriber, from 1, got all values in order; and how many values were emitted
abbrev pub crowd_lines : CrowdSize → List ℕ
crowd_lines size =
    subscriber_lines 1 size.subscribers (size.emitters * size.values)
    ++ lined (codes "emitted " ++ decimal (size.emitters * size.values))

-- The lines of the crowd were printed, with status 0; or `out of memory` was printed.
abbrev pub RunsCrowd : CrowdSize → Bool → Option (List ℕ) → Option (List ℕ) → ℕ → Type 0
RunsCrowd size failed old new answered =
    Tells failed old new (crowd_lines size) 0 answered ⊎ Tells failed old new memory_line 4 answered

-- the line of this value
abbrev pub value_line : ℤ → List ℕ
value_line value = lined (codes "value " ++ signed_decimal value)

-- the line of a count: how many updates all threads made
abbrev pub count_line : Counting → List ℕ
count_line size = value_line (pos (size.threads * size.updates))

-- The line of the count was printed, with status 0, or `out of memory`, with status 4; or the write failed after a first part of either
-- line, with status 3.
abbrev pub RunsCount : Counting → Bool → Option (List ℕ) → Option (List ℕ) → ℕ → Type 0
RunsCount size failed old new answered =
    Tells failed old new (count_line size) 0 answered ⊎ Tells failed old new memory_line 4 answered

-- what a crowd or a count prints, and its status
abbrev pub Runs : Command → Bool → Option (List ℕ) → Option (List ℕ) → ℕ → Type 0
Runs (Crowd size) failed old new answered = RunsCrowd size failed old new answered
Runs (Count size) failed old new answered = RunsCount size failed old new answered
