-- The words on a record, and the status that belongs to them. Begin with `TellsRecord`; `TellsVerdict` says only that they belong together.
use Rattle.std.specs.Prelude.{◌≡◌, ◌⊎◌, ◌++◌, ℕ, Bool, true, false, List, [], ◌∷◌, map, take, slice_get, Option, Some, None, IsSome, codes, decimal, string_bytes}
use Rattle.flow_check.specs.declared.verdict.Verdict.{Verdict}
use Rattle.flow_check.specs.declared.verdict.Verdict.TheVariants.{Legal, Illegal, GaveUp}
use Rattle.flow_check.specs.Orders.{turns_of}
use Rattle.record_judging.specs.declared.written.Sheet.{Sheet}
use Rattle.record_judging.specs.declared.written.WrittenCall.{WrittenCall}
use Rattle.record_judging.specs.declared.written.WrittenFlow.{WrittenFlow}
use Rattle.record_judging.specs.StateRows.{Rows}
use Rattle.record_judging.specs.Judged.{JudgesCalls, GoesWrongAt}
use Rattle.record_judging.specs.NextCalls.{call_of_turn}

-- ---- statuses

-- some order of the calls explains the answers
abbrev pub legal : ℕ
legal = 0

-- no order of the calls explains the answers
abbrev pub illegal : ℕ
illegal = 1

-- the text is no record
abbrev pub refused : ℕ
refused = 2

-- the search took too long
abbrev pub gave_up : ℕ
gave_up = 3

-- ---- words

-- the words begin with `front`
abbrev pub BeginsWith : List ℕ → List ℕ → Type 0
BeginsWith front words = (rest : List ℕ) × (words ≡ front ++ rest)

-- the words on a legal record: its verdict, then an order of its calls; no order if `with_order` is false
abbrev pub TellsLegal : Bool → List ℕ → Type 0
TellsLegal with_order words = (order : List ℕ) × (words ≡ codes "legal\n" ++ order) × (with_order ≡ false → order ≡ [])

-- The status is that of the verdict that the words begin with.
abbrev pub TellsVerdict : Bool → ℕ → List ℕ → Type 0
TellsVerdict with_order status words =
    ((status ≡ legal) × TellsLegal with_order words)
    ⊎ ((status ≡ illegal) × BeginsWith (codes "illegal\n") words)
    ⊎ ((status ≡ refused) × BeginsWith (codes "refused: ") words)
    ⊎ ((status ≡ gave_up) × (words ≡ codes "gave up\n"))

-- ---- a record as it was read

-- its flow, the names of its callers, its lists of values, and the calls of each caller
pub record Read : Type 0 where
  pub flow : WrittenFlow
  pub names : List (List ℕ)
  pub lists : List ℕ
  pub rows : Rows

-- what a sheet has
abbrev pub read_of : Sheet → Read
read_of sheet = record { flow = sheet.flow; names = map string_bytes sheet.names.items; lists = sheet.lists.items; rows = sheet.rows.items }

-- the verdict is right about the record
abbrev pub JudgesRead : Read → Verdict → Type 0
JudgesRead read verdict = JudgesCalls read.flow read.lists read.rows verdict

-- ---- the words on a record

-- a name, or no letters if there is none
abbrev pub named : Option (List ℕ) → List ℕ
named None = []
named (Some name) = name

-- the name of a caller
abbrev pub name_of : List (List ℕ) → ℕ → List ℕ
name_of names caller = named (slice_get names caller)

-- the call that the caller's next turn is, after these turns of an order
abbrev pub next_call : Read → List ℕ → ℕ → Option WrittenCall
next_call read before caller = call_of_turn read.flow read.lists (slice_get read.rows caller) (turns_of caller before)

-- the number of a call in the record, or 0 if there is none
abbrev pub call_number : Option WrittenCall → ℕ
call_number None = 0
call_number (Some call) = call.number

-- the line of a turn begins with the number of a call and the name of the caller
abbrev pub IsLineOf : ℕ → List ℕ → List ℕ → Type 0
IsLineOf number name line = BeginsWith (codes "  " ++ (decimal number ++ (codes "  " ++ (name ++ codes " ")))) line

-- the line of this caller's turn, which comes after the turns `before`, is that of the caller's next call
abbrev pub IsLineOfTurn : Read → List ℕ → ℕ → List ℕ → Type 0
IsLineOfTurn read before caller line = IsLineOf (call_number (next_call read before caller)) (name_of read.names caller) line

-- after the turns `before`, the lines are those of the turns of the order, one line for each turn, one after another
abbrev pub AreLinesAfter : Read → List ℕ → List ℕ → List ℕ → Type 0
AreLinesAfter read before [] lines = lines ≡ []
AreLinesAfter read before (caller ∷ order) lines =
    (line : List ℕ) × ((rest : List ℕ) × (lines ≡ line ++ rest) × IsLineOfTurn read before caller line
    × AreLinesAfter read (before ++ caller ∷ []) order rest)

-- the lines are those of the order if it is asked for, and else there are none
abbrev pub TellsOrder : Bool → Read → List ℕ → List ℕ → Type 0
TellsOrder true read order lines = AreLinesAfter read [] order lines
TellsOrder false read order lines = lines ≡ []

-- the lines begin with this moment
abbrev pub TellsMoment : ℕ → List ℕ → Type 0
TellsMoment moment lines = BeginsWith (codes "by moment " ++ (decimal moment ++ codes " no order explains the calls; from ")) lines

-- there are no lines, or they begin with the moment at which the calls go wrong
abbrev pub TellsConflict : Read → List ℕ → Type 0
TellsConflict read lines = (lines ≡ []) ⊎ ((moment : ℕ) × GoesWrongAt read.flow read.lists read.rows moment × TellsMoment moment lines)

-- the status of a verdict
abbrev pub status_of : Verdict → ℕ
status_of (Legal order) = legal
status_of Illegal = illegal
status_of GaveUp = gave_up

-- the words are those of this verdict on the record: its name, and then the order or the moment
abbrev pub TellsOf : Bool → Read → Verdict → List ℕ → Type 0
TellsOf with_order read (Legal order) words = (lines : List ℕ) × (words ≡ codes "legal\n" ++ lines) × TellsOrder with_order read order.items lines
TellsOf with_order read Illegal words = (lines : List ℕ) × (words ≡ codes "illegal\n" ++ lines) × TellsConflict read lines
TellsOf with_order read GaveUp words = words ≡ codes "gave up\n"

-- each turn of a legal order has a call
abbrev pub HasCalls : Read → Verdict → Type 0
HasCalls read (Legal order) = (n caller : ℕ) → slice_get order.items n ≡ Some caller → IsSome (next_call read (take n order.items) caller)
HasCalls read _ = Unit {0}

-- the words and the status are those of a verdict that is right about a record
pub record TellsRead (with_order : Bool) (status : ℕ) (words : List ℕ) : Type 0 where
  pub read : Read
  pub verdict : Verdict
  pub judges : JudgesRead read verdict
  pub has_calls : HasCalls read verdict
  pub has_status : status ≡ status_of verdict
  pub tells : TellsOf with_order read verdict words

-- the text is refused, or the words and the status are those of a verdict that is right about the record that was read
abbrev pub TellsRecord : Bool → ℕ → List ℕ → Type 0
TellsRecord with_order status words = ((status ≡ refused) × BeginsWith (codes "refused: ") words) ⊎ TellsRead with_order status words

-- the text is refused, or the status is that of a verdict that is right about the record that was read
abbrev pub IsStatus : ℕ → Type 0
IsStatus status = (status ≡ refused) ⊎ ((read : Read) × ((verdict : Verdict) × JudgesRead read verdict × (status ≡ status_of verdict)))
