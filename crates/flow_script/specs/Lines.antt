-- The lines that a script writes: one for each answer.
-- Begin with `line_of`.
use Rattle.std.specs.Prelude.{◌≡◌, ℕ, ℤ, Bool, List, [], ◌∷◌, ◌++◌, if◌then◌else◌, String, codes, decimal, string_bytes}
use Rattle.std.specs.Fmt.{signed_decimal}
use Rattle.std.specs.List.{flat_map}
use Rattle.flow_law.specs.declared.fault.FlowFault.{FlowFault}
use Rattle.flow_law.specs.declared.fault.FlowFault.TheVariants.{OutOfMemory, TooLarge, NeedsBuffer, Exhausted, Unsupported, Busy}
use Rattle.flow_law.specs.declared.chain.ChainFault.{ChainFault}
use Rattle.flow_law.specs.declared.chain.ChainFault.TheVariants as chain_fault
use Rattle.flow_law.specs.declared.chain.End.{End}
use Rattle.flow_law.specs.declared.chain.End.TheVariants.{Completed, Failed}
use Rattle.flow_law.specs.declared.sharing.Command.{Command}
use Rattle.flow_law.specs.declared.sharing.Command.TheVariants as command
use Rattle.flow_law.specs.declared.report.Event.{Event}
use Rattle.flow_law.specs.declared.report.Event.TheVariants as event
use Rattle.flow_law.specs.declared.report.Report.{Report}
use Rattle.flow_law.specs.declared.report.ShareFault.{ShareFault}
use Rattle.flow_law.specs.declared.report.ShareFault.TheVariants as share_fault
use Rattle.flow_law.specs.declared.outcome.Next.{Next}
use Rattle.flow_law.specs.declared.outcome.Next.TheVariants.{Value, Empty, Gone}
use Rattle.flow_script.specs.Answers.{Answer}
use Rattle.flow_script.specs.Answers as answer

-- a line: a text and one line feed
abbrev pub lined : List ℕ → List ℕ
lined text = text ++ 10 ∷ []

-- a call adds this text
abbrev pub AddsText : {Z : Type 0} → List ℕ → String Z → String Z → Type 0
AddsText text old new = string_bytes new ≡ string_bytes old ++ text

-- a call adds this line
abbrev pub AddsLine : {Z : Type 0} → List ℕ → String Z → String Z → Type 0
AddsLine text = AddsText (lined text)

-- the items after the first, each after a comma and a space
abbrev pub more_items : List ℤ → List ℕ
more_items xs = flat_map (λ x. codes ", " ++ signed_decimal x) xs

-- whole numbers in brackets
abbrev pub list_text : List ℤ → List ℕ
list_text [] = codes "[]"
list_text (x ∷ xs) = codes "[" ++ signed_decimal x ++ more_items xs ++ codes "]"

-- a fault of a flow, with its number
abbrev pub flow_fault_text : FlowFault → List ℕ
flow_fault_text OutOfMemory = codes "1 OutOfMemory"
flow_fault_text TooLarge = codes "2 TooLarge"
flow_fault_text NeedsBuffer = codes "3 NeedsBuffer"
flow_fault_text Exhausted = codes "4 Exhausted"
flow_fault_text Unsupported = codes "5 Unsupported"
flow_fault_text Busy = codes "6 Busy"

-- a call that a flow refused
abbrev pub refusal_text : FlowFault → List ℕ
refusal_text fault = codes "refused " ++ flow_fault_text fault

-- the result of a test
abbrev pub test_text : Bool → List ℕ
test_text test = if test then codes "true" else codes "false"

-- whether an emission waits
abbrev pub wait_text : Bool → List ℕ
wait_text waits = if waits then codes "waiting" else codes "done"

-- what a subscriber received
abbrev pub next_text : Next ℤ → List ℕ
next_text (Value value) = codes "value " ++ signed_decimal value
next_text Empty = codes "empty"
next_text Gone = codes "gone"

-- ---- chains

-- a fault of a chain, with its number
abbrev pub chain_fault_text : ChainFault → List ℕ
chain_fault_text chain_fault.OutOfMemory = codes "1 OutOfMemory"
chain_fault_text chain_fault.Overflow = codes "2 Overflow"
chain_fault_text chain_fault.NotPositive = codes "3 NotPositive"
chain_fault_text (chain_fault.Source number) = codes "4 Source " ++ decimal number
chain_fault_text chain_fault.TooDeep = codes "5 TooDeep"

-- how a collection ended, after the items
abbrev pub end_text : End → List ℕ
end_text Completed = codes " completed"
end_text (Failed fault) = codes " failed " ++ chain_fault_text fault

-- ---- turns of a sharing

-- the command of a turn
abbrev pub command_text : Command → List ℕ
command_text command.Start = codes "start"
command_text command.Stop = codes "stop"
command_text command.StopAndReset = codes "stop_and_reset"
command_text command.Keep = codes "keep"

-- what a turn came to
abbrev pub event_text : Event → List ℕ
event_text event.Busy = codes "busy"
event_text event.Idle = codes "idle"
event_text event.Put = codes "put"
event_text event.Queued = codes "queued"
event_text event.Waiting = codes "waiting"
event_text event.Pending = codes "pending"
event_text event.Completed = codes "completed"

-- why a turn was refused, with the number of the fault
abbrev pub share_fault_text : ShareFault → List ℕ
share_fault_text (share_fault.Backwards last) = codes "refused 1 Backwards " ++ decimal last
share_fault_text share_fault.Ended = codes "refused 2 Ended"
share_fault_text (share_fault.Chain fault) = codes "refused 3 Chain " ++ chain_fault_text fault
share_fault_text (share_fault.Flow fault) = codes "refused 4 Flow " ++ flow_fault_text fault

-- a turn: its command, and what it came to
abbrev pub report_text : Report → List ℕ
report_text report = command_text report.command ++ codes " " ++ event_text report.event

-- ---- answers

-- the line of an answer, without its line feed
abbrev pub line_of : Answer → List ℕ
line_of (answer.tested test) = test_text test
line_of (answer.waits test) = wait_text test
line_of answer.done = codes "done"
line_of answer.queued = codes "queued"
line_of answer.subscribed = codes "subscribed"
line_of (answer.received next) = next_text next
line_of (answer.cached values) = list_text values
line_of (answer.counted count) = decimal count
line_of (answer.got value) = signed_decimal value
line_of answer.set = codes "set"
line_of answer.reset = codes "reset"
line_of (answer.refused fault) = refusal_text fault
line_of (answer.turned report) = report_text report
line_of (answer.turn_refused fault) = share_fault_text fault
line_of (answer.collected values end) = list_text values ++ end_text end
line_of (answer.not_built fault) = codes "refused " ++ chain_fault_text fault
line_of answer.no_flow = codes "no flow"

-- the lines of some answers, one after the other
abbrev pub lines_of : List Answer → List ℕ
lines_of [] = []
lines_of (x ∷ xs) = lined (line_of x) ++ lines_of xs
