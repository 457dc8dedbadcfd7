-- The answers of a script: one for each flow that was refused when it was made, and one for each step, unless a flow without a name was
-- refused.
-- Begin with `Answer`. The line of an answer is `line_of` in Lines.
use Rattle.std.specs.Prelude.{ℕ, ℤ, Bool, List, Result, Ok, Err}
use Rattle.flow_law.specs.chain.ChainRun.{items, ending}
use Rattle.flow_law.specs.declared.call.SharedCall.{SharedCall}
use Rattle.flow_law.specs.declared.call.SharedCall.TheVariants.{Poll}
use Rattle.flow_law.specs.declared.call.SharedReply.{SharedReply}
use Rattle.flow_law.specs.declared.call.SharedReply.TheVariants.{Emitted, Tested, Subscribed, Received, Cached, Reset, Counted, Refused}
use Rattle.flow_law.specs.declared.call.StateCall.{StateCall}
use Rattle.flow_law.specs.declared.call.StateReply.{StateReply}
use Rattle.flow_law.specs.declared.call.StateReply.TheVariants as state
use Rattle.flow_law.specs.declared.chain.ChainFault.{ChainFault}
use Rattle.flow_law.specs.declared.chain.End.{End}
use Rattle.flow_law.specs.declared.fault.FlowFault.{FlowFault}
use Rattle.flow_law.specs.declared.outcome.Emit.TheVariants.{Done, Queued}
use Rattle.flow_law.specs.declared.outcome.Next.{Next}
use Rattle.flow_law.specs.declared.report.Report.{Report}
use Rattle.flow_law.specs.declared.report.ShareFault.{ShareFault}
use Rattle.script_chain_format.specs.ChainFormat.{Build}
use Rattle.flow_script.specs.declared.answer.Answer.{Answer as Given}
use Rattle.flow_script.specs.declared.answer.Answer.TheVariants as given

-- the answer of one step
pub data Answer : Type 0 where
  -- the result of a `try_emit`, a `cancel`, an `unsubscribe` or a `compare_and_set`
  tested : Bool → Answer
  -- whether an emission still waits
  waits : Bool → Answer
  done : Answer
  queued : Answer
  subscribed : Answer
  received : Next ℤ → Answer
  cached : List ℤ → Answer
  counted : ℕ → Answer
  -- the value of a state flow
  got : ℤ → Answer
  set : Answer
  reset : Answer
  refused : FlowFault → Answer
  turned : Report → Answer
  -- why a turn was refused, or a chain was not shared
  turn_refused : ShareFault → Answer
  -- the items of a chain, and how it ended
  collected : List ℤ → End → Answer
  not_built : ChainFault → Answer
  -- The flow was refused when it was made. A flow that does not have the step answers this, too, but no script that is read has such a step
  no_flow : Answer

-- the answer to a call of a shared flow, by its reply
abbrev pub shared_answer : SharedCall ℤ → SharedReply ℤ → Answer
shared_answer call (Refused fault) = refused fault
shared_answer (Poll e) (Tested test) = waits test
shared_answer call (Tested test) = tested test
shared_answer call (Emitted Done) = done
shared_answer call (Emitted (Queued e)) = queued
shared_answer call (Subscribed u) = subscribed
shared_answer call (Received next) = received next
shared_answer call (Cached values) = cached values
shared_answer call Reset = reset
shared_answer call (Counted count) = counted count

-- the answer to a call of a state flow, by its reply
abbrev pub state_answer : StateCall ℤ → StateReply ℤ → Answer
state_answer call (state.Refused fault) = refused fault
state_answer call state.Done = set
state_answer call (state.Got value) = got value
state_answer call (state.Answered test) = tested test
state_answer call (state.Subscribed u) = subscribed
state_answer call (state.Received next) = received next
state_answer call (state.Counted count) = counted count
state_answer call (state.Cached values) = cached values

-- the answer to a turn of a sharing
abbrev pub turn_answer : Result Report ShareFault → Answer
turn_answer (Ok report) = turned report
turn_answer (Err fault) = turn_refused fault

-- the answer of a collection: what the chain gives, or why it could not be built
abbrev pub collection_answer : Build → Answer
collection_answer (Ok chain) = collected (items chain.run) (ending chain.run)
collection_answer (Err fault) = not_built fault

-- the player's answer, as the definitions have it
abbrev pub as_answer : Given → Answer
as_answer (given.Tested test) = tested test
as_answer (given.Waits test) = waits test
as_answer given.Done = done
as_answer given.Queued = queued
as_answer given.Subscribed = subscribed
as_answer (given.Received next) = received next
as_answer (given.Cached values) = cached values.items
as_answer (given.Counted count) = counted count
as_answer (given.Got value) = got value
as_answer given.Set = set
as_answer given.Reset = reset
as_answer (given.Refused fault) = refused fault
as_answer (given.Turned report) = turned report
as_answer (given.TurnRefused fault) = turn_refused fault
as_answer (given.Collected values end) = collected values.items end
as_answer (given.NotBuilt fault) = not_built fault
as_answer given.NoFlow = no_flow
