-- One turn of a sharing (`shareIn`, `stateIn`): a chain, collected into a flow while a policy says so.
-- Begin with `turn_steps`. `Sharing` says when a sharing runs, and defines the command; `SharingCalls` defines the calls.
use Rattle.std.specs.Prelude.{ℕ, ◌||◌, Bool, true, false, nat_lt, if◌then◌else◌, List, ◌∷◌, Option, Some, None, Result, Ok, Err}
use Rattle.flow_law.specs.declared.fault.FlowFault.{FlowFault}
use Rattle.flow_law.specs.declared.fault.FlowFault.TheVariants.{Busy as LockTaken}
use Rattle.flow_law.specs.declared.chain.End.TheVariants.{Completed as AtEnd, Failed}
use Rattle.flow_law.specs.declared.sharing.Started.{Started}
use Rattle.flow_law.specs.declared.sharing.Command.{Command}
use Rattle.flow_law.specs.declared.sharing.Command.TheVariants.{Start, Stop, StopAndReset, Keep}
use Rattle.flow_law.specs.declared.sharing.SharingObservation.{SharingObservation}
use Rattle.flow_law.specs.declared.report.Event.{Event}
use Rattle.flow_law.specs.declared.report.Event.TheVariants.{Busy, Idle, Put, Queued, Waiting, Pending, Completed}
use Rattle.flow_law.specs.declared.report.Report.{Report}
use Rattle.flow_law.specs.declared.report.ShareFault.{ShareFault}
use Rattle.flow_law.specs.declared.report.ShareFault.TheVariants.{Backwards, Ended, Chain, Flow}
use Rattle.flow_law.specs.sharing.Sharing.{newest_command, last_moment}
use Rattle.flow_law.specs.sharing.Steps.{Steps, answers, calls}
use Rattle.flow_law.specs.sharing.SharingCalls.{TurnCall, TurnAnswer, ChainAnswer, to_hub, asks, rewinds, counts, puts, polls, cancels, resets, item, pending, end}

-- what a sharing keeps, apart from its chain, its hub and the observations
pub record SharingState (T : Type 0) : Type 0 where
  -- an item that the chain gave and the hub has not accepted
  pub kept : Option T
  -- whether it runs, by the last observation
  pub runs : Bool
  -- there was a stop, and the hub's emission is still to be cancelled since
  pub cancel_due : Bool
  -- a stop and its expiry came, and the flow is still to be reset since
  pub reset_due : Bool
  -- the chain has ended normally since the last start
  pub completed : Bool
  -- the chain has failed
  pub ended : Bool

-- what a sharing keeps before any turn
abbrev pub at_rest : {T : Type 0} → SharingState T
at_rest = record { kept = None; runs = false; cancel_due = false; reset_due = false; completed = false; ended = false }

-- the outcome of a turn: its answer, the accepted observations with the newest one first, and what the sharing keeps
pub record Turned (T : Type 0) : Type 0 where
  pub answer : Result Report ShareFault
  pub seen : List SharingObservation
  pub state : SharingState T

-- the steps of a turn: calls of the hub and the chain, and what the turn comes to
abbrev pub TurnSteps : Type 0 → Type 0
TurnSteps T = Steps (TurnCall T) TurnAnswer (Turned T)

-- ---- answers

-- a call of the hub was refused: busy is an event, each other refusal a fault
abbrev pub refusal : FlowFault → Result Event ShareFault
refusal LockTaken = Ok Busy
refusal fault = Err (Flow fault)

-- the answer of a turn that had this command
abbrev pub reported : Command → Result Event ShareFault → Result Report ShareFault
reported command (Ok event) = Ok (record { command = command; event = event })
reported command (Err fault) = Err fault

module _ {T : Type 0} where
  -- the turn ends with this answer
  abbrev pub turned : Result Report ShareFault → List SharingObservation → SharingState T → TurnSteps T
  turned answer seen s = answers (record { answer = answer; seen = seen; state = s })

  -- ---- what follows the command, after these observations were accepted

  module _ (command : Command) (seen : List SharingObservation) where
    -- the turn ends with this event or fault
    abbrev pub comes_to : Result Event ShareFault → SharingState T → TurnSteps T
    comes_to outcome s = turned (reported command outcome) seen s

    -- ends the turn after a put; an item that the hub refused is kept
    abbrev pub after_put : T → SharingState T → Result Bool FlowFault → TurnSteps T
    after_put x s (Ok false) = comes_to (Ok Put) (record s { kept = None })
    after_put x s (Ok true) = comes_to (Ok Queued) (record s { kept = None })
    after_put x s (Err fault) = comes_to (refusal fault) (record s { kept = Some x })

    -- emits an item into the hub
    abbrev pub put : T → SharingState T → TurnSteps T
    put x s = calls (to_hub (puts x)) (after_put x s)

    -- emits the chain's item, or ends with what the chain answered in its place
    abbrev pub after_ask : SharingState T → ChainAnswer T → TurnSteps T
    after_ask s (item x) = put x s
    after_ask s pending = comes_to (Ok Pending) s
    after_ask s (end AtEnd) = comes_to (Ok Completed) (record s { completed = true })
    after_ask s (end (Failed fault)) = comes_to (Err (Chain fault)) (record s { ended = true })

    -- puts the kept item, or else the chain's next one
    abbrev pub send : Option T → SharingState T → TurnSteps T
    send (Some x) s = put x s
    send None s = calls asks (after_ask s)

    -- continues after a poll: sends the next item if the emission waits no more
    abbrev pub after_poll : SharingState T → Result Bool FlowFault → TurnSteps T
    after_poll s (Ok true) = comes_to (Ok Waiting) s
    after_poll s (Ok false) = send s.kept s
    after_poll s (Err fault) = comes_to (refusal fault) s

    -- polls the hub's emission before it sends an item; does nothing if the chain has completed
    abbrev pub collect : SharingState T → TurnSteps T
    collect s = if s.completed then comes_to (Ok Completed) s else calls (to_hub polls) (after_poll s)

    -- collects if the sharing runs
    abbrev pub collect_while_running : SharingState T → TurnSteps T
    collect_while_running s = if s.runs then collect s else comes_to (Ok Idle) s

    -- continues after a reset
    abbrev pub after_reset : SharingState T → Result (Unit {0}) FlowFault → TurnSteps T
    after_reset s (Ok done) = collect_while_running (record s { reset_due = false })
    after_reset s (Err fault) = comes_to (refusal fault) s

    -- resets the flow if a reset is due
    abbrev pub reset_if_due : SharingState T → TurnSteps T
    reset_if_due s = if s.reset_due then calls (to_hub resets) (after_reset s) else collect_while_running s

    -- continues after a cancel
    abbrev pub after_cancel : SharingState T → Result Bool FlowFault → TurnSteps T
    after_cancel s (Ok waited) = reset_if_due (record s { cancel_due = false })
    after_cancel s (Err fault) = comes_to (refusal fault) s

    -- Does first what is due: a cancel, and then a reset. Before a reset that an earlier turn could not do it cancels once more, which
    -- does nothing if no emission waits.
    abbrev pub work : SharingState T → TurnSteps T
    work s = if s.cancel_due || s.reset_due then calls (to_hub cancels) (after_cancel s) else collect_while_running s

  -- A start collects the chain from its beginning. A stop drops the kept item and makes a cancel of the hub's emission due; if the
  -- expiry has passed, a reset is due, too.
  abbrev pub begin : List SharingObservation → Command → SharingState T → TurnSteps T
  begin all Start s = calls rewinds (λ done. work Start all (record s { runs = true; completed = false }))
  begin all Stop s = work Stop all (record s { runs = false; kept = None; cancel_due = true })
  begin all StopAndReset s = work StopAndReset all (record s { runs = false; kept = None; cancel_due = true; reset_due = true })
  begin all Keep s = work Keep all s

  -- ---- the turn

  -- continues after the count; a moment before the last one is refused
  abbrev pub after_count : Started → ℕ → List SharingObservation → SharingState T → Result ℕ FlowFault → TurnSteps T
  after_count started now seen s (Ok count) =
      let all = record { moment = now; count = count } ∷ seen in
      if nat_lt now (last_moment seen) then turned (Err (Backwards (last_moment seen))) seen s
      else begin all (newest_command started all) s
  after_count started now seen s (Err fault) = turned (reported Keep (refusal fault)) seen s

  -- a turn at the moment `now`; a chain that failed is not collected any more
  abbrev pub turn_steps : Started → ℕ → List SharingObservation → SharingState T → TurnSteps T
  turn_steps started now seen s =
      if s.ended then turned (Err Ended) seen s else calls (to_hub counts) (after_count started now seen s)
