-- What a turn of a sharing means for the items that its hub has accepted, what is true between turns, and what becomes
-- of a reset. Begin with `TurnMeans` and `TurnResets`.
use Rattle.std.specs.Prelude.{◌≡◌, ◌≢◌, ◌⊎◌, ℕ, Bool, true, false, List, [], ◌∷◌, ◌++◌, None, Result, Ok, Err}
use Rattle.flow_law.specs.declared.fault.FlowFault.{FlowFault}
use Rattle.flow_law.specs.declared.fault.FlowFault.TheVariants.{Busy as LockTaken}
use Rattle.flow_law.specs.declared.chain.ChainFault.TheVariants.{OutOfMemory}
use Rattle.flow_law.specs.declared.chain.End.TheVariants.{Completed as AtEnd, Failed}
use Rattle.flow_law.specs.declared.sharing.Command.{Command}
use Rattle.flow_law.specs.declared.sharing.Command.TheVariants.{Start, Stop, StopAndReset, Keep}
use Rattle.flow_law.specs.declared.sharing.Started.{Started}
use Rattle.flow_law.specs.declared.sharing.SharingObservation.{SharingObservation}
use Rattle.flow_law.specs.declared.report.Event.{Event}
use Rattle.flow_law.specs.declared.report.Event.TheVariants.{Busy, Idle, Put, Queued, Waiting, Pending, Completed}
use Rattle.flow_law.specs.declared.report.Report.{Report}
use Rattle.flow_law.specs.declared.report.ShareFault.{ShareFault}
use Rattle.flow_law.specs.declared.report.ShareFault.TheVariants.{Backwards, Ended, Chain, Flow}
use Rattle.flow_law.specs.chain.ChainRun.{ChainRun, pends, ends, items}
use Rattle.flow_law.specs.sharing.Sharing.{newest_command}
use Rattle.flow_law.specs.sharing.TurnAccount.{IsAccountOf}
use Rattle.flow_law.specs.sharing.SharingCalls.{HubCall, HubAnswer, counts, puts, polls, cancels, resets, ChainAndHub}
use Rattle.flow_law.specs.sharing.SharingTurn.{SharingState}

-- ---- between turns

module _ {T H : Type 0} where
  -- the chain's list is the items that the hub accepted, then the kept one, then those that the chain still has
  abbrev pub ChainAccounts : List T → SharingState T → ChainAndHub T H → Type 0
  ChainAccounts accepted s both = IsAccountOf (items both.whole) s.kept (items both.rest) accepted

  -- while the sharing runs and has not ended, these are the items that the hub accepted since the last start
  abbrev pub HasAccount : List T → SharingState T → ChainAndHub T H → Type 0
  HasAccount accepted s both = s.runs ≡ true → s.ended ≡ false → ChainAccounts accepted s both

-- What is true between turns, whatever is done through the hub meanwhile.
pub record BetweenTurns {T H : Type 0} (s : SharingState T) (both : ChainAndHub T H) : Type 0 where
  -- while the sharing does not run, no item is kept
  pub rested : s.runs ≡ false → s.kept ≡ None
  -- once the chain has ended normally, no item is kept and the chain has none
  pub done : s.runs ≡ true → s.completed ≡ true → (s.kept ≡ None) × (both.rest ≡ ends AtEnd)

-- While the sharing does not run, no emission waits, except one whose cancel is due. This holds unless another caller emits
-- through the hub.
abbrev pub IsQuiet : {T H : Type 0} → (H → Bool) → SharingState T → ChainAndHub T H → Type 0
IsQuiet waits s both = s.runs ≡ false → s.cancel_due ≡ false → waits both.hub ≡ false

-- ---- what a turn's answer means

-- the items that were accepted since the last start, after a command
abbrev pub since_start : {T : Type 0} → Command → List T → List T
since_start Start accepted = []
since_start Stop accepted = accepted
since_start StopAndReset accepted = accepted
since_start Keep accepted = accepted

-- what the chain has to give, after a command
abbrev pub rest_at : {T H : Type 0} → Command → ChainAndHub T H → ChainRun T
rest_at Start both = both.whole
rest_at Stop both = both.rest
rest_at StopAndReset both = both.rest
rest_at Keep both = both.rest

-- a turn with this command has a reset to do, by whether one was due before it
abbrev pub resets_at : Command → Bool → Bool
resets_at StopAndReset was_due = true
resets_at Start was_due = was_due
resets_at Stop was_due = was_due
resets_at Keep was_due = was_due

-- `does` says what a call of the hub does
module _ {T H : Type 0} (does : (c : HubCall T) → H → HubAnswer c → H → Type 0) where
  -- the hub accepted one more item, which is the next one of the chain's list, and answered whether its emission waits
  abbrev pub AcceptsOne : List T → Bool → SharingState T → ChainAndHub T H → Type 0
  AcceptsOne accepted waits t new = (x : T) × ((h : H) × does (puts x) h (Ok waits) new.hub) × ChainAccounts (accepted ++ x ∷ []) t new

  -- the last call of the hub was refused with this fault
  abbrev pub WasRefused : FlowFault → ChainAndHub T H → Type 0
  WasRefused fault new = (h : H) × ((call : HubCall T) × does call h (Err fault) new.hub)

  -- what an event or a fault means, if the hub had accepted these items since the last start, and the chain had `before` left to give
  abbrev pub OutcomeMeans : ChainRun T → List T → Result Event ShareFault → SharingState T → ChainAndHub T H → Type 0
  OutcomeMeans before accepted (Ok Put) t new = AcceptsOne accepted false t new
  OutcomeMeans before accepted (Ok Queued) t new = AcceptsOne accepted true t new
  OutcomeMeans before accepted (Ok Busy) t new = HasAccount accepted t new × WasRefused LockTaken new
  OutcomeMeans before accepted (Ok Idle) t new = (t.runs ≡ false) × (t.kept ≡ None)
  OutcomeMeans before accepted (Ok Waiting) t new = ChainAccounts accepted t new × ((h : H) × does polls h (Ok true) new.hub)
  OutcomeMeans before accepted (Ok Pending) t new = ChainAccounts accepted t new × (before ≡ pends new.rest)
  OutcomeMeans before accepted (Ok Completed) t new = ChainAccounts accepted t new × (t.kept ≡ None) × (before ≡ ends AtEnd)
  OutcomeMeans before accepted (Err (Flow fault)) t new = HasAccount accepted t new × WasRefused fault new × (fault ≢ LockTaken)
  -- after `OutOfMemory` the position of the chain is lost, and nothing is claimed of what is left
  OutcomeMeans before accepted (Err (Chain fault)) t new =
      (fault ≢ OutOfMemory → ChainAccounts accepted t new × (before ≡ ends (Failed fault))) × (t.ended ≡ true)
  OutcomeMeans before accepted (Err Ended) t new = ⊥
  OutcomeMeans before accepted (Err (Backwards last)) t new = ⊥

  -- What a turn's answer means, if the hub had accepted these items since the last start. A fault has no command, so a turn with a
  -- fault of the chain or of the flow may or may not have started the chain.
  abbrev pub TurnMeans : List T → SharingState T → ChainAndHub T H → Result Report ShareFault → SharingState T → ChainAndHub T H → Type 0
  TurnMeans accepted s old (Ok report) t new =
      OutcomeMeans (rest_at report.command old) (since_start report.command accepted) (Ok report.event) t new
  TurnMeans accepted s old (Err Ended) t new = (s.ended ≡ true) × (t ≡ s) × (new ≡ old)
  TurnMeans accepted s old (Err (Backwards last)) t new =
      (s.ended ≡ false) × ((count : ℕ) × does counts old.hub (Ok count) new.hub) × (t ≡ s) × (new ≡ record old { hub = new.hub })
  TurnMeans accepted s old (Err (Chain fault)) t new =
      OutcomeMeans old.rest accepted (Err (Chain fault)) t new ⊎ OutcomeMeans old.whole [] (Err (Chain fault)) t new
  TurnMeans accepted s old (Err (Flow fault)) t new =
      OutcomeMeans old.rest accepted (Err (Flow fault)) t new ⊎ OutcomeMeans old.whole [] (Err (Flow fault)) t new

-- ---- what becomes of a reset

-- a turn with this answer may leave undone what is due
abbrev pub MayLeaveDue : Result Report ShareFault → Type 0
MayLeaveDue (Ok report) = report.event ≡ Busy
MayLeaveDue (Err (Chain fault)) = ⊥
MayLeaveDue (Err fault) = Unit {0}

-- a turn with this answer may have had this command; a fault does not show the command
abbrev pub HadCommand : Command → Result Report ShareFault → Type 0
HadCommand command (Ok report) = report.command ≡ command
HadCommand command (Err fault) = Unit {0}

-- The command of a turn: that of the observations if the turn accepted one, and else `Keep`. `seen` are the observations before the
-- turn, and `all` those after it.
abbrev pub IsCommand : Started → List SharingObservation → List SharingObservation → Command → Type 0
IsCommand started seen all command =
    ((all ≡ seen) × (command ≡ Keep))
    ⊎ ((o : SharingObservation) × (all ≡ o ∷ seen) × (command ≡ newest_command started all))

-- the call is no reset, or a reset that was refused
abbrev pub IsNoReset : {T : Type 0} → (call : HubCall T) → HubAnswer call → Type 0
IsNoReset resets (Ok done) = ⊥
IsNoReset call answer = Unit {0}

-- `does` says what a call of the hub does
module _ {T H : Type 0} (does : (c : HubCall T) → H → HubAnswer c → H → Type 0) where
  -- these calls of the hub, one after the other, lead from `old` to `new`, and none of them makes a reset
  abbrev pub CallsLead : List (HubCall T) → H → H → Type 0
  CallsLead [] old new = new ≡ old
  CallsLead (call ∷ later) old new =
      (answer : HubAnswer call) × IsNoReset call answer × ((h : H) × does call old answer h × CallsLead later h new)

  -- Between the hub before a turn and the hub after it, no reset was made.
  abbrev pub WasNotReset : H → H → Type 0
  WasNotReset old new = (calls : List (HubCall T)) × CallsLead calls old new

  -- Between the hub before a turn and the hub after it, one reset was made: the subscribers were counted, the emission was cancelled,
  -- and then the flow was reset. The calls after that led to the hub after the turn, and made no other reset.
  pub record WasReset (old new : H) : Type 0 where
    pub counted : H
    pub cancelled : H
    pub reset : H
    pub later : List (HubCall T)
    pub counts_first : (count : ℕ) × does counts old (Ok count) counted
    pub cancels_next : (waited : Bool) × does cancels counted (Ok waited) cancelled
    pub resets_then : does resets cancelled (Ok tt) reset
    pub leads_on : CallsLead later reset new

  -- If there was a reset to do, it was made once, or it stays due and none was made. If there was none to do, none was made, and none
  -- is due after the turn.
  abbrev pub ResetMeans : Bool → H → Result Report ShareFault → SharingState T → H → Type 0
  ResetMeans true old answer t new =
      ((t.reset_due ≡ false) × WasReset old new)
      ⊎ ((t.reset_due ≡ true) × MayLeaveDue answer × WasNotReset old new)
  ResetMeans false old answer t new = (t.reset_due ≡ false) × WasNotReset old new

  -- What a turn with this answer did about a reset, from the old hub to the new one. `Is` says which command the turn had.
  abbrev pub TurnResets : (Command → Type 0) → SharingState T → H → Result Report ShareFault → SharingState T → H → Type 0
  TurnResets Is s old answer t new =
      (command : Command) × HadCommand command answer × Is command × ResetMeans (resets_at command s.reset_due) old answer t new
