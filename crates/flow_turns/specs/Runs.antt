-- What a run of a sharing does: turns, one after the other. Begin with `RunsTo`.
use Rattle.std.specs.Prelude.{◌≡◌, ◌⊎◌, ℕ, ◌≤◌, Bool, Result, Ok, Err}
use Rattle.flow_law.specs.declared.report.Event.TheVariants.{Completed}
use Rattle.flow_law.specs.declared.report.Report.{Report}
use Rattle.flow_law.specs.declared.report.ShareFault.{ShareFault}
use Rattle.flow_law.specs.chain.ChainRun.{ChainRun}
use Rattle.flow_law.specs.sharing.SharingCalls.{HubCall, HubAnswer}
use Rattle.flow_turns.specs.declared.sharing.Sharing.{Sharing}
use Rattle.flow_turns.specs.SharingViews.{sharing_chain, last_observed_at}
use Rattle.flow_turns.specs.TurnClauses.{TakesTurn, TakesSomeTurn}
use Rattle.flow_turns.specs.Passing.{TakesPassed, TakesSomePassed}

-- `Turn` says what a turn does, by its moment
module _ {C H T : Type 0} (Turn : ℕ → Sharing C H T → Result Report ShareFault → Sharing C H T → Type 0) where
  -- turns, each at a moment that is not before the last observation, none of which was refused
  pub data TakesTurns : Sharing C H T → Sharing C H T → Type 0 where
    no_turn : {s : Sharing C H T} → TakesTurns s s
    one_more : {s t u : Sharing C H T} (now : ℕ) (report : Report) → TakesTurns s t → last_observed_at t ≤ now → Turn now t (Ok report) u → TakesTurns s u

  -- turns, and then one more, which was refused
  pub record IsRefusedAt (fault : ShareFault) (old new : Sharing C H T) : Type 0 where
    pub between : Sharing C H T
    pub turns : TakesTurns old between
    pub now : ℕ
    pub later : last_observed_at between ≤ now
    pub refused : Turn now between (Err fault) new

  -- a run that was asked to stop, or whose last turn was refused
  abbrev pub RunsBy : Sharing C H T → Result (Unit {0}) ShareFault → Sharing C H T → Type 0
  RunsBy old (Ok none) new = TakesTurns old new
  RunsBy old (Err fault) new = IsRefusedAt fault old new

  -- turns, and then one more, which found that the chain has ended
  pub record IsCompletedAt (old new : Sharing C H T) : Type 0 where
    pub between : Sharing C H T
    pub turns : TakesTurns old between
    pub now : ℕ
    pub later : last_observed_at between ≤ now
    pub report : Report
    pub last : Turn now between (Ok report) new
    pub completed : report.event ≡ Completed

  -- a run up to the end of the chain, or one whose last turn was refused
  abbrev pub RunsToEndBy : Sharing C H T → Result (Unit {0}) ShareFault → Sharing C H T → Type 0
  RunsToEndBy old (Ok none) new = IsCompletedAt old new
  RunsToEndBy old (Err fault) new = IsRefusedAt fault old new

-- `whole` and `rest` are the runs of the chain; `does` and `waits` are those of the hub; `Came` says of two hubs that a subscriber has come
-- between their last counts
module _ {C H T : Type 0} (whole rest : C → ChainRun T) (does : (c : HubCall T) → H → HubAnswer c → H → Type 0) (waits : H → Bool) (Came : H → H → Type 0) where
  -- a turn of a run: a turn, or one that observes a subscriber that has left
  abbrev pub RunTurn : ℕ → Sharing C H T → Result Report ShareFault → Sharing C H T → Type 0
  RunTurn now old result new = TakesTurn whole rest does waits now old result new ⊎ TakesPassed whole rest does waits Came now old result new

  -- a run until it was asked to stop
  abbrev pub RunsTo : Sharing C H T → Result (Unit {0}) ShareFault → Sharing C H T → Type 0
  RunsTo = RunsBy RunTurn

  -- a run up to the end of the chain
  abbrev pub RunsToEnd : Sharing C H T → Result (Unit {0}) ShareFault → Sharing C H T → Type 0
  RunsToEnd = RunsToEndBy RunTurn

-- a turn of a run, whatever the chain answers
abbrev pub SomeRunTurn : {C H T : Type 0} → ((c : HubCall T) → H → HubAnswer c → H → Type 0) → (H → Bool) → (H → H → Type 0) → ℕ → Sharing C H T → Result Report ShareFault → Sharing C H T → Type 0
SomeRunTurn does waits Came now old result new = TakesSomeTurn does waits now old result new ⊎ TakesSomePassed does waits Came now old result new

-- One turn of a run at some moment that is not before the last observation, whatever the chain answers, and for each of its readings.
-- `whole` and `rest` are the runs of the chain, for each of its readings; `does`, `waits` and `Came` are those of the hub.
pub record TurnsByClock {C H T R : Type 0} (reads : C → R → Type 0) (whole rest : C → R → ChainRun T) (does : (c : HubCall T) → H → HubAnswer c → H → Type 0) (waits : H → Bool)
    (Came : H → H → Type 0) (old : Sharing C H T) (result : Result Report ShareFault) (new : Sharing C H T) : Type 0 where
  pub now : ℕ
  pub later : last_observed_at old ≤ now
  pub some : SomeRunTurn does waits Came now old result new
  pub read : (m : R) → reads (sharing_chain old) m → RunTurn (λ c. whole c m) (λ c. rest c m) does waits Came now old result new
