-- What a run of a sharing has done before each of its turns. Begin with `HasRun`.
use Rattle.std.proofs.Common.{◌≡◌, Bool, Ok, Err, sym, subst}
use Rattle.flow_law.specs.declared.report.Report.{Report}
use Rattle.flow_law.specs.declared.report.ShareFault.{ShareFault}
use Rattle.flow_law.specs.chain.ChainRun.{ChainRun}
use Rattle.flow_law.specs.sharing.SharingCalls.{HubCall, HubAnswer}
use Rattle.flow_turns.specs.declared.sharing.Sharing.{Sharing}
use Rattle.flow_turns.specs.Runs.{TakesTurns, no_turn, one_more, IsRefusedAt, RunTurn, SomeRunTurn, TurnsByClock}
use Rattle.flow_turns.specs.SharingViews.{sharing_chain, CanRun, KeepsReadings}

-- `whole` and `rest` are the runs of the chain, for each of its readings; `does` and `waits` are those of the hub
module _ {C H T R : Type 0} (can_ask : C → Type 0) (reads : C → R → Type 0) (whole rest : C → R → ChainRun T)
    (does : (c : HubCall T) → H → HubAnswer c → H → Type 0) (waits : H → Bool) (Came : H → H → Type 0) where
  -- the sharing has taken turns since the run began, and can take another one
  pub record HasRun (start now : Sharing C H T) : Type 0 where
    pub callable : CanRun can_ask now
    pub kept : KeepsReadings reads (sharing_chain start) (sharing_chain now)
    pub some : TakesTurns (SomeRunTurn does waits Came) start now
    pub turns : (m : R) → reads (sharing_chain start) m → TakesTurns (RunTurn (λ c. whole c m) (λ c. rest c m) does waits Came) start now

module _ {C H T R : Type 0} {can_ask : C → Type 0} {reads : C → R → Type 0} {whole rest : C → R → ChainRun T}
    {does : (c : HubCall T) → H → HubAnswer c → H → Type 0} {waits : H → Bool} {Came : H → H → Type 0} where
  -- before its first turn
  pub run-begins : (start : Sharing C H T) → CanRun can_ask start → HasRun can_ask reads whole rest does waits Came start start
  run-begins start callable = record { callable = callable; kept = λ m r. r; some = no_turn; turns = λ m r. no_turn }

  -- after one turn more, and a rest that changes nothing
  pub run-goes_on : {start now next rested : Sharing C H T} (report : Report) → HasRun can_ask reads whole rest does waits Came start now → rested ≡ next →
      CanRun can_ask next → KeepsReadings reads (sharing_chain now) (sharing_chain next) → TurnsByClock reads whole rest does waits Came now (Ok report) next → HasRun can_ask reads whole rest does waits Came start rested
  run-goes_on {start} {now} {next} {rested} report run same callable keeps turn =
      subst (HasRun can_ask reads whole rest does waits Came start) (sym same) (
      record {
        callable = callable;
        kept = λ m r. keeps m (run.kept m r);
        some = one_more turn.now report run.some turn.later turn.some;
        turns = λ m r. one_more turn.now report (run.turns m r) turn.later (turn.read m (run.kept m r));
      })

  -- after a turn that was refused
  pub run-refused : {start now new : Sharing C H T} (fault : ShareFault) → HasRun can_ask reads whole rest does waits Came start now → TurnsByClock reads whole rest does waits Came now (Err fault) new →
      (m : R) → reads (sharing_chain start) m → IsRefusedAt (RunTurn (λ c. whole c m) (λ c. rest c m) does waits Came) fault start new
  run-refused {start} {now} fault run turn m r =
      record { between = now; turns = run.turns m r; now = turn.now; later = turn.later; refused = turn.read m (run.kept m r) }

  pub run-refused-some : {start now new : Sharing C H T} (fault : ShareFault) → HasRun can_ask reads whole rest does waits Came start now → TurnsByClock reads whole rest does waits Came now (Err fault) new →
      IsRefusedAt (SomeRunTurn does waits Came) fault start new
  run-refused-some {start} {now} fault run turn =
      record { between = now; turns = run.some; now = turn.now; later = turn.later; refused = turn.some }
