-- While a sharing does not run, no emission waits, except one whose cancel is due. Begin with `turn-quiet`.
use Rattle.std.proofs.Common.{◌≡◌, ℕ, Bool, true, false, nat_lt, List, ◌∷◌, ◌||◌, Option, Some, None, Result, Ok, Err, subst, sym, refl, ◌∙◌}
use Rattle.flow_law.specs.declared.fault.FlowFault.{FlowFault}
use Rattle.flow_law.specs.declared.fault.FlowFault.TheVariants.{OutOfMemory, TooLarge, NeedsBuffer, Exhausted, Unsupported, Busy as LockTaken}
use Rattle.flow_law.specs.declared.chain.End.TheVariants.{Completed as AtEnd, Failed}
use Rattle.flow_law.specs.declared.sharing.Started.{Started}
use Rattle.flow_law.specs.declared.sharing.Command.{Command}
use Rattle.flow_law.specs.declared.sharing.Command.TheVariants.{Start, Stop, StopAndReset, Keep}
use Rattle.flow_law.specs.declared.sharing.SharingObservation.{SharingObservation}
use Rattle.flow_law.specs.declared.report.Event.TheVariants.{Busy, Idle, Put, Queued, Waiting, Pending, Completed}
use Rattle.flow_law.specs.declared.report.Report.{Report}
use Rattle.flow_law.specs.declared.report.ShareFault.{ShareFault}
use Rattle.flow_law.specs.sharing.Sharing.{newest_command, last_moment}
use Rattle.flow_law.specs.sharing.Steps.{Takes}
use Rattle.flow_law.specs.sharing.SharingCalls.{HubCall, HubAnswer, ChainAnswer, counts, cancels, resets, item, pending, end, ChainAndHub, CallDoes, HubStep}
use Rattle.flow_law.specs.sharing.SharingTurn.{SharingState, Turned, TurnSteps, refusal, reported, after_put, after_ask, send, after_poll, collect, collect_while_running, after_reset, reset_if_due, after_cancel, work, begin, after_count, turn_steps}
use Rattle.flow_law.specs.sharing.TurnMeaning.{IsQuiet}
use Rattle.flow_law.proofs.StepsLemmas.{Always}
use Rattle.flow_law.proofs.TurnLemmas.{by-if, neither-due, Leads, leads-takes, always-leads}
use Rattle.flow_law.proofs.TurnMeaningLemmas.{not-both}

-- only the outcome `Idle` is reported as `Idle`
abbrev IsIdle : Result Report ShareFault → Type 0
IsIdle (Ok report) = report.event ≡ Idle
IsIdle (Err fault) = ⊥

idle-told : (command : Command) (answer : Result Report ShareFault) → answer ≡ reported command (Ok Idle) → IsIdle answer
idle-told command answer is = subst IsIdle (sym is) refl

busy-not_idle : (command : Command) (fault : FlowFault) → IsIdle (reported command (refusal fault)) → ⊥
busy-not_idle command OutOfMemory is = is
busy-not_idle command TooLarge is = is
busy-not_idle command NeedsBuffer is = is
busy-not_idle command Exhausted is = is
busy-not_idle command Unsupported is = is
busy-not_idle command LockTaken is = let x : Busy ≡ Idle = is in cc

module _ {T : Type 0} where
  -- it runs, and the answer is not that it is idle
  abbrev IsAtWork : Turned T → Type 0
  IsAtWork turned = (turned.state.runs ≡ true) × (IsIdle turned.answer → ⊥)

  module _ (command : Command) (seen : List SharingObservation) where
    put-works : (x : T) (s : SharingState T) → s.runs ≡ true → (a : Result Bool FlowFault) → Unit {0} → Always (λ c a. Unit {0}) IsAtWork (after_put command seen x s a)
    put-works x s runs (Ok false) any = (runs, λ is. let e : Put ≡ Idle = is in cc)
    put-works x s runs (Ok true) any = (runs, λ is. let e : Queued ≡ Idle = is in cc)
    put-works x s runs (Err fault) any = (runs, busy-not_idle command fault)

    ask-works : (s : SharingState T) → s.runs ≡ true → (a : ChainAnswer T) → Unit {0} → Always (λ c a. Unit {0}) IsAtWork (after_ask command seen s a)
    ask-works s runs (item x) any = put-works x s runs
    ask-works s runs pending any = (runs, λ is. let e : Pending ≡ Idle = is in cc)
    ask-works s runs (end AtEnd) any = (runs, λ is. let e : Completed ≡ Idle = is in cc)
    ask-works s runs (end (Failed fault)) any = (runs, λ is. is)

    send-works : (k : Option T) (s : SharingState T) → s.runs ≡ true → Always (λ c a. Unit {0}) IsAtWork (send command seen k s)
    send-works (Some x) s runs = put-works x s runs
    send-works None s runs = ask-works s runs

    poll-works : (s : SharingState T) → s.runs ≡ true → (a : Result Bool FlowFault) → Unit {0} → Always (λ c a. Unit {0}) IsAtWork (after_poll command seen s a)
    poll-works s runs (Ok true) any = (runs, λ is. let e : Waiting ≡ Idle = is in cc)
    poll-works s runs (Ok false) any = send-works s.kept s runs
    poll-works s runs (Err fault) any = (runs, busy-not_idle command fault)

    collect-works : (s : SharingState T) → s.runs ≡ true → Always (λ c a. Unit {0}) IsAtWork (collect command seen s)
    collect-works s runs =
        by-if (Always (λ c a. Unit {0}) IsAtWork) s.completed _ _ (λ e. (runs, λ is. let e : Completed ≡ Idle = is in cc)) (λ e. poll-works s runs)

module _ {T H : Type 0} (does : (c : HubCall T) → H → HubAnswer c → H → Type 0) (waits : H → Bool) where
  -- the turn leaves the hub quiet, and nothing waits if its answer is Idle
  abbrev LeavesQuiet : Turned T → ChainAndHub T H → Type 0
  LeavesQuiet turned new = IsQuiet waits turned.state new × (IsIdle turned.answer → waits new.hub ≡ false)

  abbrev Quietly : TurnSteps T → ChainAndHub T H → Type 0
  Quietly = Leads (HubStep does waits) LeavesQuiet

  module _ (command : Command) (seen : List SharingObservation) where
    running-quiet : (s : SharingState T) (both : ChainAndHub T H) → (s.runs ≡ false → waits both.hub ≡ false) → Quietly (collect_while_running command seen s) both
    running-quiet s both free =
        by-if (λ steps. Quietly steps both) s.runs _ _
        (λ runs. always-leads (HubStep does waits) LeavesQuiet IsAtWork (λ r new works. (λ rests none. absurd (not-both works.0 rests), λ is. absurd (works.1 is)))
        (collect command seen s) both (collect-works command seen s runs))
        (λ rests. (λ r none. free rests, λ is. free rests))

    reset-quiet : (s : SharingState T) (both : ChainAndHub T H) → waits both.hub ≡ false
        → (a : Result (Unit {0}) FlowFault) (h : H) → HubStep does waits resets both.hub a h → Quietly (after_reset command seen s a) (record both { hub = h })
    reset-quiet s both free (Ok done) h told = running-quiet (record s { reset_due = false }) (record both { hub = h }) (λ rests. told.1 ∙ free)
    reset-quiet s both free (Err fault) h told = (λ rests none. told.1 ∙ free, λ is. absurd (busy-not_idle command fault is))

    reset_if_due-quiet : (s : SharingState T) (both : ChainAndHub T H) → waits both.hub ≡ false → Quietly (reset_if_due command seen s) both
    reset_if_due-quiet s both free =
        by-if (λ steps. Quietly steps both) s.reset_due _ _ (λ due. reset-quiet s both free) (λ none. running-quiet s both (λ rests. free))

    cancel-quiet : (s : SharingState T) (both : ChainAndHub T H) → (s.runs ≡ false → s.cancel_due ≡ false → waits both.hub ≡ false)
        → (a : Result Bool FlowFault) (h : H) → HubStep does waits cancels both.hub a h → Quietly (after_cancel command seen s a) (record both { hub = h })
    cancel-quiet s both quiet (Ok waited) h told = reset_if_due-quiet (record s { cancel_due = false }) (record both { hub = h }) told.1
    cancel-quiet s both quiet (Err fault) h told = (λ rests none. told.1 ∙ quiet rests none, λ is. absurd (busy-not_idle command fault is))

    work-quiet : (s : SharingState T) (both : ChainAndHub T H) → IsQuiet waits s both → Quietly (work command seen s) both
    work-quiet s both quiet =
        by-if (λ steps. Quietly steps both) (s.cancel_due || s.reset_due) _ _ (λ due. cancel-quiet s both quiet)
        (λ none. running-quiet s both (λ rests. quiet rests (neither-due s.cancel_due s.reset_due none).0))

  begin-quiet : (all : List SharingObservation) (command : Command) (s : SharingState T) (both : ChainAndHub T H) → IsQuiet waits s both → Quietly (begin all command s) both
  begin-quiet all Start s both quiet = work-quiet Start all (record s { runs = true; completed = false }) (record both { rest = both.whole }) (λ rests none. let x : true ≡ false = rests in cc)
  begin-quiet all Stop s both quiet = work-quiet Stop all (record s { runs = false; kept = None; cancel_due = true }) both (λ rests none. let x : true ≡ false = none in cc)
  begin-quiet all StopAndReset s both quiet =
      work-quiet StopAndReset all (record s { runs = false; kept = None; cancel_due = true; reset_due = true }) both (λ rests none. let x : true ≡ false = none in cc)
  begin-quiet all Keep s both quiet = work-quiet Keep all s both quiet

  count-quiet : (started : Started) (now : ℕ) (seen : List SharingObservation) (s : SharingState T) (both : ChainAndHub T H) → IsQuiet waits s both
      → (a : Result ℕ FlowFault) (h : H) → HubStep does waits counts both.hub a h → Quietly (after_count started now seen s a) (record both { hub = h })
  count-quiet started now seen s both quiet (Ok count) h told =
      let all : List SharingObservation = record { moment = now; count = count } ∷ seen in
      by-if (λ steps. Quietly steps (record both { hub = h })) (nat_lt now (last_moment seen)) _ _
      (λ back. (λ rests none. told.1 ∙ quiet rests none, λ is. absurd is))
      (λ after. begin-quiet all (newest_command started all) s (record both { hub = h }) (λ rests none. told.1 ∙ quiet rests none))
  count-quiet started now seen s both quiet (Err fault) h told =
      (λ rests none. told.1 ∙ quiet rests none, λ is. absurd (busy-not_idle Keep fault is))

  pub turn-quiet : (started : Started) (now : ℕ) (seen : List SharingObservation) (s : SharingState T) (old new : ChainAndHub T H) (turned : Turned T)
      → IsQuiet waits s old → Takes (CallDoes (HubStep does waits)) (turn_steps started now seen s) old turned new
      → IsQuiet waits turned.state new × ((command : Command) → turned.answer ≡ reported command (Ok Idle) → waits new.hub ≡ false)
  turn-quiet started now seen s old new turned quiet h =
      let left = leads-takes (HubStep does waits) LeavesQuiet (turn_steps started now seen s) old turned new (
      by-if (λ steps. Quietly steps old) s.ended _ _ (λ over. (quiet, λ is. absurd is)) (λ going. count-quiet started now seen s old quiet)
      ) h in
      (left.0, λ command is. left.1 (idle-told command turned.answer is))
