-- What a turn of a sharing answers, by what its hub may answer, and that no cancel is left. Begin with `turn-settles`.
use Rattle.std.proofs.Common.{◌≡◌, ℕ, Bool, true, false, nat_lt, List, ◌∷◌, ◌||◌, Option, Some, None, Result, Ok, Err, refl}
use Rattle.flow_law.specs.declared.fault.FlowFault.{FlowFault}
use Rattle.flow_law.specs.declared.chain.End.TheVariants.{Completed as AtEnd, Failed}
use Rattle.flow_law.specs.declared.chain.ChainFault.{ChainFault}
use Rattle.flow_law.specs.declared.sharing.Started.{Started}
use Rattle.flow_law.specs.declared.sharing.Command.{Command}
use Rattle.flow_law.specs.declared.sharing.Command.TheVariants.{Start, Stop, StopAndReset, Keep}
use Rattle.flow_law.specs.declared.sharing.SharingObservation.{SharingObservation}
use Rattle.flow_law.specs.declared.report.Event.TheVariants.{Idle, Put, Queued, Waiting, Pending, Completed}
use Rattle.flow_law.specs.declared.report.Report.{Report}
use Rattle.flow_law.specs.declared.report.ShareFault.{ShareFault}
use Rattle.flow_law.specs.declared.report.ShareFault.TheVariants.{Backwards, Ended, Chain}
use Rattle.flow_law.specs.sharing.Sharing.{newest_command, last_moment}
use Rattle.flow_law.specs.sharing.SharingCalls.{HubCall, HubAnswer, TurnCall, TurnAnswer, ChainAnswer, to_hub, asks, rewinds, counts, puts, polls, cancels, resets, item, pending, end}
use Rattle.flow_law.specs.sharing.SharingTurn.{SharingState, Turned, TurnSteps, refusal, reported, after_put, after_ask, send, after_poll, collect, collect_while_running, after_reset, reset_if_due, after_cancel, work, begin, after_count, turn_steps}
use Rattle.flow_law.proofs.StepsLemmas.{Always}
use Rattle.flow_law.proofs.TurnLemmas.{by-if, neither-due}

-- `Is` holds of each answer that a turn may give, if the hub's answers are as `May` says. A count, a poll and a cancel are not refused.
pub record Likeness (T : Type 0) (May : (c : HubCall T) → HubAnswer c → Type 0) (Is : Result Report ShareFault → Type 0) : Type 0 where
  pub counts_on : (fault : FlowFault) → May counts (Err fault) → ⊥
  pub polls_on : (fault : FlowFault) → May polls (Err fault) → ⊥
  pub cancels_on : (fault : FlowFault) → May cancels (Err fault) → ⊥
  pub reset_refused : (command : Command) (fault : FlowFault) → May resets (Err fault) → Is (reported command (refusal fault))
  pub refused : (command : Command) (x : T) (fault : FlowFault) → May (puts x) (Err fault) → Is (reported command (refusal fault))
  pub queued : (command : Command) (x : T) → May (puts x) (Ok true) → Is (reported command (Ok Queued))
  pub waiting : (command : Command) → May polls (Ok true) → Is (reported command (Ok Waiting))
  pub put : (command : Command) → Is (reported command (Ok Put))
  pub pending_yet : (command : Command) → Is (reported command (Ok Pending))
  pub idle : (command : Command) → Is (reported command (Ok Idle))
  pub completed : (command : Command) → Is (reported command (Ok Completed))
  pub failed : (fault : ChainFault) → Is (Err (Chain fault))
  pub over : Is (Err Ended)
  pub backwards : (last : ℕ) → Is (Err (Backwards last))

module _ {T : Type 0} (May : (c : HubCall T) → HubAnswer c → Type 0) (Is : Result Report ShareFault → Type 0) (like : Likeness T May Is) (Given : Type 0) where
  abbrev pub MayCall : (c : TurnCall T) → TurnAnswer c → Type 0
  MayCall (to_hub c) a = May c a
  MayCall asks a = Unit {0}
  MayCall rewinds a = Unit {0}

  -- `Is` holds of the answer, and no cancel is left if none was due before
  abbrev pub IsSettled : Turned T → Type 0
  IsSettled turned = Is turned.answer × (Given → turned.state.cancel_due ≡ false)

  abbrev pub Settles : TurnSteps T → Type 0
  Settles = Always MayCall IsSettled

  module _ (command : Command) (seen : List SharingObservation) where
    put-settles : (x : T) (s : SharingState T) → (Given → s.cancel_due ≡ false) → (a : Result Bool FlowFault) → May (puts x) a → Settles (after_put command seen x s a)
    put-settles x s none (Ok false) may = (like.put command, none)
    put-settles x s none (Ok true) may = (like.queued command x may, none)
    put-settles x s none (Err fault) may = (like.refused command x fault may, none)

    ask-settles : (s : SharingState T) → (Given → s.cancel_due ≡ false) → (a : ChainAnswer T) → Unit {0} → Settles (after_ask command seen s a)
    ask-settles s none (item x) any = put-settles x s none
    ask-settles s none pending any = (like.pending_yet command, none)
    ask-settles s none (end AtEnd) any = (like.completed command, none)
    ask-settles s none (end (Failed fault)) any = (like.failed fault, none)

    send-settles : (k : Option T) (s : SharingState T) → (Given → s.cancel_due ≡ false) → Settles (send command seen k s)
    send-settles (Some x) s none = put-settles x s none
    send-settles None s none = ask-settles s none

    poll-settles : (s : SharingState T) → (Given → s.cancel_due ≡ false) → (a : Result Bool FlowFault) → May polls a → Settles (after_poll command seen s a)
    poll-settles s none (Ok true) may = (like.waiting command may, none)
    poll-settles s none (Ok false) may = send-settles s.kept s none
    poll-settles s none (Err fault) may = absurd (like.polls_on fault may)

    collect-settles : (s : SharingState T) → (Given → s.cancel_due ≡ false) → Settles (collect command seen s)
    collect-settles s none = by-if Settles s.completed _ _ (λ e. (like.completed command, none)) (λ e. poll-settles s none)

    running-settles : (s : SharingState T) → (Given → s.cancel_due ≡ false) → Settles (collect_while_running command seen s)
    running-settles s none = by-if Settles s.runs _ _ (λ e. collect-settles s none) (λ e. (like.idle command, none))

    reset-settles : (s : SharingState T) → (Given → s.cancel_due ≡ false) → (a : Result (Unit {0}) FlowFault) → May resets a → Settles (after_reset command seen s a)
    reset-settles s none (Ok done) may = running-settles (record s { reset_due = false }) none
    reset-settles s none (Err fault) may = (like.reset_refused command fault may, none)

    reset_if_due-settles : (s : SharingState T) → (Given → s.cancel_due ≡ false) → Settles (reset_if_due command seen s)
    reset_if_due-settles s none = by-if Settles s.reset_due _ _ (λ e. reset-settles s none) (λ e. running-settles s none)

    cancel-settles : (s : SharingState T) (a : Result Bool FlowFault) → May cancels a → Settles (after_cancel command seen s a)
    cancel-settles s (Ok waited) may = reset_if_due-settles (record s { cancel_due = false }) (λ given. refl)
    cancel-settles s (Err fault) may = absurd (like.cancels_on fault may)

    work-settles : (s : SharingState T) → Settles (work command seen s)
    work-settles s = by-if Settles (s.cancel_due || s.reset_due) _ _ (λ e. cancel-settles s) (λ none. running-settles s (λ given. (neither-due s.cancel_due s.reset_due none).0))

  begin-settles : (all : List SharingObservation) (command : Command) (s : SharingState T) → Settles (begin all command s)
  begin-settles all Start s = λ a any. work-settles Start all (record s { runs = true; completed = false })
  begin-settles all Stop s = work-settles Stop all (record s { runs = false; kept = None; cancel_due = true })
  begin-settles all StopAndReset s = work-settles StopAndReset all (record s { runs = false; kept = None; cancel_due = true; reset_due = true })
  begin-settles all Keep s = work-settles Keep all s

  count-settles : (started : Started) (now : ℕ) (seen : List SharingObservation) (s : SharingState T) → (Given → s.cancel_due ≡ false)
      → (a : Result ℕ FlowFault) → May counts a → Settles (after_count started now seen s a)
  count-settles started now seen s none (Ok count) may =
      let all : List SharingObservation = record { moment = now; count = count } ∷ seen in
      by-if Settles (nat_lt now (last_moment seen)) _ _ (λ e. (like.backwards (last_moment seen), none)) (λ e. begin-settles all (newest_command started all) s)
  count-settles started now seen s none (Err fault) may = absurd (like.counts_on fault may)

  pub turn-settles : (started : Started) (now : ℕ) (seen : List SharingObservation) (s : SharingState T) → (Given → s.cancel_due ≡ false) → Settles (turn_steps started now seen s)
  turn-settles started now seen s none = by-if Settles s.ended _ _ (λ e. (like.over, none)) (λ e. count-settles started now seen s none)
