-- A turn over a flow for several threads, by what each call of its hub does to the hub's two seats. Begin with `turn-by-seats`.
use Rattle.std.proofs.Common.{◌≡◌, ◌≢◌, ◌⊎◌, inl, inr, ℕ, ◌+◌, Bool, true, false, nat_lt, List, ◌∷◌, ◌||◌, Option, Some, None, Result, Ok, Err, subst, sym, refl, ap, ◌∙◌}
use Rattle.std.proofs.Math.Nat.{add-zero}
use Rattle.flow_law.specs.declared.fault.FlowFault.{FlowFault}
use Rattle.flow_law.specs.declared.fault.FlowFault.TheVariants.{OutOfMemory, TooLarge, NeedsBuffer, Exhausted, Unsupported, Busy as LockTaken}
use Rattle.flow_law.specs.declared.chain.End.TheVariants.{Completed as AtEnd, Failed}
use Rattle.flow_law.specs.declared.history.Said.{Said}
use Rattle.flow_law.specs.declared.sharing.Started.{Started}
use Rattle.flow_law.specs.declared.sharing.Command.{Command}
use Rattle.flow_law.specs.declared.sharing.Command.TheVariants.{Start, Stop, StopAndReset, Keep}
use Rattle.flow_law.specs.declared.sharing.SharingObservation.{SharingObservation}
use Rattle.flow_law.specs.chain.ChainRun.{ChainRun}
use Rattle.flow_law.specs.history.History.{Kind}
use Rattle.flow_law.specs.sharing.Sharing.{newest_command, last_moment}
use Rattle.flow_law.specs.sharing.Steps.{Takes}
use Rattle.flow_law.specs.sharing.SharingCalls.{HubCall, HubAnswer, ChainAnswer, counts, puts, polls, cancels, resets, item, pending, end, AskDoes, ChainAndHub, with_hub, CallDoes}
use Rattle.flow_law.specs.sharing.SharingTurn.{SharingState, Turned, refusal, reported, after_put, after_ask, send, after_poll, collect_while_running, after_reset, reset_if_due, after_cancel, work, begin, after_count, turn_steps}
use Rattle.flow_law.specs.history.Tokens.{CountsNowIn}
use Rattle.flow_law.specs.history.Promise.{CallsAtOnceIn}
use Rattle.flow_law.specs.sharing.TurnMeaning.{resets_at}
use Rattle.flow_law.proofs.TurnLemmas.{by-if, Leads, leads-takes, leads-so, turn-along}
use Rattle.flow_law.proofs.TurnMeaningLemmas.{turn-means}
use Rattle.flow_law.proofs.TurnResetLemmas.{turn-resets}
use Rattle.flow_sharing.specs.SeatedHub.{SeatedHub}
use Rattle.flow_sharing.specs.OverThreads.{exchanges_lost, lost_in, FollowsInTurn, InTurn, TurnBySeats}
use Rattle.flow_sharing.proofs.SeatLemmas.{follows-here, follows-on}
use Rattle.flow_sharing.proofs.SendingLemmas.{Sends, sends-means}

-- how many exchanges a call of the hub lost, by the fault that it answered
abbrev pub lost_for : FlowFault → ℕ
lost_for LockTaken = 1
lost_for fault = 0

abbrev pub lost_by : {X : Type 0} → Result X FlowFault → ℕ
lost_by (Ok x) = 0
lost_by (Err fault) = lost_for fault

-- What each call of a hub has to satisfy.
pub record BySeats {Id T S C R I : Type 0} (kind : Kind T S C R) (Says : I → HubCall T → Said C R → Type 0) (step : (c : HubCall T) → SeatedHub Id S (Said C R) I → HubAnswer c → SeatedHub Id S (Said C R) I → Type 0) : Type 0 where
  pub loses : (c : HubCall T) (h k : SeatedHub Id S (Said C R) I) (a : HubAnswer c) → step c h a k → exchanges_lost k ≡ exchanges_lost h + lost_by a
  pub counted : (h k : SeatedHub Id S (Said C R) I) (a : Result ℕ FlowFault) → step counts h a k → CountsNowIn kind h.flow.first h.watching a k.watching
  -- the watching seat makes no other call
  pub watches : (c : HubCall T) (h k : SeatedHub Id S (Said C R) I) (a : HubAnswer c) → c ≢ counts → step c h a k → k.watching ≡ h.watching
  pub follows : (c : HubCall T) (h k : SeatedHub Id S (Said C R) I) (a : HubAnswer c) → step c h a k → FollowsInTurn h k
  pub sends : (c : HubCall T) (h k : SeatedHub Id S (Said C R) I) (a : HubAnswer c) → step c h a k → Sends Says c a h k

refused-loses : (command : Command) (fault : FlowFault) → lost_for fault ≡ lost_in (reported command (refusal fault))
refused-loses command OutOfMemory = refl
refused-loses command TooLarge = refl
refused-loses command NeedsBuffer = refl
refused-loses command Exhausted = refl
refused-loses command Unsupported = refl
refused-loses command LockTaken = refl

module _ {Id T S C R I : Type 0} (kind : Kind T S C R) (Says : I → HubCall T → Said C R → Type 0) (step : (c : HubCall T) → SeatedHub Id S (Said C R) I → HubAnswer c → SeatedHub Id S (Said C R) I → Type 0) (by : BySeats kind Says step) where
  -- ---- the steps after the count, from the hub that the count left

  module _ (at : SeatedHub Id S (Said C R) I) (command : Command) (seen : List SharingObservation) where
    -- no exchange has been lost since, and the watching seat has made no call
    abbrev Holds : SeatedHub Id S (Said C R) I → Type 0
    Holds hub = (exchanges_lost hub ≡ exchanges_lost at) × (hub.watching ≡ at.watching)

    abbrev Ends : Turned T → ChainAndHub T (SeatedHub Id S (Said C R) I) → Type 0
    Ends turned new =
        (exchanges_lost new.hub ≡ exchanges_lost at + lost_in turned.answer) × (turned.seen ≡ seen) × (new.hub.watching ≡ at.watching)

    ends : (hub : SeatedHub Id S (Said C R) I) → Holds hub → (exchanges_lost hub ≡ exchanges_lost at + 0) × (seen ≡ seen) × (hub.watching ≡ at.watching)
    ends hub holds = (holds.0 ∙ sym (add-zero (exchanges_lost at)), refl, holds.1)

    holds-on : (c : HubCall T) (h k : SeatedHub Id S (Said C R) I) (a : HubAnswer c) → c ≢ counts → lost_by a ≡ 0 → Holds h → step c h a k → Holds k
    holds-on c h k a other none holds told = (
      by.loses c h k a told ∙ ap (λ n. exchanges_lost h + n) none ∙ add-zero (exchanges_lost h) ∙ holds.0,
      by.watches c h k a other told ∙ holds.1,
    )

    refused-ends : (c : HubCall T) (h k : SeatedHub Id S (Said C R) I) (a : HubAnswer c) (fault : FlowFault) → lost_by a ≡ lost_for fault → c ≢ counts → Holds h → step c h a k
        → (exchanges_lost k ≡ exchanges_lost at + lost_in (reported command (refusal fault))) × (seen ≡ seen) × (k.watching ≡ at.watching)
    refused-ends c h k a fault is other holds told = (
      by.loses c h k a told ∙ ap (λ n. n + lost_by a) holds.0 ∙ ap (λ n. exchanges_lost at + n) (is ∙ refused-loses command fault),
      refl,
      by.watches c h k a other told ∙ holds.1,
    )

    put-ends : (x : T) (s : SharingState T) (both : ChainAndHub T (SeatedHub Id S (Said C R) I)) → Holds both.hub
        → (a : Result Bool FlowFault) (k : SeatedHub Id S (Said C R) I) → step (puts x) both.hub a k → Leads step Ends (after_put command seen x s a) (record both { hub = k })
    put-ends x s both holds (Ok false) k told = ends k (holds-on (puts x) both.hub k (Ok false) (λ e. cc) refl holds told)
    put-ends x s both holds (Ok true) k told = ends k (holds-on (puts x) both.hub k (Ok true) (λ e. cc) refl holds told)
    put-ends x s both holds (Err fault) k told = refused-ends (puts x) both.hub k (Err fault) fault refl (λ e. cc) holds told

    ask-ends : (s : SharingState T) (both : ChainAndHub T (SeatedHub Id S (Said C R) I)) → Holds both.hub
        → (a : ChainAnswer T) (rest : ChainRun T) → AskDoes both.rest a rest → Leads step Ends (after_ask command seen s a) (record both { rest = rest })
    ask-ends s both holds (item x) rest is = put-ends x s (record both { rest = rest }) holds
    ask-ends s both holds pending rest is = ends both.hub holds
    ask-ends s both holds (end AtEnd) rest is = ends both.hub holds
    ask-ends s both holds (end (Failed fault)) rest is = ends both.hub holds

    send-ends : (k : Option T) (s : SharingState T) (both : ChainAndHub T (SeatedHub Id S (Said C R) I)) → Holds both.hub → Leads step Ends (send command seen k s) both
    send-ends (Some x) s both holds = put-ends x s both holds
    send-ends None s both holds = ask-ends s both holds

    poll-ends : (s : SharingState T) (both : ChainAndHub T (SeatedHub Id S (Said C R) I)) → Holds both.hub
        → (a : Result Bool FlowFault) (k : SeatedHub Id S (Said C R) I) → step polls both.hub a k → Leads step Ends (after_poll command seen s a) (record both { hub = k })
    poll-ends s both holds (Ok true) k told = ends k (holds-on polls both.hub k (Ok true) (λ e. cc) refl holds told)
    poll-ends s both holds (Ok false) k told = send-ends s.kept s (record both { hub = k }) (holds-on polls both.hub k (Ok false) (λ e. cc) refl holds told)
    poll-ends s both holds (Err fault) k told = refused-ends polls both.hub k (Err fault) fault refl (λ e. cc) holds told

    running-ends : (s : SharingState T) (both : ChainAndHub T (SeatedHub Id S (Said C R) I)) → Holds both.hub → Leads step Ends (collect_while_running command seen s) both
    running-ends s both holds =
        by-if (λ steps. Leads step Ends steps both) s.runs _ _
        (λ runs. by-if (λ steps. Leads step Ends steps both) s.completed _ _ (λ over. ends both.hub holds) (λ on. poll-ends s both holds))
        (λ rests. ends both.hub holds)

    reset-ends : (s : SharingState T) (both : ChainAndHub T (SeatedHub Id S (Said C R) I)) → Holds both.hub
        → (a : Result (Unit {0}) FlowFault) (k : SeatedHub Id S (Said C R) I) → step resets both.hub a k → Leads step Ends (after_reset command seen s a) (record both { hub = k })
    reset-ends s both holds (Ok done) k told =
        running-ends (record s { reset_due = false }) (record both { hub = k }) (holds-on resets both.hub k (Ok done) (λ e. cc) refl holds told)
    reset-ends s both holds (Err fault) k told = refused-ends resets both.hub k (Err fault) fault refl (λ e. cc) holds told

    reset_if_due-ends : (s : SharingState T) (both : ChainAndHub T (SeatedHub Id S (Said C R) I)) → Holds both.hub → Leads step Ends (reset_if_due command seen s) both
    reset_if_due-ends s both holds =
        by-if (λ steps. Leads step Ends steps both) s.reset_due _ _ (λ due. reset-ends s both holds) (λ none. running-ends s both holds)

    cancel-ends : (s : SharingState T) (both : ChainAndHub T (SeatedHub Id S (Said C R) I)) → Holds both.hub
        → (a : Result Bool FlowFault) (k : SeatedHub Id S (Said C R) I) → step cancels both.hub a k → Leads step Ends (after_cancel command seen s a) (record both { hub = k })
    cancel-ends s both holds (Ok waited) k told =
        reset_if_due-ends (record s { cancel_due = false }) (record both { hub = k }) (holds-on cancels both.hub k (Ok waited) (λ e. cc) refl holds told)
    cancel-ends s both holds (Err fault) k told = refused-ends cancels both.hub k (Err fault) fault refl (λ e. cc) holds told

    work-ends : (s : SharingState T) (both : ChainAndHub T (SeatedHub Id S (Said C R) I)) → Holds both.hub → Leads step Ends (work command seen s) both
    work-ends s both holds =
        by-if (λ steps. Leads step Ends steps both) (s.cancel_due || s.reset_due) _ _ (λ due. cancel-ends s both holds) (λ none. running-ends s both holds)

  begin-ends : (at : SeatedHub Id S (Said C R) I) (all : List SharingObservation) (command : Command) (s : SharingState T) (both : ChainAndHub T (SeatedHub Id S (Said C R) I)) → both.hub ≡ at
      → Leads step (Ends at command all) (begin all command s) both
  begin-ends at all Start s both is =
      work-ends at Start all (record s { runs = true; completed = false }) (record both { rest = both.whole }) (ap exchanges_lost is, ap (λ (h : SeatedHub Id S (Said C R) I). h.watching) is)
  begin-ends at all Stop s both is =
      work-ends at Stop all (record s { runs = false; kept = None; cancel_due = true }) both (ap exchanges_lost is, ap (λ (h : SeatedHub Id S (Said C R) I). h.watching) is)
  begin-ends at all StopAndReset s both is =
      work-ends at StopAndReset all (record s { runs = false; kept = None; cancel_due = true; reset_due = true }) both (ap exchanges_lost is, ap (λ (h : SeatedHub Id S (Said C R) I). h.watching) is)
  begin-ends at all Keep s both is = work-ends at Keep all s both (ap exchanges_lost is, ap (λ (h : SeatedHub Id S (Said C R) I). h.watching) is)

  -- ---- the turn

  module _ (started : Started) (now : ℕ) (seen : List SharingObservation) (s : SharingState T) (old : ChainAndHub T (SeatedHub Id S (Said C R) I)) where
    abbrev Told : Turned T → ChainAndHub T (SeatedHub Id S (Said C R) I) → Type 0
    Told turned new =
        (exchanges_lost new.hub ≡ exchanges_lost old.hub + lost_in turned.answer)
        × ((turned.seen ≡ seen) ⊎ ((count : ℕ) × (turned.seen ≡ record { moment = now; count = count } ∷ seen)
        × CallsAtOnceIn kind old.hub.flow.first old.hub.watching kind.count (kind.counted count) new.hub.watching))

    ended-tells : (count : ℕ) (k : SeatedHub Id S (Said C R) I) (command : Command) → step counts old.hub (Ok count) k → (turned : Turned T) (new : ChainAndHub T (SeatedHub Id S (Said C R) I))
        → Ends k command (record { moment = now; count = count } ∷ seen) turned new → Told turned new
    ended-tells count k command told turned new (lost, is, same) = (
      lost ∙ ap (λ n. n + lost_in turned.answer) (by.loses counts old.hub k (Ok count) told ∙ add-zero (exchanges_lost old.hub)),
      inr (count, is, subst (CallsAtOnceIn kind old.hub.flow.first old.hub.watching kind.count (kind.counted count)) (sym same) (by.counted old.hub k (Ok count) told)),
    )

    count-tells : (a : Result ℕ FlowFault) (k : SeatedHub Id S (Said C R) I) → step counts old.hub a k → Leads step Told (after_count started now seen s a) (record old { hub = k })
    count-tells (Ok count) k told =
        let all : List SharingObservation = record { moment = now; count = count } ∷ seen in
        by-if (λ steps. Leads step Told steps (record old { hub = k })) (nat_lt now (last_moment seen)) _ _
        (λ back. (by.loses counts old.hub k (Ok count) told, inl refl))
        (λ after. leads-so step (Ends k (newest_command started all) all) Told (ended-tells count k (newest_command started all) told)
        (begin all (newest_command started all) s) (record old { hub = k })
        (begin-ends k all (newest_command started all) s (record old { hub = k }) refl))
    count-tells (Err fault) k told =
        (by.loses counts old.hub k (Err fault) told ∙ ap (λ n. exchanges_lost old.hub + n) (refused-loses Keep fault), inl refl)

    -- the same turn, with each of its calls as a call of this turn
    in-turn : (c : HubCall T) (h k : SeatedHub Id S (Said C R) I) (a : HubAnswer c) (f : SeatedHub Id S (Said C R) I) → (f ≡ h) × FollowsInTurn old.hub h → step c h a k
        → (g : SeatedHub Id S (Said C R) I) × ((g ≡ k) × FollowsInTurn old.hub k) × InTurn step old.hub c f a g
    in-turn c h k a f (is, so) told = (
      k,
      (refl, follows-on old.hub h k so (by.follows c h k a told)),
      subst (λ g. InTurn step old.hub c g a k) (sym is) (told, so),
    )

    pub turn-by-seats : (new : ChainAndHub T (SeatedHub Id S (Said C R) I)) (turned : Turned T) → Takes (CallDoes step) (turn_steps started now seen s) old turned new
        → TurnBySeats kind Says step started now seen s old turned new
    turn-by-seats new turned h =
        let both = leads-takes step Told (turn_steps started now seen s) old turned new (
        by-if (λ steps. Leads step Told steps old) s.ended _ _ (λ over. (sym (add-zero (exchanges_lost old.hub)), inl refl)) (λ going. count-tells)
        ) h in
        let done = turn-along step (InTurn step old.hub) (λ h f. (f ≡ h) × FollowsInTurn old.hub h) in-turn (turn_steps started now seen s) old new old.hub turned (refl, follows-here old.hub) h in
        let steps : Takes (CallDoes (InTurn step old.hub)) (turn_steps started now seen s) old turned new =
        subst (λ g. Takes (CallDoes (InTurn step old.hub)) (turn_steps started now seen s) old turned (with_hub new g)) done.1.0 done.2 in
        let reset = turn-resets (InTurn step old.hub) s started now seen old new turned steps in
        record {
          lost = both.0;
          observed = both.1;
          means = λ runs between accepted held. (turn-means (InTurn step old.hub) started now seen s old new turned accepted runs between steps).0 held;
          reset = reset;
          sent = (
            reset.0,
            reset.1,
            reset.2,
            sends-means Says step by.sends old.hub (resets_at reset.0 s.reset_due) turned.state.reset_due turned.answer turned.state new.hub refl reset.3,
          );
          follows = done.1.1;
        }
