-- The account holds after a turn of a sharing, and so does what is true between turns. Begin with `turn-means`.
use Rattle.std.proofs.Common.{◌≡◌, inl, inr, ℕ, Bool, true, false, nat_lt, List, [], ◌∷◌, ◌++◌, ◌||◌, Option, Some, None, Result, Ok, Err, subst, sym, refl, ap, ◌∙◌, append_assoc}
use Rattle.flow_law.specs.declared.fault.FlowFault.{FlowFault}
use Rattle.flow_law.specs.declared.fault.FlowFault.TheVariants.{OutOfMemory, TooLarge, NeedsBuffer, Exhausted, Unsupported, Busy as LockTaken}
use Rattle.flow_law.specs.declared.chain.End.TheVariants.{Completed as AtEnd, Failed}
use Rattle.flow_law.specs.declared.sharing.Started.{Started}
use Rattle.flow_law.specs.declared.sharing.Command.{Command}
use Rattle.flow_law.specs.declared.sharing.Command.TheVariants.{Start, Stop, StopAndReset, Keep}
use Rattle.flow_law.specs.declared.sharing.SharingObservation.{SharingObservation}
use Rattle.flow_law.specs.declared.report.Event.{Event}
use Rattle.flow_law.specs.declared.report.Event.TheVariants.{Busy, Idle, Put, Queued, Waiting, Pending, Completed}
use Rattle.flow_law.specs.declared.report.ShareFault.{ShareFault}
use Rattle.flow_law.specs.declared.report.ShareFault.TheVariants.{Backwards, Ended, Chain, Flow}
use Rattle.flow_law.specs.chain.ChainRun.{ChainRun, items}
use Rattle.flow_law.specs.sharing.TurnAccount.{kept_items}
use Rattle.flow_law.specs.sharing.Sharing.{newest_command, last_moment, command_of, is_running}
use Rattle.flow_law.specs.sharing.Steps.{Takes}
use Rattle.flow_law.specs.sharing.SharingCalls.{HubCall, HubAnswer, ChainAnswer, counts, puts, polls, cancels, resets, item, pending, end, AskDoes, ChainAndHub, CallDoes}
use Rattle.flow_law.specs.sharing.SharingTurn.{SharingState, Turned, refusal, reported, after_put, after_ask, send, after_poll, collect_while_running, after_reset, reset_if_due, after_cancel, work, begin, after_count, turn_steps}
use Rattle.flow_law.specs.sharing.TurnMeaning.{ChainAccounts, HasAccount, BetweenTurns, since_start, rest_at, WasRefused, OutcomeMeans, TurnMeans}
use Rattle.flow_law.proofs.TurnLemmas.{by-if, Leads, leads-takes, leads-so}

pub not-both : {b : Bool} → b ≡ true → b ≡ false → ⊥
not-both p q = let h : true ≡ false = sym p ∙ q in cc

-- only what did not run is started
starts-at-rest : (ran runs was_expired expired : Bool) → command_of ran runs was_expired expired ≡ Start → ran ≡ false
starts-at-rest false runs was_expired expired e = refl
starts-at-rest true true false true e = cc
starts-at-rest true true false false e = cc
starts-at-rest true true true expired e = cc
starts-at-rest true false false true e = cc
starts-at-rest true false false false e = cc
starts-at-rest true false true false e = cc
starts-at-rest true false true true e = cc

-- ---- what a turn means

module _ {T H : Type 0} (does : (c : HubCall T) → H → HubAnswer c → H → Type 0) where
  between-running : (s : SharingState T) (both : ChainAndHub T H) → s.runs ≡ true → s.completed ≡ false → BetweenTurns s both
  between-running s both runs on = record {
    rested = λ r. absurd (not-both runs r);
    done = λ r d. absurd (not-both d on);
  }

  -- what follows the command, if these items were accepted
  module _ (Given : Type 0) (command : Command) (seen : List SharingObservation) (before : ChainRun T) (accepted : List T) where
    abbrev Comes : Turned T → ChainAndHub T H → Type 0
    Comes turned new =
        (outcome : Result Event ShareFault) × (turned.answer ≡ reported command outcome)
        × (Given → OutcomeMeans does before accepted outcome turned.state new) × BetweenTurns turned.state new

    refused-means : (fault : FlowFault) (s : SharingState T) (both : ChainAndHub T H) → (Given → HasAccount accepted s both) → WasRefused does fault both → BetweenTurns s both
        → Comes (record { answer = reported command (refusal fault); seen = seen; state = s }) both
    refused-means OutOfMemory s both held refused between = (Err (Flow OutOfMemory), refl, λ g. (held g, refused, λ e. cc), between)
    refused-means TooLarge s both held refused between = (Err (Flow TooLarge), refl, λ g. (held g, refused, λ e. cc), between)
    refused-means NeedsBuffer s both held refused between = (Err (Flow NeedsBuffer), refl, λ g. (held g, refused, λ e. cc), between)
    refused-means Exhausted s both held refused between = (Err (Flow Exhausted), refl, λ g. (held g, refused, λ e. cc), between)
    refused-means Unsupported s both held refused between = (Err (Flow Unsupported), refl, λ g. (held g, refused, λ e. cc), between)
    refused-means LockTaken s both held refused between = (Ok Busy, refl, λ g. (held g, refused), between)

    put-means : (x : T) (s : SharingState T) (both : ChainAndHub T H) → s.runs ≡ true → s.completed ≡ false
        → (Given → items both.whole ≡ accepted ++ x ∷ items both.rest)
        → (a : Result Bool FlowFault) (h : H) → does (puts x) both.hub a h → Leads does Comes (after_put command seen x s a) (record both { hub = h })
    put-means x s both runs on held (Ok false) h told = (
      Ok Put,
      refl,
      λ g. (x, (both.hub, told), held g ∙ sym (append_assoc accepted (x ∷ []) (items both.rest))),
      between-running _ _ runs on,
    )
    put-means x s both runs on held (Ok true) h told = (
      Ok Queued,
      refl,
      λ g. (x, (both.hub, told), held g ∙ sym (append_assoc accepted (x ∷ []) (items both.rest))),
      between-running _ _ runs on,
    )
    put-means x s both runs on held (Err fault) h told =
        refused-means fault (record s { kept = Some x }) (record both { hub = h }) (λ g r u. held g) (both.hub, (puts x, told)) (between-running _ _ runs on)

    ask-means : (s : SharingState T) (both : ChainAndHub T H) → s.runs ≡ true → s.completed ≡ false → s.kept ≡ None → before ≡ both.rest
        → (Given → ChainAccounts accepted s both)
        → (a : ChainAnswer T) (rest : ChainRun T) → AskDoes both.rest a rest → Leads does Comes (after_ask command seen s a) (record both { rest = rest })
    ask-means s both runs on none same held (item x) rest is =
        put-means x s (record both { rest = rest }) runs on
        (λ g. held g ∙ ap (λ k. accepted ++ (kept_items k ++ items both.rest)) none ∙ ap (λ r. accepted ++ items r) is)
    ask-means s both runs on none same held pending rest is = (
      Ok Pending,
      refl,
      λ g. (held g ∙ ap (λ r. accepted ++ (kept_items s.kept ++ items r)) is, same ∙ is),
      between-running _ _ runs on,
    )
    ask-means s both runs on none same held (end AtEnd) rest is = (
      Ok Completed,
      refl,
      λ g. (held g ∙ ap (λ r. accepted ++ (kept_items s.kept ++ items r)) (is.0 ∙ sym is.1), none, same ∙ is.0),
      record {
        rested = λ r. absurd (not-both runs r);
        done = λ r d. (none, is.1);
      },
    )
    ask-means s both runs on none same held (end (Failed fault)) rest is = (
      Err (Chain fault),
      refl,
      λ g. (
        λ ample. elim is.0 [
          | inl at ↦ (held g ∙ ap (λ r. accepted ++ (kept_items s.kept ++ items r)) at ∙ sym (ap (λ r. accepted ++ (kept_items s.kept ++ items r)) is.1), same ∙ at)
          | inr lacks ↦ absurd (ample lacks)
        ],
        refl,
      ),
      between-running _ _ runs on,
    )

    send-means : (k : Option T) (s : SharingState T) (both : ChainAndHub T H) → s.kept ≡ k → s.runs ≡ true → s.completed ≡ false → before ≡ both.rest
        → (Given → ChainAccounts accepted s both) → Leads does Comes (send command seen k s) both
    send-means None s both is runs on same held = ask-means s both runs on is same held
    send-means (Some x) s both is runs on same held =
        put-means x s both runs on (λ g. held g ∙ ap (λ k. accepted ++ (kept_items k ++ items both.rest)) is)

    poll-means : (s : SharingState T) (both : ChainAndHub T H) → s.runs ≡ true → s.completed ≡ false → before ≡ both.rest → (Given → ChainAccounts accepted s both)
        → (a : Result Bool FlowFault) (h : H) → does polls both.hub a h → Leads does Comes (after_poll command seen s a) (record both { hub = h })
    poll-means s both runs on same held (Ok true) h told =
        (Ok Waiting, refl, λ g. (held g, (both.hub, told)), between-running _ _ runs on)
    poll-means s both runs on same held (Ok false) h told = send-means s.kept s (record both { hub = h }) refl runs on same held
    poll-means s both runs on same held (Err fault) h told =
        refused-means fault s (record both { hub = h }) (λ g r u. held g) (both.hub, (polls, told)) (between-running _ _ runs on)

    running-means : (s : SharingState T) (both : ChainAndHub T H) → s.ended ≡ false → BetweenTurns s both → before ≡ both.rest → (Given → HasAccount accepted s both)
        → Leads does Comes (collect_while_running command seen s) both
    running-means s both going between same held =
        by-if (λ steps. Leads does Comes steps both) s.runs _ _
        (λ runs. by-if (λ steps. Leads does Comes steps both) s.completed _ _
        (λ over. (
          Ok Completed,
          refl,
          λ g. (held g runs going, (between.done runs over).0, same ∙ (between.done runs over).1),
          between,
        ))
        (λ on. poll-means s both runs on same (λ g. held g runs going)))
        (λ rests. (Ok Idle, refl, λ g. (rests, between.rested rests), between))

    reset-means : (s : SharingState T) (both : ChainAndHub T H) → s.ended ≡ false → BetweenTurns s both → before ≡ both.rest → (Given → HasAccount accepted s both)
        → (a : Result (Unit {0}) FlowFault) (h : H) → does resets both.hub a h → Leads does Comes (after_reset command seen s a) (record both { hub = h })
    reset-means s both going between same held (Ok done) h told =
        running-means (record s { reset_due = false }) (record both { hub = h }) going (record { rested = between.rested; done = between.done }) same held
    reset-means s both going between same held (Err fault) h told =
        refused-means fault s (record both { hub = h }) held (both.hub, (resets, told)) (record { rested = between.rested; done = between.done })

    reset_if_due-means : (s : SharingState T) (both : ChainAndHub T H) → s.ended ≡ false → BetweenTurns s both → before ≡ both.rest → (Given → HasAccount accepted s both)
        → Leads does Comes (reset_if_due command seen s) both
    reset_if_due-means s both going between same held =
        by-if (λ steps. Leads does Comes steps both) s.reset_due _ _
        (λ due. reset-means s both going between same held)
        (λ none. running-means s both going between same held)

    cancel-means : (s : SharingState T) (both : ChainAndHub T H) → s.ended ≡ false → BetweenTurns s both → before ≡ both.rest → (Given → HasAccount accepted s both)
        → (a : Result Bool FlowFault) (h : H) → does cancels both.hub a h → Leads does Comes (after_cancel command seen s a) (record both { hub = h })
    cancel-means s both going between same held (Ok waited) h told =
        reset_if_due-means (record s { cancel_due = false }) (record both { hub = h }) going (record { rested = between.rested; done = between.done }) same held
    cancel-means s both going between same held (Err fault) h told =
        refused-means fault s (record both { hub = h }) held (both.hub, (cancels, told)) (record { rested = between.rested; done = between.done })

    work-means : (s : SharingState T) (both : ChainAndHub T H) → s.ended ≡ false → BetweenTurns s both → before ≡ both.rest → (Given → HasAccount accepted s both)
        → Leads does Comes (work command seen s) both
    work-means s both going between same held =
        by-if (λ steps. Leads does Comes steps both) (s.cancel_due || s.reset_due) _ _
        (λ due. cancel-means s both going between same held)
        (λ none. running-means s both going between same held)

  -- the turn, if the hub had accepted these items since the last start
  module _ (accepted : List T) (s : SharingState T) (old : ChainAndHub T H) where
    abbrev Ends : Turned T → ChainAndHub T H → Type 0
    Ends turned new =
        (HasAccount accepted s old → TurnMeans does accepted s old turned.answer turned.state new) × BetweenTurns turned.state new

    told-means : (command : Command) (outcome : Result Event ShareFault) (t : SharingState T) (new : ChainAndHub T H)
        → OutcomeMeans does (rest_at command old) (since_start command accepted) outcome t new → TurnMeans does accepted s old (reported command outcome) t new
    told-means command (Ok event) t new m = m
    told-means Start (Err (Flow fault)) t new m = inr m
    told-means Stop (Err (Flow fault)) t new m = inl m
    told-means StopAndReset (Err (Flow fault)) t new m = inl m
    told-means Keep (Err (Flow fault)) t new m = inl m
    told-means Start (Err (Chain fault)) t new m = inr m
    told-means Stop (Err (Chain fault)) t new m = inl m
    told-means StopAndReset (Err (Chain fault)) t new m = inl m
    told-means Keep (Err (Chain fault)) t new m = inl m
    told-means command (Err Ended) t new m = absurd m
    told-means command (Err (Backwards last)) t new m = absurd m

    abbrev ComesOf : Command → List SharingObservation → Turned T → ChainAndHub T H → Type 0
    ComesOf command all = Comes (HasAccount accepted s old) command all (rest_at command old) (since_start command accepted)

    comes-ends : (command : Command) (all : List SharingObservation) (turned : Turned T) (new : ChainAndHub T H) → ComesOf command all turned new → Ends turned new
    comes-ends command all turned new comes = (
      λ g. subst (λ x. TurnMeans does accepted s old x turned.state new) (sym comes.1) (told-means command comes.0 turned.state new (comes.2 g)),
      comes.3,
    )

    begin-means : (all : List SharingObservation) (command : Command) (h : H) → s.ended ≡ false → (command ≡ Start → s.runs ≡ false) → BetweenTurns s old
        → Leads does (ComesOf command all) (begin all command s) (record old { hub = h })
    begin-means all Start h going rests between =
        work-means (HasAccount accepted s old) Start all old.whole [] (record s { runs = true; completed = false }) (record old { hub = h; rest = old.whole }) going
        (record { rested = λ r. let x : true ≡ false = r in cc; done = λ r d. let x : false ≡ true = d in cc }) refl
        (λ g r u. ap (λ k. kept_items k ++ items old.whole) (sym (between.rested (rests refl))))
    begin-means all Stop h going rests between =
        work-means (HasAccount accepted s old) Stop all old.rest accepted (record s { runs = false; kept = None; cancel_due = true }) (record old { hub = h }) going
        (record { rested = λ r. refl; done = λ r d. let x : false ≡ true = r in cc }) refl
        (λ g r u. let x : false ≡ true = r in cc)
    begin-means all StopAndReset h going rests between =
        work-means (HasAccount accepted s old) StopAndReset all old.rest accepted (record s { runs = false; kept = None; cancel_due = true; reset_due = true }) (record old { hub = h }) going
        (record { rested = λ r. refl; done = λ r d. let x : false ≡ true = r in cc }) refl
        (λ g r u. let x : false ≡ true = r in cc)
    begin-means all Keep h going rests between =
        work-means (HasAccount accepted s old) Keep all old.rest accepted s (record old { hub = h }) going
        (record { rested = between.rested; done = between.done }) refl (λ g. g)

    count-means : (started : Started) (now : ℕ) (seen : List SharingObservation) → s.ended ≡ false → s.runs ≡ is_running started seen → BetweenTurns s old
        → (a : Result ℕ FlowFault) (h : H) → does counts old.hub a h → Leads does Ends (after_count started now seen s a) (record old { hub = h })
    count-means started now seen going runs between (Ok count) h told =
        let all : List SharingObservation = record { moment = now; count = count } ∷ seen in
        by-if (λ steps. Leads does Ends steps (record old { hub = h })) (nat_lt now (last_moment seen)) _ _
        (λ back. (
          λ g. (going, (count, told), refl, refl),
          record { rested = between.rested; done = between.done },
        ))
        (λ after. leads-so does (ComesOf (newest_command started all) all) Ends (comes-ends (newest_command started all) all)
        (begin all (newest_command started all) s) (record old { hub = h })
        (begin-means all (newest_command started all) h going (λ c. runs ∙ starts-at-rest _ _ _ _ c) between))
    count-means started now seen going runs between (Err fault) h told =
        comes-ends Keep seen (record { answer = reported Keep (refusal fault); seen = seen; state = s }) (record old { hub = h }) (
        refused-means (HasAccount accepted s old) Keep seen old.rest accepted fault s (record old { hub = h }) (λ g. g) (old.hub, (counts, told))
        (record { rested = between.rested; done = between.done })
        )

  pub turn-means : (started : Started) (now : ℕ) (seen : List SharingObservation) (s : SharingState T) (old new : ChainAndHub T H) (turned : Turned T) (accepted : List T)
      → s.runs ≡ is_running started seen → BetweenTurns s old → Takes (CallDoes does) (turn_steps started now seen s) old turned new
      → (HasAccount accepted s old → TurnMeans does accepted s old turned.answer turned.state new) × BetweenTurns turned.state new
  turn-means started now seen s old new turned accepted runs between =
      leads-takes does (Ends accepted s old) (turn_steps started now seen s) old turned new (
      by-if (λ steps. Leads does (Ends accepted s old) steps old) s.ended _ _
      (λ over. (λ g. (over, refl, refl), between))
      (λ going. count-means accepted s old started now seen going runs between)
      )
