-- What a turn of a sharing does about a reset. Begin with `turn-resets`.
use Rattle.std.proofs.Common.{◌≡◌, inl, inr, ℕ, Bool, true, false, nat_lt, List, ◌∷◌, ◌++◌, ◌||◌, Option, Some, None, Result, Ok, Err, [], refl, sym, subst, ◌∙◌}
use Rattle.flow_law.specs.declared.fault.FlowFault.{FlowFault}
use Rattle.flow_law.specs.declared.fault.FlowFault.TheVariants.{OutOfMemory, TooLarge, NeedsBuffer, Exhausted, Unsupported, Busy as LockTaken}
use Rattle.flow_law.specs.declared.chain.End.TheVariants.{Completed as AtEnd, Failed}
use Rattle.flow_law.specs.declared.sharing.Started.{Started}
use Rattle.flow_law.specs.declared.sharing.Command.{Command}
use Rattle.flow_law.specs.declared.sharing.Command.TheVariants.{Start, Stop, StopAndReset, Keep}
use Rattle.flow_law.specs.declared.sharing.SharingObservation.{SharingObservation}
use Rattle.flow_law.specs.declared.report.Event.{Event}
use Rattle.flow_law.specs.declared.report.Report.{Report}
use Rattle.flow_law.specs.declared.report.ShareFault.{ShareFault}
use Rattle.flow_law.specs.declared.report.ShareFault.TheVariants.{Backwards, Ended}
use Rattle.flow_law.specs.sharing.Sharing.{newest_command, last_moment}
use Rattle.flow_law.specs.sharing.Steps.{answers, calls, Takes}
use Rattle.flow_law.specs.sharing.SharingCalls.{HubCall, HubAnswer, ChainAnswer, to_hub, asks, rewinds, counts, cancels, resets, item, pending, end, ChainAndHub, CallDoes}
use Rattle.flow_law.specs.sharing.SharingTurn.{SharingState, Turned, TurnSteps, refusal, reported, after_put, after_ask, send, after_poll, collect_while_running, after_reset, after_cancel, work, begin, after_count, turn_steps}
use Rattle.flow_law.specs.sharing.TurnMeaning.{resets_at, IsCommand, IsNoReset, CallsLead, WasNotReset, WasReset, MayLeaveDue, HadCommand, ResetMeans, TurnResets}
use Rattle.flow_law.proofs.StepsLemmas.{Always}
use Rattle.flow_law.proofs.TurnLemmas.{by-if, neither-due, Leads, leads-takes, leads-so, leads-both, always-leads}

had-command : (command : Command) (outcome : Result Event ShareFault) → HadCommand command (reported command outcome)
had-command command (Ok event) = refl
had-command command (Err fault) = tt

refused-leaves : (command : Command) (fault : FlowFault) → MayLeaveDue (reported command (refusal fault))
refused-leaves command OutOfMemory = tt
refused-leaves command TooLarge = tt
refused-leaves command NeedsBuffer = tt
refused-leaves command Exhausted = tt
refused-leaves command Unsupported = tt
refused-leaves command LockTaken = refl

-- ---- what follows the reset leaves none due

module _ {T : Type 0} (command : Command) (seen : List SharingObservation) where
  abbrev NoneDue : Turned T → Type 0
  NoneDue turned = HadCommand command turned.answer × (turned.seen ≡ seen) × (turned.state.reset_due ≡ false)

  abbrev LeavesNone : TurnSteps T → Type 0
  LeavesNone = Always (λ c a. Unit {0}) NoneDue

  put-none : (x : T) (s : SharingState T) → s.reset_due ≡ false → (a : Result Bool FlowFault) → Unit {0} → LeavesNone (after_put command seen x s a)
  put-none x s none (Ok false) any = (refl, refl, none)
  put-none x s none (Ok true) any = (refl, refl, none)
  put-none x s none (Err fault) any = (had-command command (refusal fault), refl, none)

  ask-none : (s : SharingState T) → s.reset_due ≡ false → (a : ChainAnswer T) → Unit {0} → LeavesNone (after_ask command seen s a)
  ask-none s none (item x) any = put-none x s none
  ask-none s none pending any = (refl, refl, none)
  ask-none s none (end AtEnd) any = (refl, refl, none)
  ask-none s none (end (Failed fault)) any = (tt, refl, none)

  send-none : (k : Option T) (s : SharingState T) → s.reset_due ≡ false → LeavesNone (send command seen k s)
  send-none (Some x) s none = put-none x s none
  send-none None s none = ask-none s none

  poll-none : (s : SharingState T) → s.reset_due ≡ false → (a : Result Bool FlowFault) → Unit {0} → LeavesNone (after_poll command seen s a)
  poll-none s none (Ok true) any = (refl, refl, none)
  poll-none s none (Ok false) any = send-none s.kept s none
  poll-none s none (Err fault) any = (had-command command (refusal fault), refl, none)

  running-none : (s : SharingState T) → s.reset_due ≡ false → LeavesNone (collect_while_running command seen s)
  running-none s none =
      by-if LeavesNone s.runs _ _ (λ runs. by-if LeavesNone s.completed _ _ (λ over. (refl, refl, none)) (λ on. poll-none s none)) (λ rests. (refl, refl, none))

  -- ---- and makes no reset

  abbrev NeverResets : TurnSteps T → Type 0
  NeverResets (answers r) = Unit {0}
  NeverResets (calls (to_hub c) next) = (a : HubAnswer c) → IsNoReset c a × NeverResets (next a)
  NeverResets (calls asks next) = (a : ChainAnswer T) → NeverResets (next a)
  NeverResets (calls rewinds next) = NeverResets (next tt)

  put-never : (x : T) (s : SharingState T) (a : Result Bool FlowFault) → Unit {0} × NeverResets (after_put command seen x s a)
  put-never x s (Ok false) = (tt, tt)
  put-never x s (Ok true) = (tt, tt)
  put-never x s (Err fault) = (tt, tt)

  ask-never : (s : SharingState T) (a : ChainAnswer T) → NeverResets (after_ask command seen s a)
  ask-never s (item x) = put-never x s
  ask-never s pending = tt
  ask-never s (end AtEnd) = tt
  ask-never s (end (Failed fault)) = tt

  send-never : (k : Option T) (s : SharingState T) → NeverResets (send command seen k s)
  send-never (Some x) s = put-never x s
  send-never None s = ask-never s

  poll-never : (s : SharingState T) (a : Result Bool FlowFault) → Unit {0} × NeverResets (after_poll command seen s a)
  poll-never s (Ok true) = (tt, tt)
  poll-never s (Ok false) = (tt, send-never s.kept s)
  poll-never s (Err fault) = (tt, tt)

  running-never : (s : SharingState T) → NeverResets (collect_while_running command seen s)
  running-never s =
      by-if NeverResets s.runs _ _ (λ runs. by-if NeverResets s.completed _ _ (λ over. tt) (λ on. poll-never s)) (λ rests. tt)

-- ---- the reset

module _ {T H : Type 0} (does : (c : HubCall T) → H → HubAnswer c → H → Type 0) where
  -- ---- calls that make no reset

  calls-append : (xs ys : List (HubCall T)) (a b c : H) → CallsLead does xs a b → CallsLead does ys b c → CallsLead does (xs ++ ys) a c
  calls-append [] ys a b c is on = subst (λ h. CallsLead does ys h c) is on
  calls-append (x ∷ xs) ys a b c (answer, quiet, (h, told, rest)) on = (answer, quiet, (h, told, calls-append xs ys h b c rest on))

  not-then : (a b c : H) → WasNotReset does a b → WasNotReset does b c → WasNotReset does a c
  not-then a b c one next = (one.0 ++ next.0, calls-append one.0 next.0 a b c one.1 next.1)

  not-by : (c : HubCall T) (h : H) (a : HubAnswer c) (k : H) → IsNoReset c a → does c h a k → WasNotReset does h k
  not-by c h a k quiet told = (c ∷ [], (a, quiet, (k, told, refl)))

  lead-on : (steps : TurnSteps T) (both : ChainAndHub T H) (command : Command) (seen : List SharingObservation) → NeverResets command seen steps
      → Leads does (λ r new. WasNotReset does both.hub new.hub) steps both
  lead-on (answers r) both command seen never = ([], refl)
  lead-on (calls (to_hub c) next) both command seen never = λ a h told.
      leads-so does (λ r new. WasNotReset does h new.hub) (λ r new. WasNotReset does both.hub new.hub)
      (λ r new on. not-then both.hub h new.hub (not-by c both.hub a h (never a).0 told) on)
      (next a) (record both { hub = h }) (lead-on (next a) (record both { hub = h }) command seen (never a).1)
  lead-on (calls asks next) both command seen never = λ a rest told. lead-on (next a) (record both { rest = rest }) command seen (never a)
  lead-on (calls rewinds next) both command seen never = lead-on (next tt) (record both { rest = both.whole }) command seen never

  module _ (old : H) (command : Command) (seen : List SharingObservation) where
    -- the subscribers were counted, and the hub was left so
    abbrev WasCounted : H → Type 0
    WasCounted k = (count : ℕ) × does counts old (Ok count) k

    not-counted : (k : H) → WasCounted k → WasNotReset does old k
    not-counted k counted = not-by counts old (Ok counted.0) k tt counted.1

    -- the last call was the reset
    abbrev JustReset : H → Type 0
    JustReset k = (g : H) × ((h : H) × WasCounted g × ((waited : Bool) × does cancels g (Ok waited) h) × does resets h (Ok tt) k)

    was-reset : (k new : H) → JustReset k → WasNotReset does k new → WasReset does old new
    was-reset k new just on = record {
      counted = just.0;
      cancelled = just.1.0;
      reset = k;
      later = on.0;
      counts_first = just.1.1;
      cancels_next = just.1.2;
      resets_then = just.1.3;
      leads_on = on.1;
    }

    -- a reset was to be done, or not
    abbrev Comes : Bool → Turned T → ChainAndHub T H → Type 0
    Comes asked turned new =
        HadCommand command turned.answer × (turned.seen ≡ seen) × ResetMeans does asked old turned.answer turned.state new.hub

    left-due : (asked : Bool) (fault : FlowFault) (t : SharingState T) (new : H) → t.reset_due ≡ asked → WasNotReset does old new
        → ResetMeans does asked old (reported command (refusal fault)) t new
    left-due true fault t new due not = inr (due, refused-leaves command fault, not)
    left-due false fault t new due not = (due, not)

    none-means : (asked : Bool) (answer : Result Report ShareFault) (t : SharingState T) (new : H) → (asked ≡ true → WasReset does old new) → (asked ≡ false → WasNotReset does old new)
        → t.reset_due ≡ false → ResetMeans does asked old answer t new
    none-means true answer t new was not none = inl (none, was refl)
    none-means false answer t new was not none = (none, not refl)

    -- if there was a reset to do, it was just made, and else none was made
    abbrev Made : Bool → H → Type 0
    Made asked k = (asked ≡ true → JustReset k) × (asked ≡ false → WasNotReset does old k)

    not-asked : (asked : Bool) (k : H) → asked ≡ false → WasNotReset does old k → Made asked k
    not-asked asked k none not = ((λ is. let x : true ≡ false = sym is ∙ none in cc), λ same. not)

    running-resets : (asked : Bool) (s : SharingState T) (both : ChainAndHub T H) → Made asked both.hub → s.reset_due ≡ false
        → Leads does (Comes asked) (collect_while_running command seen s) both
    running-resets asked s both made none =
        let steps = collect_while_running command seen s in
        leads-both does (λ r new. NoneDue command seen r) (λ r new. WasNotReset does both.hub new.hub) (Comes asked)
        (λ r new left on. (
          left.0,
          left.1,
          none-means asked r.answer r.state new.hub (λ is. was-reset both.hub new.hub (made.0 is) on) (λ is. not-then old both.hub new.hub (made.1 is) on) left.2,
        ))
        steps both
        (always-leads does (λ r new. NoneDue command seen r) (NoneDue command seen) (λ r new left. left) steps both (running-none command seen s none))
        (lead-on steps both command seen (running-never command seen s))

    reset-resets : (asked : Bool) (s : SharingState T) (both : ChainAndHub T H) (g : H) (waited : Bool) → WasCounted g → does cancels g (Ok waited) both.hub → s.reset_due ≡ asked → asked ≡ true
        → (a : Result (Unit {0}) FlowFault) (h : H) → does resets both.hub a h → Leads does (Comes asked) (after_reset command seen s a) (record both { hub = h })
    reset-resets asked s both g waited counted before due asks_it (Ok done) h told =
        running-resets asked (record s { reset_due = false }) (record both { hub = h })
        ((λ is. (g, (both.hub, counted, (waited, before), told))), λ is. let x : true ≡ false = sym asks_it ∙ is in cc) refl
    reset-resets asked s both g waited counted before due asks_it (Err fault) h told = (
      had-command command (refusal fault),
      refl,
      left-due asked fault s h due
          (not-then old both.hub h (not-then old g both.hub (not-counted g counted) (not-by cancels g (Ok waited) both.hub tt before)) (not-by resets both.hub (Err fault) h tt told)),
    )

    cancel-resets : (asked : Bool) (s : SharingState T) (both : ChainAndHub T H) → WasCounted both.hub → s.reset_due ≡ asked
        → (a : Result Bool FlowFault) (h : H) → does cancels both.hub a h → Leads does (Comes asked) (after_cancel command seen s a) (record both { hub = h })
    cancel-resets asked s both counted due (Ok waited) h told =
        by-if (λ steps. Leads does (Comes asked) steps (record both { hub = h })) s.reset_due _ _
        (λ is. reset-resets asked (record s { cancel_due = false }) (record both { hub = h }) both.hub waited counted told due (sym due ∙ is))
        (λ none. running-resets asked (record s { cancel_due = false }) (record both { hub = h })
        (not-asked asked h (sym due ∙ none) (not-then old both.hub h (not-counted both.hub counted) (not-by cancels both.hub (Ok waited) h tt told))) none)
    cancel-resets asked s both counted due (Err fault) h told = (
      had-command command (refusal fault),
      refl,
      left-due asked fault s h due (not-then old both.hub h (not-counted both.hub counted) (not-by cancels both.hub (Err fault) h tt told)),
    )

    work-resets : (asked : Bool) (s : SharingState T) (both : ChainAndHub T H) → WasCounted both.hub → s.reset_due ≡ asked → Leads does (Comes asked) (work command seen s) both
    work-resets asked s both counted due =
        by-if (λ steps. Leads does (Comes asked) steps both) (s.cancel_due || s.reset_due) _ _
        (λ is. cancel-resets asked s both counted due)
        (λ neither. let none = (neither-due s.cancel_due s.reset_due neither).1 in
        running-resets asked s both (not-asked asked both.hub (sym due ∙ none) (not-counted both.hub counted)) none)

  module _ (old : H) (s : SharingState T) where
    begin-resets : (all : List SharingObservation) (command : Command) (both : ChainAndHub T H) → WasCounted old command all both.hub
        → Leads does (Comes old command all (resets_at command s.reset_due)) (begin all command s) both
    begin-resets all Start both counted = work-resets old Start all s.reset_due (record s { runs = true; completed = false }) (record both { rest = both.whole }) counted refl
    begin-resets all Stop both counted = work-resets old Stop all s.reset_due (record s { runs = false; kept = None; cancel_due = true }) both counted refl
    begin-resets all StopAndReset both counted =
        work-resets old StopAndReset all true (record s { runs = false; kept = None; cancel_due = true; reset_due = true }) both counted refl
    begin-resets all Keep both counted = work-resets old Keep all s.reset_due s both counted refl

    -- an answer before the command leaves what was due
    stays-due : (due : Bool) (answer : Result Report ShareFault) (new : H) → s.reset_due ≡ due → MayLeaveDue answer → WasNotReset does old new → ResetMeans does due old answer s new
    stays-due true answer new is may not = inr (is, may, not)
    stays-due false answer new is may not = (is, not)

    module _ (Is : Command → Type 0) where
      -- if the count was refused, if nothing was called, and if the moment is before the last one
      pub uncounted-resets : (fault : FlowFault) (new : H) → Is Keep → does counts old (Err fault) new → TurnResets does Is s old (reported Keep (refusal fault)) s new
      uncounted-resets fault new keeps told =
          (Keep, had-command Keep (refusal fault), keeps, stays-due s.reset_due (reported Keep (refusal fault)) new refl (refused-leaves Keep fault) (not-by counts old (Err fault) new tt told))

      pub uncalled-resets : (answer : Result Report ShareFault) → Is Keep → HadCommand Keep answer → MayLeaveDue answer → TurnResets does Is s old answer s old
      uncalled-resets answer keeps had may = (Keep, had, keeps, stays-due s.reset_due answer old refl may ([], refl))

      pub unobserved-resets : (answer : Result Report ShareFault) (count : ℕ) (new : H) → Is Keep → does counts old (Ok count) new → HadCommand Keep answer → MayLeaveDue answer
          → TurnResets does Is s old answer s new
      unobserved-resets answer count new keeps told had may = (Keep, had, keeps, stays-due s.reset_due answer new refl may (not-by counts old (Ok count) new tt told))

      -- what follows the count, whatever was observed
      pub begun-resets : (all : List SharingObservation) (command : Command) (mid new : ChainAndHub T H) (turned : Turned T) → Is command → WasCounted old command all mid.hub
          → Takes (CallDoes does) (begin all command s) mid turned new → TurnResets does Is s old turned.answer turned.state new.hub
      begun-resets all command mid new turned is counted h =
          let told = leads-takes does (Comes old command all (resets_at command s.reset_due)) (begin all command s) mid turned new (begin-resets all command mid counted) h in
          (command, told.0, is, told.2)

  module _ (s : SharingState T) (started : Started) (seen : List SharingObservation) where
    abbrev Ends : H → Turned T → ChainAndHub T H → Type 0
    Ends old turned new = TurnResets does (IsCommand started seen turned.seen) s old turned.answer turned.state new.hub

    count-resets : (now : ℕ) (old : ChainAndHub T H)
        → (a : Result ℕ FlowFault) (h : H) → does counts old.hub a h → Leads does (Ends old.hub) (after_count started now seen s a) (record old { hub = h })
    count-resets now old (Ok count) h told =
        let all : List SharingObservation = record { moment = now; count = count } ∷ seen in
        let command = newest_command started all in
        by-if (λ steps. Leads does (Ends old.hub) steps (record old { hub = h })) (nat_lt now (last_moment seen)) _ _
        (λ back. unobserved-resets old.hub s (IsCommand started seen seen) (Err (Backwards (last_moment seen))) count h (inl (refl, refl)) told tt tt)
        (λ after. leads-so does (Comes old.hub command all (resets_at command s.reset_due)) (Ends old.hub)
        (λ r new told. (command, told.0, subst (λ l. IsCommand started seen l command) (sym told.1) (inr (record { moment = now; count = count }, refl, refl)), told.2))
        (begin all command s) (record old { hub = h }) (begin-resets old.hub s all command (record old { hub = h }) (count, told)))
    count-resets now old (Err fault) h told = uncounted-resets old.hub s (IsCommand started seen seen) fault h (inl (refl, refl)) told

  pub turn-resets : (s : SharingState T) (started : Started) (now : ℕ) (seen : List SharingObservation) (old new : ChainAndHub T H) (turned : Turned T)
      → Takes (CallDoes does) (turn_steps started now seen s) old turned new → TurnResets does (IsCommand started seen turned.seen) s old.hub turned.answer turned.state new.hub
  turn-resets s started now seen old new turned h =
      leads-takes does (Ends s started seen old.hub) (turn_steps started now seen s) old turned new (
      by-if (λ steps. Leads does (Ends s started seen old.hub) steps old) s.ended _ _
      (λ over. uncalled-resets old.hub s (IsCommand started seen seen) (Err Ended) (inl (refl, refl)) tt tt)
      (λ going. count-resets s started seen now old)
      ) h
