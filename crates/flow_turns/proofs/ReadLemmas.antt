-- A turn by what its calls do to the chain and the hub, seen by a reading of the chain (`read-takes`), and by the hub alone
-- (`unread-turn`).
use Rattle.std.proofs.Common.{◌≡◌, inl, ℕ, Bool, true, false, nat_lt, List, ◌∷◌, ◌||◌, Option, Some, None, Result, Ok, Err, sym, refl, ap, ◌∙◌, subst}
use Rattle.flow_law.specs.declared.fault.FlowFault.{FlowFault}
use Rattle.flow_law.specs.declared.chain.End.TheVariants.{Completed as AtEnd, Failed}
use Rattle.flow_law.specs.declared.sharing.Started.{Started}
use Rattle.flow_law.specs.declared.sharing.Command.{Command}
use Rattle.flow_law.specs.declared.sharing.Command.TheVariants.{Start, Stop, StopAndReset, Keep}
use Rattle.flow_law.specs.declared.sharing.SharingObservation.{SharingObservation}
use Rattle.flow_law.specs.declared.report.Report.{Report}
use Rattle.flow_law.specs.declared.report.ShareFault.{ShareFault}
use Rattle.flow_law.specs.chain.ChainRun.{ChainRun, gives, pends, ends}
use Rattle.flow_law.specs.sharing.Sharing.{newest_command, last_moment}
use Rattle.flow_law.specs.sharing.Steps.{answers, calls, Takes}
use Rattle.flow_law.specs.sharing.SharingCalls.{HubCall, HubAnswer, TurnCall, TurnAnswer, ChainAnswer, ChainAndHub, to_hub, asks, rewinds, counts, puts, polls, cancels, resets, item, pending, end, AskDoes, CallDoes, HubStep}
use Rattle.flow_law.specs.sharing.SharingTurn.{SharingState, Turned, TurnSteps, after_put, after_ask, put, send, after_poll, collect, collect_while_running, after_reset, reset_if_due, after_cancel, work, begin, after_count, turn_steps}
use Rattle.flow_law.proofs.StepsLemmas.{takes-along}
use Rattle.flow_law.proofs.TurnLemmas.{by-if}
use Rattle.flow_turns.specs.declared.sharing.Sharing.{Sharing}
use Rattle.flow_turns.specs.SharingViews.{sharing_state, sharing_chain}
use Rattle.flow_turns.specs.TurnClauses.{TakesTurn, TakesOver, TakesSomeTurn}
use Rattle.flow_turns.specs.TurnParts.{Parts, sharing_parts, ActsBy, TakesActs}
use Rattle.flow_turns.proofs.StepLemmas.{same-parts}

-- ---- by a reading

module _ {C H T R : Type 0} (reads : C → R → Type 0) (whole rest : C → R → ChainRun T) (does : (c : HubCall T) → H → HubAnswer c → H → Type 0) (waits : H → Bool) (m : R) where
  abbrev pub read_parts : Parts C H → ChainAndHub T H
  read_parts s = record { whole = whole s.chain m; rest = rest s.chain m; hub = s.hub }

  abbrev IsRead : Parts C H → ChainAndHub T H → Type 0
  IsRead s u = reads s.chain m × (u ≡ read_parts s)

  read-call : (c : TurnCall T) (s t : Parts C H) (a : TurnAnswer c) → reads s.chain m → ActsBy reads whole rest does waits c s a t
      → reads t.chain m × CallDoes (HubStep does waits) c (read_parts s) a (read_parts t)
  read-call (to_hub c) s t a r told =
      (subst (λ (x : Parts C H). reads x.chain m) (sym told.1) r, (told.0, ap read_parts told.1))
  read-call asks s t a r told =
      let one = told.0 m r in (
        one.0.0,
        (
          one.1,
          ap (λ (x : Parts C H). record { whole = whole t.chain m; rest = rest t.chain m; hub = x.hub }) told.1
              ∙ same-parts _ _ _ _ s.hub one.0.1 refl,
        ),
      )
  read-call rewinds s t a r told =
      let one = told.0 m r in (
        one.0.0,
        ap (λ (x : Parts C H). record { whole = whole t.chain m; rest = rest t.chain m; hub = x.hub }) told.1
            ∙ same-parts _ _ _ _ s.hub one.0.1 one.1,
      )

  read-along : (c : TurnCall T) (s t : Parts C H) (a : TurnAnswer c) (u : ChainAndHub T H) → IsRead s u → ActsBy reads whole rest does waits c s a t
      → (v : ChainAndHub T H) × IsRead t v × CallDoes (HubStep does waits) c u a v
  read-along c s t a u is told =
      let one = read-call c s t a is.0 told in
      (read_parts t, (one.0, refl), subst (λ x. CallDoes (HubStep does waits) c x a (read_parts t)) (sym is.1) one.1)

  -- the steps, as this reading sees them
  pub read-takes : (steps : TurnSteps T) (old new : Parts C H) (r : Turned T) → reads old.chain m → Takes (ActsBy reads whole rest does waits) steps old r new
      → Takes (CallDoes (HubStep does waits)) steps (read_parts old) r (read_parts new)
  read-takes steps old new r is h =
      let told = takes-along (ActsBy reads whole rest does waits) (CallDoes (HubStep does waits)) IsRead read-along steps old new (read_parts old) r (is, refl) h in
      subst (Takes (CallDoes (HubStep does waits)) steps (read_parts old) r) told.1.1 told.2

-- ---- by the hub alone

-- an ask with this answer takes the one entry of this run
abbrev entry : {T : Type 0} → ChainAnswer T → ChainRun T
entry (item x) = gives x (ends AtEnd)
entry pending = pends (ends AtEnd)
entry (end e) = ends e

asks-entry : {T : Type 0} (a : ChainAnswer T) → AskDoes (entry a) a (ends AtEnd)
asks-entry (item x) = refl
asks-entry pending = refl
asks-entry (end AtEnd) = (refl, refl)
asks-entry (end (Failed fault)) = (inl refl, refl)

module _ {T H : Type 0} (does : (c : HubCall T) → H → HubAnswer c → H → Type 0) (waits : H → Bool) where
  -- what a call of a turn does to the hub
  abbrev HubActs : (c : TurnCall T) → H → TurnAnswer c → H → Type 0
  HubActs (to_hub call) old answer new = HubStep does waits call old answer new
  HubActs asks old answer new = new ≡ old
  HubActs rewinds old answer new = new ≡ old

  abbrev Both : ChainRun T → ChainRun T → H → ChainAndHub T H
  Both whole rest hub = record { whole = whole; rest = rest; hub = hub }

  abbrev TakesBoth : TurnSteps T → ChainAndHub T H → Turned T → ChainAndHub T H → Type 0
  TakesBoth = Takes (CallDoes (HubStep does waits))

  -- steps that do not call the chain may be taken over each chain
  abbrev FitsAny : TurnSteps T → Type 0
  FitsAny steps = (old new : H) (r : Turned T) → Takes HubActs steps old r new → (whole rest : ChainRun T) → TakesBoth steps (Both whole rest old) r (Both whole rest new)

  -- steps that ask the chain at most once may be taken over a chain with some rest
  abbrev FitsSome : TurnSteps T → Type 0
  FitsSome steps = (old new : H) (r : Turned T) → Takes HubActs steps old r new
      → (before : ChainRun T) × (after : ChainRun T) × ((whole : ChainRun T) → TakesBoth steps (Both whole before old) r (Both whole after new))

  -- steps that may rewind the chain first may be taken over some chain
  abbrev Fits : TurnSteps T → Type 0
  Fits steps = (old new : H) (r : Turned T) → Takes HubActs steps old r new → TakesOver does waits steps old r new

  any-answers : (r : Turned T) → FitsAny (answers r)
  any-answers r old new turned h whole rest = (h.0, ap (Both whole rest) h.1)

  some-any : (steps : TurnSteps T) → FitsAny steps → FitsSome steps
  some-any steps fits old new r h = (ends AtEnd, ends AtEnd, λ whole. fits old new r h whole (ends AtEnd))

  some-answers : (r : Turned T) → FitsSome (answers r)
  some-answers r = some-any (answers r) (any-answers r)

  fits-some : (steps : TurnSteps T) → FitsSome steps → Fits steps
  fits-some steps fits old new r h =
      let told = fits old new r h in record { whole = ends AtEnd; before = told.0; after = told.1; takes = told.2 (ends AtEnd) }

  any-hub : (c : HubCall T) (next : HubAnswer c → TurnSteps T) → ((a : HubAnswer c) → FitsAny (next a)) → FitsAny (calls (to_hub c) next)
  any-hub c next fits old new r h whole rest = (h.0, Both whole rest h.1, (h.2, refl), fits h.0 h.1 new r h.3 whole rest)

  some-hub : (c : HubCall T) (next : HubAnswer c → TurnSteps T) → ((a : HubAnswer c) → FitsSome (next a)) → FitsSome (calls (to_hub c) next)
  some-hub c next fits old new r h =
      let told = fits h.0 h.1 new r h.3 in (told.0, told.1, λ whole. (h.0, Both whole told.0 h.1, (h.2, refl), told.2 whole))

  fits-hub : (c : HubCall T) (next : HubAnswer c → TurnSteps T) → ((a : HubAnswer c) → Fits (next a)) → Fits (calls (to_hub c) next)
  fits-hub c next fits old new r h =
      let told = fits h.0 h.1 new r h.3 in
      record { whole = told.whole; before = told.before; after = told.after; takes = (h.0, Both told.whole told.before h.1, (h.2, refl), told.takes) }

  module _ (command : Command) (seen : List SharingObservation) where
    any-after_put : (x : T) (s : SharingState T) (a : Result Bool FlowFault) → FitsAny (after_put command seen x s a)
    any-after_put x s (Ok false) = any-answers _
    any-after_put x s (Ok true) = any-answers _
    any-after_put x s (Err fault) = any-answers _

    any-put : (x : T) (s : SharingState T) → FitsAny (put command seen x s)
    any-put x s = any-hub (puts x) (after_put command seen x s) (any-after_put x s)

    any-after_ask : (s : SharingState T) (a : ChainAnswer T) → FitsAny (after_ask command seen s a)
    any-after_ask s (item x) = any-put x s
    any-after_ask s pending = any-answers _
    any-after_ask s (end AtEnd) = any-answers _
    any-after_ask s (end (Failed fault)) = any-answers _

    some-send : (kept : Option T) (s : SharingState T) → FitsSome (send command seen kept s)
    some-send (Some x) s = some-any (put command seen x s) (any-put x s)
    some-send None s = λ old new r h. (
      entry h.0,
      ends AtEnd,
      λ whole. (
        h.0,
        Both whole (ends AtEnd) old,
        (asks-entry h.0, refl),
        any-after_ask s h.0 old new r (subst (λ hub. Takes HubActs (after_ask command seen s h.0) hub r new) h.2 h.3) whole (ends AtEnd),
      ),
    )

    some-after_poll : (s : SharingState T) (a : Result Bool FlowFault) → FitsSome (after_poll command seen s a)
    some-after_poll s (Ok true) = some-answers _
    some-after_poll s (Ok false) = some-send s.kept s
    some-after_poll s (Err fault) = some-answers _

    some-collect : (s : SharingState T) → FitsSome (collect command seen s)
    some-collect s = by-if FitsSome s.completed _ _ (λ e. some-answers _) (λ e. some-hub polls (after_poll command seen s) (some-after_poll s))

    some-running : (s : SharingState T) → FitsSome (collect_while_running command seen s)
    some-running s = by-if FitsSome s.runs _ _ (λ e. some-collect s) (λ e. some-answers _)

    some-after_reset : (s : SharingState T) (a : Result (Unit {0}) FlowFault) → FitsSome (after_reset command seen s a)
    some-after_reset s (Ok done) = some-running (record s { reset_due = false })
    some-after_reset s (Err fault) = some-answers _

    some-reset : (s : SharingState T) → FitsSome (reset_if_due command seen s)
    some-reset s = by-if FitsSome s.reset_due _ _ (λ e. some-hub resets (after_reset command seen s) (some-after_reset s)) (λ e. some-running s)

    some-after_cancel : (s : SharingState T) (a : Result Bool FlowFault) → FitsSome (after_cancel command seen s a)
    some-after_cancel s (Ok waited) = some-reset (record s { cancel_due = false })
    some-after_cancel s (Err fault) = some-answers _

    some-work : (s : SharingState T) → FitsSome (work command seen s)
    some-work s =
        by-if FitsSome (s.cancel_due || s.reset_due) _ _ (λ e. some-hub cancels (after_cancel command seen s) (some-after_cancel s)) (λ e. some-running s)

  fits-begin : (all : List SharingObservation) (command : Command) (s : SharingState T) → Fits (begin all command s)
  fits-begin all Start s = λ old new r h.
      let next = work Start all (record s { runs = true; completed = false }) in
      let told = some-work Start all (record s { runs = true; completed = false }) old new r (subst (λ hub. Takes HubActs next hub r new) h.2 h.3) in
      record { whole = told.0; before = told.0; after = told.1; takes = (tt, Both told.0 told.0 old, refl, told.2 told.0) }
  fits-begin all Stop s = fits-some _ (some-work Stop all (record s { runs = false; kept = None; cancel_due = true }))
  fits-begin all StopAndReset s = fits-some _ (some-work StopAndReset all (record s { runs = false; kept = None; cancel_due = true; reset_due = true }))
  fits-begin all Keep s = fits-some _ (some-work Keep all s)

  pub fits-count : (started : Started) (now : ℕ) (seen : List SharingObservation) (s : SharingState T) (a : Result ℕ FlowFault) → Fits (after_count started now seen s a)
  fits-count started now seen s (Ok count) =
      let all : List SharingObservation = record { moment = now; count = count } ∷ seen in
      by-if Fits (nat_lt now (last_moment seen)) _ _ (λ e. fits-some _ (some-answers _)) (λ e. fits-begin all (newest_command started all) s)
  fits-count started now seen s (Err fault) = fits-some _ (some-answers _)

  fits-turn : (started : Started) (now : ℕ) (seen : List SharingObservation) (s : SharingState T) → Fits (turn_steps started now seen s)
  fits-turn started now seen s =
      by-if Fits s.ended _ _ (λ e. fits-some _ (some-answers _)) (λ e. fits-hub counts (after_count started now seen s) (fits-count started now seen s))

module _ {C H T R : Type 0} (reads : C → R → Type 0) (whole rest : C → R → ChainRun T) (does : (c : HubCall T) → H → HubAnswer c → H → Type 0) (waits : H → Bool) where
  hub-call : (c : TurnCall T) (s t : Parts C H) (a : TurnAnswer c) → ActsBy reads whole rest does waits c s a t → HubActs does waits c s.hub a t.hub
  hub-call (to_hub c) s t a told = told.0
  hub-call asks s t a told = ap (λ (x : Parts C H). x.hub) told.1
  hub-call rewinds s t a told = ap (λ (x : Parts C H). x.hub) told.1

  hub-along : (c : TurnCall T) (s t : Parts C H) (a : TurnAnswer c) (u : H) → u ≡ s.hub → ActsBy reads whole rest does waits c s a t
      → (v : H) × (v ≡ t.hub) × HubActs does waits c u a v
  hub-along c s t a u is told =
      (t.hub, refl, subst (λ x. HubActs does waits c x a t.hub) (sym is) (hub-call c s t a told))

  pub hub-takes : (steps : TurnSteps T) (old new : Parts C H) (r : Turned T) → Takes (ActsBy reads whole rest does waits) steps old r new → Takes (HubActs does waits) steps old.hub r new.hub
  hub-takes steps old new r h =
      let told = takes-along (ActsBy reads whole rest does waits) (HubActs does waits) (λ s u. u ≡ s.hub) hub-along steps old new old.hub r refl h in
      subst (Takes (HubActs does waits) steps old.hub r) told.1 told.2

  -- the steps of a command and those after it, whatever the chain answers
  pub unread-begin : (all : List SharingObservation) (command : Command) (s : SharingState T) (old new : Parts C H) (r : Turned T)
      → Takes (ActsBy reads whole rest does waits) (begin all command s) old r new → TakesOver does waits (begin all command s) old.hub r new.hub
  unread-begin all command s old new r h = fits-begin does waits all command s old.hub new.hub r (hub-takes _ old new r h)

  module _ (now : ℕ) (result : Result Report ShareFault) (old new : Sharing C H T) (turn : TakesActs (ActsBy reads whole rest does waits) now old result new) where
    -- the turn, as a reading of the chain sees it
    pub read-turn : (m : R) → reads (sharing_chain old) m → TakesTurn (λ c. whole c m) (λ c. rest c m) does waits now old result new
    read-turn m is started seen stands =
        let told = turn started seen stands in
        (told.0, told.1, read-takes reads whole rest does waits m _ (sharing_parts old) (sharing_parts new) _ is told.2)

    -- the turn, whatever the chain answers
    pub unread-turn : TakesSomeTurn does waits now old result new
    unread-turn started seen stands =
        let told = turn started seen stands in
        (told.0, told.1, fits-turn does waits started now seen (sharing_state old) _ _ _ (hub-takes _ (sharing_parts old) (sharing_parts new) _ told.2))
