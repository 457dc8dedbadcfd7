-- A turn of a sharing, walked along its calls. `leads-takes` proves what holds after a turn from what holds after each of its calls,
-- `turn-along` carries a turn to another hub, and `turn-plays` gives the turn over a flow that answers by a function.
use Rattle.std.proofs.Common.{◌≡◌, ◌⊎◌, inl, inr, ℕ, Bool, true, false, nat_lt, if◌then◌else◌, List, ◌∷◌, ◌||◌, Option, Some, None, Result, Ok, Err, sym, refl, ap, ◌∙◌, subst}
use Rattle.flow_law.specs.declared.fault.FlowFault.{FlowFault}
use Rattle.flow_law.specs.declared.fault.FlowFault.TheVariants.{OutOfMemory}
use Rattle.flow_law.specs.declared.chain.ChainFault.TheVariants as chain_fault
use Rattle.flow_law.specs.declared.chain.End.TheVariants.{Completed as AtEnd, Failed}
use Rattle.flow_law.specs.declared.sharing.Started.{Started}
use Rattle.flow_law.specs.declared.sharing.Command.{Command}
use Rattle.flow_law.specs.declared.sharing.Command.TheVariants.{Start, Stop, StopAndReset, Keep}
use Rattle.flow_law.specs.declared.sharing.SharingObservation.{SharingObservation}
use Rattle.flow_law.specs.chain.ChainRun.{ChainRun}
use Rattle.flow_law.specs.sharing.Sharing.{newest_command, last_moment}
use Rattle.flow_law.specs.sharing.Steps.{answers, calls, After, Takes}
use Rattle.flow_law.specs.sharing.SharingCalls.{HubCall, HubAnswer, TurnCall, TurnAnswer, ChainAnswer, to_hub, asks, rewinds, counts, puts, polls, cancels, resets, item, pending, end, first_answer, rest_after, AskDoes, ChainAndHub, with_hub, CallDoes, call_reply}
use Rattle.flow_law.specs.sharing.SharingTurn.{SharingState, Turned, TurnSteps, after_put, after_ask, send, after_poll, collect, collect_while_running, after_reset, reset_if_due, after_cancel, work, begin, after_count, turn_steps}
use Rattle.flow_law.specs.sharing.SharingFlows.{HadMemory, flow_turn}
use Rattle.flow_law.proofs.StepsLemmas.{Always, Tells, takes-along, takes-plays}

pub by-if : {X : Type 0} (P : X → Type 0) (b : Bool) (x y : X) → (b ≡ true → P x) → (b ≡ false → P y) → P (if b then x else y)
by-if P true x y f g = f refl
by-if P false x y f g = g refl

pub neither-due : (a b : Bool) → (a || b) ≡ false → (a ≡ false) × (b ≡ false)
neither-due true b e = let x : true ≡ false = e in cc
neither-due false b e = (refl, e)

-- ---- what each call leads to

module _ {T H : Type 0} (does : (c : HubCall T) → H → HubAnswer c → H → Type 0) (Is : Turned T → ChainAndHub T H → Type 0) where
  -- whatever the calls answer, the turn ends so
  abbrev pub Leads : TurnSteps T → ChainAndHub T H → Type 0
  Leads (answers r) both = Is r both
  Leads (calls (to_hub c) next) both = (a : HubAnswer c) (h : H) → does c both.hub a h → Leads (next a) (record both { hub = h })
  Leads (calls asks next) both = (a : ChainAnswer T) (rest : ChainRun T) → AskDoes both.rest a rest → Leads (next a) (record both { rest = rest })
  Leads (calls rewinds next) both = Leads (next tt) (record both { rest = both.whole })

  pub leads-takes : (steps : TurnSteps T) (old : ChainAndHub T H) (r : Turned T) (new : ChainAndHub T H) → Leads steps old → Takes (CallDoes does) steps old r new → Is r new
  leads-takes (answers e) old r new leads h =
      subst (λ x. Is x new) (sym h.0) (subst (Is e) (sym h.1) leads)
  leads-takes (calls (to_hub c) next) old r new leads h =
      leads-takes (next h.0) h.1 r new (subst (Leads (next h.0)) (sym h.2.1) (leads h.0 h.1.hub h.2.0)) h.3
  leads-takes (calls asks next) old r new leads h =
      leads-takes (next h.0) h.1 r new (subst (Leads (next h.0)) (sym h.2.1) (leads h.0 h.1.rest h.2.0)) h.3
  leads-takes (calls rewinds next) old r new leads h =
      leads-takes (next h.0) h.1 r new (subst (Leads (next h.0)) (sym h.2) leads) h.3

  -- what follows from the answers alone
  pub always-leads : (OfAnswer : Turned T → Type 0) → ((r : Turned T) (new : ChainAndHub T H) → OfAnswer r → Is r new)
      → (steps : TurnSteps T) (both : ChainAndHub T H) → Always (λ c a. Unit {0}) OfAnswer steps → Leads steps both
  always-leads OfAnswer so (answers r) both is = so r both is
  always-leads OfAnswer so (calls (to_hub c) next) both is = λ a h told. always-leads OfAnswer so (next a) (record both { hub = h }) (is a tt)
  always-leads OfAnswer so (calls asks next) both is = λ a rest told. always-leads OfAnswer so (next a) (record both { rest = rest }) (is a tt)
  always-leads OfAnswer so (calls rewinds next) both is = always-leads OfAnswer so (next tt) (record both { rest = both.whole }) (is tt tt)

module _ {T H : Type 0} (does : (c : HubCall T) → H → HubAnswer c → H → Type 0) (Is So : Turned T → ChainAndHub T H → Type 0) where
  pub leads-so : ((r : Turned T) (new : ChainAndHub T H) → Is r new → So r new) → (steps : TurnSteps T) (both : ChainAndHub T H)
      → Leads does Is steps both → Leads does So steps both
  leads-so so (answers r) both is = so r both is
  leads-so so (calls (to_hub c) next) both is = λ a h told. leads-so so (next a) (record both { hub = h }) (is a h told)
  leads-so so (calls asks next) both is = λ a rest told. leads-so so (next a) (record both { rest = rest }) (is a rest told)
  leads-so so (calls rewinds next) both is = leads-so so (next tt) (record both { rest = both.whole }) is

module _ {T H : Type 0} (does : (c : HubCall T) → H → HubAnswer c → H → Type 0) (Is Also So : Turned T → ChainAndHub T H → Type 0) where
  -- two facts of the end of a turn together
  pub leads-both : ((r : Turned T) (new : ChainAndHub T H) → Is r new → Also r new → So r new) → (steps : TurnSteps T) (both : ChainAndHub T H)
      → Leads does Is steps both → Leads does Also steps both → Leads does So steps both
  leads-both so (answers r) both is also = so r both is also
  leads-both so (calls (to_hub c) next) both is also = λ a h told. leads-both so (next a) (record both { hub = h }) (is a h told) (also a h told)
  leads-both so (calls asks next) both is also = λ a rest told. leads-both so (next a) (record both { rest = rest }) (is a rest told) (also a rest told)
  leads-both so (calls rewinds next) both is also = leads-both so (next tt) (record both { rest = both.whole }) is also

-- ---- another hub

module _ {T H F : Type 0} (does : (c : HubCall T) → H → HubAnswer c → H → Type 0) (does' : (c : HubCall T) → F → HubAnswer c → F → Type 0) (Stands : H → F → Type 0) where
  -- the same chain, with a hub that stands for the other one
  abbrev Same : ChainAndHub T H → ChainAndHub T F → Type 0
  Same both both' = Stands both.hub both'.hub × (both' ≡ with_hub both both'.hub)

  call-along : ((c : HubCall T) (h k : H) (a : HubAnswer c) (f : F) → Stands h f → does c h a k → (g : F) × Stands k g × does' c f a g)
      → (c : TurnCall T) (s t : ChainAndHub T H) (a : TurnAnswer c) (u : ChainAndHub T F) → Same s u → CallDoes does c s a t
      → (v : ChainAndHub T F) × Same t v × CallDoes does' c u a v
  call-along along (to_hub c) s t a u same told =
      let one = along c s.hub t.hub a u.hub same.0 told.0 in (
        with_hub t one.0,
        (one.1, refl),
        (one.2, ap (λ (x : ChainAndHub T H). with_hub x one.0) told.1 ∙ ap (λ (x : ChainAndHub T F). record x { hub = one.0 }) (sym same.1)),
      )
  call-along along asks s t a u same told =
      let first : AskDoes u.rest a t.rest = subst (λ x. AskDoes x.rest a t.rest) (sym same.1) told.0 in (
        with_hub t u.hub,
        (subst (λ x. Stands x.hub u.hub) (sym told.1) same.0, refl),
        (first, ap (λ (x : ChainAndHub T H). with_hub x u.hub) told.1 ∙ ap (λ (x : ChainAndHub T F). record x { rest = t.rest }) (sym same.1)),
      )
  call-along along rewinds s t a u same told = (
    with_hub t u.hub,
    (subst (λ x. Stands x.hub u.hub) (sym told) same.0, refl),
    ap (λ (x : ChainAndHub T H). with_hub x u.hub) told ∙ ap (λ (x : ChainAndHub T F). record x { rest = x.whole }) (sym same.1),
  )

  -- if each call of the hub does the same to what the hub stands for, the steps do the same
  pub turn-along : ((c : HubCall T) (h k : H) (a : HubAnswer c) (f : F) → Stands h f → does c h a k → (g : F) × Stands k g × does' c f a g)
      → (steps : TurnSteps T) (old new : ChainAndHub T H) (f : F) (r : Turned T) → Stands old.hub f → Takes (CallDoes does) steps old r new
      → (g : F) × Stands new.hub g × Takes (CallDoes does') steps (with_hub old f) r (with_hub new g)
  turn-along along steps old new f r stands h =
      let done = takes-along (CallDoes does) (CallDoes does') Same (call-along along) steps old new (with_hub old f) r (stands, refl) h in (
        done.0.hub,
        done.1.0,
        subst (Takes (CallDoes does') steps (with_hub old f) r) done.1.1 done.2,
      )

-- ---- a flow that answers by a function

-- out of memory, of the hub or of the chain
abbrev LacksMemory : {T : Type 0} → (c : TurnCall T) → TurnAnswer c → Type 0
LacksMemory (to_hub call) answer = answer ≡ Err OutOfMemory
LacksMemory {T} asks answer = ◌≡◌ {A = ChainAnswer T} answer (end (Failed chain_fault.OutOfMemory))
LacksMemory rewinds answer = ⊥

abbrev TellsIt : {T : Type 0} → Turned T → Type 0
TellsIt turned = HadMemory turned.answer → ⊥

module _ {T : Type 0} where
  abbrev TellsMemory : TurnSteps T → Type 0
  TellsMemory = Tells LacksMemory TellsIt

  tells-hub : (c : HubCall T) (next : HubAnswer c → TurnSteps T) → Always (λ c a. Unit {0}) TellsIt (next (Err OutOfMemory)) → ((a : HubAnswer c) → TellsMemory (next a))
      → TellsMemory (calls (to_hub c) next)
  tells-hub c next told rest = λ a. (λ lacks. subst (λ x. Always (λ c a. Unit {0}) TellsIt (next x)) (sym lacks) told, rest a)

  module _ (command : Command) (seen : List SharingObservation) where
    tells-put : (x : T) (s : SharingState T) (a : Result Bool FlowFault) → TellsMemory (after_put command seen x s a)
    tells-put x s (Ok false) = tt
    tells-put x s (Ok true) = tt
    tells-put x s (Err fault) = tt

    tells-ask : (s : SharingState T) (a : ChainAnswer T) → TellsMemory (after_ask command seen s a)
    tells-ask s (item x) = tells-hub (puts x) (after_put command seen x s) (λ h. h) (tells-put x s)
    tells-ask s pending = tt
    tells-ask s (end AtEnd) = tt
    tells-ask s (end (Failed fault)) = tt

    tells-send : (k : Option T) (s : SharingState T) → TellsMemory (send command seen k s)
    tells-send (Some x) s = tells-hub (puts x) (after_put command seen x s) (λ h. h) (tells-put x s)
    tells-send None s = λ a. (λ lacks. subst (λ x. Always (λ c a. Unit {0}) TellsIt (after_ask command seen s x)) (sym lacks) (λ h. h), tells-ask s a)

    tells-poll : (s : SharingState T) (a : Result Bool FlowFault) → TellsMemory (after_poll command seen s a)
    tells-poll s (Ok true) = tt
    tells-poll s (Ok false) = tells-send s.kept s
    tells-poll s (Err fault) = tt

    tells-collect : (s : SharingState T) → TellsMemory (collect command seen s)
    tells-collect s =
        by-if TellsMemory s.completed _ _ (λ e. tt) (λ e. tells-hub polls (after_poll command seen s) (λ h. h) (tells-poll s))

    tells-running : (s : SharingState T) → TellsMemory (collect_while_running command seen s)
    tells-running s = by-if TellsMemory s.runs _ _ (λ e. tells-collect s) (λ e. tt)

    tells-reset : (s : SharingState T) (a : Result (Unit {0}) FlowFault) → TellsMemory (after_reset command seen s a)
    tells-reset s (Ok done) = tells-running (record s { reset_due = false })
    tells-reset s (Err fault) = tt

    tells-reset_if_due : (s : SharingState T) → TellsMemory (reset_if_due command seen s)
    tells-reset_if_due s =
        by-if TellsMemory s.reset_due _ _ (λ e. tells-hub resets (after_reset command seen s) (λ h. h) (tells-reset s)) (λ e. tells-running s)

    tells-cancel : (s : SharingState T) (a : Result Bool FlowFault) → TellsMemory (after_cancel command seen s a)
    tells-cancel s (Ok waited) = tells-reset_if_due (record s { cancel_due = false })
    tells-cancel s (Err fault) = tt

    tells-work : (s : SharingState T) → TellsMemory (work command seen s)
    tells-work s =
        by-if TellsMemory (s.cancel_due || s.reset_due) _ _ (λ e. tells-hub cancels (after_cancel command seen s) (λ h. h) (tells-cancel s)) (λ e. tells-running s)

  tells-begin : (all : List SharingObservation) (command : Command) (s : SharingState T) → TellsMemory (begin all command s)
  tells-begin all Start s = λ a. (λ lacks. absurd lacks, tells-work Start all (record s { runs = true; completed = false }))
  tells-begin all Stop s = tells-work Stop all (record s { runs = false; kept = None; cancel_due = true })
  tells-begin all StopAndReset s = tells-work StopAndReset all (record s { runs = false; kept = None; cancel_due = true; reset_due = true })
  tells-begin all Keep s = tells-work Keep all s

  tells-count : (started : Started) (now : ℕ) (seen : List SharingObservation) (s : SharingState T) (a : Result ℕ FlowFault) → TellsMemory (after_count started now seen s a)
  tells-count started now seen s (Ok count) =
      let all : List SharingObservation = record { moment = now; count = count } ∷ seen in
      by-if TellsMemory (nat_lt now (last_moment seen)) _ _ (λ e. tt) (λ e. tells-begin all (newest_command started all) s)
  tells-count started now seen s (Err fault) = tt

  tells-turn : (started : Started) (now : ℕ) (seen : List SharingObservation) (s : SharingState T) → TellsMemory (turn_steps started now seen s)
  tells-turn started now seen s =
      by-if TellsMemory s.ended _ _ (λ e. tt) (λ e. tells-hub counts (after_count started now seen s) (λ h. h) (tells-count started now seen s))

module _ {T F : Type 0} (does : (c : HubCall T) → F → HubAnswer c → F → Type 0) (reply : (c : HubCall T) → F → After (HubAnswer c) F) where
  -- an ask is answered by the chain's first entry, or lacks memory
  ask-plays : (run rest : ChainRun T) (a : ChainAnswer T) → AskDoes run a rest
      → ((first_answer run ≡ a) × (rest_after run ≡ rest)) ⊎ (a ≡ end (Failed chain_fault.OutOfMemory))
  ask-plays run rest (item x) is = inl (ap first_answer is, ap rest_after is)
  ask-plays run rest pending is = inl (ap first_answer is, ap rest_after is)
  ask-plays run rest (end AtEnd) is = inl (ap first_answer is.0, ap rest_after is.0 ∙ sym is.1)
  ask-plays run rest (end (Failed fault)) (inl is, over) = inl (ap first_answer is, ap rest_after is ∙ sym over)
  ask-plays run rest (end (Failed fault)) (inr lacks, over) = inr (ap (λ f. end (Failed f)) lacks)

  abbrev OneOf : (c : TurnCall T) → ChainAndHub T F → TurnAnswer c → ChainAndHub T F → Type 0
  OneOf c s a t = (call_reply reply c s ≡ record { result = a; state = t }) ⊎ LacksMemory c a

  call-plays : ((c : HubCall T) (f g : F) (a : HubAnswer c) → does c f a g → (reply c f ≡ record { result = a; state = g }) ⊎ (a ≡ Err OutOfMemory))
      → (c : TurnCall T) (s t : ChainAndHub T F) (a : TurnAnswer c) → CallDoes does c s a t → OneOf c s a t
  call-plays either (to_hub c) s t a told =
      elim (either c s.hub t.hub a told.0) [
        | inl is ↦ inl (
            ap (λ (x : After (HubAnswer c) F). record { result = x.result; state = record s { hub = x.state } }) is
            ∙ ap (λ (x : ChainAndHub T F). record { result = a; state = x }) (sym told.1)
            )
        | inr lacks ↦ inr lacks
      ]
  call-plays either asks s t a told =
      elim (ask-plays s.rest t.rest a told.0) [
        | inl is ↦ inl (
            ap (λ (x : ChainAnswer T). record { result = x; state = record s { rest = rest_after s.rest } }) is.0
            ∙ ap (λ (x : ChainRun T). record { result = a; state = record s { rest = x } }) is.1
            ∙ ap (λ (x : ChainAndHub T F). record { result = a; state = x }) (sym told.1)
            )
        | inr lacks ↦ inr lacks
      ]
  call-plays either rewinds s t a told = inl (ap (λ (x : ChainAndHub T F). record { result = a; state = x }) (sym told))

  -- if the answer is not `OutOfMemory`, the turn is the one over a flow that answers by `reply`
  pub turn-plays : ((c : HubCall T) (f g : F) (a : HubAnswer c) → does c f a g → (reply c f ≡ record { result = a; state = g }) ⊎ (a ≡ Err OutOfMemory))
      → (started : Started) (now : ℕ) (seen : List SharingObservation) (s : SharingState T) (old new : ChainAndHub T F) (turned : Turned T)
      → Takes (CallDoes does) (turn_steps started now seen s) old turned new → HadMemory turned.answer
      → flow_turn reply started now seen s old ≡ record { result = turned; state = new }
  turn-plays either started now seen s old new turned h had =
      elim (takes-plays (CallDoes does) (call_reply reply) LacksMemory TellsIt (call-plays either) (turn_steps started now seen s) old new turned (tells-turn started now seen s) h) [
        | inl is ↦ is
        | inr told ↦ absurd (told had)
      ]
