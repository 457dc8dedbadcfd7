-- A turn over a core, as a turn over the documented flow. Begin with `turn-over_core` and `turn-over_state_core`.
use Rattle.std.proofs.Common.{◌≡◌, inl, inr, ℕ, Bool, true, false, if◌then◌else◌, length, Option, Some, None, is_some, Result, Ok, Err, sym, refl, ap, ◌∙◌, subst}
use Rattle.flow_law.specs.declared.fault.FlowFault.{FlowFault}
use Rattle.flow_law.specs.declared.fault.FlowFault.TheVariants.{OutOfMemory}
use Rattle.flow_law.specs.declared.outcome.Emit.{Emit}
use Rattle.flow_law.specs.declared.outcome.Emit.TheVariants as emission
use Rattle.flow_law.specs.declared.call.SharedCall.TheVariants as call
use Rattle.flow_law.specs.declared.call.SharedReply.{SharedReply}
use Rattle.flow_law.specs.declared.call.SharedReply.TheVariants as reply
use Rattle.flow_law.specs.declared.call.StateReply.{StateReply}
use Rattle.flow_law.specs.declared.call.StateReply.TheVariants as state_answer
use Rattle.flow_law.specs.declared.states.StateFlowState.{StateFlowState}
use Rattle.flow_law.specs.declared.states.StateAndInitial.{StateAndInitial}
use Rattle.flow_law.specs.flow.SharedStep as flow
use Rattle.flow_law.specs.flow.SharedHistory.{reply_by}
use Rattle.flow_law.specs.flow.Standing.{StandsFor}
use Rattle.flow_law.specs.sharing.Steps.{Takes}
use Rattle.flow_law.specs.sharing.SharingCalls.{HubCall, HubAnswer, counts, puts, polls, cancels, resets, HubStep, CallDoes, with_hub}
use Rattle.flow_law.specs.sharing.SharingTurn.{turn_steps}
use Rattle.flow_law.specs.declared.states.EmittingFlow.{EmittingFlow}
use Rattle.flow_law.specs.sharing.SharingFlows.{still_waits, cancelled, emitted, SharedDoes, with_value, state_reply, StateDoes}
use Rattle.flow_law.proofs.TurnLemmas.{turn-along}
use Rattle.flow_law.proofs.SharingFlowLemmas.{shared-turn, state-turn}
use Rattle.flow_law.proofs.ReplyLemmas.{replies_cases}
use Rattle.flow_turns.specs.declared.core_hub.CoreHub.{CoreHub}
use Rattle.flow_turns.specs.declared.state_hub.StateHub.{StateHub}
use Rattle.flow_turns.specs.CoreHub.{still, PollDoes, CancelDoes, CoreHubDoes, is_hub_waiting}
use Rattle.flow_turns.specs.StateHub.{StateHubDoes, never_waits, state_flow_of}
use Rattle.flow_turns.specs.OverCores.{StandsForEmitting, LawTurnOverCore, LawTurnOverStateCore}

-- ---- a shared flow

emitted-ok : {T : Type 0} (answer : Emit) (r : Result Emit FlowFault) → ◌≡◌ {A = SharedReply T} (reply.Emitted answer) (reply_by reply.Emitted r) → r ≡ Ok answer
emitted-ok answer (Ok other) e = cc
emitted-ok answer (Err fault) e = cc

emitted-err : {T : Type 0} (fault : FlowFault) (r : Result Emit FlowFault) → ◌≡◌ {A = SharedReply T} (reply.Refused fault) (reply_by reply.Emitted r) → r ≡ Err fault
emitted-err fault (Ok other) e = cc
emitted-err fault (Err same) e = cc

-- an option that is not Some is None
not-some : (o : Option ℕ) → is_some o ≡ false → o ≡ None
not-some None e = refl
not-some (Some n) e = let x : true ≡ false = e in cc

module _ {T A : Type 0} where
  abbrev Gives : (c : HubCall T) → EmittingFlow T → HubAnswer c → CoreHub T A → Type 0
  Gives c f a k = (g : EmittingFlow T) × StandsForEmitting k g × SharedDoes c f a g

  poll-gives : (o : Option ℕ) (h k : CoreHub T A) (f : EmittingFlow T) (waits : Bool) → h.emission ≡ o → StandsForEmitting h f → PollDoes o h waits k → Gives polls f (Ok waits) k
  poll-gives None h k f waits is stands told =
      let none : f.waiting ≡ None = sym stands.1 ∙ is in
      let P : CoreHub T A → Type 0 = λ x. StandsFor x.core f.flow × (x.emission ≡ f.waiting) in (
        f,
        subst P (sym told.1) stands,
        inl (
            ap (λ (w : Option ℕ). record { result = Ok (still_waits w f.flow); state = record { flow = f.flow; waiting = if still_waits w f.flow then w else None } }) none
            ∙ ap (λ (w : Bool). record { result = Ok w; state = record { flow = f.flow; waiting = None } }) (sym told.0)
            ∙ ap (λ (w : Option ℕ). record { result = Ok waits; state = record { flow = f.flow; waiting = w } }) (sym none)
            ),
      )
  poll-gives (Some number) h k f waits is stands told =
      let at : f.waiting ≡ Some number = sym stands.1 ∙ is in
      let did = told.0.0 f.flow stands.0 in
      let same : ◌≡◌ {A = SharedReply T} (reply.Tested waits) (reply.Tested (flow.is_waiting number f.flow)) = did.0 in
      let waiting_so : flow.is_waiting number f.flow ≡ waits = cc in (
        record { flow = f.flow; waiting = still waits number },
        (did.1, told.1),
        inl (
            ap (λ (w : Option ℕ). record { result = Ok (still_waits w f.flow); state = record { flow = f.flow; waiting = if still_waits w f.flow then w else None } }) at
            ∙ ap (λ (w : Bool). record { result = Ok w; state = record { flow = f.flow; waiting = if w then Some number else None } }) waiting_so
            ),
      )

  cancel-gives : (o : Option ℕ) (h k : CoreHub T A) (f : EmittingFlow T) (waited : Bool) → h.emission ≡ o → StandsForEmitting h f → CancelDoes o h waited k → Gives cancels f (Ok waited) k
  cancel-gives None h k f waited is stands told =
      let none : f.waiting ≡ None = sym stands.1 ∙ is in
      let P : CoreHub T A → Type 0 = λ x. StandsFor x.core f.flow × (x.emission ≡ None) in (
        record { flow = f.flow; waiting = None },
        subst P (sym told.1) (stands.0, is),
        inl (
            ap (λ (w : Option ℕ). record { result = Ok (still_waits w f.flow); state = record { flow = cancelled w f.flow; waiting = None } }) none
            ∙ ap (λ (w : Bool). record { result = Ok w; state = record { flow = f.flow; waiting = None } }) (sym told.0)
            ),
      )
  cancel-gives (Some number) h k f waited is stands told =
      let at : f.waiting ≡ Some number = sym stands.1 ∙ is in
      let did = told.0.0 f.flow stands.0 in
      let same : ◌≡◌ {A = SharedReply T} (reply.Tested waited) (reply.Tested (flow.is_waiting number f.flow)) = did.0 in
      let waited_so : flow.is_waiting number f.flow ≡ waited = cc in (
        record { flow = (flow.cancel number f.flow).after; waiting = None },
        (did.1, told.1),
        inl (
            ap (λ (w : Option ℕ). record { result = Ok (still_waits w f.flow); state = record { flow = cancelled w f.flow; waiting = None } }) at
            ∙ ap (λ (w : Bool). record { result = Ok w; state = record { flow = (flow.cancel number f.flow).after; waiting = None } }) waited_so
            ),
      )

  -- a refused emission changes nothing
  refusal-gives : (x : T) (h k : CoreHub T A) (f : EmittingFlow T) (fault : FlowFault) → StandsForEmitting h f → HubStep CoreHubDoes is_hub_waiting (puts x) h (Err fault) k → Gives (puts x) f (Err fault) k
  refusal-gives x h k f fault stands told =
      let did = told.0.0.0 f.flow stands.0 in
      let free : h.emission ≡ None = not-some h.emission (sym told.1 ∙ ap is_some told.0.1) in
      let left : StandsForEmitting k f = (did.1, told.0.1 ∙ sym free ∙ stands.1) in
      elim (replies_cases f.flow (call.Emit x) (reply.Refused fault) did.0) [
        | inl is ↦ (f, left, inl (ap (λ r. emitted f r (flow.emit x f.flow).after) (emitted-err fault (flow.emit x f.flow).reply is)))
        | inr lacks ↦
            let same : fault ≡ OutOfMemory = (let e : ◌≡◌ {A = SharedReply T} (reply.Refused fault) (reply.Refused OutOfMemory) = lacks.0 in cc) in
            (f, left, inr (lacks.1, ap Err same, refl))
      ]

  core-gives : (c : HubCall T) (h k : CoreHub T A) (a : HubAnswer c) (f : EmittingFlow T) → StandsForEmitting h f → HubStep CoreHubDoes is_hub_waiting c h a k → Gives c f a k
  core-gives counts h k (Ok count) f stands told =
      let did = told.0.0.0 f.flow stands.0 in
      let same : ◌≡◌ {A = SharedReply T} (reply.Counted count) (reply.Counted (length f.flow.subscribers)) = did.0 in
      let so : length f.flow.subscribers ≡ count = cc in
      (f, (did.1, told.0.1 ∙ stands.1), inl (ap (λ (n : ℕ). record { result = Ok n; state = f }) so))
  core-gives counts h k (Err fault) f stands told = absurd told.0
  core-gives (puts x) h k (Ok false) f stands told =
      let did = told.0.0.0 f.flow stands.0 in (
        record { flow = (flow.emit x f.flow).after; waiting = None },
        (did.1, told.0.1),
        inl (ap (λ r. emitted f r (flow.emit x f.flow).after) (emitted-ok emission.Done (flow.emit x f.flow).reply did.0)),
      )
  core-gives (puts x) h k (Ok true) f stands ((number, conforms, kept), waits) =
      let did = conforms.0 f.flow stands.0 in (
        record { flow = (flow.emit x f.flow).after; waiting = Some number },
        (did.1, kept),
        inl (ap (λ r. emitted f r (flow.emit x f.flow).after) (emitted-ok (emission.Queued number) (flow.emit x f.flow).reply did.0)),
      )
  core-gives (puts x) h k (Err fault) f stands told = refusal-gives x h k f fault stands told
  core-gives polls h k (Ok waits) f stands told = poll-gives h.emission h k f waits refl stands told.0
  core-gives polls h k (Err fault) f stands told = absurd told.0
  core-gives cancels h k (Ok waited) f stands told = cancel-gives h.emission h k f waited refl stands told.0
  core-gives cancels h k (Err fault) f stands told = absurd told.0
  core-gives resets h k (Ok done) f stands told =
      let did = told.0.0.0 f.flow stands.0 in
      (record f { flow = (flow.reset_replay_cache f.flow).after }, (did.1, told.0.1 ∙ stands.1), inl refl)
  core-gives resets h k (Err fault) f stands told = absurd told.0

pub turn-over_core : (T A : Type 0) → LawTurnOverCore T A
turn-over_core T A started now seen s f old new turned stands h =
    let done = turn-along (HubStep CoreHubDoes is_hub_waiting) SharedDoes StandsForEmitting core-gives _ old new f turned stands h in
    (done.0, done.1, shared-turn started now seen s _ _ turned done.2)

-- ---- a state flow

module _ {T A : Type 0} where
  -- the hub is the flow
  abbrev IsFlow : StateHub T A → StateAndInitial T → Type 0
  IsFlow hub f = f ≡ state_flow_of hub

  nothing-done : (c : HubCall T) (h k : StateHub T A) (a : HubAnswer c) (f : StateAndInitial T) → IsFlow h f → k ≡ h
      → state_reply c (state_flow_of h) ≡ record { result = a; state = state_flow_of h }
      → (g : StateAndInitial T) × IsFlow k g × StateDoes c f a g
  nothing-done c h k a f is same does = (
    state_flow_of k,
    refl,
    inl (ap (state_reply c) is ∙ does ∙ ap (λ (y : StateHub T A). record { result = a; state = state_flow_of y }) (sym same)),
  )

  -- the state flow of a hub, by its core and its initial value
  sets : (h k : StateHub T A) (core : StateFlowState T) → k.core ≡ core → k.initial ≡ h.initial → record { flow = core; initial = h.initial } ≡ state_flow_of k
  sets h k core is same =
      ap (λ (x : StateFlowState T). record { flow = x; initial = h.initial }) (sym is) ∙ ap (λ (x : T). record { flow = k.core; initial = x }) (sym same)

  state-gives : (c : HubCall T) (h k : StateHub T A) (a : HubAnswer c) (f : StateAndInitial T) → IsFlow h f → HubStep StateHubDoes never_waits c h a k
      → (g : StateAndInitial T) × IsFlow k g × StateDoes c f a g
  state-gives counts h k (Ok count) f is told =
      let did = told.0.0.0 h.core refl in
      let same : ◌≡◌ {A = StateReply T} (state_answer.Counted count) (state_answer.Counted (length h.core.subscribers)) = did.0 in
      let so : length h.core.subscribers ≡ count = cc in (
        state_flow_of k,
        refl,
        inl (
            ap (state_reply counts) is ∙ ap (λ (n : ℕ). record { result = Ok n; state = state_flow_of h }) so
            ∙ ap (λ (x : StateAndInitial T). record { result = Ok count; state = x }) (sets h k h.core did.1 told.0.1)
            ),
      )
  state-gives counts h k (Err fault) f is told = absurd told.0
  state-gives (puts x) h k a f is told =
      let did = told.0.0.0.0 h.core refl in (
        state_flow_of k,
        refl,
        inl (
            ap (state_reply (puts x)) is ∙ ap (λ (y : Result Bool FlowFault). record { result = y; state = with_value x (state_flow_of h) }) (sym told.0.1)
            ∙ ap (λ (y : StateAndInitial T). record { result = a; state = y }) (sets h k (record h.core { value = x }) did.1 told.0.0.1)
            ),
      )
  state-gives polls h k a f is told =
      nothing-done polls h k a f is told.0.0 (ap (λ (y : Result Bool FlowFault). record { result = y; state = state_flow_of h }) (sym told.0.1))
  state-gives cancels h k a f is told =
      nothing-done cancels h k a f is told.0.0 (ap (λ (y : Result Bool FlowFault). record { result = y; state = state_flow_of h }) (sym told.0.1))
  state-gives resets h k (Ok done) f is told =
      let did = told.0.0.0 h.core refl in (
        state_flow_of k,
        refl,
        inl (
            ap (state_reply resets) is
            ∙ ap (λ (y : StateAndInitial T). record { result = Ok tt; state = y }) (sets h k (record h.core { value = h.initial }) did.1 told.0.1)
            ),
      )
  state-gives resets h k (Err fault) f is told = (
    f,
    is ∙ ap (λ (x : StateHub T A). state_flow_of x) (sym told.0.0),
    inr (refl, ap Err told.0.1, refl),
  )

pub turn-over_state_core : (T A : Type 0) → LawTurnOverStateCore T A
turn-over_state_core T A started now seen s old new turned h =
    let done = turn-along (HubStep StateHubDoes never_waits) StateDoes IsFlow state-gives _ old new (state_flow_of old.hub) turned refl h in
    state-turn started now seen s _ _ turned
    (subst (λ g. Takes (CallDoes StateDoes) (turn_steps started now seen s) (with_hub old (state_flow_of old.hub)) turned (with_hub new g)) done.1 done.2)
