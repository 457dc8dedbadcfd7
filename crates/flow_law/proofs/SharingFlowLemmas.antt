-- Turns over documented flows. Begin with `shared-turn` and `state-turn`.
use Rattle.std.proofs.Common.{◌≡◌, ◌≢◌, ◌⊎◌, inl, inr, ℕ, Bool, false, List, Result, Ok, Err, sym, refl, ap, ◌∙◌, subst}
use Rattle.flow_law.specs.declared.fault.FlowFault.{FlowFault}
use Rattle.flow_law.specs.declared.fault.FlowFault.TheVariants.{OutOfMemory, TooLarge, NeedsBuffer, Exhausted, Unsupported, Busy as LockTaken}
use Rattle.flow_law.specs.declared.outcome.Emit.{Emit}
use Rattle.flow_law.specs.declared.outcome.Emit.TheVariants as emission
use Rattle.flow_law.specs.declared.call.SharedCall.TheVariants as call
use Rattle.flow_law.specs.declared.call.SharedReply.{SharedReply}
use Rattle.flow_law.specs.declared.call.SharedReply.TheVariants as reply
use Rattle.flow_law.specs.declared.sharing.Started.{Started}
use Rattle.flow_law.specs.declared.sharing.Command.{Command}
use Rattle.flow_law.specs.declared.sharing.SharingObservation.{SharingObservation}
use Rattle.flow_law.specs.declared.report.Report.{Report}
use Rattle.flow_law.specs.declared.report.ShareFault.{ShareFault}
use Rattle.flow_law.specs.declared.states.SharedFlowState.{SharedFlowState}
use Rattle.flow_law.specs.flow.SharedStep as flow
use Rattle.flow_law.specs.flow.SharedHistory.{reply_by}
use Rattle.flow_law.specs.sharing.Steps.{After, Takes}
use Rattle.flow_law.specs.sharing.SharingCalls.{HubCall, HubAnswer, TurnCall, TurnAnswer, to_hub, asks, rewinds, counts, puts, polls, cancels, resets, ChainAndHub, CallDoes}
use Rattle.flow_law.specs.sharing.SharingTurn.{SharingState, Turned, refusal, reported, turn_steps}
use Rattle.flow_law.specs.sharing.SharingFlows.{EmittingFlow, StateAndInitial, emitted, shared_reply, SharedDoes, state_reply, StateDoes, IsNotBusy, IsAtOnce, DocumentedTurn}
use Rattle.flow_law.proofs.StepsLemmas.{always-takes}
use Rattle.flow_law.proofs.NeverBusy.{never_busy}
use Rattle.flow_law.proofs.TurnLemmas.{turn-plays}
use Rattle.flow_law.proofs.TurnMeaningLemmas.{turn-means}
use Rattle.flow_law.proofs.TurnResetLemmas.{turn-resets}
use Rattle.flow_law.proofs.TurnAnswerLemmas.{Likeness, MayCall, IsSettled, turn-settles}

module _ {T F : Type 0} (does : (c : HubCall T) → F → HubAnswer c → F → Type 0) (reply : (c : HubCall T) → F → After (HubAnswer c) F)
    (May : (c : HubCall T) → HubAnswer c → Type 0) (Is : Result Report ShareFault → Type 0) where
  pub documented-turn : Likeness T May Is → ((c : HubCall T) (f g : F) (a : HubAnswer c) → does c f a g → May c a)
      → ((c : HubCall T) (f g : F) (a : HubAnswer c) → does c f a g → (reply c f ≡ record { result = a; state = g }) ⊎ (a ≡ Err OutOfMemory))
      → (started : Started) (now : ℕ) (seen : List SharingObservation) (s : SharingState T) (old new : ChainAndHub T F) (turned : Turned T)
      → Takes (CallDoes does) (turn_steps started now seen s) old turned new → DocumentedTurn does reply Is started now seen s old turned new
  documented-turn like may either started now seen s old new turned h =
      let NoCancel : Type 0 = s.cancel_due ≡ false in
      let settled : IsSettled May Is like NoCancel turned = always-takes (CallDoes does) (MayCall May Is like NoCancel) (IsSettled May Is like NoCancel) (may-call like may)
      (turn_steps started now seen s) old new turned (turn-settles May Is like NoCancel started now seen s (λ none. none)) h in
      record {
        steps = h;
        computed = turn-plays does reply either started now seen s old new turned h;
        answered = settled.0;
        cancelled = settled.1;
        means = λ runs between accepted. (turn-means does started now seen s old new turned accepted runs between h).0;
        reset = turn-resets does s started now seen old new turned h;
      }
    where
      may-call : (like : Likeness T May Is) → ((c : HubCall T) (f g : F) (a : HubAnswer c) → does c f a g → May c a)
          → (c : TurnCall T) (x y : ChainAndHub T F) (a : TurnAnswer c) → CallDoes does c x a y → MayCall May Is like (s.cancel_due ≡ false) c a
      may-call like may (to_hub c) x y a told = may c x.hub y.hub a told.0
      may-call like may asks x y a told = tt
      may-call like may rewinds x y a told = tt

abbrev IsAccepted : {R : Type 0} → Result R FlowFault → Type 0
IsAccepted (Ok r) = Unit {0}
IsAccepted (Err fault) = ⊥

-- ---- a shared flow

abbrev SharedMay : {T : Type 0} → (c : HubCall T) → HubAnswer c → Type 0
SharedMay counts a = IsAccepted a
SharedMay (puts x) a = a ≢ Err LockTaken
SharedMay polls a = IsAccepted a
SharedMay cancels a = IsAccepted a
SharedMay resets a = IsAccepted a

not_busy : (command : Command) (fault : FlowFault) → ◌≢◌ {A = Result Bool FlowFault} (Err fault) (Err LockTaken) → IsNotBusy (reported command (refusal fault))
not_busy command OutOfMemory free = tt
not_busy command TooLarge free = tt
not_busy command NeedsBuffer free = tt
not_busy command Exhausted free = tt
not_busy command Unsupported free = tt
not_busy command LockTaken free = absurd (free refl)

shared-like : {T : Type 0} → Likeness T SharedMay IsNotBusy
shared-like = record {
  counts_on = λ fault may. may;
  polls_on = λ fault may. may;
  cancels_on = λ fault may. may;
  reset_refused = λ command fault may. absurd may;
  refused = λ command x fault may. not_busy command fault may;
  queued = λ command x may e. cc;
  waiting = λ command may e. cc;
  put = λ command e. cc;
  pending_yet = λ command e. cc;
  idle = λ command e. cc;
  completed = λ command e. cc;
  failed = λ fault. tt;
  over = tt;
  backwards = λ last. tt;
}

module _ {T : Type 0} where
  emitted-free : (s : EmittingFlow T) (r : Result Emit FlowFault) (after : SharedFlowState T) → ◌≢◌ {A = SharedReply T} (reply.Refused LockTaken) (reply_by reply.Emitted r)
      → (emitted s r after).result ≢ Err LockTaken
  emitted-free s (Ok emission.Done) after free = λ e. cc
  emitted-free s (Ok (emission.Queued number)) after free = λ e. cc
  emitted-free s (Err fault) after free = λ e. let same : fault ≡ LockTaken = cc in free (ap reply.Refused (sym same))

  shared-may : (c : HubCall T) (f g : EmittingFlow T) (a : HubAnswer c) → SharedDoes c f a g → SharedMay c a
  shared-may counts f g a (inl is) = subst (λ x. IsAccepted x.result) is tt
  shared-may (puts x) f g a (inl is) = subst (λ x. x.result ≢ Err LockTaken) is (emitted-free f (flow.emit x f.flow).reply (flow.emit x f.flow).after (never_busy f.flow (call.Emit x)))
  shared-may polls f g a (inl is) = subst (λ x. IsAccepted x.result) is tt
  shared-may cancels f g a (inl is) = subst (λ x. IsAccepted x.result) is tt
  shared-may resets f g a (inl is) = subst (λ x. IsAccepted x.result) is tt
  shared-may counts f g a (inr lacks) = absurd lacks.0
  shared-may (puts x) f g a (inr lacks) = λ e. let both : ◌≡◌ {A = Result Bool FlowFault} (Err OutOfMemory) (Err LockTaken) = sym lacks.1 ∙ e in cc
  shared-may polls f g a (inr lacks) = absurd lacks.0
  shared-may cancels f g a (inr lacks) = absurd lacks.0
  shared-may resets f g a (inr lacks) = absurd lacks.0

  shared-either : (c : HubCall T) (f g : EmittingFlow T) (a : HubAnswer c) → SharedDoes c f a g → (shared_reply c f ≡ record { result = a; state = g }) ⊎ (a ≡ Err OutOfMemory)
  shared-either c f g a (inl is) = inl is
  shared-either c f g a (inr lacks) = inr lacks.1

  pub shared-turn : (started : Started) (now : ℕ) (seen : List SharingObservation) (s : SharingState T) (old new : ChainAndHub T (EmittingFlow T)) (turned : Turned T)
      → Takes (CallDoes SharedDoes) (turn_steps started now seen s) old turned new → DocumentedTurn SharedDoes shared_reply IsNotBusy started now seen s old turned new
  shared-turn = documented-turn SharedDoes shared_reply SharedMay IsNotBusy shared-like shared-may shared-either

-- ---- a state flow

-- it is not refused except with `OutOfMemory`
abbrev IsAmple : {R : Type 0} → Result R FlowFault → Type 0
IsAmple (Ok r) = Unit {0}
IsAmple (Err fault) = fault ≡ OutOfMemory

abbrev StateMay : {T : Type 0} → (c : HubCall T) → HubAnswer c → Type 0
StateMay counts a = IsAccepted a
StateMay (puts x) a = a ≡ Ok false
StateMay polls a = a ≡ Ok false
StateMay cancels a = a ≡ Ok false
StateMay resets a = IsAmple a

state-like : {T : Type 0} → Likeness T StateMay IsAtOnce
state-like = record {
  counts_on = λ fault may. may;
  polls_on = λ fault may. cc;
  cancels_on = λ fault may. cc;
  reset_refused = λ command fault may. subst (λ (f : FlowFault). IsAtOnce (reported command (refusal f))) (sym may) refl;
  refused = λ command x fault may. absurd (cc);
  queued = λ command x may. absurd (cc);
  waiting = λ command may. absurd (cc);
  put = λ command. (λ e. cc, λ e. cc, λ e. cc);
  pending_yet = λ command. (λ e. cc, λ e. cc, λ e. cc);
  idle = λ command. (λ e. cc, λ e. cc, λ e. cc);
  completed = λ command. (λ e. cc, λ e. cc, λ e. cc);
  failed = λ fault. tt;
  over = tt;
  backwards = λ last. tt;
}

module _ {T : Type 0} where
  -- the other calls are no resets
  abbrev pub IsNoReset : HubCall T → Type 0
  IsNoReset counts = Unit {0}
  IsNoReset (puts x) = Unit {0}
  IsNoReset polls = Unit {0}
  IsNoReset cancels = Unit {0}
  IsNoReset resets = ⊥

  no-reset : (c : HubCall T) → IsNoReset c → c ≡ resets → ⊥
  no-reset c other is = subst IsNoReset is other

  state-may : (c : HubCall T) (f g : StateAndInitial T) (a : HubAnswer c) → StateDoes c f a g → StateMay c a
  state-may counts f g a (inl is) = subst (λ x. IsAccepted x.result) is tt
  state-may (puts x) f g a (inl is) = ap (λ x. x.result) (sym is)
  state-may polls f g a (inl is) = ap (λ x. x.result) (sym is)
  state-may cancels f g a (inl is) = ap (λ x. x.result) (sym is)
  state-may resets f g a (inl is) = subst (λ x. IsAmple x.result) is tt
  state-may counts f g a (inr lacks) = absurd (no-reset counts tt lacks.0)
  state-may (puts x) f g a (inr lacks) = absurd (no-reset (puts x) tt lacks.0)
  state-may polls f g a (inr lacks) = absurd (no-reset polls tt lacks.0)
  state-may cancels f g a (inr lacks) = absurd (no-reset cancels tt lacks.0)
  state-may resets f g a (inr lacks) = subst IsAmple (sym lacks.1) refl

  state-either : (c : HubCall T) (f g : StateAndInitial T) (a : HubAnswer c) → StateDoes c f a g → (state_reply c f ≡ record { result = a; state = g }) ⊎ (a ≡ Err OutOfMemory)
  state-either c f g a (inl is) = inl is
  state-either c f g a (inr lacks) = inr lacks.1

  pub state-turn : (started : Started) (now : ℕ) (seen : List SharingObservation) (s : SharingState T) (old new : ChainAndHub T (StateAndInitial T)) (turned : Turned T)
      → Takes (CallDoes StateDoes) (turn_steps started now seen s) old turned new → DocumentedTurn StateDoes state_reply IsAtOnce started now seen s old turned new
  state-turn = documented-turn StateDoes state_reply StateMay IsAtOnce state-like state-may state-either
