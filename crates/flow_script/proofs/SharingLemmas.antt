-- A turn of a sharing that scripts play on, as the documented turn.
use Rattle.std.proofs.Common.{◌≡◌, ℕ, ℤ, Bool, List, [], Option, Some, None, Result, Err, false, refl, sym, ap, subst, ◌∙◌}
use Rattle.std.specs.Prelude.{is_some}
use Rattle.flow_law.specs.declared.sharing.Started.{Started}
use Rattle.flow_law.specs.declared.sharing.SharingObservation.{SharingObservation}
use Rattle.flow_law.specs.declared.chain.ChainFault.TheVariants as chain_fault
use Rattle.flow_law.specs.declared.fault.FlowFault.TheVariants as flow_fault
use Rattle.flow_law.specs.declared.report.Report.{Report}
use Rattle.flow_law.specs.declared.report.ShareFault.{ShareFault}
use Rattle.flow_law.specs.declared.report.ShareFault.TheVariants.{Backwards, Ended, Chain, Flow}
use Rattle.flow_law.specs.chain.ChainRun.{ChainRun}
use Rattle.flow_law.specs.sharing.SharingCalls.{HubCall, HubAnswer, HubStep, ChainAndHub, CallDoes, with_hub}
use Rattle.flow_law.specs.sharing.SharingFlows.{HadMemory, flow_turn}
use Rattle.flow_law.specs.sharing.SharingTurn.{Turned, turn_steps, at_rest}
use Rattle.flow_law.specs.sharing.Steps.{After, Takes}
use Rattle.flow_cold.specs.declared.script_chain.ScriptChain.{ScriptChain}
use Rattle.flow_turns.specs.declared.sharing.Sharing.{Sharing}
use Rattle.flow_turns.specs.SharingViews.{sharing_state, HasObserved}
use Rattle.flow_script.specs.Answers.{turn_answer}
use Rattle.flow_script.specs.Memory.{IsToldFault}
use Rattle.flow_script.specs.Numbers.{Numbers}
use Rattle.flow_script.specs.SharingMeaning.{SharingPlay, first_sharing, turn_at_moment}
use Rattle.flow_script.specs.Sharings.{ShowsSharing, TurnsAsDocumented, both_of}

-- a fault that a line reports is not OutOfMemory
pub told-had : (fault : ShareFault) → IsToldFault fault → HadMemory {R = Report} (Err fault)
told-had (Backwards last) told = tt
told-had Ended told = tt
told-had (Flow flow_fault.OutOfMemory) told = absurd told
told-had (Flow flow_fault.TooLarge) told = tt
told-had (Flow flow_fault.NeedsBuffer) told = tt
told-had (Flow flow_fault.Exhausted) told = tt
told-had (Flow flow_fault.Unsupported) told = tt
told-had (Flow flow_fault.Busy) told = tt
told-had (Chain chain_fault.OutOfMemory) told = absurd told
told-had (Chain chain_fault.Overflow) told = tt
told-had (Chain chain_fault.NotPositive) told = tt
told-had (Chain (chain_fault.Source n)) told = tt
told-had (Chain chain_fault.TooDeep) told = tt

-- ---- before any turn

pub none-waits : (o : Option ℕ) → is_some o ≡ false → o ≡ None
none-waits None e = refl
none-waits (Some n) e = cc

abbrev pub chained : {H : Type 0} → ChainRun ℤ → ChainRun ℤ → H → ChainAndHub ℤ H
chained whole rest hub = record { whole = whole; rest = rest; hub = hub }

module _ {H F : Type 0} (Stands : H → F → Type 0) where
  -- a sharing that was just made stands for the documented one before any turn
  pub begun : (sharing : Sharing ScriptChain H ℤ) (started : Started) (run : ChainRun ℤ) (f : F) → HasObserved started sharing [] → sharing_state sharing ≡ at_rest
      → both_of sharing ≡ record { whole = run; rest = run; hub = sharing.hub } → Stands sharing.hub f → ShowsSharing Stands sharing (first_sharing run started f)
  begun sharing started run f nothing rests is stands = record {
    observed = nothing;
    state = rests;
    both = ap (λ (b : ChainAndHub ℤ H). with_hub b f) is;
    flow = stands;
  }

-- ---- a turn

module _ {H F : Type 0} (does : (c : HubCall ℤ) → H → HubAnswer c → H → Type 0) (waits : H → Bool) (Stands : H → F → Type 0) (reply : (c : HubCall ℤ) → F → After (HubAnswer c) F) where
  -- a turn of a sharing that stands for a documented one is the documented turn
  pub turned : (now : ℕ) (n : Numbers) (result : Result Report ShareFault) (old new : Sharing ScriptChain H ℤ) (p : SharingPlay F)
      → ShowsSharing Stands old p → TurnsAsDocumented does waits Stands reply
      → ((started : Started) (seen : List SharingObservation) → HasObserved started old seen
      → (all : List SharingObservation) × HasObserved started new all
      × Takes (CallDoes (HubStep does waits)) (turn_steps started now seen (sharing_state old)) (both_of old) (record { answer = result; seen = all; state = sharing_state new }) (both_of new))
      → HadMemory result → ShowsSharing Stands new (turn_at_moment reply now p n).after × (turn_answer result ≡ (turn_at_moment reply now p n).answer)
  turned now n result old new p shows law takes had =
      let observed = takes p.started p.seen shows.observed in
      let all = observed.0 in
      let after : Turned ℤ = record { answer = result; seen = all; state = sharing_state new } in
      let done = law p.started now p.seen (sharing_state old) p.both.hub (both_of old) (both_of new) after shows.flow observed.2 had in
      let whole : flow_turn reply p.started now p.seen p.state p.both ≡ record { result = after; state = with_hub (both_of new) done.0 } =
      ap (λ s. flow_turn reply p.started now p.seen s p.both) (sym shows.state) ∙ ap (flow_turn reply p.started now p.seen (sharing_state old)) (sym shows.both) ∙ done.2 in
      let shown : ShowsSharing Stands new (record p { seen = all; state = sharing_state new; both = with_hub (both_of new) done.0 }) = record {
        observed = observed.1;
        state = refl;
        both = refl;
        flow = done.1;
      } in (
        subst (λ (z : After (Turned ℤ) (ChainAndHub ℤ F)). ShowsSharing Stands new (record p { seen = z.result.seen; state = z.result.state; both = z.state })) (sym whole) shown,
        ap (λ (z : After (Turned ℤ) (ChainAndHub ℤ F)). turn_answer z.result.answer) (sym whole),
      )
