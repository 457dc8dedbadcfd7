-- The rounds of an update through a handle.
use Rattle.std.proofs.Common.{inl, inr, ◌≡◌, ◌⊎◌, Bool, true, false, Result, subst, ◌∙◌}
use Rattle.atomic_table.specs.Seated.{TableId}
use Rattle.flow_law.specs.declared.history.Said.{Said}
use Rattle.flow_law.specs.declared.call.StateCall.{StateCall}
use Rattle.flow_law.specs.declared.call.StateCall.TheVariants.{GetValue, CompareAndSet}
use Rattle.flow_law.specs.declared.call.StateReply.{StateReply}
use Rattle.flow_law.specs.declared.call.StateReply.TheVariants.{Got, Answered}
use Rattle.flow_law.specs.declared.states.StateFlowState.{StateFlowState}
use Rattle.flow_law.specs.history.Handles.{CallerOf}
use Rattle.flow_law.specs.flow.StateFlow.{state_flow}
use Rattle.flow_law.specs.history.Promise.{CallsIn}
use Rattle.flow_law.specs.history.Updates.{IsRound, LosesRounds, one_lost, Updates, ReadsInVain, StopsAt, Refuses, RefusesOrKeepsNone}
use Rattle.flow_gate.specs.Tokens.{GateOrigin}
use Rattle.flow_shared.specs.StateReplies.{StateToken}

abbrev StateCaller : Type 0 → Type 0
StateCaller T = CallerOf TableId (StateFlowState T) (Said (StateCall T) (StateReply T))

-- one round: the handle is `now` before it, `mid` after its read, and `end` after it
module _ {T : Type 0} (flow : GateOrigin (StateFlowState T)) (Gives : T → T → Type 0) (now mid end : StateCaller T) (x y : T) where
  -- the handles are of this flow, the value x was read, and the function returned y
  pub record Reads : Type 0 where
    pub of_flow : now.flow ≡ flow
    pub kept : mid.flow ≡ now.flow
    pub read : CallsIn state_flow now.flow.first now.token GetValue (Got x) mid.token
    pub gives : Gives x y

  round_by : (won : Bool) → Reads → CallsIn state_flow mid.flow.first mid.token (CompareAndSet x y) (Answered won) end.token → IsRound flow.first Gives won now.token x y end.token
  round_by won r exchanged = record {
    between = mid.token;
    read = subst (λ f. CallsIn state_flow f.first now.token GetValue (Got x) mid.token) r.of_flow r.read;
    answered = r.gives;
    exchanged = subst (λ f. CallsIn state_flow f.first mid.token (CompareAndSet x y) (Answered won) end.token) (r.kept ∙ r.of_flow) exchanged;
  }

  pub lost_by : (before : StateToken T) → LosesRounds flow.first Gives before now.token → Reads → CallsIn state_flow mid.flow.first mid.token (CompareAndSet x y) (Answered false) end.token → LosesRounds flow.first Gives before end.token
  lost_by before lost r exchanged = one_lost lost (round_by false r exchanged)

  pub won_by : (before : StateToken T) → LosesRounds flow.first Gives before now.token → Reads → CallsIn state_flow mid.flow.first mid.token (CompareAndSet x y) (Answered true) end.token → Updates flow.first Gives before x y end.token
  won_by before lost r exchanged = record { between = now.token; lost = lost; won = round_by true r exchanged }

-- a read in vain: the handle is `now` before it, and `end` after it
pub stopped_by : {T : Type 0} (flow : GateOrigin (StateFlowState T)) (Gives : T → T → Type 0) (Stops : T → Type 0) (now end : StateCaller T) (before : StateToken T)
    → LosesRounds flow.first Gives before now.token → now.flow ≡ flow → ReadsInVain now.flow.first Stops now.token end.token → StopsAt flow.first Gives Stops before end.token
stopped_by flow Gives Stops now end before lost of_flow vain =
    record { between = now.token; lost = lost; stopped = subst (λ f. ReadsInVain f.first Stops now.token end.token) of_flow vain }

-- a function that refuses is one reason to stop
pub refused_or_kept_none : {T E : Type 0} (first : StateFlowState T) (Gives : T → Result T E → Type 0) (before after : StateToken T)
    → ReadsInVain first (Refuses Gives) before after → ReadsInVain first (RefusesOrKeepsNone Gives) before after
refused_or_kept_none first Gives before after (inl refused) = inl refused
refused_or_kept_none first Gives before after (inr read) = inr (read.0, read.1, inl read.2)
