-- What holds of both shared flows and state flows, so that scripts play on them in the same way.
use Rattle.std.proofs.Common.{◌≡◌, ℕ, ℤ, List, [], Bool, true, false, None, refl}
use Rattle.flow_law.specs.declared.fault.FlowFault.{FlowFault}
use Rattle.flow_law.specs.declared.fault.FlowFault.TheVariants.{OutOfMemory}
use Rattle.flow_law.specs.declared.call.SharedCall.{SharedCall}
use Rattle.flow_law.specs.declared.call.SharedCall.TheVariants as shared_call
use Rattle.flow_law.specs.declared.call.SharedReply.{SharedReply}
use Rattle.flow_law.specs.declared.call.SharedReply.TheVariants as shared_reply
use Rattle.flow_law.specs.declared.call.StateCall.{StateCall}
use Rattle.flow_law.specs.declared.call.StateCall.TheVariants as state_call
use Rattle.flow_law.specs.declared.call.StateReply.{StateReply}
use Rattle.flow_law.specs.declared.call.StateReply.TheVariants as state_reply
use Rattle.flow_law.specs.declared.states.SharedFlowState.{SharedFlowState}
use Rattle.flow_law.specs.declared.states.StateFlowState.{StateFlowState}
use Rattle.flow_law.specs.flow.SharedHistory as shared
use Rattle.flow_law.specs.flow.StateFlow as state
use Rattle.flow_script.specs.FlowMeaning.{HasAnswers, IsAnswer, given}
use Rattle.flow_script.specs.Answers as answer
use Rattle.flow_script.specs.Memory.{IsToldFlowFault}
use Rattle.flow_script.specs.SharedMeaning.{plays_shared}
use Rattle.flow_script.specs.StateMeaning.{plays_state}
use Rattle.flow_script.proofs.StateLemmas.{reply-is}

-- ---- shared flows

abbrev pub told-shared : SharedReply ℤ → Bool
told-shared (shared_reply.Refused OutOfMemory) = false
told-shared _ = true

documented-shared : (s : SharedFlowState ℤ) (c : SharedCall ℤ) (r : SharedReply ℤ) → shared.Replies s c r → told-shared r ≡ true → r ≡ plays_shared.reply_to c s
documented-shared s c (shared_reply.Refused OutOfMemory) is told = cc
documented-shared s c r is told = is

refused-shared : (c : SharedCall ℤ) (fault : FlowFault) → IsToldFlowFault fault → IsAnswer shared.shared_flow plays_shared told-shared c (shared_reply.Refused fault) (answer.refused fault)
refused-shared c OutOfMemory told = absurd told
refused-shared c _ told = (refl, refl)

none-shared : (c : SharedCall ℤ) (fault : FlowFault) → given shared.shared_flow plays_shared c (shared_reply.Refused fault) ≡ None
none-shared (shared_call.Emit value) fault = refl
none-shared _ fault = refl

pub shared-answers : HasAnswers shared.shared_flow plays_shared
shared-answers = record {
  is_told = told-shared;
  documented = documented-shared;
  tried = λ value test. (refl, refl);
  welcomed = λ u. (refl, refl);
  gets = λ u next. (refl, refl);
  left = λ u test. (refl, refl);
  cached = λ values. (refl, refl);
  counted = λ count. (refl, refl);
  refused = refused-shared;
  gives = λ u. refl;
  refused_gives = none-shared;
}

-- a subscription with first values of its own has the answer of any subscription
pub subscribed-with : (first : List ℤ) (u : ℕ) → IsAnswer shared.shared_flow plays_shared shared-answers.is_told (shared_call.Subscribe [] first) (shared_reply.Subscribed u) answer.subscribed
unfolding shared-answers
subscribed-with first u = (refl, refl)

-- ---- state flows

abbrev pub told-state : StateReply ℤ → Bool
told-state (state_reply.Refused OutOfMemory) = false
told-state _ = true

pub plain-state : (s : StateFlowState ℤ) (c : StateCall ℤ) (r : StateReply ℤ) → state.StateFlowReplies s c r → told-state r ≡ true → state.IsReply s c r
plain-state s c (state_reply.Refused OutOfMemory) is told = cc
plain-state s c r is told = is

pub documented-state : (s : StateFlowState ℤ) (c : StateCall ℤ) (r : StateReply ℤ) → state.StateFlowReplies s c r → told-state r ≡ true → r ≡ plays_state.reply_to c s
documented-state s c r is told = reply-is c s r (plain-state s c r is told)

pub refused-state : (c : StateCall ℤ) (fault : FlowFault) → IsToldFlowFault fault → IsAnswer state.state_flow plays_state told-state c (state_reply.Refused fault) (answer.refused fault)
refused-state c OutOfMemory told = absurd told
refused-state c _ told = (refl, refl)

pub none-state : (c : StateCall ℤ) (fault : FlowFault) → given state.state_flow plays_state c (state_reply.Refused fault) ≡ None
none-state (state_call.Subscribe name) fault = refl
none-state _ fault = refl

abbrev pub state-answers : HasAnswers state.state_flow plays_state
state-answers = record {
  is_told = told-state;
  documented = documented-state;
  tried = λ value test. (refl, refl);
  welcomed = λ u. (refl, refl);
  gets = λ u next. (refl, refl);
  left = λ u test. (refl, refl);
  cached = λ values. (refl, refl);
  counted = λ count. (refl, refl);
  refused = refused-state;
  gives = λ u. refl;
  refused_gives = none-state;
}
