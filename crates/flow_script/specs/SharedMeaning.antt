-- Shared flows, as scripts play on them.
use Rattle.std.specs.Prelude.{ℕ, ℤ, List, [], Option, Some, None, option_map}
use Rattle.flow_law.specs.declared.call.SharedCall.{SharedCall}
use Rattle.flow_law.specs.declared.call.SharedCall.TheVariants as call
use Rattle.flow_law.specs.declared.call.SharedReply.{SharedReply}
use Rattle.flow_law.specs.declared.states.SharedFlowState.{SharedFlowState}
use Rattle.flow_law.specs.flow.SharedHistory.{answer_to, shared_flow}
use Rattle.script_format.specs.declared.script.FlowStep.{FlowStep}
use Rattle.script_format.specs.declared.script.FlowStep.TheVariants as step
use Rattle.flow_script.specs.FlowMeaning.{Played, Turn, called}
use Rattle.flow_script.specs.Answers.{shared_answer}
use Rattle.flow_script.specs.Numbers.{Numbers, number_at}

-- what the documented shared flow replies
abbrev pub documented_shared_reply : SharedCall ℤ → SharedFlowState ℤ → SharedReply ℤ
documented_shared_reply call s = (answer_to call s).reply

-- the calls of the steps of shared flows that not every kind of flow has
abbrev pub shared_own_call : FlowStep → List (Option ℕ) → Option (SharedCall ℤ)
shared_own_call (step.Emit value) emissions = Some (call.Emit value)
shared_own_call (step.Poll place) emissions = option_map call.Poll (number_at place emissions)
shared_own_call (step.Cancel place) emissions = option_map call.Cancel (number_at place emissions)
shared_own_call step.Reset emissions = Some call.ResetReplayCache
shared_own_call _ emissions = None

-- how scripts play on a shared flow
abbrev pub plays_shared : Played (SharedFlowState ℤ) (SharedCall ℤ) (SharedReply ℤ)
plays_shared = record { try_emit = call.TryEmit; own_call = shared_own_call; reply_to = documented_shared_reply; answer = shared_answer }

-- A subscription with first values of its own: its answer, and what its name stands for, are those of any subscription
abbrev pub subscribes_with : List ℤ → SharedFlowState ℤ → Numbers → Turn (SharedFlowState ℤ)
subscribes_with first s n = called shared_flow plays_shared step.Subscribe s n (call.Subscribe [] first)
