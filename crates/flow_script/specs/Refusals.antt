-- The answer of a flow that was not made. OutOfMemory is a fault of the whole run, and has no answer.
use Rattle.flow_script.specs.declared.refusal.Refusal.{Refusal}
use Rattle.flow_script.specs.declared.refusal.Refusal.TheVariants as refusal
use Rattle.std.specs.Prelude.{◌≡◌}
use Rattle.flow_law.specs.declared.fault.FlowFault.{FlowFault}
use Rattle.flow_law.specs.declared.report.ShareFault.{ShareFault}
use Rattle.flow_script.specs.declared.answer.Answer.{Answer as Given}
use Rattle.flow_script.specs.Answers.{Answer, as_answer, refused, turn_refused}
use Rattle.flow_script.specs.Memory.{IsToldFlowFault, IsToldFault}

-- the answer that says why a flow was not made
abbrev pub refused_answer : Refusal → Answer
refused_answer (refusal.Flow fault) = refused fault
refused_answer (refusal.Sharing fault) = turn_refused fault

-- a line reports why the flow was not made
abbrev pub IsTold : Refusal → Type 0
IsTold (refusal.Flow fault) = IsToldFlowFault fault
IsTold (refusal.Sharing fault) = IsToldFault fault

-- the answer gives this fault of a flow, which is not OutOfMemory
abbrev pub AnswersRefusal : FlowFault → Given → Type 0
AnswersRefusal fault answer = IsToldFlowFault fault × (as_answer answer ≡ refused fault)

-- the answer gives this fault of a sharing, which is not OutOfMemory
abbrev pub AnswersTurn : ShareFault → Given → Type 0
AnswersTurn fault answer = IsToldFault fault × (as_answer answer ≡ turn_refused fault)

-- the answer says why the flow was not made, and a line reports that
abbrev pub AnswersNotMade : Refusal → Given → Type 0
AnswersNotMade why answer = IsTold why × (as_answer answer ≡ refused_answer why)
