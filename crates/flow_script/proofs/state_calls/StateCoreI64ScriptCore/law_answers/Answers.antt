use Rattle.flow_script.proofs.AnswerLemmas.{state-answers}
use Rattle.flow_script.proofs.state_calls.StateCoreI64ScriptCore.law_answers.Goals as goal

pub returns : goal.returns
returns c = state-answers
