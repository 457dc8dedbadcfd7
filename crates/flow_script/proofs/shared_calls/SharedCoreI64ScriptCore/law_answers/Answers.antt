use Rattle.flow_script.proofs.AnswerLemmas.{shared-answers}
use Rattle.flow_script.proofs.shared_calls.SharedCoreI64ScriptCore.law_answers.Goals as goal

pub returns : goal.returns
returns c = shared-answers
