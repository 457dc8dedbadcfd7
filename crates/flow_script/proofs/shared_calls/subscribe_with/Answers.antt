use Rattle.std.proofs.Common.{[], refl}
use Rattle.flow_core.specs.SubId.{number_of}
use Rattle.flow_law.specs.declared.call.SharedCall.TheVariants as call
use Rattle.flow_law.specs.declared.call.SharedReply.TheVariants.{Refused, Subscribed}
use Rattle.flow_law.specs.flow.SharedHistory.{shared_flow}
use Rattle.flow_law.specs.flow.Standing.{StandsFor}
use Rattle.script_format.specs.declared.script.FlowStep.TheVariants as step
use Rattle.flow_script.specs.Answers.{as_answer, subscribed}
use Rattle.flow_script.specs.SharedMeaning.{plays_shared}
use Rattle.flow_script.specs.Shown.{kept_numbers}
use Rattle.flow_script.proofs.CallLemmas.{tells, refuses}
use Rattle.flow_script.proofs.AnswerLemmas.{shared-answers, subscribed-with}
use Rattle.flow_script.proofs.PlayLemmas.{if-ok}
use Rattle.flow_script.proofs.shared_calls.subscribe_with.Goals as goal

pub returns-in_ok-add_subscriber-in-Ok-clause-plays : goal.returns-in_ok-add_subscriber-in-Ok-clause-plays
returns-in_ok-add_subscriber-in-Ok-clause-plays c =
    let first = c.args.first.items in
    tells shared_flow plays_shared StandsFor shared-answers step.Subscribe _ (call.Subscribe [] first) (Subscribed (number_of c.in-Ok.id))
    c.args.core.now c.subscribe_with.new.self (kept_numbers c.args.numbers.now) _ subscribed refl
    (c.in-Ok.ensures.documented []).0 (subscribed-with first (number_of c.in-Ok.id)) c.in_ok-add_subscriber-in-Ok.ensures.added

pub returns-in_ok-add_subscriber-in-Err-clause-plays : goal.returns-in_ok-add_subscriber-in-Err-clause-plays
returns-in_ok-add_subscriber-in-Err-clause-plays c =
    let first = c.args.first.items in
    let fault = c.in-Err.refused.fault in
    if-ok c.call_refusal.result (λ a is. tells shared_flow plays_shared StandsFor shared-answers step.Subscribe _ (call.Subscribe [] first) (Refused fault)
    c.args.core.now c.subscribe_with.new.self (kept_numbers c.args.numbers.now) _ (as_answer a) refl
    (c.in-Err.ensures.documented []).0 (refuses shared_flow plays_shared StandsFor shared-answers (call.Subscribe [] first) fault a is)
    c.in_ok-add_subscriber-in-Err.ensures.added) c.call_refusal.ensures.answer
