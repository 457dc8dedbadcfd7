use Rattle.std.proofs.Common.{Ok, Err, refl, ◌∙◌}
use Rattle.flow_script.specs.Shown.{kept_numbers}
use Rattle.flow_script.proofs.PlayLemmas.{if-ok}
use Rattle.flow_script.proofs.SharingLemmas.{turned, told-had}
use Rattle.flow_script.proofs.sharing_steps.turn.Goals as goal

pub returns-in-Ok-clause-plays : goal.returns-in-Ok-clause-plays
returns-in-Ok-clause-plays g c = λ p shows.
    let done = turned g.H.Hub.does g.H.Hub.waits g.H.ScriptHub.stands g.H.ScriptHub.reply c.args.now (kept_numbers c.args.numbers.now) (Ok c.in-Ok.report)
    c.args.sharing.now c.turn.new.self p shows c.law_turn.ensures (c.in-Ok.ensures.turn tt tt) tt in
    (done.0, refl, done.1)

pub returns-in-Err-clause-plays : goal.returns-in-Err-clause-plays
returns-in-Err-clause-plays g c =
    if-ok c.turn_refusal.result (λ a is p shows.
    let done = turned g.H.Hub.does g.H.Hub.waits g.H.ScriptHub.stands g.H.ScriptHub.reply c.args.now (kept_numbers c.args.numbers.now) (Err c.in-Err.fault)
    c.args.sharing.now c.turn.new.self p shows c.law_turn.ensures (c.in-Err.ensures.turn tt tt) (told-had c.in-Err.fault is.0) in
    (done.0, refl, is.1 ∙ done.1)) c.turn_refusal.ensures.answer
