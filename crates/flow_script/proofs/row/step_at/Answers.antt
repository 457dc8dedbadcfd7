use Rattle.std.proofs.Common.{refl, subst, sym}
use Rattle.std.specs.Prelude.{IfOk}
use Rattle.flow_script.specs.declared.answer.Answer.TheVariants.{NoFlow}
use Rattle.flow_script.specs.Rows.{FollowsPlace}
use Rattle.flow_script.specs.ScriptMeaning.{player_turn}
use Rattle.flow_script.proofs.PlayLemmas.{if-ok}
use Rattle.flow_script.proofs.RowLemmas.{follows-at, follows-past}
use Rattle.flow_script.proofs.row.step_at.Goals as goal

pub returns-then-place-row-clause-plays : goal.returns-then-place-row-clause-plays
returns-then-place-row-clause-plays c =
    let done = c.place_step in
    let here = c.index-row-place in
    let plays = subst (λ place. IfOk done.result (FollowsPlace (player_turn c.args.step) place done.new.place)) (sym here.is) done.ensures.plays in
    if-ok done.result (λ answer. follows-at (player_turn c.args.step) c.args.place c.args.row.now here.result done.new.place answer c.if-place-row.true here.is) plays

pub returns-clause-plays : goal.returns-clause-plays
returns-clause-plays c = follows-past (player_turn c.args.step) c.args.place c.args.row.now NoFlow c.if-place-row.false refl
