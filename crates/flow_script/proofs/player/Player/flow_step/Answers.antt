use Rattle.std.proofs.Common.{subst, sym}
use Rattle.std.specs.Prelude.{IfOk}
use Rattle.flow_script.specs.declared.player.Player.TheVariants.{State}
use Rattle.flow_script.specs.Players.{ShowsPlayer}
use Rattle.flow_script.specs.ScriptMeaning.{player_turn}
use Rattle.flow_script.specs.Shown.{FollowsStep}
use Rattle.flow_script.proofs.PlayLemmas.{if-ok, state-follows}
use Rattle.flow_script.proofs.player.Player.flow_step.Goals as goal

pub returns-in-State-clause-plays : goal.returns-in-State-clause-plays
returns-in-State-clause-plays c =
    let done = c.flow_step-in-State in
    subst (λ player. IfOk done.result (FollowsStep ShowsPlayer (player_turn c.args.step) player (State done.new.core) c.args.numbers.now done.new.numbers))
    (sym c.in-State.is) (if-ok done.result (state-follows c.args.step c.in-State.core done.new.core c.args.numbers.now done.new.numbers) done.ensures.plays)
