use Rattle.flow_script.proofs.PlayLemmas.{others-follow}
use Rattle.flow_script.proofs.player.Player.subscribe_with.Goals as goal

pub returns-in_default-clause-plays : goal.returns-in_default-clause-plays
returns-in_default-clause-plays c = others-follow c.args.first.items c.args.self.now c.args.numbers.now _ c.in_default.not-Shared c.answer_without_call.ensures
