use Rattle.std.proofs.Common.{ℕ, List}
use Rattle.flow_script.specs.ScriptMeaning.{script_meaning}
use Rattle.flow_calls.proofs.CallLemmas.{script-fault}
use Rattle.flow_calls.proofs.wumsnair_play.Goals as goal

pub give_fault-requires : goal.give_fault-requires
give_fault-requires c = script-fault {A = List ℕ} (script_meaning c.args.script.now) c.in-Err.fault c.in-Err.ensures
