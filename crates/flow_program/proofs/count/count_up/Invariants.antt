use Rattle.flow_word.specs.Updating.{HasUpdated, plus_one}
use Rattle.flow_program.proofs.count.count_up.Given as goal

abbrev pub invariant-loop-done : goal.invariant-loop-done
invariant-loop-done g l = HasUpdated plus_one l._done l.fn.caller l.caller
