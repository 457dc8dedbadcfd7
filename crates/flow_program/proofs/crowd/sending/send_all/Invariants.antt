use Rattle.std.proofs.Common.{◌≡◌}
use Rattle.flow_program.specs.Callers.{OnlyEmits}
use Rattle.flow_program.specs.Numbers.{numbers_from}
use Rattle.flow_program.proofs.crowd.sending.send_all.Given as goal

abbrev pub invariant-loop-sent : goal.invariant-loop-sent
invariant-loop-sent g l =
    (l.emitter.flow ≡ l.fn.emitter.flow) × OnlyEmits (numbers_from l.first l.sent) l.fn.emitter.token.knows l.emitter.token.knows
