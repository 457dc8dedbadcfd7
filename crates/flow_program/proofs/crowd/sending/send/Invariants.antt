use Rattle.std.proofs.Common.{◌≡◌, []}
use Rattle.flow_program.specs.Callers.{OnlyEmits}
use Rattle.flow_program.proofs.crowd.sending.send.Given as goal

abbrev pub invariant-loop : goal.invariant-loop
invariant-loop g l =
    (l.emitter.flow ≡ l.fn.emitter.flow) × OnlyEmits [] l.fn.emitter.token.knows l.emitter.token.knows
