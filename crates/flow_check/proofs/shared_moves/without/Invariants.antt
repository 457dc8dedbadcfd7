use Rattle.std.proofs.Common.{◌≡◌, ◌++◌, ◌==◌, not, length}
use Rattle.std.specs.Prelude.{filter}
use Rattle.flow_check.proofs.shared_moves.without.Given as goal

abbrev pub invariant-loop-first : goal.invariant-loop-first
invariant-loop-first l =
    l.copy.items ++ filter (λ held. not (held.caller == l.fn.caller)) l.rest ≡ filter (λ held. not (held.caller == l.fn.caller)) l.fn.queue

abbrev pub decreases-loop-first : goal.decreases-loop-first
decreases-loop-first l = length l.rest
