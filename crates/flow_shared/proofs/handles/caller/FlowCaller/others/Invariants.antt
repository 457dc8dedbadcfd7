use Rattle.std.proofs.Common.{◌≡◌, ℕ, ◌<◌, get_or, length}
use Rattle.flow_law.specs.laws.Closed.{makes_many, nth_child}
use Rattle.flow_law.specs.history.Handles.{called_by}
use Rattle.flow_law.specs.history.Tokens.{knowing}
use Rattle.flow_shared.proofs.handles.caller.FlowCaller.others.Given as goal

abbrev pub invariant-loop-count : goal.invariant-loop-count
invariant-loop-count g l =
    (l.self ≡ called_by l.fn.self.flow (knowing l.fn.self.token (makes_many l._count l.fn.self.token.knows)))
    × (length l.made.items ≡ l._count)
    × ((i : ℕ) (d : _) → i < l._count → get_or l.made.items i d ≡ called_by l.fn.self.flow (knowing l.fn.self.token (nth_child i l.fn.self.token.knows)))
