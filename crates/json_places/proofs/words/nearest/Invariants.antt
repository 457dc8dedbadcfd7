-- The best word so far is one of the choices.
use Rattle.std.proofs.Common.{IfSome, Contains}
use Rattle.json_places.proofs.words.nearest.Given as goal

abbrev pub invariant-loop-choice : goal.invariant-loop-choice
invariant-loop-choice l = IfSome l.best (Contains l.choices)
