use Rattle.std.proofs.Common.{arith}
use Rattle.flow_word_shared.proofs.closing.ClosedWordFlow.drop.Goals as goal

pub free-requires : goal.free-requires
free-requires g c k less = let none = c.self.invariant.0 in absurd (omega (arith, none, less))
