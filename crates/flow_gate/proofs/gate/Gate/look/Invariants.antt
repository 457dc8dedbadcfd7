use Rattle.std.specs.Prelude.{Some}
use Rattle.flow_gate.proofs.gate.Gate.look.Given as goal

abbrev pub ghosts-look_from : goal.ghosts-look_from
ghosts-look_from g a = record { first = Some a.self.now.first }
