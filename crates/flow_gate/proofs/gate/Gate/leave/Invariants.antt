use Rattle.flow_gate.proofs.gate.Gate.leave.Given as goal

abbrev pub ghosts-leave_adding : goal.ghosts-leave_adding
ghosts-leave_adding g a = record { adds = g.X.NamesEvents.events a._evidence.now a.seat.now.token.knows }
