use Rattle.std.proofs.Common.{◌≡◌, ◌++◌, ◌-◌}
use Rattle.flow_check.specs.Words.{parts_in_words}
use Rattle.flow_check.proofs.words.read_parts.Given as goal

abbrev pub invariant-loop : goal.invariant-loop
invariant-loop g l = l.parts.items ++ parts_in_words g.P.Part.part g.P.Part.others (l.count - l.counter) l.rest ≡ parts_in_words g.P.Part.part g.P.Part.others l.count l.fn.words
