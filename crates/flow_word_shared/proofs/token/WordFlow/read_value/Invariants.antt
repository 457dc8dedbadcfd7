use Rattle.flow_word_shared.specs.Steps.{values_of}
use Rattle.flow_word_shared.proofs.Parts.{ReadsPart}
use Rattle.flow_word_shared.proofs.token.WordFlow.read_value.Given as goal

abbrev pub invariant-loop-place : goal.invariant-loop-place
invariant-loop-place g l =
    ReadsPart g.T.Words.are_words g.T.Words.value_in l.fn.self.table_id.start l.fn.number l.fn.position l.fn.seen (values_of g.T.Words.WIDTH l.fn.ahead l.fn.words.items) l.fn.words.items l.fn.seat l.place l.words.items l.seat
