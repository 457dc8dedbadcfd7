use Rattle.std.proofs.Common.{◌≡◌}
use Rattle.std.specs.Mem.Slots.{slots_items}
use Rattle.flow_word_shared.specs.Rule.{words_from}
use Rattle.flow_word_shared.proofs.closing.value_at.Given as goal

abbrev pub invariant-loop-place : goal.invariant-loop-place
invariant-loop-place g l = l.words.items ≡ words_from l.place (slots_items l.closed.words) l.cell
