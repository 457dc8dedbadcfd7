use Rattle.std.proofs.Common.{◌-◌, length, sym, ap, ◌∙◌, arith}
use Rattle.std.specs.Mem.Slots.{slots_items}
use Rattle.flow_word_shared.proofs.LastState.{length_cells}
use Rattle.flow_word_shared.proofs.closing.ClosedWordFlow.replay_cache.Goals as goal

pub copy_cache-requires : goal.copy_cache-requires
copy_cache-requires g c =
    let count = ap (λ z. length z.replay_cache) (sym c.self.view_is) ∙ length_cells g.T.Words.value_in g.T.Words.WIDTH c.self.inside.room (slots_items c.self.inside.closed.words) (c.self.inside.emitted - c.self.inside.first) c.self.inside.first in
    omega (arith, count, c.in-Ok.ensures.capacity, c.in-Ok.ensures.len)
