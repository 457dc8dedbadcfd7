use Rattle.std.proofs.Common.{◌+◌, ◌*◌, ap, ◌∙◌}
use Rattle.flow_word_shared.specs.Rule.{place_at}
use Rattle.flow_word_shared.proofs.PlaceRule.{low_of}
use Rattle.flow_word_shared.proofs.token.WordFlow.place_word.Goals as goal

pub returns : goal.returns
returns g c =
    let low = low_of c.self.inside.table.shared.key c.self.inside.low c.self.inside.room g.T.Words.WIDTH c.self.invariant.13 c.self.invariant.2 c.self.invariant.11 in
    ap (λ n. n + 8 * (c.args.place + 1)) low ∙ ap (λ z. place_at z.table_id.start c.args.place) c.self.view_is
