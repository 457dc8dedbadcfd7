use Rattle.std.proofs.Common.{◌<◌, Some, sym, ap, subst, ◌∙◌, arith}
use Rattle.flow_word_shared.proofs.Holding.{held_then, held_token, finds_after}
use Rattle.flow_word_shared.proofs.PlaceRule.{low_of, word_below}
use Rattle.flow_word_shared.proofs.PlaceSteps.{looking_low}
use Rattle.flow_word_shared.proofs.token.WordFlow.find_room.Goals as goal

pub load-low-requires : goal.load-low-requires
load-low-requires g c =
    let key = c.self.inside.table.shared.key in let h = c.requires.holds.0 in
    let at = low_of key c.self.inside.low c.self.inside.room g.T.Words.WIDTH c.self.invariant.13 c.self.invariant.2 c.self.invariant.11 in
    let less = word_below key 0 (subst (λ n. 0 < n) (sym (ap (λ z. z.table_id.start.places) c.self.view_is)) c.requires.places) in let count = c.self.invariant.14 in (
      ap (λ z. z.table) c.requires.flow ∙ ap (λ z. z.table_id.table) (sym c.self.view_is),
      omega (arith, at, less, count),
      looking_low _ _ _ _ _ _ _ h _ (ap (λ m. m.0) c.requires.holds.1.0) c.requires.holds.1.1 at,
    )

pub check_places-requires-clause-flow : goal.check_places-requires-clause-flow
check_places-requires-clause-flow g c =
    let h = c.requires.holds.0 in let told = c.load-low.ensures.2 h c.requires.holds.1.1 in
    ap (λ z. z.table_id) (held_token c.args.seat.now c.load-low.new.seat _ c.load-low.ensures.0 told) ∙ c.requires.flow

pub check_places-requires-clause-holds : goal.check_places-requires-clause-holds
check_places-requires-clause-holds g c =
    let h = c.requires.holds.0 in let told = c.load-low.ensures.2 h c.requires.holds.1.1 in
    (record h { low = Some c.load-low.result }, held_then _ _ _ c.requires.holds.1.0 told, c.requires.holds.2, c.requires.holds.3, c.requires.holds.4)

pub returns-clause-found : goal.returns-clause-found
returns-clause-found g c = finds_after _ _ _ _ _ _ c.load-low.result c.load-low.ensures.2 c.check_places.ensures.found
