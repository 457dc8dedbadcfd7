use Rattle.std.proofs.Common.{◌≡◌, ℕ, ◌+◌, ◌-◌, ◌*◌, [], ◌∷◌, ◌++◌, List, length, refl, ap, sym, subst, ◌∙◌, arith}
use Rattle.std.specs.Prelude.{bit_and}
use Rattle.flow_word_shared.specs.declared.view.RingStart.{RingStart}
use Rattle.flow_word_shared.specs.Rule.{capacity_of, cell_at}
use Rattle.flow_word_shared.specs.Steps.{AreFound, IsFoundPart, log_after, values_of}
use Rattle.flow_word_shared.specs.Tokens.{IsReading, post_of, ring_token}
use Rattle.flow_word_shared.specs.View.{only, reading_part}
use Rattle.flow_word_shared.proofs.Cells.{length_values_of}
use Rattle.flow_word_shared.proofs.Masks.{cells_fit, cells_in, cell_is}
use Rattle.flow_word_shared.proofs.ReadSteps.{reading_part_of, reading_cell}
use Rattle.flow_word_shared.proofs.Parts.{reads_none, reads_more, reads_whole}
use Rattle.flow_word_shared.proofs.Told.{Saw}
use Rattle.flow_word_shared.proofs.token.WordFlow.read_value.Goals as goal
use Rattle.flow_word_shared.proofs.token.WordFlow.read_value.Goals.{At-loop-place, After-WIDTH-width, After-load-end}

-- the seat's flow is the one that is called
start_is : (g : _) (c : At-loop-place g) → (only c.loop-place.seat.me.0).start ≡ c.args.self.now.table_id.start
start_is g c = ap (λ z. z.start) (c.loop-place.invariant.sees.0 ∙ c.requires.flow)

-- the first cell of the position
first_is : (g : _) (c : After-WIDTH-width g) → 4 + bit_and (c.args.position + c.args.ahead) c.self.inside.mask * c.WIDTH-width.result
    ≡ cell_at c.self.inside.table.shared.key (c.args.position + length (values_of g.T.Words.WIDTH c.args.ahead c.args.words.now.items))
first_is g c = cell_is c.self.inside.table.shared.key (c.args.position + c.args.ahead) c.self.inside.mask c.self.inside.room c.WIDTH-width.result c.self.invariant.8 c.self.invariant.9 c.self.invariant.2 (c.self.invariant.11 ∙ sym c.WIDTH-width.ensures)
    ∙ ap (λ k. cell_at c.self.inside.table.shared.key (c.args.position + k)) (sym (length_values_of g.T.Words.WIDTH c.args.ahead c.args.words.now.items))

pub loop-place-init : goal.loop-place-init
loop-place-init g c = reads_none _ _ _ _ _ _ _ _ _ c.requires.reading c.requires.found

pub load-word-requires : goal.load-word-requires
load-word-requires g c =
    let d = (goal.at.load-word-requires g c).At-loop-place in let e = (goal.at.load-word-requires g c).After-WIDTH-width in let inv = c.loop-place.invariant in let q = c.args.position + c.args.ahead in let words = values_of g.T.Words.WIDTH c.args.ahead c.args.words.now.items in
    let fit = cells_fit q c.self.inside.mask c.self.inside.room c.WIDTH-width.result c.self.invariant.8 c.self.invariant.9 in let count = cells_in _ c.self.inside.room g.T.Words.WIDTH c.WIDTH-width.result c.self.invariant.0 c.WIDTH-width.ensures in
    let less = c.loop-place-test.true in let there = c.requires.there in let known = inv.emitted in let wide = c.WIDTH-width.ensures in let key = c.self.invariant.11 in let at = inv.count in (
      ap (λ z. z.table) (inv.sees.0 ∙ c.requires.flow) ∙ ap (λ z. z.table_id.table) (sym c.self.view_is),
      omega (arith, fit, count, less),
      reading_part_of _ _ _ _ g.met.T.Words.words_once _ _ _ (reading_part (post_of c.args.seat.now) c.args.number c.args.position words inv.part) _ (ap (λ m. m.0) inv.one.0) inv.reads inv.at
          (subst (λ (z : RingStart). AreFound g.T.Words.are_words g.T.Words.value_in (capacity_of z) (log_after z (only c.loop-place.seat.me.0).knows.seen) c.args.position words) (sym (start_is g d)) inv.found)
          (subst (λ (z : RingStart). IsFoundPart g.T.Words.are_words g.T.Words.value_in (capacity_of z) (log_after z (only c.loop-place.seat.me.0).knows.seen) (c.args.position + length words) inv.part) (sym (start_is g d)) inv.begun)
          (λ i. first_is g e i + sym inv.count i) (omega (arith, less, at, wide, key)) (omega (arith, there, known, length_values_of g.T.Words.WIDTH c.args.ahead c.args.words.now.items)),
    )

pub loop-place-preserved : goal.loop-place-preserved
loop-place-preserved g c =
    let inv = c.loop-place.invariant in
    reads_more _ _ _ _ _ _ _ _ _ (ap (λ z. z.start) c.requires.flow) c.loop-place.place c.loop-place.words.items _ c.loop-place.seat c.load-word.new.seat c.load-word.result inv c.load-word.ensures.0 c.push.ensures.items c.load-word.ensures.2

pub load-end-requires : goal.load-end-requires
load-end-requires g c =
    let d = (goal.at.load-end-requires g c).At-loop-place in let e = (goal.at.load-end-requires g c).After-WIDTH-width in let inv = c.loop-place.invariant in let q = c.args.position + c.args.ahead in let words = values_of g.T.Words.WIDTH c.args.ahead c.args.words.now.items in
    let fit = cells_fit q c.self.inside.mask c.self.inside.room c.WIDTH-width.result c.self.invariant.8 c.self.invariant.9 in let count = cells_in _ c.self.inside.room g.T.Words.WIDTH c.WIDTH-width.result c.self.invariant.0 c.WIDTH-width.ensures in
    let over = c.loop-place-test.false in let there = c.requires.there in let known = inv.emitted in let wide = c.WIDTH-width.ensures in let key = c.self.invariant.11 in let at = inv.count in let some = g.met.T.Words.width_fits.0 in let end = c.loop-place.auto in
    let all : length inv.part ≡ c.WIDTH-width.result - 1 = omega (arith, at, over, end) in (
      ap (λ z. z.table) (inv.sees.0 ∙ c.requires.flow) ∙ ap (λ z. z.table_id.table) (sym c.self.view_is),
      omega (arith, fit, count, wide, some),
      reading_cell _ _ _ _ g.met.T.Words.words_once _ _ _ (reading_part (post_of c.args.seat.now) c.args.number c.args.position words inv.part) _ (ap (λ m. m.0) inv.one.0) inv.reads inv.at
          (subst (λ (z : RingStart). AreFound g.T.Words.are_words g.T.Words.value_in (capacity_of z) (log_after z (only c.loop-place.seat.me.0).knows.seen) c.args.position words) (sym (start_is g d)) inv.found)
          (subst (λ (z : RingStart). IsFoundPart g.T.Words.are_words g.T.Words.value_in (capacity_of z) (log_after z (only c.loop-place.seat.me.0).knows.seen) (c.args.position + length words) inv.part) (sym (start_is g d)) inv.begun)
          (λ i. first_is g e i + sym all i) (omega (arith, all, wide, key, some)) (omega (arith, there, known, length_values_of g.T.Words.WIDTH c.args.ahead c.args.words.now.items)),
    )

-- what the subscriber has read after the last cell
reads_on : (g : _) (c : After-load-end g) (longer : List ℕ) → longer ≡ c.loop-place.words.items ++ c.load-end.result ∷ [] →
    (length longer ≡ (c.args.ahead + 1) * g.T.Words.WIDTH) × IsReading c.load-end.new.seat c.args.number c.args.position (values_of g.T.Words.WIDTH (c.args.ahead + 1) longer) c.args.seen
    × AreFound g.T.Words.are_words g.T.Words.value_in (capacity_of c.args.self.now.table_id.start) (log_after c.args.self.now.table_id.start (only c.load-end.new.seat.me.0).knows.seen) c.args.position (values_of g.T.Words.WIDTH (c.args.ahead + 1) longer)
    × Saw 0 (ring_token c.args.seat.now) (ring_token c.load-end.new.seat) × (post_of c.load-end.new.seat ≡ post_of c.args.seat.now)
reads_on g c longer more =
    let inv = c.loop-place.invariant in let over = c.loop-place-test.false in let end = c.loop-place.auto in let wide = c.WIDTH-width.ensures in let some = g.met.T.Words.width_fits.0 in
    reads_whole _ _ _ _ _ _ _ _ _ (ap (λ z. z.start) c.requires.flow) c.loop-place.place c.loop-place.words.items longer c.loop-place.seat c.load-end.new.seat c.load-end.result inv c.load-end.ensures.0 more
    g.T.Words.WIDTH c.args.ahead refl c.requires.count (omega (arith, over, end, wide, some)) c.load-end.ensures.2

pub returns-clause-count : goal.returns-clause-count
returns-clause-count g c = (reads_on g (goal.at.returns-clause-count g c).After-load-end _ c.push-2.ensures.items).0

pub returns-clause-reading : goal.returns-clause-reading
returns-clause-reading g c = (reads_on g (goal.at.returns-clause-reading g c).After-load-end _ c.push-2.ensures.items).1

pub returns-clause-found : goal.returns-clause-found
returns-clause-found g c = (reads_on g (goal.at.returns-clause-found g c).After-load-end _ c.push-2.ensures.items).2

pub returns-clause-sees : goal.returns-clause-sees
returns-clause-sees g c = (reads_on g (goal.at.returns-clause-sees g c).After-load-end _ c.push-2.ensures.items).3

pub returns-clause-post : goal.returns-clause-post
returns-clause-post g c = (reads_on g (goal.at.returns-clause-post g c).After-load-end _ c.push-2.ensures.items).4
