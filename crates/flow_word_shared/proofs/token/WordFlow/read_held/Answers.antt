use Rattle.std.proofs.Common.{◌≡◌, ◌+◌, [], ◌∷◌, ◌++◌, length, Some, sym, ap, subst, ◌∙◌, refl, length-append, arith}
use Rattle.flow_word_shared.specs.declared.view.RingStart.{RingStart}
use Rattle.flow_word_shared.specs.Rule.{capacity_of, HasValue}
use Rattle.flow_word_shared.specs.Steps.{IsBegun, MeOf, log_after}
use Rattle.flow_word_shared.specs.View.{only}
use Rattle.flow_word_shared.proofs.CacheSteps.{reading_held}
use Rattle.flow_word_shared.proofs.Cells.{begun_none}
use Rattle.flow_word_shared.proofs.Masks.{cells_fit, cells_in, cell_is}
use Rattle.flow_word_shared.proofs.token.WordFlow.read_held.Goals as goal
use Rattle.flow_word_shared.proofs.token.WordFlow.read_held.Goals.{At-loop-place, After-load-word}

pub loop-place-init : goal.loop-place-init
loop-place-init g c = let none = c.new-words.ensures in let some = g.met.T.Words.width_fits.0 in record {
  same = (refl, refl);
  count = ap length none;
  begun = subst (λ l. IsBegun g.T.Words.are_words g.T.Words.value_in (log_after c.args.self.now.table_id.start (only c.args.seat.now.me.0).knows.seen) c.args.position l) (sym none)
      (begun_none g.T.Words.are_words g.T.Words.value_in (log_after c.args.self.now.table_id.start (only c.args.seat.now.me.0).knows.seen) c.args.position);
  whole = λ e. absurd (omega (arith, e, some));
}

pub load-word-requires : goal.load-word-requires
load-word-requires g c =
    let T = g.row.T.Denot in let inv = c.loop-place.invariant in let held = c.requires.held in let less = c.loop-place-test.true in
    let fit = cells_fit c.args.position c.self.inside.mask c.self.inside.room c.WIDTH-width.result c.self.invariant.8 c.self.invariant.9 in let count = cells_in _ c.self.inside.room g.T.Words.WIDTH c.WIDTH-width.result c.self.invariant.0 c.WIDTH-width.ensures in (
      inv.same.1 ∙ ap (λ z. z.table) c.requires.flow ∙ ap (λ z. z.table_id.table) (sym c.self.view_is),
      omega (arith, fit, count, less),
      reading_held _ _ _ _ g.met.T.Words.words_once _ _ _ held.0 _ (subst (λ (m : MeOf T). m.0 ≡ only m.0 ∷ []) (sym inv.same.0) (ap (λ m. m.0) held.1.0)) (subst (λ (m : MeOf T). (only m.0).hold ≡ Some held.0) (sym inv.same.0) held.1.1),
    )

-- what the load told: the seat is as before, and the word is the next one of the value at the position
told : (g : _) (c : After-load-word g) →
    let log = log_after c.args.self.now.table_id.start (only c.args.seat.now.me.0).knows.seen in let part = c.loop-place.words.items ++ c.load-word.result ∷ [] in
    (c.load-word.new.seat.me ≡ c.loop-place.seat.me) × IsBegun g.T.Words.are_words g.T.Words.value_in log c.args.position part
    × (c.loop-place.place + 1 ≡ g.T.Words.WIDTH → HasValue g.T.Words.are_words g.T.Words.value_in log c.args.position part)
told g c =
    let T = g.row.T.Denot in let inv = c.loop-place.invariant in let held = c.requires.held in let kept = c.requires.kept in let there = c.requires.there in let less = c.loop-place-test.true in let wide = c.WIDTH-width.ensures in
    let part = c.loop-place.words.items ++ c.load-word.result ∷ [] in
    let begins : (only c.loop-place.seat.me.0).start ≡ c.args.self.now.table_id.start = ap (λ (m : MeOf T). (only m.0).start) inv.same.0 ∙ ap (λ z. z.start) c.requires.flow in
    let key : (only c.loop-place.seat.me.0).start ≡ c.self.inside.table.shared.key = begins ∙ ap (λ z. z.table_id.start) (sym c.self.view_is) in
    let width : (only c.loop-place.seat.me.0).start.width ≡ g.T.Words.WIDTH = ap (λ (z : RingStart). z.width) key ∙ c.self.invariant.11 in
    let all : held.0.length ≡ length (log_after (only c.loop-place.seat.me.0).start (only c.loop-place.seat.me.0).knows.seen) = held.2 ∙ (held.3 ∙ ap (λ (m : MeOf T). length (log_after (only m.0).start (only m.0).knows.seen)) (sym inv.same.0)) in
    let room = ap capacity_of begins in let count = inv.count in
    let place = cell_is (only c.loop-place.seat.me.0).start c.args.position c.self.inside.mask c.self.inside.room c.WIDTH-width.result c.self.invariant.8 c.self.invariant.9 (ap (λ (z : RingStart). z.room) key ∙ c.self.invariant.2) (width ∙ sym wide) in
    let begun = subst (λ (z : RingStart × MeOf T). IsBegun g.T.Words.are_words g.T.Words.value_in (log_after z.0 (only z.1.0).knows.seen) c.args.position c.loop-place.words.items) (λ i. (sym begins i, sym inv.same.0 i)) inv.begun in
    let says = c.load-word.ensures.2 held.0 c.args.position c.loop-place.words.items (subst (λ (m : MeOf T). (only m.0).hold ≡ Some held.0) (sym inv.same.0) held.1.1) (λ i. place i + sym count i) (omega (arith, less, count, wide, width)) all (omega (arith, held.2, there)) (omega (arith, held.2, kept, room)) begun in (
      says.0,
      subst (λ (z : RingStart × MeOf T). IsBegun g.T.Words.are_words g.T.Words.value_in (log_after z.0 (only z.1.0).knows.seen) c.args.position part) (λ i. (begins i, inv.same.0 i)) says.1,
      λ last. subst (λ (z : RingStart × MeOf T). HasValue g.T.Words.are_words g.T.Words.value_in (log_after z.0 (only z.1.0).knows.seen) c.args.position part) (λ i. (begins i, inv.same.0 i)) (says.2 (omega (arith, last, count, width))),
    )

pub loop-place-preserved : goal.loop-place-preserved
loop-place-preserved g c =
    let t = told g (goal.at.loop-place-preserved g c).After-load-word in let inv = c.loop-place.invariant in let items = c.push.ensures.items in let log = log_after c.args.self.now.table_id.start (only c.args.seat.now.me.0).knows.seen in record {
      same = (t.0 ∙ inv.same.0, c.load-word.ensures.0 ∙ inv.same.1);
      count = ap length items ∙ (length-append c.loop-place.words.items (c.load-word.result ∷ []) ∙ ap (λ k. k + 1) inv.count);
      begun = subst (λ l. IsBegun g.T.Words.are_words g.T.Words.value_in log c.args.position l) (sym items) t.1;
      whole = λ last. subst (λ l. HasValue g.T.Words.are_words g.T.Words.value_in log c.args.position l) (sym items) (t.2 last);
    }

-- the words that were read are those of the value
words_are : (g : _) (c : At-loop-place g) → c.loop-place.place ≡ g.T.Words.WIDTH → HasValue g.T.Words.are_words g.T.Words.value_in (log_after c.args.self.now.table_id.start (only c.args.seat.now.me.0).knows.seen) c.args.position c.loop-place.words.items
words_are g c all = c.loop-place.invariant.whole all

pub of_words-requires : goal.of_words-requires
of_words-requires g c = let over = c.loop-place-test.false in let end = c.loop-place.auto in let wide = c.WIDTH-width.ensures in
    subst g.T.Words.are_words (sym c.as_slice.ensures.value) (words_are g (goal.at.of_words-requires g c).At-loop-place (omega (arith, over, end, wide))).0

pub returns-clause-value : goal.returns-clause-value
returns-clause-value g c = let over = c.loop-place-test.false in let end = c.loop-place.auto in let wide = c.WIDTH-width.ensures in
    (words_are g (goal.at.returns-clause-value g c).At-loop-place (omega (arith, over, end, wide))).1 ∙ ap Some (ap g.T.Words.value_in (sym c.as_slice.ensures.value) ∙ sym c.of_words.ensures)
