use Rattle.std.proofs.Common.{◌≡◌, ℕ, ◌+◌, ◌-◌, ◌*◌, ◌/◌, ◌<◌, List, [], ◌∷◌, drop, sym, ap, subst, ◌∙◌, arith}
use Rattle.std.specs.Prelude.{max, take}
use Rattle.flow_law.specs.declared.call.SharedCall.TheVariants as call
use Rattle.flow_law.specs.declared.call.SharedReply.TheVariants as reply
use Rattle.flow_law.specs.declared.outcome.Next.TheVariants.{Value}
use Rattle.flow_law.specs.flow.SharedHistory.{shared_flow}
use Rattle.flow_law.specs.history.Promise.{CallsAtOnceIn}
use Rattle.flow_word_shared.specs.declared.view.RingStart.{RingStart}
use Rattle.flow_word_shared.specs.Rule.{capacity_of}
use Rattle.flow_word_shared.specs.Steps.{AreFound, Receives, log_after, values_of}
use Rattle.flow_word_shared.specs.Tokens.{IsReading, post_of, ring_token}
use Rattle.flow_word_shared.specs.View.{began_as, only, reading_at}
use Rattle.flow_word_shared.proofs.Cells.{first_left, part_is, length_values_of}
use Rattle.flow_word_shared.proofs.ConfirmSteps.{confirming}
use Rattle.flow_word_shared.proofs.Finding.{first_is, none_kept}
use Rattle.flow_word_shared.proofs.Told.{saw_then, saw_overrun, receives_one, receives_none, reads_on}
use Rattle.flow_word_shared.proofs.token.WordFlow.read_ahead.Goals as goal
use Rattle.flow_word_shared.proofs.token.WordFlow.read_ahead.Goals.{After-read_cells-words, After-load-length, After-saturating_sub-passed, After-as_slice}

-- the seat's flow is the one that is called
start_is : (g : _) (c : After-read_cells-words g) → (only c.read_cells-words.new.seat.me.0).start ≡ c.args.self.now.table_id.start
start_is g c = ap (λ z. z.start) (c.read_cells-words.ensures.sees.0 ∙ c.requires.flow)

first_flow : (g : _) (c : After-load-length g) → began_as (only c.read_cells-words.new.seat.me.0).start ≡ c.args.self.now.first
first_flow g c = ap (λ z. began_as z.start) (c.read_cells-words.ensures.sees.0 ∙ c.requires.flow) ∙ (ap (λ z. began_as z.table_id.start) (sym c.self.view_is) ∙ ap (λ z. z.first) c.self.view_is)

-- the words of each value that was found
abbrev found_values : (g : _) (c : After-read_cells-words g) → List (List ℕ)
found_values g c = values_of g.T.Words.WIDTH c.args.count c.read_cells-words.result.items

found_words : (g : _) (c : After-read_cells-words g) →
    AreFound g.T.Words.are_words g.T.Words.value_in (capacity_of (only c.read_cells-words.new.seat.me.0).start) (log_after (only c.read_cells-words.new.seat.me.0).start (only c.read_cells-words.new.seat.me.0).knows.seen) c.args.position (found_values g c)
found_words g c = subst (λ (z : RingStart). AreFound g.T.Words.are_words g.T.Words.value_in (capacity_of z) (log_after z (only c.read_cells-words.new.seat.me.0).knows.seen) c.args.position (found_values g c)) (sym (start_is g c)) c.read_cells-words.ensures.found

pub load-length-requires : goal.load-length-requires
load-length-requires g c =
    let d = (goal.at.load-length-requires g c).After-read_cells-words in let r = c.read_cells-words.ensures.reading in let words = c.self.invariant.0 in (
      ap (λ z. z.table) (c.read_cells-words.ensures.sees.0 ∙ c.requires.flow) ∙ ap (λ z. z.table_id.table) (sym c.self.view_is),
      omega (arith, words),
      confirming _ _ _ _ (ap (λ z. z.table_id.start.places) c.self.view_is ∙ c.requires.places) _ _ _ (take 1) first_is (reading_at (post_of c.read_cells-words.new.seat) c.args.number c.args.position (found_values g d)) (ap (λ m. m.0) r.0.0) r.1 r.2 (found_words g d),
    )

-- what the load of word 0 told, of the values that the buffer still has
received : (g : _) (c : After-saturating_sub-passed g) →
    Receives g.T.Words.are_words g.T.Words.value_in c.args.number c.args.position (c.load-length.result / 2)
    (take 1 (drop c.saturating_sub-passed.result (values_of g.T.Words.WIDTH c.args.count c.read_cells-words.result.items))) c.read_cells-words.new.seat.me c.load-length.new.seat.me
received g c =
    let cells = c.read_cells-words in let n = c.load-length.result / 2 in let d = (goal.at.After-saturating_sub-passed g c).After-read_cells-words in let values = found_values g d in
    let cap : capacity_of (only cells.new.seat.me.0).start ≡ c.self.inside.capacity = ap capacity_of (start_is g d) ∙ (ap (λ z. capacity_of z.table_id.start) (sym c.self.view_is) ∙ c.self.invariant.3) in
    let passed : n - capacity_of (only cells.new.seat.me.0).start - c.args.position ≡ c.saturating_sub-passed.result = omega (arith, cap, c.saturating_sub.ensures, c.saturating_sub-passed.ensures) in
    subst (λ k. Receives g.T.Words.are_words g.T.Words.value_in c.args.number c.args.position n (take 1 (drop k values)) cells.new.seat.me c.load-length.new.seat.me) passed
    (c.load-length.ensures.2 (reading_at (post_of c.read_cells-words.new.seat) c.args.number c.args.position values) cells.ensures.reading.1)

pub returns-then-passed-count-clause-late : goal.returns-then-passed-count-clause-late
returns-then-passed-count-clause-late g c =
    let packs = g.T.Words.are_words in let value_of = g.T.Words.value_in in
    let d = (goal.at.returns-then-passed-count-clause-late g c).After-saturating_sub-passed in let e = (goal.at.returns-then-passed-count-clause-late g c).After-read_cells-words in
    let cells = c.read_cells-words in let n = c.load-length.result / 2 in let p = c.args.position in let r = cells.ensures.reading in
    let past = c.if-passed-count.true in
    let none : take 1 (drop c.saturating_sub-passed.result (found_values g e)) ≡ [] = ap (take 1) (none_kept (found_values g e) c.saturating_sub-passed.result (omega (arith, past, length_values_of g.T.Words.WIDTH c.args.count cells.result.items))) in
    let got = subst (λ l. Receives packs value_of c.args.number p n l cells.new.seat.me c.load-length.new.seat.me) none (received g d) in (
      saw_overrun _ _ _ cells.ensures.sees (receives_none packs value_of c.args.number p n cells.new.seat c.load-length.new.seat c.load-length.ensures.0 got),
      subst (λ q. IsReading c.load-length.new.seat c.args.number q [] n) (let l : max p (n - capacity_of (only cells.new.seat.me.0).start) + 0 ≡ max p (n - capacity_of c.args.self.now.table_id.start) = omega (arith, ap capacity_of (start_is g e)) in l)
          (reads_on packs value_of c.args.number p n cells.new.seat c.load-length.new.seat [] r.0.0 got),
    )

-- the words of the first value that the buffer still has
slice_is : (g : _) (c : After-as_slice g) → (wide : ℕ) → wide ≡ g.T.Words.WIDTH → take g.T.Words.WIDTH (drop (c.saturating_sub-passed.result * g.T.Words.WIDTH) c.read_cells-words.result.items)
    ≡ take (c.saturating_sub-passed.result * wide + wide - c.saturating_sub-passed.result * wide) (drop (c.saturating_sub-passed.result * wide) c.as_slice.result.now)
slice_is g c wide is = part_is c.saturating_sub-passed.result wide g.T.Words.WIDTH c.read_cells-words.result.items is
    ∙ ap (λ l. take (c.saturating_sub-passed.result * wide + wide - c.saturating_sub-passed.result * wide) (drop (c.saturating_sub-passed.result * wide) l)) (sym c.as_slice.ensures.value)

got : (g : _) (c : After-saturating_sub-passed g) → c.saturating_sub-passed.result < c.args.count →
    Receives g.T.Words.are_words g.T.Words.value_in c.args.number c.args.position (c.load-length.result / 2)
    (take g.T.Words.WIDTH (drop (c.saturating_sub-passed.result * g.T.Words.WIDTH) c.read_cells-words.result.items) ∷ []) c.read_cells-words.new.seat.me c.load-length.new.seat.me
got g c less = subst (λ l. Receives g.T.Words.are_words g.T.Words.value_in c.args.number c.args.position (c.load-length.result / 2) l c.read_cells-words.new.seat.me c.load-length.new.seat.me)
    (first_left g.T.Words.WIDTH c.args.count c.saturating_sub-passed.result c.read_cells-words.result.items less) (received g c)

pub of_words-value-requires : goal.of_words-value-requires
of_words-value-requires g c =
    let d = (goal.at.of_words-value-requires g c).After-as_slice in let e = (goal.at.of_words-value-requires g c).After-saturating_sub-passed in let some = c.if-passed-count.false in
    subst g.T.Words.are_words (slice_is g d c.WIDTH-width.result c.WIDTH-width.ensures) (got g e (omega (arith, some))).packed.0

pub returns-clause-fresh : goal.returns-clause-fresh
returns-clause-fresh g c =
    let packs = g.T.Words.are_words in let value_of = g.T.Words.value_in in
    let a = (goal.at.returns-clause-fresh g c).After-as_slice in let d = (goal.at.returns-clause-fresh g c).After-saturating_sub-passed in let e = (goal.at.returns-clause-fresh g c).After-read_cells-words in
    let cells = c.read_cells-words in let n = c.load-length.result / 2 in let p = c.args.position in let some = c.if-passed-count.false in
    let w = take g.T.Words.WIDTH (drop (c.saturating_sub-passed.result * g.T.Words.WIDTH) cells.result.items) in let r = got g d (omega (arith, some)) in
    let called = receives_one packs value_of c.args.number p n cells.new.seat c.load-length.new.seat c.args.self.now.first w c.load-length.ensures.0 (first_flow g (goal.at.returns-clause-fresh g c).After-load-length) r in (
      subst (λ v. CallsAtOnceIn shared_flow c.args.self.now.first (ring_token c.args.seat.now) (call.TakeNext c.args.number) (reply.Received (Value v)) (ring_token c.load-length.new.seat))
          (ap value_of (slice_is g a c.WIDTH-width.result c.WIDTH-width.ensures) ∙ sym c.of_words-value.ensures) (saw_then c.args.self.now.first _ _ _ _ _ cells.ensures.sees called.1),
      subst (λ k. IsReading c.load-length.new.seat c.args.number (max p (n - k) + 1) [] n) (ap capacity_of (start_is g e))
          (reads_on packs value_of c.args.number p n cells.new.seat c.load-length.new.seat (w ∷ []) cells.ensures.reading.0.0 r),
    )
