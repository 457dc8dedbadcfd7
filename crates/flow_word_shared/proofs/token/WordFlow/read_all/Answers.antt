use Rattle.std.proofs.Common.{◌≡◌, ℕ, ◌+◌, ◌-◌, ◌*◌, ◌/◌, ◌<◌, ◌≤◌, inl, inr, List, [], ◌∷◌, ◌++◌, drop, length, map, sym, ap, subst, ◌∙◌, append-nil, arith}
use Rattle.std.specs.Prelude.{max, min, take}
use Rattle.std.proofs.lemmas.List.{length-map, length-drop, take_rest}
use Rattle.std.proofs.lemmas.Bool.{cases_lt}
use Rattle.flow_word_shared.specs.declared.view.RingStart.{RingStart}
use Rattle.flow_word_shared.specs.Rule.{capacity_of}
use Rattle.flow_word_shared.specs.Steps.{AreFound, Receives, still_kept, log_after, values_of}
use Rattle.flow_word_shared.specs.Tokens.{word_flow_id, IsReading, post_of}
use Rattle.flow_word_shared.specs.View.{began_as, only, reading_at}
use Rattle.flow_word_shared.proofs.Cells.{values_drop, left_of, length_values_of}
use Rattle.flow_word_shared.proofs.ConfirmSteps.{confirming}
use Rattle.flow_word_shared.proofs.Finding.{all_is, min_kept}
use Rattle.flow_word_shared.proofs.Told.{all_given, none_given, reads_on}
use Rattle.flow_word_shared.proofs.token.WordFlow.read_all.Goals as goal
use Rattle.flow_word_shared.proofs.token.WordFlow.read_all.Goals.{After-read_cells-words, After-as_slice}

-- the seat's flow is the one that is called
start_is : (g : _) (c : After-read_cells-words g) → (only c.read_cells-words.new.seat.me.0).start ≡ c.args.self.now.table_id.start
start_is g c = ap (λ z. z.start) (c.read_cells-words.ensures.sees.0 ∙ c.requires.flow)

pub load-length-requires : goal.load-length-requires
load-length-requires g c =
    let d = (goal.at.load-length-requires g c).After-read_cells-words in let cells = c.read_cells-words in let r = cells.ensures.reading in let words = c.self.invariant.0 in (
      ap (λ z. z.table) (cells.ensures.sees.0 ∙ c.requires.flow) ∙ ap (λ z. z.table_id.table) (sym c.self.view_is),
      omega arith,
      confirming _ _ _ _ (ap (λ z. z.table_id.start.places) c.self.view_is ∙ c.requires.places) _ _ _ (λ l. l) all_is (reading_at (post_of c.read_cells-words.new.seat) c.args.number c.args.position (values_of g.T.Words.WIDTH c.args.count cells.result.items)) (ap (λ m. m.0) r.0.0) r.1 r.2
          (subst (λ (z : RingStart). AreFound g.T.Words.are_words g.T.Words.value_in (capacity_of z) (log_after z (only cells.new.seat.me.0).knows.seen) c.args.position (values_of g.T.Words.WIDTH c.args.count cells.result.items)) (sym (start_is g d)) cells.ensures.found),
    )

-- the words of the values that the buffer still has
abbrev kept : (width wide count passed : ℕ) → List ℕ → List (List ℕ)
kept width wide count passed words = values_of width (count - passed) (take (length words - passed * wide) (drop (passed * wide) words))

kept_is : (width wide count passed : ℕ) (words : List ℕ) → wide ≡ width → passed ≤ count → drop passed (values_of width count words) ≡ kept width wide count passed words
kept_is width wide count passed words is less = values_drop width count passed words less ∙ (λ i. values_of width (count - passed) (drop (passed * sym is i) words)) ∙ ap (values_of width (count - passed)) (sym (take_rest words (passed * wide)))

length_kept : (width wide count passed : ℕ) (words : List ℕ) → length (kept width wide count passed words) ≡ count - passed
length_kept width wide count passed words = length_values_of width (count - passed) (take (length words - passed * wide) (drop (passed * wide) words))

-- what the load of word 0 told of them
received : (g : _) (c : After-as_slice g) →
    Receives g.T.Words.are_words g.T.Words.value_in c.args.number c.args.position (c.load-length.result / 2) (kept g.T.Words.WIDTH c.WIDTH-width.result c.args.count c.min-passed.result c.as_slice.result.now) c.read_cells-words.new.seat.me c.load-length.new.seat.me
received g c =
    let cells = c.read_cells-words in let n = c.load-length.result / 2 in let d = (goal.at.After-as_slice g c).After-read_cells-words in let width = g.T.Words.WIDTH in let values = values_of width c.args.count cells.result.items in
    let count = length_values_of width c.args.count cells.result.items in
    let cap : capacity_of (only cells.new.seat.me.0).start ≡ c.self.inside.capacity = ap capacity_of (start_is g d) ∙ (ap (λ z. capacity_of z.table_id.start) (sym c.self.view_is) ∙ c.self.invariant.3) in
    let passed : c.min-passed.result ≡ min (n - capacity_of (only cells.new.seat.me.0).start - c.args.position) (length values) = omega (arith, cap, c.saturating_sub.ensures, c.saturating_sub-passed.ensures, c.min-passed.ensures, count) in
    let is : still_kept (capacity_of (only cells.new.seat.me.0).start) n c.args.position values ≡ kept width c.WIDTH-width.result c.args.count c.min-passed.result c.as_slice.result.now =
    sym (min_kept values (n - capacity_of (only cells.new.seat.me.0).start - c.args.position) c.min-passed.result passed)
    ∙ (kept_is width c.WIDTH-width.result c.args.count c.min-passed.result cells.result.items c.WIDTH-width.ensures (omega (arith, c.min-passed.ensures)) ∙ ap (kept width c.WIDTH-width.result c.args.count c.min-passed.result) (sym c.as_slice.ensures.value)) in
    subst (λ l. Receives g.T.Words.are_words g.T.Words.value_in c.args.number c.args.position n l cells.new.seat.me c.load-length.new.seat.me) is
    (c.load-length.ensures.2 (reading_at (post_of c.read_cells-words.new.seat) c.args.number c.args.position values) cells.ensures.reading.1)

pub unpack_all-requires-clause-packed : goal.unpack_all-requires-clause-packed
unpack_all-requires-clause-packed g c = (received g (goal.at.unpack_all-requires-clause-packed g c).After-as_slice).packed

pub returns-clause-flow : goal.returns-clause-flow
returns-clause-flow g c = let r = received g (goal.at.returns-clause-flow g c).After-as_slice in (λ i. word_flow_id (c.load-length.ensures.0 i) (r.start i)) ∙ c.read_cells-words.ensures.sees.0

pub returns-clause-taken : goal.returns-clause-taken
returns-clause-taken g c = λ some.
    let r = received g (goal.at.returns-clause-taken g c).After-as_slice in let cells = c.read_cells-words in let ws = kept g.T.Words.WIDTH c.WIDTH-width.result c.args.count c.min-passed.result c.as_slice.result.now in
    let began : began_as (only cells.new.seat.me.0).start ≡ c.args.self.now.first = ap (λ z. began_as z.start) (cells.ensures.sees.0 ∙ c.requires.flow) ∙ (ap (λ z. began_as z.table_id.start) (sym c.self.view_is) ∙ ap (λ z. z.first) c.self.view_is) in record {
      values = map g.T.Words.value_in ws;
      taken = all_given g.T.Words.are_words g.T.Words.value_in c.args.self.now.first c.args.number c.args.position (c.load-length.result / 2) c.args.seat.now cells.new.seat c.load-length.new.seat cells.ensures.sees c.load-length.ensures.0 began ws (λ e. some (sym (length_kept g.T.Words.WIDTH c.WIDTH-width.result c.args.count c.min-passed.result c.as_slice.result.now) ∙ e)) r;
      appended = c.unpack_all.ensures.items;
      counted = length-map ws g.T.Words.value_in ∙ length_kept g.T.Words.WIDTH c.WIDTH-width.result c.args.count c.min-passed.result c.as_slice.result.now;
    }

-- a list of no words has no values
no_values : {A : Type 0} (f : List ℕ → A) (ws : List (List ℕ)) (list longer : List A) → length ws ≡ 0 → longer ≡ list ++ map f ws → longer ≡ list
no_values f [] list longer none is = is ∙ append-nil list
no_values f (w ∷ ws) list longer none is = absurd (omega (arith, none))

pub returns-clause-late : goal.returns-clause-late
returns-clause-late g c = λ none.
    let r = received g (goal.at.returns-clause-late g c).After-as_slice in let cells = c.read_cells-words in let ws = kept g.T.Words.WIDTH c.WIDTH-width.result c.args.count c.min-passed.result c.as_slice.result.now in (
      no_values g.T.Words.value_in ws c.args.values.now.items c.unpack_all.new.values.items (length_kept g.T.Words.WIDTH c.WIDTH-width.result c.args.count c.min-passed.result c.as_slice.result.now ∙ none) c.unpack_all.ensures.items,
      none_given g.T.Words.are_words g.T.Words.value_in c.args.self.now.first c.args.number c.args.position (c.load-length.result / 2) c.args.seat.now cells.new.seat c.load-length.new.seat cells.ensures.sees c.load-length.ensures.0 ws (length_kept g.T.Words.WIDTH c.WIDTH-width.result c.args.count c.min-passed.result c.as_slice.result.now ∙ none) r,
    )

pub returns-clause-reading : goal.returns-clause-reading
returns-clause-reading g c =
    let r = received g (goal.at.returns-clause-reading g c).After-as_slice in let cells = c.read_cells-words in let n = c.load-length.result / 2 in let ws = kept g.T.Words.WIDTH c.WIDTH-width.result c.args.count c.min-passed.result c.as_slice.result.now in
    subst (λ (z : ℕ × ℕ). IsReading c.load-length.new.seat c.args.number (max c.args.position (n - z.0) + z.1) [] n) (λ i. (ap capacity_of (start_is g (goal.at.returns-clause-reading g c).After-read_cells-words) i, (length_kept g.T.Words.WIDTH c.WIDTH-width.result c.args.count c.min-passed.result c.as_slice.result.now) i))
    (reads_on g.T.Words.are_words g.T.Words.value_in c.args.number c.args.position n cells.new.seat c.load-length.new.seat ws cells.ensures.reading.0.0 r)

pub returns-clause-within : goal.returns-clause-within
returns-clause-within g c = λ some.
    let n = c.load-length.result / 2 in
    let cap : capacity_of c.args.self.now.table_id.start ≡ c.self.inside.capacity = ap (λ z. capacity_of z.table_id.start) (sym c.self.view_is) ∙ c.self.invariant.3 in
    let less : c.min-passed.result < c.args.count = elim (cases_lt c.min-passed.result c.args.count) as (λ _. c.min-passed.result < c.args.count) [
      | inl l ↦ l
      | inr past ↦ absurd (some (omega (arith, past)))
    ] in
    omega (arith, cap, less, c.saturating_sub.ensures, c.saturating_sub-passed.ensures, c.min-passed.ensures)

pub unpack_all-requires-clause-count : goal.unpack_all-requires-clause-count
unpack_all-requires-clause-count g c =
    let now = c.as_slice.result.now in let passed = c.min-passed.result in let width = g.T.Words.WIDTH in let k = passed * c.WIDTH-width.result in
    let all : length now ≡ c.args.count * width = ap length c.as_slice.ensures.value ∙ c.read_cells-words.ensures.count in
    let wide : k ≡ passed * width = ap (λ w. passed * w) c.WIDTH-width.ensures in
    let total = left_of c.args.count passed width (omega (arith, c.min-passed.ensures)) in
    ap length (take_rest now k) ∙ length-drop k now ∙ (let l : length now - k ≡ (c.args.count - passed) * width = omega (arith, all, wide, total) in l)
