use Rattle.std.proofs.Common.{rules, ◌≡◌, ℕ, ◌+◌, ◌/◌, List, [], ◌∷◌, Some, None, refl, sym, ap, subst, ◌∙◌, inl, arith}
use Rattle.flow_law.specs.declared.call.SharedCall.{SharedCall}
use Rattle.flow_law.specs.declared.call.SharedReply.{SharedReply}
use Rattle.flow_law.specs.declared.states.SharedFlowState.{SharedFlowState}
use Rattle.flow_law.specs.history.History.{IsHistory}
use Rattle.flow_law.specs.history.Promise.{AddsOne, CallsAtOnceIn}
use Rattle.flow_law.specs.flow.SharedHistory.{shared_flow}
use Rattle.flow_law.specs.history.Tokens.{token}
use Rattle.flow_word_shared.specs.Tokens.{WordFlowToken, word_flow_id, ring_token}
use Rattle.flow_word_shared.specs.declared.view.Hold.{Hold}
use Rattle.flow_word_shared.specs.Steps.{MeOf}
use Rattle.flow_word_shared.specs.View.{SharedKnowledge, began_as, only, holding, with_hold}
use Rattle.flow_word_shared.proofs.EmitSteps.{taking, counting, refusing, releasing, publishing}
use Rattle.flow_word_shared.proofs.token.WordFlow.emit_once.Goals as goal
use Rattle.flow_word_shared.proofs.token.WordFlow.emit_once.Goals.{After-compare_exchange-found, After-load-made, After-fill}

-- the same event of the same flow and token
adds_at : {T : Type 0} {first first' : SharedFlowState T} {k k' after : SharedKnowledge T} {c : SharedCall T} {r : SharedReply T} → first ≡ first' → k ≡ k' → AddsOne (IsHistory shared_flow first) k c r after
    → AddsOne (IsHistory shared_flow first') k' c r after
adds_at {T = T} {after = after} {c = c} {r = r} f e a = subst (λ (z : SharedFlowState T × SharedKnowledge T). AddsOne (IsHistory shared_flow z.0) z.1 c r after) (λ i. (f i, e i)) a

-- the same call, of a token that is the same
called_until : {T : Type 0} {first : SharedFlowState T} {a t u : WordFlowToken T} {c : SharedCall T} {r : SharedReply T} → t ≡ u → CallsAtOnceIn shared_flow first a c r t → CallsAtOnceIn shared_flow first a c r u
called_until {first = first} {a = a} {c = c} {r = r} e called = subst (λ t. CallsAtOnceIn shared_flow first a c r t) e called

pub compare_exchange-found-requires : goal.compare_exchange-found-requires
compare_exchange-found-requires g c =
    (search rules, search rules, taking _ _ _ _ _ _ _ _ _ (ap (λ m. m.0) c.seat.invariant.0.0) c.seat.invariant.0.1 c.seat.invariant.1 refl)

pub load-made-requires : goal.load-made-requires
load-made-requires g c =
    let told = c.compare_exchange-found.ensures.2.0 c.if-found-expected.false in
    (search rules, search rules, counting _ _ _ _ _ _ _ (holding (c.seat.inside.expected / 2)) (subst (λ m. m.0 ≡ only m.0 ∷ []) (sym told) refl) (ap (λ m. (only m.0).hold) told) refl)

-- what the holder knows of its hold: the cells are filled
abbrev holds : (n made : ℕ) → List ℕ → Hold
holds n made words = record (holding n) { issued = Some (made + n); cells = words }

pub fill-requires-clause-flow : goal.fill-requires-clause-flow
fill-requires-clause-flow g c =
    let n = c.seat.inside.expected / 2 in let told = c.compare_exchange-found.ensures.2.0 c.if-found-expected.false in let counted = c.load-made.ensures.2 (holding n) (ap (λ m. (only m.0).hold) told) refl in
    (λ i. word_flow_id (c.load-made.ensures.0 i) (only (counted.0 i).0).start) ∙ ((λ i. word_flow_id (c.compare_exchange-found.ensures.0 i) (only (told i).0).start) ∙ (ap (λ z. z.table_id) c.seat.view_is ∙ c.requires.flow))

pub fill-requires-clause-holds : goal.fill-requires-clause-holds
fill-requires-clause-holds g c =
    let n = c.seat.inside.expected / 2 in let told = c.compare_exchange-found.ensures.2.0 c.if-found-expected.false in let counted = c.load-made.ensures.2 (holding n) (ap (λ m. (only m.0).hold) told) refl in
    let slots : c.load-made.new.seat.me.1 ≡ [] = ap (λ m. m.1) counted.0 ∙ (ap (λ m. m.1) told ∙ ap (λ m. m.1) c.seat.invariant.0.0) in
    (holds n c.load-made.result [], (subst (λ (m : MeOf g.row.T.Denot). m ≡ (only m.0 ∷ [], [])) (sym (counted.0 ∙ (λ i. (with_hold (Some (holds n c.load-made.result [])) (only c.compare_exchange-found.new.seat.me.0) ∷ [], (ap (λ m. m.1) told ∙ ap (λ m. m.1) c.seat.invariant.0.0) i)))) refl, ap (λ m. (only m.0).hold) counted.0), refl, refl)

-- what the holder knows after it has filled the cells
filled_is : (g : _) (c : After-fill g) → c.fill.new.seat.me ≡ (with_hold (Some (holds (c.seat.inside.expected / 2) c.load-made.result c.args.words.now)) (only c.load-made.new.seat.me.0) ∷ [], c.load-made.new.seat.me.1)
filled_is g c =
    let n = c.seat.inside.expected / 2 in let told = c.compare_exchange-found.ensures.2.0 c.if-found-expected.false in let counted = c.load-made.ensures.2 (holding n) (ap (λ m. (only m.0).hold) told) refl in
    c.fill.ensures.filled (holds n c.load-made.result []) (ap (λ m. (only m.0).hold) counted.0)

pub load-requires : goal.load-requires
load-requires g c =
    let n = c.seat.inside.expected / 2 in let made = c.load-made.result in let filled = filled_is g (goal.at.load-requires g c).After-fill in let full = c.if-made-length.true in let limit = c.self.invariant.5 in (
      search rules,
      search rules,
      refusing _ _ _ _ _ _ _ _ (holds n made c.args.words.now) (made + n) (subst (λ m. m.0 ≡ only m.0 ∷ []) (sym filled) refl) (ap (λ m. (only m.0).hold) filled) refl (omega arith)
          (inl (ap (λ z. z.table_id.start.places) c.self.view_is ∙ c.requires.places)),
    )

pub store-requires : goal.store-requires
store-requires g c =
    let n = c.seat.inside.expected / 2 in let made = c.load-made.result in let filled = filled_is g (goal.at.store-requires g c).After-fill in let refused = c.load.ensures.2 (holds n made c.args.words.now) (ap (λ m. (only m.0).hold) filled) in let even = c.seat.invariant.1 in
    (search rules, search rules, releasing _ _ _ _ _ _ _ (holds n made c.args.words.now) _ (ap (λ m. m.0) refused.0.2) refused.1 refl (omega arith))

pub store-requires-2 : goal.store-requires-2
store-requires-2 g c =
    let n = c.seat.inside.expected / 2 in let made = c.load-made.result in let filled = filled_is g (goal.at.store-requires-2 g c).After-fill in let less = c.if-made-length.false in let limit = c.self.invariant.5 in let even = c.seat.invariant.1 in (
      search rules,
      search rules,
      publishing _ _ _ _ _ _ _ _ (holds n made c.args.words.now) (made + n) _ (subst (λ m. m.0 ≡ only m.0 ∷ []) (sym filled) refl) (ap (λ m. (only m.0).hold) filled) refl refl (omega arith) c.requires.words (c.requires.width ∙ sym c.self.invariant.11) (omega arith)
          (inl (ap (λ z. z.table_id.start.places) c.self.view_is ∙ c.requires.places)),
    )

-- the seat has made no call before it emits
before_is : (g : _) (c : After-fill g) → ring_token c.fill.new.seat ≡ c.args.seat.now
before_is g c =
    let n = c.seat.inside.expected / 2 in let told = c.compare_exchange-found.ensures.2.0 c.if-found-expected.false in let counted = c.load-made.ensures.2 (holding n) (ap (λ m. (only m.0).hold) told) refl in let filled = filled_is g c in
    (λ i. token (word_flow_id (c.fill.ensures.flow i) (only (filled i).0).start) (only (filled i).0).knows)
    ∙ ((λ i. token (word_flow_id (c.load-made.ensures.0 i) (only (counted.0 i).0).start) (only (counted.0 i).0).knows)
    ∙ ((λ i. token (word_flow_id (c.compare_exchange-found.ensures.0 i) (only (told i).0).start) (only (told i).0).knows) ∙ c.seat.view_is))

slots_are : (g : _) (c : After-fill g) → c.fill.new.seat.me.1 ≡ []
slots_are g c =
    let n = c.seat.inside.expected / 2 in let told = c.compare_exchange-found.ensures.2.0 c.if-found-expected.false in let counted = c.load-made.ensures.2 (holding n) (ap (λ m. (only m.0).hold) told) refl in
    ap (λ m. m.1) (filled_is g c) ∙ (ap (λ m. m.1) counted.0 ∙ (ap (λ m. m.1) told ∙ ap (λ m. m.1) c.seat.invariant.0.0))

-- the flow that is called began so
first_is : (g : _) (c : After-fill g) → began_as (only c.fill.new.seat.me.0).start ≡ c.args.self.now.first
first_is g c = ap (λ z. began_as z.table_id.start) (before_is g c) ∙ (ap (λ z. began_as z.start) c.requires.flow ∙ (ap (λ z. began_as z.table_id.start) (sym c.self.view_is) ∙ ap (λ z. z.first) c.self.view_is))

pub invariant_of-seat-2 : goal.invariant_of-seat-2
invariant_of-seat-2 g c =
    let d = (goal.at.invariant_of-seat-2 g c).After-fill in let n = c.seat.inside.expected / 2 in let made = c.load-made.result in let even = c.seat.invariant.1 in
    let published = c.store-2.ensures.2 (holds n made c.args.words.now) (ap (λ m. (only m.0).hold) (filled_is g d)) in
    ((published.0.2 ∙ ap (λ l. (only c.store-2.new.seat.me.0 ∷ [], l)) (slots_are g d), published.1), omega (arith, even))

pub returns-clause-emitted : goal.returns-clause-emitted
returns-clause-emitted g c =
    let d = (goal.at.returns-clause-emitted g c).After-fill in let n = c.seat.inside.expected / 2 in let made = c.load-made.result in let before = before_is g d in
    let published = c.store-2.ensures.2 (holds n made c.args.words.now) (ap (λ m. (only m.0).hold) (filled_is g d)) in
    λ _. (
      (
        (λ i. word_flow_id (c.store-2.ensures.0 i) (published.0.1 i)) ∙ ap (λ z. z.table_id) before,
        adds_at (first_is g d) (ap (λ z. z.knows) before) published.0.0,
      ),
      published.0.3 ∙ ap (λ z. z.knows.lost) before,
    )

-- the seat has seen the refusal, and then gives up the lock bit
pub invariant_of-seat-then-made-length : goal.invariant_of-seat-then-made-length
invariant_of-seat-then-made-length g c =
    let d = (goal.at.invariant_of-seat-then-made-length g c).After-fill in let n = c.seat.inside.expected / 2 in let made = c.load-made.result in
    let refused = c.load.ensures.2 (holds n made c.args.words.now) (ap (λ m. (only m.0).hold) (filled_is g d)) in
    let slots : c.load.new.seat.me.1 ≡ [] = ap (λ m. m.1) refused.0.2 ∙ slots_are g d in
    (subst (λ (m : MeOf g.row.T.Denot). (m ≡ (only m.0 ∷ [], [])) × ((only m.0).hold ≡ None)) (sym (c.store.ensures.2 ∙ (λ i. (with_hold None (only c.load.new.seat.me.0) ∷ [], slots i)))) (refl, refl), c.seat.invariant.1)

pub returns-then-made-length-clause-refused : goal.returns-then-made-length-clause-refused
returns-then-made-length-clause-refused g c =
    let d = (goal.at.returns-then-made-length-clause-refused g c).After-fill in let n = c.seat.inside.expected / 2 in let made = c.load-made.result in let before = before_is g d in
    let refused = c.load.ensures.2 (holds n made c.args.words.now) (ap (λ m. (only m.0).hold) (filled_is g d)) in let released = c.store.ensures.2 in
    let after : ring_token c.store.new.seat ≡ ring_token c.load.new.seat = λ i. token (word_flow_id (c.store.ensures.0 i) (only (released i).0).start) (only (released i).0).knows in
    λ _. called_until (sym after) (
      (
        (λ i. word_flow_id (c.load.ensures.0 i) (refused.0.1 i)) ∙ ap (λ z. z.table_id) before,
        adds_at (first_is g d) (ap (λ z. z.knows) before) refused.0.0,
      ),
      refused.0.3 ∙ ap (λ z. z.knows.lost) before,
    )
