use Rattle.std.proofs.Common.{rules, ◌≡◌, ℕ, Bool, ◌+◌, ◌/◌, ◌<◌, List, [], ◌∷◌, length, Some, None, refl, sym, ap, subst, ◌∙◌, inr, arith}
use Rattle.flow_law.specs.declared.call.SharedReply.{SharedReply}
use Rattle.flow_law.specs.declared.states.SharedFlowState.{SharedFlowState}
use Rattle.flow_law.specs.history.Promise.{CallsAtOnceIn}
use Rattle.flow_law.specs.flow.SharedHistory.{shared_flow}
use Rattle.flow_law.specs.history.Tokens.{knowing, token}
use Rattle.flow_law.specs.history.Growth.{loses}
use Rattle.flow_word_shared.specs.declared.view.Hold.{Hold}
use Rattle.flow_word_shared.specs.declared.view.RingStart.{RingStart}
use Rattle.flow_word_shared.specs.Rule.{capacity_of}
use Rattle.flow_word_shared.specs.PlaceSteps.{HasRoom}
use Rattle.flow_word_shared.specs.Steps.{MeOf, Holds, emission_of}
use Rattle.flow_word_shared.specs.Tokens.{WordFlowToken, word_flow_id, ring_token}
use Rattle.flow_word_shared.specs.View.{began_as, only, holding, ring_with_knows}
use Rattle.flow_word_shared.proofs.EmitSteps.{taking, counting, refusing, releasing, publishing}
use Rattle.flow_word_shared.proofs.Holding.{held_then, held_twice, held_calls, held_token}
use Rattle.flow_word_shared.proofs.PlaceSteps.{giving_up}
use Rattle.flow_word_shared.proofs.Told.{told_calls, still_one}
use Rattle.flow_word_shared.proofs.token.WordFlow.emit_checked.Goals as goal
use Rattle.flow_word_shared.proofs.token.WordFlow.emit_checked.Goals.{After-fill, In-Open, After-load-made}

-- what the holder knows of its hold: the cells are filled
abbrev filled : ℕ → List ℕ → Hold
filled n words = record (holding n) { cells = words }

pub compare_exchange-found-requires : goal.compare_exchange-found-requires
compare_exchange-found-requires g c =
    (search rules, search rules, taking _ _ _ _ _ _ _ _ _ (ap (λ m. m.0) c.seat.invariant.0.0) c.seat.invariant.0.1 c.seat.invariant.1 refl)

pub fill-requires-clause-flow : goal.fill-requires-clause-flow
fill-requires-clause-flow g c =
    let told = c.compare_exchange-found.ensures.2.0 c.if-found-expected.false in
    ap (λ z. z.table_id) (held_token c.seat.inside.seat c.compare_exchange-found.new.seat (Some (holding (c.seat.inside.expected / 2))) c.compare_exchange-found.ensures.0 told) ∙ (ap (λ z. z.table_id) c.seat.view_is ∙ c.requires.flow)

pub fill-requires-clause-holds : goal.fill-requires-clause-holds
fill-requires-clause-holds g c =
    let told = c.compare_exchange-found.ensures.2.0 c.if-found-expected.false in (holding (c.seat.inside.expected / 2), held_then c.seat.inside.seat.me c.compare_exchange-found.new.seat.me (Some (holding (c.seat.inside.expected / 2))) c.seat.invariant.0.0 told, refl, refl)

-- the seat holds the lock bit, and has filled the cells
fills : (g : _) (c : After-fill g) → Holds c.seat.inside.seat.me (Some (filled (c.seat.inside.expected / 2) c.args.words.now)) c.fill.new.seat.me
fills g c =
    let n = c.seat.inside.expected / 2 in let told = c.compare_exchange-found.ensures.2.0 c.if-found-expected.false in
    held_twice c.seat.inside.seat.me c.compare_exchange-found.new.seat.me c.fill.new.seat.me (Some (holding n)) (Some (filled n c.args.words.now)) told (c.fill.ensures.filled (holding n) (ap (λ (m : MeOf g.row.T.Denot). (only m.0).hold) told))

fills_table : (g : _) (c : After-fill g) → c.fill.new.seat.table_id ≡ c.seat.inside.seat.table_id
fills_table g c = c.fill.ensures.flow ∙ c.compare_exchange-found.ensures.0

pub find_room-requires-clause-flow : goal.find_room-requires-clause-flow
find_room-requires-clause-flow g c =
    let d = (goal.at.find_room-requires-clause-flow g c).After-fill in
    ap (λ z. z.table_id) (held_token c.seat.inside.seat c.fill.new.seat (Some (filled (c.seat.inside.expected / 2) c.args.words.now)) (fills_table g d) (fills g d)) ∙ (ap (λ z. z.table_id) c.seat.view_is ∙ c.requires.flow)

pub find_room-requires-clause-holds : goal.find_room-requires-clause-holds
find_room-requires-clause-holds g c =
    let d = (goal.at.find_room-requires-clause-holds g c).After-fill in (filled (c.seat.inside.expected / 2) c.args.words.now, held_then c.seat.inside.seat.me c.fill.new.seat.me (Some (filled (c.seat.inside.expected / 2) c.args.words.now)) c.seat.invariant.0.0 (fills g d), refl, refl, refl)

-- the seat has seen what it had seen
first_is : (g : _) (c : After-fill g) → began_as (only c.seat.inside.seat.me.0).start ≡ c.args.self.now.first
first_is g c = ap (λ z. began_as z.table_id.start) c.seat.view_is ∙ (ap (λ z. began_as z.start) c.requires.flow ∙ (ap (λ z. began_as z.table_id.start) (sym c.self.view_is) ∙ ap (λ z. z.first) c.self.view_is))

-- a call of the seat, after steps without an event
called_by : {T : Type 0} (first : SharedFlowState T) (a b : WordFlowToken T) (tries : Bool) (v w : T) (t u : WordFlowToken T) (reply : SharedReply T) → a ≡ b → v ≡ w → t ≡ u → CallsAtOnceIn shared_flow first a (emission_of tries v) reply t
    → CallsAtOnceIn shared_flow first b (emission_of tries w) reply u
called_by {T} first a b tries v w t u reply same value after called =
    subst (λ (z : (WordFlowToken T × WordFlowToken T) × T). CallsAtOnceIn shared_flow first z.0.0 (emission_of tries z.1) reply z.0.1) (λ i. ((same i, after i), value i)) called

pub store-requires : goal.store-requires
store-requires g c =
    let n = c.seat.inside.expected / 2 in let d = (goal.at.store-requires g c).After-fill in let even = c.seat.invariant.1 in
    let found = c.in-Blocked.ensures.found (filled n c.args.words.now) (ap (λ (m : MeOf g.row.T.Denot). (only m.0).hold) (fills g d)) in let k = found.2 in
    (search rules, search rules, releasing _ _ _ _ _ _ _ k.0 _ (ap (λ m. m.0) found.0.2) k.1 k.3 (let count = k.2 in omega (arith, count, even)))

pub invariant_of-seat-in-Blocked : goal.invariant_of-seat-in-Blocked
invariant_of-seat-in-Blocked g c =
    let T = g.row.T.Denot in let n = c.seat.inside.expected / 2 in let is = fills g (goal.at.invariant_of-seat-in-Blocked g c).After-fill in
    let found = c.in-Blocked.ensures.found (filled n c.args.words.now) (ap (λ (m : MeOf T). (only m.0).hold) is) in
    let one = still_one c.fill.new.seat.me c.find_room.new.seat.me (held_then c.seat.inside.seat.me c.fill.new.seat.me (Some (filled n c.args.words.now)) c.seat.invariant.0.0 is).0 found.0.2 in
    (held_then c.find_room.new.seat.me c.store.new.seat.me None one c.store.ensures.2, c.seat.invariant.1)

pub returns-in-Blocked-clause-emitted : goal.returns-in-Blocked-clause-emitted
returns-in-Blocked-clause-emitted g c =
    let T = g.row.T.Denot in let n = c.seat.inside.expected / 2 in let d = (goal.at.returns-in-Blocked-clause-emitted g c).After-fill in let is = fills g d in
    let found = c.in-Blocked.ensures.found (filled n c.args.words.now) (ap (λ (m : MeOf T). (only m.0).hold) is) in
    let s = c.seat.inside.seat in let t = c.fill.new.seat in let u = c.find_room.new.seat in let v = c.store.new.seat in
    let called = told_calls c.args.self.now.first s u _ _ (c.find_room.ensures.flow ∙ fills_table g d) (first_is g d) (held_calls s.me t.me u.me (Some (filled n c.args.words.now)) _ _ is found.0) in
    let after : ring_token u ≡ ring_token v = sym (held_token u v None c.store.ensures.0 c.store.ensures.2) in
    λ _. called_by c.args.self.now.first (ring_token s) c.args.seat.now _ _ _ (ring_token u) (ring_token v) _ c.seat.view_is refl after called

-- ---- a subscriber may be a full buffer behind

pub store-requires-in-Unknown : goal.store-requires-in-Unknown
store-requires-in-Unknown g c =
    let T = g.row.T.Denot in let n = c.seat.inside.expected / 2 in let d = (goal.at.store-requires-in-Unknown g c).After-fill in let even = c.seat.invariant.1 in
    let k = c.in-Unknown.ensures.found (filled n c.args.words.now) (ap (λ (m : MeOf T). (only m.0).hold) (fills g d)) in
    (search rules, search rules, giving_up _ _ _ _ _ _ _ k.0 _ (subst (λ (m : MeOf T). m.0 ≡ only m.0 ∷ []) (sym k.1) refl) (ap (λ (m : MeOf T). (only m.0).hold) k.1) k.3 (let count = k.2 in omega (arith, count, even)))

pub invariant_of-seat-in-Unknown : goal.invariant_of-seat-in-Unknown
invariant_of-seat-in-Unknown g c =
    let T = g.row.T.Denot in let n = c.seat.inside.expected / 2 in let d = (goal.at.invariant_of-seat-in-Unknown g c).After-fill in let is = fills g d in
    let k = c.in-Unknown.ensures.found (filled n c.args.words.now) (ap (λ (m : MeOf T). (only m.0).hold) is) in let gave = c.store-in-Unknown.ensures.2 in
    let slots : c.find_room.new.seat.me.1 ≡ [] = ap (λ (m : MeOf T). m.1) k.1 ∙ (ap (λ (m : MeOf T). m.1) is ∙ ap (λ (m : MeOf T). m.1) c.seat.invariant.0.0) in
    (subst (λ (m : MeOf T). (m ≡ (only m.0 ∷ [], [])) × ((only m.0).hold ≡ None)) (sym (gave ∙ (λ i. (ring_with_knows loses (only c.find_room.new.seat.me.0) ∷ [], slots i)))) (refl, refl), c.seat.invariant.1)

pub returns-in-Unknown-clause-lost : goal.returns-in-Unknown-clause-lost
returns-in-Unknown-clause-lost g c =
    let T = g.row.T.Denot in let n = c.seat.inside.expected / 2 in let d = (goal.at.returns-in-Unknown-clause-lost g c).After-fill in let is = fills g d in
    let k = c.in-Unknown.ensures.found (filled n c.args.words.now) (ap (λ (m : MeOf T). (only m.0).hold) is) in let gave = c.store-in-Unknown.ensures.2 in
    let s = c.seat.inside.seat in let u = c.find_room.new.seat in let v = c.store-in-Unknown.new.seat in
    let held : Holds s.me (Some k.0) u.me = held_twice s.me c.fill.new.seat.me u.me (Some (filled n c.args.words.now)) (Some k.0) is k.1 in
    (λ i. token (word_flow_id (c.store-in-Unknown.ensures.0 i) (only (gave i).0).start) (only (gave i).0).knows)
    ∙ ((λ i. token (word_flow_id ((c.find_room.ensures.flow ∙ fills_table g d) i) (only (held i).0).start) (loses (only (held i).0).knows))
    ∙ ap (λ (t : WordFlowToken T). knowing t (loses t.knows)) c.seat.view_is)

-- ---- there is room

-- what the holder knows that has found room
found : (g : _) (c : In-Open g) → (k : Hold) × Holds c.seat.inside.seat.me (Some k) c.find_room.new.seat.me × HasRoom k (capacity_of c.self.inside.table.shared.key)
    × (k.length ≡ c.seat.inside.expected / 2) × (k.ahead ≡ 0) × (k.cells ≡ c.args.words.now)
found g c =
    let T = g.row.T.Denot in let n = c.seat.inside.expected / 2 in let told = c.compare_exchange-found.ensures.2.0 c.if-found-expected.false in
    let is : Holds c.seat.inside.seat.me (Some (filled n c.args.words.now)) c.fill.new.seat.me =
    held_twice c.seat.inside.seat.me c.compare_exchange-found.new.seat.me c.fill.new.seat.me (Some (holding n)) (Some (filled n c.args.words.now)) told (c.fill.ensures.filled (holding n) (ap (λ (m : MeOf T). (only m.0).hold) told)) in
    let k = c.in-Open.ensures.found (filled n c.args.words.now) (ap (λ (m : MeOf T). (only m.0).hold) is) in
    let start : (only c.fill.new.seat.me.0).start ≡ c.self.inside.table.shared.key =
    ap (λ (m : MeOf T). (only m.0).start) is ∙ (ap (λ z. z.table_id.start) c.seat.view_is ∙ (ap (λ z. z.start) c.requires.flow ∙ ap (λ z. z.table_id.start) (sym c.self.view_is))) in
    (k.0, held_twice c.seat.inside.seat.me c.fill.new.seat.me c.find_room.new.seat.me (Some (filled n c.args.words.now)) (Some k.0) is k.1, subst (λ (z : RingStart). HasRoom k.0 (capacity_of z)) start k.2, k.3, k.4, k.5)

pub load-made-requires : goal.load-made-requires
load-made-requires g c =
    let T = g.row.T.Denot in let k = found g (goal.at.load-made-requires g c).In-Open in
    (search rules, search rules, counting _ _ _ _ _ _ _ k.0 (subst (λ (m : MeOf T). m.0 ≡ only m.0 ∷ []) (sym k.1) refl) (ap (λ (m : MeOf T). (only m.0).hold) k.1) k.4)

-- after it has counted the issued numbers
counted : (g : _) (c : After-load-made g) → (k : Hold) × Holds c.seat.inside.seat.me (Some (record k { issued = Some (c.load-made.result + k.length) })) c.load-made.new.seat.me × HasRoom k (capacity_of c.self.inside.table.shared.key)
    × (k.length ≡ c.seat.inside.expected / 2) × (k.ahead ≡ 0) × (k.cells ≡ c.args.words.now)
counted g c =
    let T = g.row.T.Denot in let n = c.seat.inside.expected / 2 in let told = c.compare_exchange-found.ensures.2.0 c.if-found-expected.false in
    let is : Holds c.seat.inside.seat.me (Some (filled n c.args.words.now)) c.fill.new.seat.me =
    held_twice c.seat.inside.seat.me c.compare_exchange-found.new.seat.me c.fill.new.seat.me (Some (holding n)) (Some (filled n c.args.words.now)) told (c.fill.ensures.filled (holding n) (ap (λ (m : MeOf T). (only m.0).hold) told)) in
    let k = c.in-Open.ensures.found (filled n c.args.words.now) (ap (λ (m : MeOf T). (only m.0).hold) is) in
    let start : (only c.fill.new.seat.me.0).start ≡ c.self.inside.table.shared.key =
    ap (λ (m : MeOf T). (only m.0).start) is ∙ (ap (λ z. z.table_id.start) c.seat.view_is ∙ (ap (λ z. z.start) c.requires.flow ∙ ap (λ z. z.table_id.start) (sym c.self.view_is))) in
    let counts = c.load-made.ensures.2 k.0 (ap (λ (m : MeOf T). (only m.0).hold) k.1) k.4 in
    let held : Holds c.seat.inside.seat.me (Some k.0) c.find_room.new.seat.me = held_twice c.seat.inside.seat.me c.fill.new.seat.me c.find_room.new.seat.me (Some (filled n c.args.words.now)) (Some k.0) is k.1 in (
      k.0,
      held_twice c.seat.inside.seat.me c.find_room.new.seat.me c.load-made.new.seat.me (Some k.0) (Some (record k.0 { issued = Some (c.load-made.result + k.0.length) })) held counts.0,
      subst (λ (z : RingStart). HasRoom k.0 (capacity_of z)) start k.2,
      k.3,
      k.4,
      k.5,
    )

pub load-requires : goal.load-requires
load-requires g c =
    let T = g.row.T.Denot in let k = counted g (goal.at.load-requires g c).After-load-made in let made = c.load-made.result in let full = c.if-made-length.true in let limit = c.self.invariant.5 in let count = k.3 in
    let some = subst (λ n. 0 < n) (sym (ap (λ z. z.table_id.start.places) c.self.view_is)) c.requires.places in
    (search rules, search rules, refusing _ _ _ _ _ _ _ _ (record k.0 { issued = Some (made + k.0.length) }) (made + k.0.length) (subst (λ (m : MeOf T). m.0 ≡ only m.0 ∷ []) (sym k.1) refl) (ap (λ (m : MeOf T). (only m.0).hold) k.1) refl (omega (arith, full, limit, count)) (inr (some, k.2)))

pub store-requires-then-made-length : goal.store-requires-then-made-length
store-requires-then-made-length g c =
    let T = g.row.T.Denot in let k = counted g (goal.at.store-requires-then-made-length g c).After-load-made in let even = c.seat.invariant.1 in let count = k.3 in let h = record k.0 { issued = Some (c.load-made.result + k.0.length) } in
    let refused = c.load.ensures.2 h (ap (λ (m : MeOf T). (only m.0).hold) k.1) in
    (search rules, search rules, releasing _ _ _ _ _ _ _ h _ (ap (λ m. m.0) refused.0.2) refused.1 k.4 (omega (arith, count, even)))

pub store-requires-2 : goal.store-requires-2
store-requires-2 g c =
    let T = g.row.T.Denot in let k = counted g (goal.at.store-requires-2 g c).After-load-made in let made = c.load-made.result in let less = c.if-made-length.false in let limit = c.self.invariant.5 in let even = c.seat.invariant.1 in let count = k.3 in
    let some = subst (λ n. 0 < n) (sym (ap (λ z. z.table_id.start.places) c.self.view_is)) c.requires.places in (
      search rules,
      search rules,
      publishing _ _ _ _ _ _ _ _ (record k.0 { issued = Some (made + k.0.length) }) (made + k.0.length) _ (subst (λ (m : MeOf T). m.0 ≡ only m.0 ∷ []) (sym k.1) refl) (ap (λ (m : MeOf T). (only m.0).hold) k.1) k.4 refl (omega (arith, less, limit, count))
          (subst g.T.Words.are_words (sym k.5) c.requires.words) (ap length k.5 ∙ c.requires.width ∙ sym c.self.invariant.11) (omega (arith, count, even)) (inr (some, k.2)),
    )

pub invariant_of-seat-2 : goal.invariant_of-seat-2
invariant_of-seat-2 g c =
    let T = g.row.T.Denot in let k = counted g (goal.at.invariant_of-seat-2 g c).After-load-made in let h = record k.0 { issued = Some (c.load-made.result + k.0.length) } in let even = c.seat.invariant.1 in
    let published = c.store-2.ensures.2 h (ap (λ (m : MeOf T). (only m.0).hold) k.1) in let one = (held_then c.seat.inside.seat.me c.load-made.new.seat.me (Some h) c.seat.invariant.0.0 k.1).0 in
    ((still_one c.load-made.new.seat.me c.store-2.new.seat.me one published.0.2, published.1), omega (arith, even))

pub returns-clause-emitted : goal.returns-clause-emitted
returns-clause-emitted g c =
    let T = g.row.T.Denot in let k = counted g (goal.at.returns-clause-emitted g c).After-load-made in let d = (goal.at.returns-clause-emitted g c).After-fill in let h = record k.0 { issued = Some (c.load-made.result + k.0.length) } in
    let published = c.store-2.ensures.2 h (ap (λ (m : MeOf T). (only m.0).hold) k.1) in let s = c.seat.inside.seat in let t = c.load-made.new.seat in let u = c.store-2.new.seat in
    let called = told_calls c.args.self.now.first s u _ _ (c.store-2.ensures.0 ∙ (c.load-made.ensures.0 ∙ (c.find_room.ensures.flow ∙ fills_table g d))) (first_is g d) (held_calls s.me t.me u.me (Some h) _ _ k.1 published.0) in
    λ _. called_by c.args.self.now.first (ring_token s) c.args.seat.now _ _ _ (ring_token u) (ring_token u) _ c.seat.view_is (ap g.T.Words.value_in k.5) refl called

pub invariant_of-seat-then-made-length : goal.invariant_of-seat-then-made-length
invariant_of-seat-then-made-length g c =
    let T = g.row.T.Denot in let k = counted g (goal.at.invariant_of-seat-then-made-length g c).After-load-made in let h = record k.0 { issued = Some (c.load-made.result + k.0.length) } in
    let refused = c.load.ensures.2 h (ap (λ (m : MeOf T). (only m.0).hold) k.1) in let one = (held_then c.seat.inside.seat.me c.load-made.new.seat.me (Some h) c.seat.invariant.0.0 k.1).0 in
    (held_then c.load.new.seat.me c.store-then-made-length.new.seat.me None (still_one c.load-made.new.seat.me c.load.new.seat.me one refused.0.2) c.store-then-made-length.ensures.2, c.seat.invariant.1)

pub returns-then-made-length-clause-refused : goal.returns-then-made-length-clause-refused
returns-then-made-length-clause-refused g c =
    let T = g.row.T.Denot in let k = counted g (goal.at.returns-then-made-length-clause-refused g c).After-load-made in let d = (goal.at.returns-then-made-length-clause-refused g c).After-fill in let h = record k.0 { issued = Some (c.load-made.result + k.0.length) } in
    let refused = c.load.ensures.2 h (ap (λ (m : MeOf T). (only m.0).hold) k.1) in let s = c.seat.inside.seat in let t = c.load-made.new.seat in let u = c.load.new.seat in let v = c.store-then-made-length.new.seat in
    let called = told_calls c.args.self.now.first s u _ _ (c.load.ensures.0 ∙ (c.load-made.ensures.0 ∙ (c.find_room.ensures.flow ∙ fills_table g d))) (first_is g d) (held_calls s.me t.me u.me (Some h) _ _ k.1 refused.0) in
    let after : ring_token u ≡ ring_token v = sym (held_token u v None c.store-then-made-length.ensures.0 c.store-then-made-length.ensures.2) in
    λ _. called_by c.args.self.now.first (ring_token s) c.args.seat.now _ _ _ (ring_token u) (ring_token v) _ c.seat.view_is (ap g.T.Words.value_in k.5) after called
