use Rattle.std.proofs.Common.{◌≡◌, ℕ, ◌+◌, ◌<◌, [], ◌∷◌, Some, refl, sym, ap, subst, ◌∙◌, inl, arith}
use Rattle.flow_word_shared.specs.declared.view.Hold.{Hold}
use Rattle.flow_word_shared.specs.Rule.{capacity_of, place_at}
use Rattle.flow_word_shared.specs.Steps.{MeOf}
use Rattle.flow_word_shared.specs.View.{with_hold, only}
use Rattle.flow_word_shared.proofs.Holding.{held_twice, held_calls}
use Rattle.flow_word_shared.proofs.Keeps.{same_some}
use Rattle.flow_word_shared.proofs.PlaceRule.{low_of, word_below}
use Rattle.flow_word_shared.proofs.PlaceSteps.{checking, setting_low}
use Rattle.flow_word_shared.proofs.token.WordFlow.check_places.Goals as goal
use Rattle.flow_word_shared.proofs.token.WordFlow.check_places.Goals.{At-loop-place}

-- what the holder knows that has looked into so many places
abbrev kept : Hold → ℕ → ℕ → Hold
kept h place least = record h { checked = place; least = least }

-- at first it has looked into none
none_looked : (h : Hold) (n : ℕ) → h.checked ≡ 0 → h.least ≡ n → kept h 0 n ≡ h
none_looked h n checked least = λ i. record h { checked = sym checked i; least = sym least i }

room_is : (g : _) (c : At-loop-place g) → capacity_of c.args.self.now.table_id.start ≡ c.self.inside.capacity
room_is g c = ap (λ z. capacity_of z.table_id.start) (sym c.self.view_is) ∙ c.self.invariant.3

-- the seat's flow is the one that is called
start_is : (g : _) (c : At-loop-place g) → (only c.loop-place.seat.me.0).start ≡ c.args.self.now.table_id.start
start_is g c = ap (λ (m : MeOf g.row.T.Denot). (only m.0).start) (c.loop-place.invariant.looked c.requires.holds.0 c.requires.holds.1.1) ∙ ap (λ z. z.start) c.requires.flow

pub loop-place-init : goal.loop-place-init
loop-place-init g c = record {
  table = refl;
  looked = λ h has.
      let same : c.requires.holds.0 ≡ h = same_some c.requires.holds.0 h (sym c.requires.holds.1.1 ∙ has) in
      let checked : h.checked ≡ 0 = ap (λ (z : Hold). z.checked) (sym same) ∙ c.requires.holds.3 in
      let least : h.least ≡ c.args.length = ap (λ (z : Hold). z.least) (sym same) ∙ c.requires.holds.4 in
      let is = c.requires.holds.1.0 in
      is ∙ (λ i. (with_hold ((has ∙ ap Some (sym (none_looked h c.args.length checked least))) i) (only c.args.seat.now.me.0) ∷ [], sym (ap (λ (m : MeOf g.row.T.Denot). m.1) is) i));
  near = let some = c.self.invariant.1.buffer in let same = ap (λ z. capacity_of z.table_id.start) c.self.view_is in omega (arith, some, same);
}

pub place_word-requires : goal.place_word-requires
place_word-requires g c = let less = c.loop-place-test.true in let places = c.self.invariant.12 in let same = ap (λ z. z.table_id.start.places) c.self.view_is in omega (arith, less, places, same)

-- the place in which the holder looks
place_is : (g : _) (c : At-loop-place g) (word : ℕ) → word ≡ place_at c.args.self.now.table_id.start c.loop-place.place → word ≡ place_at c.self.inside.table.shared.key c.loop-place.place
place_is g c word is = is ∙ ap (λ z. place_at z.table_id.start c.loop-place.place) (sym c.self.view_is)

pub load-word-requires : goal.load-word-requires
load-word-requires g c =
    let d = (goal.at.load-word-requires g c).At-loop-place in let key = c.self.inside.table.shared.key in let inv = c.loop-place.invariant in let h = c.requires.holds.0 in let place = c.loop-place.place in
    let looked = inv.looked h c.requires.holds.1.1 in let less = c.loop-place-test.true in let places = c.self.invariant.12 in let at = place_is g d _ c.place_word.ensures in
    let there : place < key.places = omega (arith, less, places) in let below = word_below key place there in let count = c.self.invariant.14 in (
      inv.table ∙ (ap (λ z. z.table) c.requires.flow ∙ ap (λ z. z.table_id.table) (sym c.self.view_is)),
      omega (arith, at, below, count),
      checking _ _ _ _ _ _ _ _ (kept h place c.loop-place.least) _ (subst (λ (m : MeOf g.row.T.Denot). m.0 ≡ only m.0 ∷ []) (sym looked) refl) (ap (λ (m : MeOf g.row.T.Denot). (only m.0).hold) looked) at there,
    )

pub overflow_sub-position : goal.overflow_sub-position
overflow_sub-position g c =
    let T = g.row.T.Denot in let d = (goal.at.overflow_sub-position g c).At-loop-place in let h = c.requires.holds.0 in let place = c.loop-place.place in let looked = c.loop-place.invariant.looked h c.requires.holds.1.1 in
    let less = c.loop-place-test.true in let places = c.self.invariant.12 in let same = ap (λ z. z.table_id.start.places) c.self.view_is in let many = ap (λ z. z.places) (start_is g d) in
    let told = c.load-word.ensures.2 (kept h place c.loop-place.least) (ap (λ (m : MeOf T). (only m.0).hold) looked) (c.place_word.ensures ∙ ap (λ z. place_at z place) (sym (start_is g d))) (omega (arith, less, places, same, many)) in
    let big = told.shown c.if-word-eq0.false in omega (arith, big)

pub loop-place-preserved-then-word-eq0 : goal.loop-place-preserved-then-word-eq0
loop-place-preserved-then-word-eq0 g c =
    let T = g.row.T.Denot in let d = (goal.at.loop-place-preserved-then-word-eq0 g c).At-loop-place in let inv = c.loop-place.invariant in let place = c.loop-place.place in
    let less = c.loop-place-test.true in let places = c.self.invariant.12 in let same = ap (λ z. z.table_id.start.places) c.self.view_is in let many = ap (λ z. z.places) (start_is g d) in record {
      table = c.load-word.ensures.0 ∙ inv.table;
      looked = λ h has.
          let looked = inv.looked h has in let k = kept h place c.loop-place.least in
          let told = c.load-word.ensures.2 k (ap (λ (m : MeOf T). (only m.0).hold) looked) (c.place_word.ensures ∙ ap (λ z. place_at z place) (sym (start_is g d))) (omega (arith, less, places, same, many)) in
          held_twice c.args.seat.now.me c.loop-place.seat.me c.load-word.new.seat.me (Some k) (Some (kept h (place + 1) c.loop-place.least)) looked (told.free c.if-word-eq0.true);
      near = inv.near;
    }

pub loop-place-preserved : goal.loop-place-preserved
loop-place-preserved g c =
    let T = g.row.T.Denot in let d = (goal.at.loop-place-preserved g c).At-loop-place in let inv = c.loop-place.invariant in let place = c.loop-place.place in
    let less = c.loop-place-test.true in let places = c.self.invariant.12 in let same = ap (λ z. z.table_id.start.places) c.self.view_is in let many = ap (λ z. z.places) (start_is g d) in
    let room = room_is g d in let size = c.self.invariant.3 in let near = inv.near in let behind = c.saturating_sub.ensures in let short = c.if-saturating_sub-self.false in let least = c.min-least.ensures in let start = ap capacity_of (start_is g d) in record {
      table = c.load-word.ensures.0 ∙ inv.table;
      looked = λ h has.
          let looked = inv.looked h has in let k = kept h place c.loop-place.least in
          let told = c.load-word.ensures.2 k (ap (λ (m : MeOf T). (only m.0).hold) looked) (c.place_word.ensures ∙ ap (λ z. place_at z place) (sym (start_is g d))) (omega (arith, less, places, same, many)) in
          let one : c.requires.holds.0 ≡ h = same_some c.requires.holds.0 h (sym c.requires.holds.1.1 ∙ has) in let count : h.length ≡ c.args.length = ap (λ (z : Hold). z.length) (sym one) ∙ c.requires.holds.2 in
          held_twice c.args.seat.now.me c.loop-place.seat.me c.load-word.new.seat.me (Some k) (Some (kept h (place + 1) c.min-least.result)) looked
          (told.passed c.if-word-eq0.false (omega (arith, behind, short, size, count, room, start))
          ∙ (λ i. (with_hold (Some (kept h (place + 1) (sym least i))) (only c.loop-place.seat.me.0) ∷ [], c.loop-place.seat.me.1)));
      near = omega (arith, near, behind, short, least, room, size);
    }

pub returns-then-word-eq1-clause-found : goal.returns-then-word-eq1-clause-found
returns-then-word-eq1-clause-found g c =
    let T = g.row.T.Denot in let d = (goal.at.returns-then-word-eq1-clause-found g c).At-loop-place in let inv = c.loop-place.invariant in let place = c.loop-place.place in
    let less = c.loop-place-test.true in let places = c.self.invariant.12 in let same = ap (λ z. z.table_id.start.places) c.self.view_is in let many = ap (λ z. z.places) (start_is g d) in
    let room = room_is g d in let some = c.self.invariant.1.buffer in let size = c.self.invariant.3 in let behind = c.saturating_sub.ensures in let full = c.if-saturating_sub-self.true in let start = ap capacity_of (start_is g d) in
    λ h has.
    let looked = inv.looked h has in let k = kept h place c.loop-place.least in
    let told = c.load-word.ensures.2 k (ap (λ (m : MeOf T). (only m.0).hold) looked) (c.place_word.ensures ∙ ap (λ z. place_at z place) (sym (start_is g d))) (omega (arith, less, places, same, many)) in
    let one : c.requires.holds.0 ≡ h = same_some c.requires.holds.0 h (sym c.requires.holds.1.1 ∙ has) in let count : h.length ≡ c.args.length = ap (λ (z : Hold). z.length) (sym one) ∙ c.requires.holds.2 in
    (k, told.unknown c.if-word-eq0.false (omega (arith, behind, full, some, size, count, room, start)) (λ z. let odd = c.if-word-eq1.true in absurd (omega (arith, z, odd))) ∙ looked, refl, refl)

pub returns-then-saturating_sub-self-clause-found : goal.returns-then-saturating_sub-self-clause-found
returns-then-saturating_sub-self-clause-found g c =
    let T = g.row.T.Denot in let d = (goal.at.returns-then-saturating_sub-self-clause-found g c).At-loop-place in let inv = c.loop-place.invariant in let place = c.loop-place.place in
    let less = c.loop-place-test.true in let places = c.self.invariant.12 in let same = ap (λ z. z.table_id.start.places) c.self.view_is in let many = ap (λ z. z.places) (start_is g d) in
    let room = room_is g d in let some = c.self.invariant.1.buffer in let size = c.self.invariant.3 in let behind = c.saturating_sub.ensures in let full = c.if-saturating_sub-self.true in let start = ap capacity_of (start_is g d) in
    λ h has.
    let looked = inv.looked h has in let k = kept h place c.loop-place.least in
    let told = c.load-word.ensures.2 k (ap (λ (m : MeOf T). (only m.0).hold) looked) (c.place_word.ensures ∙ ap (λ z. place_at z place) (sym (start_is g d))) (omega (arith, less, places, same, many)) in
    let one : c.requires.holds.0 ≡ h = same_some c.requires.holds.0 h (sym c.requires.holds.1.1 ∙ has) in let count : h.length ≡ c.args.length = ap (λ (z : Hold). z.length) (sym one) ∙ c.requires.holds.2 in
    let dropped = told.blocked c.if-word-eq0.false (omega (arith, behind, full, some, size, count, room, start)) (let even = c.if-word-eq1.false in omega (arith, even)) in
    (held_calls c.args.seat.now.me c.loop-place.seat.me c.load-word.new.seat.me (Some k) _ _ looked dropped.0, dropped.2 ∙ ap (λ (m : MeOf T). (only m.0).reads) looked, (k, dropped.1, refl, refl))

pub store-requires : goal.store-requires
store-requires g c =
    let key = c.self.inside.table.shared.key in let inv = c.loop-place.invariant in let h = c.requires.holds.0 in let place = c.loop-place.place in let looked = inv.looked h c.requires.holds.1.1 in
    let over = c.loop-place-test.false in let end = c.loop-place.auto in let places = c.self.invariant.12 in
    let at = low_of key c.self.inside.low c.self.inside.room g.T.Words.WIDTH c.self.invariant.13 c.self.invariant.2 c.self.invariant.11 in
    let some : 0 < key.places = subst (λ n. 0 < n) (sym (ap (λ z. z.table_id.start.places) c.self.view_is)) c.requires.places in let less = word_below key 0 some in let count = c.self.invariant.14 in (
      inv.table ∙ (ap (λ z. z.table) c.requires.flow ∙ ap (λ z. z.table_id.table) (sym c.self.view_is)),
      omega (arith, at, less, count),
      setting_low _ _ _ _ _ _ _ (kept h place c.loop-place.least) _ _ (subst (λ (m : MeOf g.row.T.Denot). m.0 ≡ only m.0 ∷ []) (sym looked) refl) (ap (λ (m : MeOf g.row.T.Denot). (only m.0).hold) looked) at some (inl (omega (arith, over, end, places), refl)),
    )

pub returns-clause-found : goal.returns-clause-found
returns-clause-found g c =
    let inv = c.loop-place.invariant in let place = c.loop-place.place in let least = c.loop-place.least in let near = inv.near in let room = ap (λ z. capacity_of z.start) c.requires.flow in
    λ h has.
    let same : c.requires.holds.0 ≡ h = same_some c.requires.holds.0 h (sym c.requires.holds.1.1 ∙ has) in let count = ap (λ (z : Hold). z.length) (sym same) ∙ c.requires.holds.2 in
    let looked = inv.looked h has in let k = kept h place least in let stored = c.store.ensures.2 k (ap (λ (m : MeOf g.row.T.Denot). (only m.0).hold) looked) in
    (record k { low = Some least }, held_twice c.args.seat.now.me c.loop-place.seat.me c.store.new.seat.me (Some k) (Some (record k { low = Some least })) looked stored, (least, refl, omega (arith, near, room, count)), refl, refl, refl)
