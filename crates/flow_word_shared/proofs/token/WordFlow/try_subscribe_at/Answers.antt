use Rattle.std.proofs.Common.{rules, ◌≡◌, ℕ, ◌+◌, ◌-◌, ◌/◌, ◌<◌, ◌≤◌, [], ◌∷◌, map, length, Some, None, true, false, refl, sym, ap, subst, ◌∙◌, inr, arith}
use Rattle.std.specs.Prelude.{max}
use Rattle.std.specs.Option.{option_map}
use Rattle.flow_law.specs.declared.call.SharedCall.TheVariants as call
use Rattle.flow_law.specs.declared.call.SharedReply.TheVariants as reply
use Rattle.flow_law.specs.history.Growth.{child}
use Rattle.flow_law.specs.history.Promise.{CallsIn}
use Rattle.flow_law.specs.flow.SharedHistory.{shared_flow}
use Rattle.flow_law.specs.history.Tokens.{token, subscription_name}
use Rattle.flow_word_shared.specs.declared.view.Hold.{Hold}
use Rattle.flow_word_shared.specs.declared.view.Taken.{Taken}
use Rattle.flow_word_shared.specs.declared.view.Reads.{Reads}
use Rattle.flow_word_shared.specs.declared.view.RingStart.{RingStart}
use Rattle.flow_word_shared.specs.Rule.{capacity_of, place_at}
use Rattle.flow_word_shared.specs.Steps.{IsAt, MeOf, Holds, log_after}
use Rattle.flow_word_shared.specs.Tokens.{WordFlowToken, word_flow_id, ring_token, post_of_reads, position_of_reads}
use Rattle.flow_word_shared.specs.View.{SharedKnowledge, began_as, only, ring_known, holding, reading_at, hands_over, handed_over, reads_of_hold}
use Rattle.flow_word_shared.proofs.EmitSteps.{taking, counting, releasing}
use Rattle.flow_word_shared.proofs.HandSteps.{handing_over}
use Rattle.flow_word_shared.proofs.Holding.{held_then, held_twice, held_calls, held_token}
use Rattle.flow_word_shared.proofs.PlaceRule.{low_of, word_below}
use Rattle.flow_word_shared.proofs.PlaceSteps.{setting_low}
use Rattle.flow_word_shared.proofs.PostSteps.{flagging}
use Rattle.flow_word_shared.proofs.SubscribeSteps.{refusing_subscriber, counting_mark, running_ahead}
use Rattle.flow_word_shared.proofs.TakeSteps.{refusing_place, enrolling_at}
use Rattle.flow_word_shared.proofs.Told.{told_calls}
use Rattle.flow_word_shared.proofs.token.WordFlow.try_subscribe_at.Goals as goal
use Rattle.flow_word_shared.proofs.token.WordFlow.try_subscribe_at.Goals.{After-load-made, After-load-mark, After-store-2}

-- what the holder knows, step by step
abbrev counted : ℕ → ℕ → Hold
counted n made = record (holding n) { issued = Some (made + n) }

abbrev marked : ℕ → ℕ → ℕ → Hold
marked n made mark = record (counted n made) { mark = Some mark }

abbrev bounded : ℕ → ℕ → ℕ → ℕ → Hold
bounded n made mark low = record (marked n made mark) { low = Some low }

abbrev placed : ℕ → ℕ → ℕ → ℕ → ℕ → ℕ → Hold
placed n made mark low place position = record (bounded n made mark low) { taken = Some (record { place = place; position = position; number = None }) }

abbrev one_ahead : ℕ → ℕ → ℕ → ℕ → ℕ → ℕ → Hold
one_ahead n made mark low place position = record (placed n made mark low place position) { ahead = 1 }

-- the new subscriber's place, with its number
abbrev numbered : ℕ → ℕ → ℕ → Taken
numbered place position number = record { place = place; position = position; number = Some number }

pub compare_exchange-found-requires : goal.compare_exchange-found-requires
compare_exchange-found-requires g c =
    (search rules, search rules, taking _ _ _ _ _ _ _ _ _ (ap (λ m. m.0) c.seat.invariant.0.0) c.seat.invariant.0.1 c.seat.invariant.1 refl)

pub load-made-requires : goal.load-made-requires
load-made-requires g c =
    let told = c.compare_exchange-found.ensures.2.0 c.if-found-expected.false in
    (search rules, search rules, counting _ _ _ _ _ _ _ (holding (c.seat.inside.expected / 2)) (subst (λ (m : MeOf g.row.T.Denot). m.0 ≡ only m.0 ∷ []) (sym told) refl) (ap (λ (m : MeOf g.row.T.Denot). (only m.0).hold) told) refl)

-- the seat after the load of the made subscriptions
counts : (g : _) (c : After-load-made g) → Holds c.seat.inside.seat.me (Some (counted (c.seat.inside.expected / 2) c.load-made.result)) c.load-made.new.seat.me
counts g c =
    let n = c.seat.inside.expected / 2 in let told = c.compare_exchange-found.ensures.2.0 c.if-found-expected.false in
    held_twice c.seat.inside.seat.me c.compare_exchange-found.new.seat.me c.load-made.new.seat.me (Some (holding n)) (Some (counted n c.load-made.result)) told (c.load-made.ensures.2 (holding n) (ap (λ (m : MeOf g.row.T.Denot). (only m.0).hold) told) refl).0

pub load-requires : goal.load-requires
load-requires g c =
    let n = c.seat.inside.expected / 2 in let made = c.load-made.result in let is = counts g (goal.at.load-requires g c).After-load-made in let limit = c.self.invariant.5 in let full = c.if-issued-self.true in
    (search rules, search rules, refusing_subscriber _ _ _ _ _ _ _ (counted n made) (made + n) (subst (λ (m : MeOf g.row.T.Denot). m.0 ≡ only m.0 ∷ []) (sym is) refl) (ap (λ (m : MeOf g.row.T.Denot). (only m.0).hold) is) refl (omega arith))

pub store-requires : goal.store-requires
store-requires g c =
    let n = c.seat.inside.expected / 2 in let made = c.load-made.result in let is = counts g (goal.at.store-requires g c).After-load-made in let refused = c.load.ensures.2 in let even = c.seat.invariant.1 in
    (search rules, search rules, releasing _ _ _ _ _ _ _ (counted n made) _ (ap (λ m. m.0) refused.0.2) (refused.1 ∙ ap (λ (m : MeOf g.row.T.Denot). (only m.0).hold) is) refl (omega arith))

pub load-mark-requires : goal.load-mark-requires
load-mark-requires g c =
    let is = counts g (goal.at.load-mark-requires g c).After-load-made in
    (search rules, search rules, counting_mark _ _ _ _ _ _ _ (counted (c.seat.inside.expected / 2) c.load-made.result) (subst (λ (m : MeOf g.row.T.Denot). m.0 ≡ only m.0 ∷ []) (sym is) refl) (ap (λ (m : MeOf g.row.T.Denot). (only m.0).hold) is))

-- the seat after the load of the mark, which is within the emitted values
marks : (g : _) (c : After-load-mark g) → Holds c.seat.inside.seat.me (Some (marked (c.seat.inside.expected / 2) c.load-made.result c.load-mark.result)) c.load-mark.new.seat.me × (c.load-mark.result ≤ c.seat.inside.expected / 2)
marks g c =
    let T = g.row.T.Denot in let n = c.seat.inside.expected / 2 in let made = c.load-made.result in let told = c.compare_exchange-found.ensures.2.0 c.if-found-expected.false in
    let is : Holds c.seat.inside.seat.me (Some (counted n made)) c.load-made.new.seat.me =
    held_twice c.seat.inside.seat.me c.compare_exchange-found.new.seat.me c.load-made.new.seat.me (Some (holding n)) (Some (counted n made)) told (c.load-made.ensures.2 (holding n) (ap (λ (m : MeOf T). (only m.0).hold) told) refl).0 in
    let mark = c.load-mark.ensures.2 (counted n made) (ap (λ (m : MeOf T). (only m.0).hold) is) in
    (held_twice c.seat.inside.seat.me c.load-made.new.seat.me c.load-mark.new.seat.me (Some (counted n made)) (Some (marked n made c.load-mark.result)) is mark.0, mark.1)

pub store-requires-2 : goal.store-requires-2
store-requires-2 g c =
    let T = g.row.T.Denot in let n = c.seat.inside.expected / 2 in let key = c.self.inside.table.shared.key in let is = marks g (goal.at.store-requires-2 g c).After-load-mark in let size = c.self.invariant.3 in let low = c.saturating_sub-least.ensures in
    let at = low_of key c.self.inside.low c.self.inside.room g.T.Words.WIDTH c.self.invariant.13 c.self.invariant.2 c.self.invariant.11 in
    let some = subst (λ k. 0 < k) (sym (ap (λ z. z.table_id.start.places) c.self.view_is)) c.requires.places in let below = word_below key 0 some in let count = c.self.invariant.14 in (
      search rules,
      omega (arith, at, below, count),
      setting_low _ _ _ _ _ _ _ (marked n c.load-made.result c.load-mark.result) _ _ (subst (λ (m : MeOf T). m.0 ≡ only m.0 ∷ []) (sym is.0) refl) (ap (λ (m : MeOf T). (only m.0).hold) is.0) at some (inr (omega (arith, low, size))),
    )

-- the seat after the store of the lower bound
bounds : (g : _) (c : After-store-2 g) → Holds c.seat.inside.seat.me (Some (bounded (c.seat.inside.expected / 2) c.load-made.result c.load-mark.result c.saturating_sub-least.result)) c.store-2.new.seat.me × (c.load-mark.result ≤ c.seat.inside.expected / 2)
bounds g c =
    let T = g.row.T.Denot in let n = c.seat.inside.expected / 2 in let made = c.load-made.result in let told = c.compare_exchange-found.ensures.2.0 c.if-found-expected.false in
    let is : Holds c.seat.inside.seat.me (Some (counted n made)) c.load-made.new.seat.me =
    held_twice c.seat.inside.seat.me c.compare_exchange-found.new.seat.me c.load-made.new.seat.me (Some (holding n)) (Some (counted n made)) told (c.load-made.ensures.2 (holding n) (ap (λ (m : MeOf T). (only m.0).hold) told) refl).0 in
    let mark = c.load-mark.ensures.2 (counted n made) (ap (λ (m : MeOf T). (only m.0).hold) is) in let k = marked n made c.load-mark.result in
    let two : Holds c.seat.inside.seat.me (Some k) c.load-mark.new.seat.me = held_twice c.seat.inside.seat.me c.load-made.new.seat.me c.load-mark.new.seat.me (Some (counted n made)) (Some k) is mark.0 in
    (held_twice c.seat.inside.seat.me c.load-mark.new.seat.me c.store-2.new.seat.me (Some k) (Some (bounded n made c.load-mark.result c.saturating_sub-least.result)) two (c.store-2.ensures.2 k (ap (λ (m : MeOf T). (only m.0).hold) two)), mark.1)

pub take_place-requires-clause-flow : goal.take_place-requires-clause-flow
take_place-requires-clause-flow g c =
    let d = (goal.at.take_place-requires-clause-flow g c).After-store-2 in let s = c.seat.inside.seat in
    let table = c.store-2.ensures.0 ∙ (c.load-mark.ensures.0 ∙ (c.load-made.ensures.0 ∙ c.compare_exchange-found.ensures.0)) in
    ap (λ z. z.table_id) (held_token s c.store-2.new.seat (Some (bounded (c.seat.inside.expected / 2) c.load-made.result c.load-mark.result c.saturating_sub-least.result)) table (bounds g d).0) ∙ (ap (λ z. z.table_id) c.seat.view_is ∙ c.requires.flow)

pub take_place-requires-clause-small : goal.take_place-requires-clause-small
take_place-requires-clause-small g c =
    let is = bounds g (goal.at.take_place-requires-clause-small g c).After-store-2 in let mark = is.1 in let at = c.max-position.ensures in let from = c.saturating_sub.ensures in let less = c.if-issued-self.false in
    let limit = c.self.invariant.1.limit in let same = c.self.invariant.5 in omega (arith, mark, at, from, less, limit, same)

pub take_place-requires-clause-holds : goal.take_place-requires-clause-holds
take_place-requires-clause-holds g c =
    let T = g.row.T.Denot in let n = c.seat.inside.expected / 2 in let is = bounds g (goal.at.take_place-requires-clause-holds g c).After-store-2 in let low = c.saturating_sub-least.result in let k = bounded n c.load-made.result c.load-mark.result low in
    let start : (only c.store-2.new.seat.me.0).start ≡ c.self.inside.table.shared.key =
    ap (λ (m : MeOf T). (only m.0).start) is.0 ∙ (ap (λ z. z.table_id.start) c.seat.view_is ∙ (ap (λ z. z.start) c.requires.flow ∙ ap (λ z. z.table_id.start) (sym c.self.view_is))) in
    let room = ap capacity_of start in let size = c.self.invariant.3 in let replay = c.self.invariant.4 in let at = c.max-position.ensures in let from = c.saturating_sub.ensures in let least = c.saturating_sub-least.ensures in
    (k, low, held_then c.seat.inside.seat.me c.store-2.new.seat.me (Some k) c.seat.invariant.0.0 is.0, refl, omega (arith, at, from, least, size, replay), omega (arith, at, from, room, size, replay), refl, refl)

-- ---- no place is free

pub load-requires-in_default : goal.load-requires-in_default
load-requires-in_default g c =
    let T = g.row.T.Denot in let n = c.seat.inside.expected / 2 in let made = c.load-made.result in let less = c.if-issued-self.false in let limit = c.self.invariant.5 in
    let held : Holds c.seat.inside.seat.me (Some (bounded n made c.load-mark.result c.saturating_sub-least.result)) c.take_place.new.seat.me = c.take_place.ensures.full c.in_default.is ∙ (bounds g (goal.at.load-requires-in_default g c).After-store-2).0 in (
      search rules,
      search rules,
      refusing_place _ _ _ _ _ _ _ (bounded n made c.load-mark.result c.saturating_sub-least.result) (made + n) (subst (λ (m : MeOf T). m.0 ≡ only m.0 ∷ []) (sym held) refl) (ap (λ (m : MeOf T). (only m.0).hold) held) refl (omega (arith, less, limit)),
    )

pub store-requires-in_default : goal.store-requires-in_default
store-requires-in_default g c =
    let T = g.row.T.Denot in let n = c.seat.inside.expected / 2 in let made = c.load-made.result in let even = c.seat.invariant.1 in let refused = c.load-in_default.ensures.2 in
    let held : Holds c.seat.inside.seat.me (Some (bounded n made c.load-mark.result c.saturating_sub-least.result)) c.take_place.new.seat.me = c.take_place.ensures.full c.in_default.is ∙ (bounds g (goal.at.store-requires-in_default g c).After-store-2).0 in
    (search rules, search rules, releasing _ _ _ _ _ _ _ (bounded n made c.load-mark.result c.saturating_sub-least.result) _ (ap (λ m. m.0) refused.0.2) (refused.1 ∙ ap (λ (m : MeOf T). (only m.0).hold) held) refl (omega (arith, even)))

-- ---- a place was taken

-- the subscriber before its place says that it has come, and then
abbrev comes : (place number position : ℕ) → Reads
comes place number position = reading_at (Some (record { place = place; moves = true })) number position []

abbrev came : (place number position : ℕ) → Reads
came place number position = reading_at (Some (record { place = place; moves = false })) number position []

pub store-requires-3 : goal.store-requires-3
store-requires-3 g c =
    let T = g.row.T.Denot in let n = c.seat.inside.expected / 2 in let made = c.load-made.result in let mark = c.load-mark.result in let low = c.saturating_sub-least.result in let position = c.max-position.result in let number = made + n + 1 in
    let taken = c.in-Some.ensures.taken in let place = taken.0 in let bound = bounds g (goal.at.store-requires-3 g c).After-store-2 in
    let held : Holds c.seat.inside.seat.me (Some (placed n made mark low place position)) c.take_place.new.seat.me =
    held_twice c.seat.inside.seat.me c.store-2.new.seat.me c.take_place.new.seat.me (Some (bounded n made mark low)) (Some (placed n made mark low place position)) bound.0 (taken.3 (bounded n made mark low) (ap (λ (m : MeOf T). (only m.0).hold) bound.0)) in
    (search rules, search rules, running_ahead _ _ _ _ _ _ _ (placed n made mark low place position) (made + n) _ (subst (λ (m : MeOf T). m.0 ≡ only m.0 ∷ []) (sym held) refl) (ap (λ (m : MeOf T). (only m.0).hold) held) refl (omega arith))

pub fetch_add-requires : goal.fetch_add-requires
fetch_add-requires g c =
    let T = g.row.T.Denot in let n = c.seat.inside.expected / 2 in let made = c.load-made.result in let mark = c.load-mark.result in let low = c.saturating_sub-least.result in let position = c.max-position.result in let number = made + n + 1 in
    let taken = c.in-Some.ensures.taken in let place = taken.0 in let bound = bounds g (goal.at.fetch_add-requires g c).After-store-2 in
    let held : Holds c.seat.inside.seat.me (Some (placed n made mark low place position)) c.take_place.new.seat.me =
    held_twice c.seat.inside.seat.me c.store-2.new.seat.me c.take_place.new.seat.me (Some (bounded n made mark low)) (Some (placed n made mark low place position)) bound.0 (taken.3 (bounded n made mark low) (ap (λ (m : MeOf T). (only m.0).hold) bound.0)) in
    let one : Holds c.seat.inside.seat.me (Some (one_ahead n made mark low place position)) c.store-3.new.seat.me =
    held_twice c.seat.inside.seat.me c.take_place.new.seat.me c.store-3.new.seat.me (Some (placed n made mark low place position)) (Some (one_ahead n made mark low place position)) held (c.store-3.ensures.2 (placed n made mark low place position) (ap (λ (m : MeOf T). (only m.0).hold) held)) in
    let replay = c.self.invariant.4 in let from = c.saturating_sub.ensures in
    let entry : position ≡ max mark (n - c.self.inside.table.shared.key.config.replay) = c.max-position.ensures ∙ ap (max mark) (let l : c.saturating_sub.result ≡ n - c.self.inside.table.shared.key.config.replay = omega (arith, from, replay) in l) in
    let less = c.if-issued-self.false in let limit = c.self.invariant.5 in (
      search rules,
      search rules,
      enrolling_at _ _ _ _ _ _ _ (one_ahead n made mark low place position) (made + n) mark (record { place = place; position = position; number = None }) (subst (λ (m : MeOf T). m.0 ≡ only m.0 ∷ []) (sym one) refl) (ap (λ (m : MeOf T). (only m.0).hold) one)
          refl refl refl (omega (arith, less, limit)) refl refl entry,
    )

pub split_seat-own-requires : goal.split_seat-own-requires
split_seat-own-requires g c =
    let T = g.row.T.Denot in let n = c.seat.inside.expected / 2 in let made = c.load-made.result in let mark = c.load-mark.result in let low = c.saturating_sub-least.result in let position = c.max-position.result in let number = made + n + 1 in
    let taken = c.in-Some.ensures.taken in let place = taken.0 in let bound = bounds g (goal.at.split_seat-own-requires g c).After-store-2 in
    let held : Holds c.seat.inside.seat.me (Some (placed n made mark low place position)) c.take_place.new.seat.me =
    held_twice c.seat.inside.seat.me c.store-2.new.seat.me c.take_place.new.seat.me (Some (bounded n made mark low)) (Some (placed n made mark low place position)) bound.0 (taken.3 (bounded n made mark low) (ap (λ (m : MeOf T). (only m.0).hold) bound.0)) in
    let one : Holds c.seat.inside.seat.me (Some (one_ahead n made mark low place position)) c.store-3.new.seat.me =
    held_twice c.seat.inside.seat.me c.take_place.new.seat.me c.store-3.new.seat.me (Some (placed n made mark low place position)) (Some (one_ahead n made mark low place position)) held (c.store-3.ensures.2 (placed n made mark low place position) (ap (λ (m : MeOf T). (only m.0).hold) held)) in
    let won = c.fetch_add.ensures.2 (one_ahead n made mark low place position) (made + n) mark (record { place = place; position = position; number = None }) (ap (λ (m : MeOf T). (only m.0).hold) one) refl refl refl in
    (search rules, search rules, handing_over _ _ _ _ _ _ (record (holding n) { taken = Some (numbered place position number) }) (numbered place position number) number (ap (λ m. m.0) won.0.2) won.1 refl refl)

pub store-requires-4 : goal.store-requires-4
store-requires-4 g c =
    let T = g.row.T.Denot in let n = c.seat.inside.expected / 2 in let made = c.load-made.result in let mark = c.load-mark.result in let low = c.saturating_sub-least.result in let position = c.max-position.result in let number = made + n + 1 in
    let taken = c.in-Some.ensures.taken in let place = taken.0 in let bound = bounds g (goal.at.store-requires-4 g c).After-store-2 in
    let held : Holds c.seat.inside.seat.me (Some (placed n made mark low place position)) c.take_place.new.seat.me =
    held_twice c.seat.inside.seat.me c.store-2.new.seat.me c.take_place.new.seat.me (Some (bounded n made mark low)) (Some (placed n made mark low place position)) bound.0 (taken.3 (bounded n made mark low) (ap (λ (m : MeOf T). (only m.0).hold) bound.0)) in
    let one : Holds c.seat.inside.seat.me (Some (one_ahead n made mark low place position)) c.store-3.new.seat.me =
    held_twice c.seat.inside.seat.me c.take_place.new.seat.me c.store-3.new.seat.me (Some (placed n made mark low place position)) (Some (one_ahead n made mark low place position)) held (c.store-3.ensures.2 (placed n made mark low place position) (ap (λ (m : MeOf T). (only m.0).hold) held)) in
    let replay = c.self.invariant.4 in let from = c.saturating_sub.ensures in
    let entry : position ≡ max mark (n - c.self.inside.table.shared.key.config.replay) = c.max-position.ensures ∙ ap (max mark) (let l : c.saturating_sub.result ≡ n - c.self.inside.table.shared.key.config.replay = omega (arith, from, replay) in l) in
    let won = c.fetch_add.ensures.2 (one_ahead n made mark low place position) (made + n) mark (record { place = place; position = position; number = None }) (ap (λ (m : MeOf T). (only m.0).hold) one) refl refl refl in
    let own_is : c.split_seat-own.result.me ≡ (handed_over (only c.fetch_add.new.seat.me.0) ∷ [], []) = c.split_seat-own.ensures.4 ∙ (λ i. (map handed_over (won.0.2 i).0, [])) in
    let reads : (only c.split_seat-own.result.me.0).reads ≡ Some (comes place number position) = ap (λ (m : MeOf T). (only m.0).reads) own_is ∙ ap reads_of_hold won.1 in
    let before : (only c.store-3.new.seat.me.0).start ≡ c.args.self.now.table_id.start = ap (λ (m : MeOf T). (only m.0).start) one ∙ (ap (λ z. z.table_id.start) c.seat.view_is ∙ ap (λ z. z.start) c.requires.flow) in
    let key : c.args.self.now.table_id.start ≡ c.self.inside.table.shared.key = ap (λ z. z.table_id.start) (sym c.self.view_is) in
    let entered : max mark (n - (only c.store-3.new.seat.me.0).start.config.replay) ≡ position = ap (λ (z : RingStart). max mark (n - z.config.replay)) (before ∙ key) ∙ sym entry in
    let at = taken.2 ∙ ap (λ (z : RingStart). place_at z place) key in let there = subst (λ (z : RingStart). place < z.places) key taken.1 in let below = word_below c.self.inside.table.shared.key place there in let count = c.self.invariant.14 in (
      c.split_seat-own.ensures.3 ∙ (c.fetch_add.ensures.0 ∙ (c.store-3.ensures.0 ∙ (c.take_place.ensures.flow ∙ (c.store-2.ensures.0 ∙ (c.load-mark.ensures.0 ∙ (c.load-made.ensures.0 ∙ (c.compare_exchange-found.ensures.0
          ∙ (ap (λ z. z.table_id.table) c.seat.view_is ∙ (ap (λ z. z.table) c.requires.flow ∙ ap (λ z. z.table_id.table) (sym c.self.view_is)))))))))),
      omega (arith, at, below, count),
      flagging _ _ _ _ _ _ _ false (comes place number position) (record { place = place; moves = true }) _ _ (subst (λ (m : MeOf T). m.0 ≡ only m.0 ∷ []) (sym own_is) refl) reads refl at (omega arith)
          (λ _. subst (λ (m : MeOf T). IsAt (only m.0).start (only m.0).knows number position) (sym own_is) (subst (IsAt (only c.fetch_add.new.seat.me.0).start (child (only c.fetch_add.new.seat.me.0).knows) number) entered won.2)),
    )

pub store-requires-5 : goal.store-requires-5
store-requires-5 g c =
    let T = g.row.T.Denot in let n = c.seat.inside.expected / 2 in let made = c.load-made.result in let mark = c.load-mark.result in let low = c.saturating_sub-least.result in let position = c.max-position.result in let number = made + n + 1 in
    let taken = c.in-Some.ensures.taken in let place = taken.0 in let bound = bounds g (goal.at.store-requires-5 g c).After-store-2 in
    let held : Holds c.seat.inside.seat.me (Some (placed n made mark low place position)) c.take_place.new.seat.me =
    held_twice c.seat.inside.seat.me c.store-2.new.seat.me c.take_place.new.seat.me (Some (bounded n made mark low)) (Some (placed n made mark low place position)) bound.0 (taken.3 (bounded n made mark low) (ap (λ (m : MeOf T). (only m.0).hold) bound.0)) in
    let one : Holds c.seat.inside.seat.me (Some (one_ahead n made mark low place position)) c.store-3.new.seat.me =
    held_twice c.seat.inside.seat.me c.take_place.new.seat.me c.store-3.new.seat.me (Some (placed n made mark low place position)) (Some (one_ahead n made mark low place position)) held (c.store-3.ensures.2 (placed n made mark low place position) (ap (λ (m : MeOf T). (only m.0).hold) held)) in
    let won = c.fetch_add.ensures.2 (one_ahead n made mark low place position) (made + n) mark (record { place = place; position = position; number = None }) (ap (λ (m : MeOf T). (only m.0).hold) one) refl refl refl in
    let kept : c.split_seat-own.new.seat.me ≡ (hands_over (only c.fetch_add.new.seat.me.0) ∷ [], c.fetch_add.new.seat.me.1) = c.split_seat-own.ensures.2 ∙ (λ i. (map hands_over (won.0.2 i).0, c.fetch_add.new.seat.me.1)) in
    let even = c.seat.invariant.1 in
    (search rules, search rules, releasing _ _ _ _ _ _ _ (holding n) _ (subst (λ (m : MeOf T). m.0 ≡ only m.0 ∷ []) (sym kept) refl) (ap (λ (m : MeOf T). (only m.0).hold) kept ∙ ap (λ o. option_map (λ (h : Hold). record h { taken = None }) o) won.1) refl (omega (arith, even)))

pub invariant_of-seat-2 : goal.invariant_of-seat-2
invariant_of-seat-2 g c =
    let T = g.row.T.Denot in let n = c.seat.inside.expected / 2 in let made = c.load-made.result in let mark = c.load-mark.result in let low = c.saturating_sub-least.result in let position = c.max-position.result in let number = made + n + 1 in
    let taken = c.in-Some.ensures.taken in let place = taken.0 in let bound = bounds g (goal.at.invariant_of-seat-2 g c).After-store-2 in
    let held : Holds c.seat.inside.seat.me (Some (placed n made mark low place position)) c.take_place.new.seat.me =
    held_twice c.seat.inside.seat.me c.store-2.new.seat.me c.take_place.new.seat.me (Some (bounded n made mark low)) (Some (placed n made mark low place position)) bound.0 (taken.3 (bounded n made mark low) (ap (λ (m : MeOf T). (only m.0).hold) bound.0)) in
    let one : Holds c.seat.inside.seat.me (Some (one_ahead n made mark low place position)) c.store-3.new.seat.me =
    held_twice c.seat.inside.seat.me c.take_place.new.seat.me c.store-3.new.seat.me (Some (placed n made mark low place position)) (Some (one_ahead n made mark low place position)) held (c.store-3.ensures.2 (placed n made mark low place position) (ap (λ (m : MeOf T). (only m.0).hold) held)) in
    let won = c.fetch_add.ensures.2 (one_ahead n made mark low place position) (made + n) mark (record { place = place; position = position; number = None }) (ap (λ (m : MeOf T). (only m.0).hold) one) refl refl refl in
    let kept : c.split_seat-own.new.seat.me ≡ (hands_over (only c.fetch_add.new.seat.me.0) ∷ [], c.fetch_add.new.seat.me.1) = c.split_seat-own.ensures.2 ∙ (λ i. (map hands_over (won.0.2 i).0, c.fetch_add.new.seat.me.1)) in
    let slots : c.fetch_add.new.seat.me.1 ≡ [] = ap (λ (m : MeOf T). m.1) won.0.2 ∙ ap (λ (m : MeOf T). m.1) (held_then c.seat.inside.seat.me c.store-3.new.seat.me (Some (one_ahead n made mark low place position)) c.seat.invariant.0.0 one).0 in
    let alone : c.split_seat-own.new.seat.me ≡ (only c.split_seat-own.new.seat.me.0 ∷ [], []) = subst (λ (m : MeOf T). m ≡ (only m.0 ∷ [], [])) (sym (kept ∙ (λ i. (hands_over (only c.fetch_add.new.seat.me.0) ∷ [], slots i)))) refl in
    (held_then c.split_seat-own.new.seat.me c.store-5.new.seat.me None alone c.store-5.ensures.2, c.seat.invariant.1)

pub invariant_of-result : goal.invariant_of-result
invariant_of-result g c =
    let T = g.row.T.Denot in let n = c.seat.inside.expected / 2 in let made = c.load-made.result in let mark = c.load-mark.result in let low = c.saturating_sub-least.result in let position = c.max-position.result in let number = made + n + 1 in
    let taken = c.in-Some.ensures.taken in let place = taken.0 in let bound = bounds g (goal.at.invariant_of-result g c).After-store-2 in
    let held : Holds c.seat.inside.seat.me (Some (placed n made mark low place position)) c.take_place.new.seat.me =
    held_twice c.seat.inside.seat.me c.store-2.new.seat.me c.take_place.new.seat.me (Some (bounded n made mark low)) (Some (placed n made mark low place position)) bound.0 (taken.3 (bounded n made mark low) (ap (λ (m : MeOf T). (only m.0).hold) bound.0)) in
    let one : Holds c.seat.inside.seat.me (Some (one_ahead n made mark low place position)) c.store-3.new.seat.me =
    held_twice c.seat.inside.seat.me c.take_place.new.seat.me c.store-3.new.seat.me (Some (placed n made mark low place position)) (Some (one_ahead n made mark low place position)) held (c.store-3.ensures.2 (placed n made mark low place position) (ap (λ (m : MeOf T). (only m.0).hold) held)) in
    let replay = c.self.invariant.4 in let from = c.saturating_sub.ensures in
    let entry : position ≡ max mark (n - c.self.inside.table.shared.key.config.replay) = c.max-position.ensures ∙ ap (max mark) (let l : c.saturating_sub.result ≡ n - c.self.inside.table.shared.key.config.replay = omega (arith, from, replay) in l) in
    let won = c.fetch_add.ensures.2 (one_ahead n made mark low place position) (made + n) mark (record { place = place; position = position; number = None }) (ap (λ (m : MeOf T). (only m.0).hold) one) refl refl refl in
    let own_is : c.split_seat-own.result.me ≡ (handed_over (only c.fetch_add.new.seat.me.0) ∷ [], []) = c.split_seat-own.ensures.4 ∙ (λ i. (map handed_over (won.0.2 i).0, [])) in
    let reads : (only c.split_seat-own.result.me.0).reads ≡ Some (comes place number position) = ap (λ (m : MeOf T). (only m.0).reads) own_is ∙ ap reads_of_hold won.1 in
    let before : (only c.store-3.new.seat.me.0).start ≡ c.args.self.now.table_id.start = ap (λ (m : MeOf T). (only m.0).start) one ∙ (ap (λ z. z.table_id.start) c.seat.view_is ∙ ap (λ z. z.start) c.requires.flow) in
    let key : c.args.self.now.table_id.start ≡ c.self.inside.table.shared.key = ap (λ z. z.table_id.start) (sym c.self.view_is) in
    let entered : max mark (n - (only c.store-3.new.seat.me.0).start.config.replay) ≡ position = ap (λ (z : RingStart). max mark (n - z.config.replay)) (before ∙ key) ∙ sym entry in
    let moved : c.store-4.new.seat.me ≡ (ring_known (child (only c.fetch_add.new.seat.me.0).knows) (only c.fetch_add.new.seat.me.0).start None (Some (came place number position)) ∷ [], []) =
    c.store-4.ensures.2 (comes place number position) (record { place = place; moves = true }) reads refl ∙ (λ i. (ring_known (only (own_is i).0).knows (only (own_is i).0).start None (Some (came place number position)) ∷ [], (own_is i).1)) in
    let then_start : (only c.store-4.new.seat.me.0).start ≡ c.args.self.now.table_id.start = ap (λ (m : MeOf T). (only m.0).start) moved ∙ (won.0.1 ∙ before) in
    let log = ap (λ (m : MeOf T). length (log_after (only m.0).start (only m.0).knows.seen)) moved in let count = won.3 in let within = won.4 in let less = c.if-issued-self.false in let limit = c.self.invariant.1.limit in let same = c.self.invariant.5 in
    let here = ap (λ (m : MeOf T). position_of_reads (only m.0).reads) moved in (
      (
        subst (λ (m : MeOf T). ((m ≡ (only m.0 ∷ [], [])) × ((only m.0).hold ≡ None)) × ((only m.0).reads ≡ Some (reading_at (post_of_reads (only m.0).reads) number position []))
            × IsAt (only m.0).start (only m.0).knows number position × (0 ≤ length (log_after (only m.0).start (only m.0).knows.seen))) (sym moved)
            ((refl, refl), refl, subst (IsAt (only c.fetch_add.new.seat.me.0).start (child (only c.fetch_add.new.seat.me.0).knows) number) entered won.2, omega arith),
        (
          record {
            at = place;
            post = ap (λ (m : MeOf T). post_of_reads (only m.0).reads) moved;
            word = taken.2 ∙ ap (λ (z : RingStart). place_at z place) (sym then_start);
            there = subst (λ (z : RingStart). place < z.places) (sym then_start) taken.1;
            known = omega (arith, log, count);
            small = omega (arith, less, limit, same);
            few = omega (arith, here, entry, within, less, limit, same);
          },
          refl,
        ),
      ),
      omega (arith, entry, within, less, limit, same),
      omega arith,
    )

pub returns-clause-subscribed : goal.returns-clause-subscribed
returns-clause-subscribed g c =
    let T = g.row.T.Denot in let n = c.seat.inside.expected / 2 in let made = c.load-made.result in let mark = c.load-mark.result in let low = c.saturating_sub-least.result in let position = c.max-position.result in let number = made + n + 1 in
    let taken = c.in-Some.ensures.taken in let place = taken.0 in let bound = bounds g (goal.at.returns-clause-subscribed g c).After-store-2 in
    let held : Holds c.seat.inside.seat.me (Some (placed n made mark low place position)) c.take_place.new.seat.me =
    held_twice c.seat.inside.seat.me c.store-2.new.seat.me c.take_place.new.seat.me (Some (bounded n made mark low)) (Some (placed n made mark low place position)) bound.0 (taken.3 (bounded n made mark low) (ap (λ (m : MeOf T). (only m.0).hold) bound.0)) in
    let one : Holds c.seat.inside.seat.me (Some (one_ahead n made mark low place position)) c.store-3.new.seat.me =
    held_twice c.seat.inside.seat.me c.take_place.new.seat.me c.store-3.new.seat.me (Some (placed n made mark low place position)) (Some (one_ahead n made mark low place position)) held (c.store-3.ensures.2 (placed n made mark low place position) (ap (λ (m : MeOf T). (only m.0).hold) held)) in
    let won = c.fetch_add.ensures.2 (one_ahead n made mark low place position) (made + n) mark (record { place = place; position = position; number = None }) (ap (λ (m : MeOf T). (only m.0).hold) one) refl refl refl in
    let own_is : c.split_seat-own.result.me ≡ (handed_over (only c.fetch_add.new.seat.me.0) ∷ [], []) = c.split_seat-own.ensures.4 ∙ (λ i. (map handed_over (won.0.2 i).0, [])) in
    let reads : (only c.split_seat-own.result.me.0).reads ≡ Some (comes place number position) = ap (λ (m : MeOf T). (only m.0).reads) own_is ∙ ap reads_of_hold won.1 in
    let moved : c.store-4.new.seat.me ≡ (ring_known (child (only c.fetch_add.new.seat.me.0).knows) (only c.fetch_add.new.seat.me.0).start None (Some (came place number position)) ∷ [], []) =
    c.store-4.ensures.2 (comes place number position) (record { place = place; moves = true }) reads refl ∙ (λ i. (ring_known (only (own_is i).0).knows (only (own_is i).0).start None (Some (came place number position)) ∷ [], (own_is i).1)) in
    let kept : c.split_seat-own.new.seat.me ≡ (hands_over (only c.fetch_add.new.seat.me.0) ∷ [], c.fetch_add.new.seat.me.1) = c.split_seat-own.ensures.2 ∙ (λ i. (map hands_over (won.0.2 i).0, c.fetch_add.new.seat.me.1)) in
    let s = c.seat.inside.seat in let u = c.fetch_add.new.seat in let v = c.split_seat-own.new.seat in let first = c.args.self.now.first in
    let table = c.fetch_add.ensures.0 ∙ (c.store-3.ensures.0 ∙ (c.take_place.ensures.flow ∙ (c.store-2.ensures.0 ∙ (c.load-mark.ensures.0 ∙ (c.load-made.ensures.0 ∙ c.compare_exchange-found.ensures.0))))) in
    let began : began_as (only s.me.0).start ≡ first = ap (λ z. began_as z.table_id.start) c.seat.view_is ∙ (ap (λ z. began_as z.start) c.requires.flow ∙ (ap (λ z. began_as z.table_id.start) (sym c.self.view_is) ∙ ap (λ z. z.first) c.self.view_is)) in
    let knows : (only c.store-3.new.seat.me.0).knows ≡ c.args.seat.now.knows = ap (λ (m : MeOf T). (only m.0).knows) one ∙ ap (λ z. z.knows) c.seat.view_is in
    let called = told_calls first s u (call.Subscribe (subscription_name (only c.store-3.new.seat.me.0).knows) []) (reply.Subscribed number) table began
    (held_calls s.me c.store-3.new.seat.me u.me (Some (one_ahead n made mark low place position)) (call.Subscribe (subscription_name (only c.store-3.new.seat.me.0).knows) []) (reply.Subscribed number) one won.0) in (
      ring_token u,
      subst (λ (z : WordFlowToken T × SharedKnowledge T). CallsIn shared_flow first z.0 (call.Subscribe (subscription_name z.1) []) (reply.Subscribed number) (ring_token u)) (λ i. (c.seat.view_is i, knows i)) called.0,
      held_token v c.store-5.new.seat None c.store-5.ensures.0 c.store-5.ensures.2 ∙ (λ i. token (word_flow_id (c.split_seat-own.ensures.0 i) (only (kept i).0).start) (only (kept i).0).knows),
      (λ i. token (word_flow_id ((c.store-4.ensures.0 ∙ c.split_seat-own.ensures.3) i) (only (moved i).0).start) (only (moved i).0).knows),
    )
