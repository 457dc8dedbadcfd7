use Rattle.std.proofs.Common.{◌≡◌, ℕ, ◌+◌, ◌<◌, ◌≤◌, false, List, [], ◌∷◌, length, Some, None, refl, sym, ap, subst, ◌∙◌, arith}
use Rattle.std.specs.Prelude.{take}
use Rattle.std.proofs.lemmas.List.{take_all}
use Rattle.flow_law.specs.declared.call.SharedCall.TheVariants as call
use Rattle.flow_law.specs.declared.call.SharedReply.TheVariants as reply
use Rattle.flow_law.specs.declared.outcome.Next.TheVariants.{Value}
use Rattle.flow_law.specs.flow.SharedHistory.{shared_flow}
use Rattle.flow_law.specs.history.Promise.{CallsAtOnceIn}
use Rattle.flow_word_shared.specs.declared.view.RingStart.{RingStart}
use Rattle.flow_word_shared.specs.Rule.{capacity_of, place_at}
use Rattle.flow_word_shared.specs.Steps.{AreFound, StepCalls, IsAt, log_after}
use Rattle.flow_word_shared.specs.Tokens.{post_of_reads, position_of_reads, post_of, ring_token}
use Rattle.flow_word_shared.specs.View.{began_as, only, reading_at}
use Rattle.flow_word_shared.proofs.PlaceRule.{word_below}
use Rattle.flow_word_shared.proofs.PostSteps.{advancing}
use Rattle.flow_word_shared.proofs.Told.{told_calls, saw_then, saw_saw, still_one, reads_as}
use Rattle.flow_word_shared.proofs.token.WordFlow.next_at.Goals as goal
use Rattle.flow_word_shared.proofs.token.WordFlow.next_at.Goals.{After-read_value, After-store}

pub look-place-requires-clause-reading : goal.look-place-requires-clause-reading
look-place-requires-clause-reading g c = let r = c.requires.reading in (r.0, r.1, r.2, c.requires.place.known)

pub look-place-requires-clause-small : goal.look-place-requires-clause-small
look-place-requires-clause-small g c = let small = c.requires.place.small in omega (arith, small)

-- ---- nothing to receive

pub returns-then-place-position-clause-reading : goal.returns-then-place-position-clause-reading
returns-then-place-position-clause-reading g c = let r = c.look-place.ensures.reading in (r.0, r.1, r.2, omega arith)

pub returns-then-place-position-clause-place : goal.returns-then-place-position-clause-place
returns-then-place-position-clause-place g c =
    let T = g.row.T.Denot in let hp = c.requires.place in let r = c.look-place.ensures.reading in let start = ap (λ z. z.start) (c.look-place.ensures.empty c.if-place-position.true).0.0 in
    let here = ap position_of_reads r.1 in let was = ap position_of_reads c.requires.reading.1 in let few = hp.few in record {
      at = hp.at;
      post = c.look-place.ensures.post ∙ hp.post;
      word = hp.word ∙ ap (λ (z : RingStart). place_at z hp.at) (sym start);
      there = subst (λ (z : RingStart). hp.at < z.places) (sym start) hp.there;
      known = r.3;
      small = c.look-place.ensures.few hp.small;
      few = omega (arith, here, was, few);
    }

-- ---- a value

-- the words that were found
abbrev words : (g : _) (c : After-read_value g) → List ℕ
words g c = take g.T.Words.WIDTH c.read_value.new.words.items

words_are : (g : _) (c : After-read_value g) → words g c ≡ c.read_value.new.words.items
words_are g c = take_all g.T.Words.WIDTH c.read_value.new.words.items (omega (arith, c.read_value.ensures.count))

-- the seat's flow is the one that is called
flow_is : (g : _) (c : After-read_value g) → (ring_token c.read_value.new.seat).table_id ≡ c.args.self.now.table_id
flow_is g c = c.read_value.ensures.sees.0 ∙ ((c.look-place.ensures.more (omega (arith, c.if-place-position.false))).0 ∙ c.requires.flow)

pub store-requires : goal.store-requires
store-requires g c =
    let d = (goal.at.store-requires g c).After-read_value in let key = c.self.inside.table.shared.key in let hp = c.requires.place in let r = c.read_value.ensures.reading in let flow = flow_is g d in
    let place : c.args.place.now.word ≡ place_at key hp.at = hp.word ∙ ap (λ z. place_at z.start hp.at) c.requires.flow ∙ ap (λ z. place_at z.table_id.start hp.at) (sym c.self.view_is) in
    let there = subst (λ (z : RingStart). hp.at < z.places) (ap (λ z. z.start) c.requires.flow ∙ ap (λ z. z.table_id.start) (sym c.self.view_is)) hp.there in let below = word_below key hp.at there in let count = c.self.invariant.14 in (
      ap (λ z. z.table) flow ∙ ap (λ z. z.table_id.table) (sym c.self.view_is),
      omega (arith, place, below, count),
      advancing _ _ _ _ _ _ _ (reading_at (post_of c.read_value.new.seat) c.args.number c.args.position.now (words g d ∷ [])) (record { place = hp.at; moves = false }) (words g d) _ _ (ap (λ m. m.0) r.0.0) r.1
          (c.read_value.ensures.post ∙ (c.look-place.ensures.post ∙ hp.post)) refl refl place refl r.2
          (subst (λ (z : RingStart). AreFound g.T.Words.are_words g.T.Words.value_in (capacity_of z) (log_after z (only c.read_value.new.seat.me.0).knows.seen) c.args.position.now (words g d ∷ [])) (sym (ap (λ z. z.start) flow)) c.read_value.ensures.found),
    )

-- what the store told
advanced : (g : _) (c : After-store g) → let s = c.read_value.new.seat in let t = c.store.new.seat in let w = take g.T.Words.WIDTH c.read_value.new.words.items in
    g.T.Words.are_words w × StepCalls s.me (call.TakeNext c.args.number) (reply.Received (Value (g.T.Words.value_in w))) t.me × ((only t.me.0).hold ≡ None)
    × ((only t.me.0).reads ≡ Some (reading_at (post_of s) c.args.number (c.args.position.now + 1) [])) × IsAt (only t.me.0).start (only t.me.0).knows c.args.number (c.args.position.now + 1)
    × (length (log_after (only s.me.0).start (only s.me.0).knows.seen) ≤ length (log_after (only t.me.0).start (only t.me.0).knows.seen))
advanced g c = c.store.ensures.2 (reading_at (post_of c.read_value.new.seat) c.args.number c.args.position.now (take g.T.Words.WIDTH c.read_value.new.words.items ∷ [])) (take g.T.Words.WIDTH c.read_value.new.words.items) c.read_value.ensures.reading.1 refl

pub of_words-requires : goal.of_words-requires
of_words-requires g c =
    let d = (goal.at.of_words-requires g c).After-store in let e = (goal.at.of_words-requires g c).After-read_value in
    subst g.T.Words.are_words (words_are g e ∙ sym c.as_slice.ensures.value) (advanced g d).0

pub returns-clause-called : goal.returns-clause-called
returns-clause-called g c =
    let T = g.row.T.Denot in let d = (goal.at.returns-clause-called g c).After-store in let e = (goal.at.returns-clause-called g c).After-read_value in
    let s = c.read_value.new.seat in let t = c.store.new.seat in let first = c.args.self.now.first in
    let began : began_as (only s.me.0).start ≡ first = ap (λ z. began_as z.start) (flow_is g e) ∙ (ap (λ z. began_as z.table_id.start) (sym c.self.view_is) ∙ ap (λ z. z.first) c.self.view_is) in
    let called = told_calls first s t (call.TakeNext c.args.number) (reply.Received (Value (g.T.Words.value_in (words g e)))) c.store.ensures.0 began (advanced g d).1 in
    let saw = saw_saw _ _ _ (c.look-place.ensures.more (omega (arith, c.if-place-position.false))) c.read_value.ensures.sees in
    subst (λ (x : T). CallsAtOnceIn shared_flow first (ring_token c.args.seat.now) (call.TakeNext c.args.number) (reply.Received (Value x)) (ring_token t))
    (ap g.T.Words.value_in (words_are g e) ∙ sym (c.of_words.ensures ∙ ap g.T.Words.value_in c.as_slice.ensures.value))
    (saw_then first _ _ _ _ _ saw called)

pub returns-clause-reading : goal.returns-clause-reading
returns-clause-reading g c =
    let d = (goal.at.returns-clause-reading g c).After-store in let s = c.read_value.new.seat in let t = c.store.new.seat in let told = advanced g d in
    ((still_one s.me t.me c.read_value.ensures.reading.0.0 told.1.2, told.2), reads_as (only t.me.0).reads (post_of s) c.args.number (c.args.position.now + 1) [] told.3, told.4, omega arith)

pub returns-clause-place : goal.returns-clause-place
returns-clause-place g c =
    let d = (goal.at.returns-clause-place g c).After-store in let e = (goal.at.returns-clause-place g c).After-read_value in let hp = c.requires.place in let told = advanced g d in let r = c.read_value.ensures.reading in
    let start = told.1.1 ∙ (ap (λ z. z.start) (flow_is g e) ∙ sym (ap (λ z. z.start) c.requires.flow)) in let here = ap position_of_reads told.3 in let more = c.if-place-position.false in let few = c.look-place.ensures.few hp.small in
    let known = r.3 in let longer = told.5 in record {
      at = hp.at;
      post = ap post_of_reads told.3 ∙ (c.read_value.ensures.post ∙ (c.look-place.ensures.post ∙ hp.post));
      word = hp.word ∙ ap (λ (z : RingStart). place_at z hp.at) (sym start);
      there = subst (λ (z : RingStart). hp.at < z.places) (sym start) hp.there;
      known = omega (arith, known, longer);
      small = few;
      few = omega (arith, here, more, few);
    }
