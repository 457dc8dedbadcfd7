use Rattle.std.proofs.Common.{◌≡◌, ◌+◌, ◌-◌, ◌/◌, List, [], ◌∷◌, drop, sym, ap, subst, ◌∙◌, arith}
use Rattle.std.specs.Prelude.{ℕ, max, take}
use Rattle.std.proofs.lemmas.List.{take_all}
use Rattle.flow_law.specs.declared.call.SharedCall.TheVariants as call
use Rattle.flow_law.specs.declared.call.SharedReply.TheVariants as reply
use Rattle.flow_law.specs.declared.outcome.Next.TheVariants.{Value}
use Rattle.flow_law.specs.flow.SharedHistory.{shared_flow}
use Rattle.flow_law.specs.history.Promise.{CallsAtOnceIn}
use Rattle.flow_word_shared.specs.declared.view.RingStart.{RingStart}
use Rattle.flow_word_shared.specs.Rule.{capacity_of}
use Rattle.flow_word_shared.specs.Steps.{AreFound, Receives, log_after, still_kept}
use Rattle.flow_word_shared.specs.Tokens.{IsReading, post_of, ring_token}
use Rattle.flow_word_shared.specs.View.{began_as, only, reading_at}
use Rattle.flow_word_shared.proofs.ConfirmSteps.{confirming}
use Rattle.flow_word_shared.proofs.Finding.{first_is, none_kept}
use Rattle.flow_word_shared.proofs.Told.{saw_then, saw_overrun, receives_one, receives_none, reads_on}
use Rattle.flow_word_shared.proofs.token.WordFlow.read.Goals as goal
use Rattle.flow_word_shared.proofs.token.WordFlow.read.Goals.{After-read_value, After-load-found}

-- the words that were found
abbrev words : (g : _) (c : After-read_value g) → List ℕ
words g c = take g.T.Words.WIDTH c.read_value.new.words.items

words_are : (g : _) (c : After-read_value g) → words g c ≡ c.read_value.new.words.items
words_are g c = take_all g.T.Words.WIDTH c.read_value.new.words.items (omega (arith, c.read_value.ensures.count))

-- the seat's flow is the one that is called
start_is : (g : _) (c : After-read_value g) → (only c.read_value.new.seat.me.0).start ≡ c.args.self.now.table_id.start
start_is g c = ap (λ z. z.start) (c.read_value.ensures.sees.0 ∙ c.requires.flow)

first_flow : (g : _) (c : After-load-found g) → began_as (only c.read_value.new.seat.me.0).start ≡ c.args.self.now.first
first_flow g c = ap (λ z. began_as z.start) (c.read_value.ensures.sees.0 ∙ c.requires.flow) ∙ (ap (λ z. began_as z.table_id.start) (sym c.self.view_is) ∙ ap (λ z. z.first) c.self.view_is)

pub load-found-requires : goal.load-found-requires
load-found-requires g c =
    let d = (goal.at.load-found-requires g c).After-read_value in let r = c.read_value.ensures.reading in let count = c.self.invariant.0 in (
      ap (λ z. z.table) (c.read_value.ensures.sees.0 ∙ c.requires.flow) ∙ ap (λ z. z.table_id.table) (sym c.self.view_is),
      omega (arith, count),
      confirming _ _ _ _ (ap (λ z. z.table_id.start.places) c.self.view_is ∙ c.requires.places) _ _ _ (take 1) first_is (reading_at (post_of c.read_value.new.seat) c.args.number c.args.position (words g d ∷ [])) (ap (λ m. m.0) r.0.0) r.1 r.2
          (subst (λ (z : RingStart). AreFound g.T.Words.are_words g.T.Words.value_in (capacity_of z) (log_after z (only c.read_value.new.seat.me.0).knows.seen) c.args.position (words g d ∷ [])) (sym (start_is g d)) c.read_value.ensures.found),
    )

-- what the loads told, of the words that the buffer still has
received : (g : _) (c : After-load-found g) →
    Receives g.T.Words.are_words g.T.Words.value_in c.args.number c.args.position (c.load-found.result / 2)
    (take 1 (still_kept (capacity_of (only c.read_value.new.seat.me.0).start) (c.load-found.result / 2) c.args.position (take g.T.Words.WIDTH c.read_value.new.words.items ∷ []))) c.read_value.new.seat.me c.load-found.new.seat.me
received g c = c.load-found.ensures.2 (reading_at (post_of c.read_value.new.seat) c.args.number c.args.position (take g.T.Words.WIDTH c.read_value.new.words.items ∷ [])) c.read_value.ensures.reading.1

pub returns-clause-fresh : goal.returns-clause-fresh
returns-clause-fresh g c = λ kept.
    let packs = g.T.Words.are_words in let value_of = g.T.Words.value_in in
    let d = (goal.at.returns-clause-fresh g c).After-load-found in let e = (goal.at.returns-clause-fresh g c).After-read_value in
    let s = c.read_value.new.seat in let t = c.load-found.new.seat in let p = c.args.position in let w = words g e in let n = c.load-found.result / 2 in let room = ap capacity_of (start_is g e) in
    let none : n - capacity_of (only s.me.0).start - p ≡ 0 = omega (arith, kept, room) in
    let one : take 1 (still_kept (capacity_of (only s.me.0).start) n p (w ∷ [])) ≡ w ∷ [] = ap (λ k. take 1 (drop k (w ∷ []))) none in
    let r = subst (λ l. Receives packs value_of c.args.number p n l s.me t.me) one (received g d) in
    let called = receives_one packs value_of c.args.number p n s t c.args.self.now.first w c.load-found.ensures.0 (first_flow g d) r in
    let is = c.read_value.ensures.reading.0.0 in (
      subst packs (words_are g e) called.0,
      subst (λ (ws : List ℕ). CallsAtOnceIn shared_flow c.args.self.now.first (ring_token c.args.seat.now) (call.TakeNext c.args.number) (reply.Received (Value (value_of ws))) (ring_token t)) (words_are g e)
          (saw_then c.args.self.now.first _ _ _ _ _ c.read_value.ensures.sees called.1),
      subst (λ q. IsReading t c.args.number q [] n) (let l : max p (n - capacity_of (only s.me.0).start) + 1 ≡ p + 1 = omega (arith, none) in l)
          (reads_on packs value_of c.args.number p n s t (w ∷ []) is r),
    )

pub returns-clause-late : goal.returns-clause-late
returns-clause-late g c = λ late.
    let packs = g.T.Words.are_words in let value_of = g.T.Words.value_in in
    let d = (goal.at.returns-clause-late g c).After-load-found in let e = (goal.at.returns-clause-late g c).After-read_value in
    let s = c.read_value.new.seat in let t = c.load-found.new.seat in let p = c.args.position in let w = words g e in let n = c.load-found.result / 2 in let room = ap capacity_of (start_is g e) in
    let none : take 1 (still_kept (capacity_of (only s.me.0).start) n p (w ∷ [])) ≡ [] = ap (take 1) (none_kept (w ∷ []) (n - capacity_of (only s.me.0).start - p) (omega (arith, late, room))) in
    let r = subst (λ l. Receives packs value_of c.args.number p n l s.me t.me) none (received g d) in
    let is = c.read_value.ensures.reading.0.0 in (
      saw_overrun _ _ _ c.read_value.ensures.sees (receives_none packs value_of c.args.number p n s t c.load-found.ensures.0 r),
      subst (λ q. IsReading t c.args.number q [] n) (let l : max p (n - capacity_of (only s.me.0).start) + 0 ≡ n - capacity_of c.args.self.now.table_id.start = omega (arith, late, room) in l)
          (reads_on packs value_of c.args.number p n s t [] is r),
    )
