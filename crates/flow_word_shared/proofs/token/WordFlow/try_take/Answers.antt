use Rattle.std.proofs.Common.{◌≡◌, ◌+◌, ◌-◌, ◌*◌, [], sym, ap, subst, ◌∙◌, refl, arith}
use Rattle.std.specs.Prelude.{max}
use Rattle.flow_law.specs.history.Tokens.{numbered_token}
use Rattle.flow_word_shared.specs.Answers.{IsOverrun, WordFlowNexts, NextsTaken}
use Rattle.flow_word_shared.specs.Rule.{capacity_of}
use Rattle.flow_word_shared.specs.Tokens.{WordFlowNumbered, ring_token, IsReading, HasPlaceOrNone}
use Rattle.flow_word_shared.specs.View.{only}
use Rattle.flow_word_shared.proofs.Cells.{fit_ahead}
use Rattle.flow_word_shared.proofs.Told.{saw_overrun, tried_takes}
use Rattle.flow_word_shared.proofs.token.WordFlow.try_take.Goals as goal

pub returns-then-taken-eq0-clause-late : goal.returns-then-taken-eq0-clause-late
returns-then-taken-eq0-clause-late g c = λ _.
    let more = c.if-seen-position.false in let none = c.if-taken-eq0.true in let late = c.read_all-taken.ensures.late none in (
      late.0,
      omega (arith, none, c.read_all-taken.ensures.room.0),
      c.read_all-taken.ensures.room.1,
      ap (λ n. n.number) c.subscription.view_is,
      subst (λ (n : WordFlowNumbered g.row.T.Denot). IsOverrun n.token (ring_token c.read_all-taken.new.seat)) c.subscription.view_is (saw_overrun _ _ _ (c.look.ensures.more (omega (arith, more))) late.1),
    )

pub returns-clause-taken : goal.returns-clause-taken
returns-clause-taken g c =
    let more = c.if-seen-position.false in let count = c.read_all-taken.result.0 in (
      omega (arith, c.read_all-taken.ensures.count.0, c.min.ensures, c.min-count.ensures),
      λ some. subst (λ (n : WordFlowNumbered g.row.T.Denot). NextsTaken (WordFlowNexts c.args.self.now.first) count n c.args.values.now.items c.read_all-taken.new.values.items (numbered_token (ring_token c.read_all-taken.new.seat) c.subscription.inside.number)) c.subscription.view_is
          (let saw = c.look.ensures.more (omega (arith, more)) in tried_takes c.args.self.now.first count _ _ _ _ _ (saw.0, (0, saw.1)) refl some (c.read_all-taken.ensures.taken some)),
    )

pub read_all-taken-requires-clause-fits : goal.read_all-taken-requires-clause-fits
read_all-taken-requires-clause-fits g c =
    let fit = fit_ahead c.min-count.result c.WIDTH.result (omega (arith, c.min-count.ensures, c.min.ensures)) in let same = ap (λ w. c.min-count.result * w) (sym c.WIDTH.ensures) in
    (c.look.ensures.small, omega (arith, fit, same))

pub invariant_of-subscription-2 : goal.invariant_of-subscription-2
invariant_of-subscription-2 g c =
    let s = c.subscription.inside in let took = c.read_all-taken in let more = c.if-seen-position.false in let some = c.if-taken-eq0.false in
    let room : capacity_of c.args.self.now.table_id.start ≡ c.self.inside.capacity = ap (λ z. capacity_of z.table_id.start) (sym c.self.view_is) ∙ c.self.invariant.3 in
    let at = c.max.ensures in let from = c.saturating_sub.ensures in let within = took.ensures.within some in let count = c.min-count.ensures in let small = c.look.ensures.small in
    let place : max s.position (took.result.1 - capacity_of c.args.self.now.table_id.start) + took.result.0 ≡ c.max.result + took.result.0 = omega (arith, at, from, room) in
    let bare = subst (λ o. HasPlaceOrNone o s.seat s.seen) c.in_default.is c.subscription.invariant.0.1 in
    let then : (only took.new.seat.me.0).start.places ≡ 0 = ap (λ z. z.start.places) (took.ensures.flow ∙ (c.look.ensures.more (omega (arith, more))).0) ∙ bare in (
      (subst (λ q. IsReading took.new.seat s.number q [] took.result.1) place took.ensures.reading, subst (λ o. HasPlaceOrNone o took.new.seat took.result.1) (sym c.in_default.is) then),
      omega (arith, within, place, count, more, small),
      took.ensures.count.1,
    )
