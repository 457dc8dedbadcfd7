use Rattle.std.proofs.Common.{◌≡◌, ◌+◌, ◌-◌, ◌∙◌, arith}
use Rattle.flow_word_shared.specs.Answers.{WordFlowNexts}
use Rattle.flow_word_shared.proofs.Drains.{taken_on, gives_keep}
use Rattle.flow_word_shared.proofs.token.WordFlow.drain.Goals as goal

pub take_some-taken-requires-clause-flow : goal.take_some-taken-requires-clause-flow
take_some-taken-requires-clause-flow g c = (gives_keep c.args.self.now.first c.loop-left.invariant.taken.values _ _ c.loop-left.invariant.taken.taken).0 ∙ c.requires

pub loop-left-preserved : goal.loop-left-preserved
loop-left-preserved g c =
    let inv = c.loop-left.invariant in let took = c.take_some-taken in let t = took.ensures.taken in
    let sum : c.args.most - c.loop-left.left + took.result ≡ c.args.most - (c.loop-left.left - took.result) = omega (arith, inv.within, t.0, c.min-room.ensures) in record {
      within = omega (arith, inv.within);
      taken = taken_on (WordFlowNexts c.args.self.now.first) (c.args.most - c.loop-left.left) took.result _ _ _ _ _ _ _ _ sum inv.taken c.reserve.ensures.items (t.1 c.if-taken-eq0.false);
    }

pub returns-then-is_err-clause-flow : goal.returns-then-is_err-clause-flow
returns-then-is_err-clause-flow g c = let t = c.loop-left.invariant.taken in (gives_keep c.args.self.now.first t.values _ _ t.taken).0

pub returns-then-is_err-clause-number : goal.returns-then-is_err-clause-number
returns-then-is_err-clause-number g c = let t = c.loop-left.invariant.taken in (gives_keep c.args.self.now.first t.values _ _ t.taken).1

pub returns-then-taken-eq0-clause-flow : goal.returns-then-taken-eq0-clause-flow
returns-then-taken-eq0-clause-flow g c = let t = c.loop-left.invariant.taken in let e = c.take_some-taken.ensures.empty c.if-taken-eq0.true in e.1.0.0 ∙ (gives_keep c.args.self.now.first t.values _ _ t.taken).0

pub returns-then-taken-eq0-clause-number : goal.returns-then-taken-eq0-clause-number
returns-then-taken-eq0-clause-number g c = let t = c.loop-left.invariant.taken in let e = c.take_some-taken.ensures.empty c.if-taken-eq0.true in e.1.1 ∙ (gives_keep c.args.self.now.first t.values _ _ t.taken).1

pub returns-clause-flow : goal.returns-clause-flow
returns-clause-flow g c = let t = c.loop-left.invariant.taken in (gives_keep c.args.self.now.first t.values _ _ t.taken).0

pub returns-clause-number : goal.returns-clause-number
returns-clause-number g c = let t = c.loop-left.invariant.taken in (gives_keep c.args.self.now.first t.values _ _ t.taken).1
