use Rattle.std.proofs.Common.{rules, w64, to_z-of_z}
use mir.Val.{SFits}
use Rattle.flow_cold.proofs.FollowingLemmas.{following_ok, following_err}
use Rattle.flow_cold.proofs.script_chain.inner.Following.on_item.Goals as goal

pub returns-in-Ok-clause-gives : goal.returns-in-Ok-clause-gives
returns-in-Ok-clause-gives c = λ r.
    let last : SFits w64 c.in-Ok.last = search rules in
    let h = simp (to_z-of_z, c.ranges.item) at c.in-Ok.ensures in
    rw (following_ok c.args.self.now.count c.args.item c.in-Ok.last c.if-self-eq0.false h) (simp (to_z-of_z, c.ranges.item, last))

pub returns-in-Ok-clause-behind : goal.returns-in-Ok-clause-behind
returns-in-Ok-clause-behind c = λ r.
    let last : SFits w64 c.in-Ok.last = search rules in
    let h = simp (to_z-of_z, c.ranges.item) at c.in-Ok.ensures in
    rw (following_ok c.args.self.now.count c.args.item c.in-Ok.last c.if-self-eq0.false h) (simp (to_z-of_z, c.ranges.item, last))

pub returns-in-Err-clause-gives : goal.returns-in-Err-clause-gives
returns-in-Err-clause-gives c = λ r.
    let h = simp (to_z-of_z, c.ranges.item) at c.in-Err.ensures in
    rw (following_err c.args.self.now.count c.args.item c.in-Err.fault c.if-self-eq0.false h)

pub returns-in-Err-clause-behind : goal.returns-in-Err-clause-behind
returns-in-Err-clause-behind c = λ r.
    let h = simp (to_z-of_z, c.ranges.item) at c.in-Err.ensures in
    rw (following_err c.args.self.now.count c.args.item c.in-Err.fault c.if-self-eq0.false h)
