use Rattle.std.proofs.Common.{to_z-of_z, rules, w64}
use mir.Val.{SFits}
use Rattle.flow_cold.proofs.RangeLemmas.{range_run-more, range_run-last, next_fits}
use Rattle.flow_cold.proofs.script_chain.inner.Following.next_held.Goals as goal

pub returns-then-item-self-2-clause-gives : goal.returns-then-item-self-2-clause-gives
returns-then-item-self-2-clause-gives c = λ r.
    let s = c.args.self.now in
    let fits : SFits w64 s.next × SFits w64 s.last = (search rules, search rules) in
    let within = simp (to_z-of_z, fits.0, fits.1) at c.if-item-self.false in
    let more = simp (to_z-of_z, fits.0, fits.1) at c.if-item-self-2.true in
    let next_fits = next_fits s.next s.last fits.0 fits.1 more in
    simp (to_z-of_z, fits.0, next_fits, c.if-self.false, range_run-more s.next s.last within more)

pub returns-then-item-self-2-clause-behind : goal.returns-then-item-self-2-clause-behind
returns-then-item-self-2-clause-behind c = λ r.
    let s = c.args.self.now in
    let fits : SFits w64 s.next × SFits w64 s.last = (search rules, search rules) in
    let within = simp (to_z-of_z, fits.0, fits.1) at c.if-item-self.false in
    let more = simp (to_z-of_z, fits.0, fits.1) at c.if-item-self-2.true in
    rw (c.if-self.false, range_run-more s.next s.last within more)

pub returns-else-item-self-2-clause-gives : goal.returns-else-item-self-2-clause-gives
returns-else-item-self-2-clause-gives c = λ r.
    let s = c.args.self.now in
    let fits : SFits w64 s.next × SFits w64 s.last = (search rules, search rules) in
    let within = simp (to_z-of_z, fits.0, fits.1) at c.if-item-self.false in
    let only = simp (to_z-of_z, fits.0, fits.1) at c.if-item-self-2.false in
    simp (to_z-of_z, fits.0, c.if-self.false, range_run-last s.next s.last within only)

pub returns-else-item-self-2-clause-behind : goal.returns-else-item-self-2-clause-behind
returns-else-item-self-2-clause-behind c = λ r.
    let s = c.args.self.now in
    let fits : SFits w64 s.next × SFits w64 s.last = (search rules, search rules) in
    let within = simp (to_z-of_z, fits.0, fits.1) at c.if-item-self.false in
    let only = simp (to_z-of_z, fits.0, fits.1) at c.if-item-self-2.false in
    rw (c.if-self.false, range_run-last s.next s.last within only)
