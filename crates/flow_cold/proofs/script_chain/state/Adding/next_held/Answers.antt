use Rattle.std.proofs.Common.{rules, arith, w64, to_z-of_z, ◌+ℤ◌}
use mir.Val.{SFits}
use Rattle.flow_cold.proofs.SumLemmas.{fits_i64, over_i64, drop_here}
use Rattle.flow_cold.proofs.script_chain.state.Adding.next_held.Goals as goal

pub returns-in-Some-clause-gives : goal.returns-in-Some-clause-gives
returns-in-Some-clause-gives c = λ r.
    let s = c.args.self.now in
    let item : SFits w64 s.item = search rules in
    let entry : SFits w64 c.index.result.now = search rules in
    let sum = simp (to_z-of_z, item, entry) at c.in-Some.ensures in
    rw (drop_here s.entries.items s.at c.index.result.now (omega arith) c.index.ensures, fits_i64 (s.item +ℤ c.index.result.now) sum.0)
    (simp (sum.1, to_z-of_z, sum.0))

pub returns-in-Some-clause-behind : goal.returns-in-Some-clause-behind
returns-in-Some-clause-behind c = λ r.
    let s = c.args.self.now in
    rw (drop_here s.entries.items s.at c.index.result.now (omega arith) c.index.ensures)

pub returns-in-None-clause-gives : goal.returns-in-None-clause-gives
returns-in-None-clause-gives c = λ r.
    let s = c.args.self.now in
    let item : SFits w64 s.item = search rules in
    let entry : SFits w64 c.index.result.now = search rules in
    let over = simp (to_z-of_z, item, entry) at c.in-None.ensures in
    rw (drop_here s.entries.items s.at c.index.result.now (omega arith) c.index.ensures, over_i64 (s.item +ℤ c.index.result.now) over)

pub returns-in-None-clause-behind : goal.returns-in-None-clause-behind
returns-in-None-clause-behind c = λ r.
    let s = c.args.self.now in
    rw (drop_here s.entries.items s.at c.index.result.now (omega arith) c.index.ensures)
