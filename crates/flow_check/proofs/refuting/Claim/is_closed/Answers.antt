use Rattle.std.proofs.Common.{◌≡◌, ◌≤◌, length, Some, arith}
use Rattle.std.specs.Prelude.{slice_get, ⊤}
use Rattle.std.proofs.lemmas.Option.{MatchOption-at_some}
use Rattle.flow_check.specs.declared.node.Node.{Node}
use Rattle.flow_check.specs.Reached.{reached}
use Rattle.flow_check.specs.Tables.{nodes_of}
use Rattle.flow_check.proofs.Packing.{nodes_within}
use Rattle.flow_check.proofs.Parts.{all_closed, closed_more}
use Rattle.flow_check.proofs.refuting.Claim.is_closed.Goals as goal

pub loop-place-preserved : goal.loop-place-preserved
loop-place-preserved g c = closed_more g.M.Machine.stepped g.M.Machine.may_skip g.M.Machine.is_private c.args.self.now.callers.now (nodes_of g.M.Machine.read c.args.self.now.table.now) g.M.Machine.Swapped c.loop-place.place (reached c.in-Some.node) c.loop-place.invariant
    (MatchOption-at_some ⊤ (λ (n : Node g.row.M.Denot). slice_get (nodes_of g.M.Machine.read c.args.self.now.table.now) c.loop-place.place ≡ Some (reached n)) c.in-Some.node c.in-Some.is c.in_ok-found.ensures)
    (c.in_ok-yes.ensures c.if-not-yes.false)

pub returns : goal.returns
returns g c = λ _.
    let count = c.len-place-end.ensures in
    let past = c.loop-place-test.false in
    let upto : length c.args.self.now.table.now.rows ≤ c.loop-place.place = omega arith in
    all_closed g.M.Machine.stepped g.M.Machine.may_skip g.M.Machine.is_private c.args.self.now.callers.now (nodes_of g.M.Machine.read c.args.self.now.table.now) g.M.Machine.Swapped c.loop-place.place
    (nodes_within g.M.Machine.read c.args.self.now.table.now c.loop-place.place upto) c.loop-place.invariant
