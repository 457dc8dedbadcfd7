use Rattle.std.proofs.Common.{◌≡◌, Some, sym, ◌∙◌}
use Rattle.std.specs.Prelude.{slice_get, ⊤}
use Rattle.std.proofs.lemmas.Bool.Decides.{Decides-eqb}
use Rattle.std.proofs.lemmas.Option.{MatchOption-at_some}
use Rattle.std.proofs.lemmas.Slice.Eq.{slice_eq-Decides}
use Rattle.flow_check.specs.declared.node.Node.{Node}
use Rattle.flow_check.specs.Reached.{reached}
use Rattle.flow_check.specs.Tables.{nodes_of}
use Rattle.flow_check.proofs.refuting.Claim.is_node.Goals as goal

pub returns : goal.returns
returns g c = λ yes. (
  c.args.place,
  (
    reached c.in-Some.node,
    MatchOption-at_some ⊤ (λ (n : Node g.row.M.Denot). slice_get (nodes_of g.M.Machine.read c.args.self.now.table.now) c.args.place ≡ Some (reached n)) c.in-Some.node c.in-Some.is c.in_ok-found.ensures,
    c.same.ensures c.if-not-same.false,
    sym c.as_slice.ensures.value ∙ (slice_eq-Decides Decides-eqb _ _ _ c.eq-yes.ensures).0 yes ∙ c.as_slice-2.ensures.value,
  ),
)
