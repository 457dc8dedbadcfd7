use Rattle.std.proofs.Common.{◌≡◌, ℕ, List, take, drop, Some, sym, ap, ◌∙◌, subst}
use Rattle.std.specs.Prelude.{slice_get}
use Rattle.flow_check.specs.Reached.{reached}
use Rattle.flow_check.specs.Tables.{Packed, nodes_of}
use Rattle.flow_check.proofs.Packing.{node_there, same_node}
use Rattle.flow_check.proofs.table.Table.at.Goals as goal

pub returns : goal.returns
returns g c =
    let begins : slice_get c.self.inside.begins.items c.args.place ≡ Some c.in-Some.begin =
    sym (c.begin_at.ensures ∙ ap (λ (bs : List ℕ). slice_get bs c.args.place) c.as_slice.ensures.value) ∙ c.in-Some.is in
    let row : c.words_from-row.result.now ≡ drop c.in-Some.begin c.self.inside.words.items =
    c.words_from-row.ensures ∙ ap (drop c.in-Some.begin) c.as_slice-2.ensures.value in
    let state : c.in_ok-state.state ≡ g.M.Machine.read c.self.inside.first (drop c.self.inside.callers (drop c.in-Some.begin c.self.inside.words.items)) =
    c.in_ok-state.ensures ∙ ap (g.M.Machine.read c.self.inside.first) (c.words_from.ensures ∙ ap (drop c.self.inside.callers) row) in
    let placed : c.in_ok-placed.placed.items ≡ take c.self.inside.callers (drop c.in-Some.begin c.self.inside.words.items) =
    c.in_ok-placed.ensures.items ∙ c.words_before.ensures ∙ ap (take c.self.inside.callers) row in
    subst (λ (t : Packed g.row.M.Denot). slice_get (nodes_of g.M.Machine.read t) c.args.place ≡ Some (reached (record { state = c.in_ok-state.state; placed = c.in_ok-placed.placed }))) c.self.view_is (
    node_there g.M.Machine.read c.self.inside.first c.self.inside.callers c.self.inside.words.items c.self.inside.begins.items c.args.place c.in-Some.begin begins
    ∙ same_node g.M.Machine.read c.self.inside.first c.self.inside.callers (drop c.in-Some.begin c.self.inside.words.items) c.in_ok-state.state c.in_ok-placed.placed.items state placed)
