use Rattle.std.proofs.Common.{rules, ◌≡◌, w64, Some, ap, ◌∙◌}
use Rattle.std.proofs.Math.Facts.{to_z-of_z}
use mir.Val.{to_z, of_z}
use Rattle.std.specs.Prelude.{codes, option_map}
use Rattle.serde_json.specs.View.{view}
use Rattle.script_chain_format.specs.Members.{i64_at}
use Rattle.script_format.specs.HeadViews.{parts_with, shared_parts_of}
use Rattle.script_format.proofs.ReadLemmas.{no-parts, no-key, parts-and-key}
use Rattle.script_format.proofs.read_share.state_in_parts.Goals as goal

pub returns-in_err-shared : goal.returns-in_err-shared
returns-in_err-shared c = ap (option_map parts_with) c.from_residual.ensures ∙ no-parts _ (i64_at (codes "initial") (view c.args.flow.now)) c.in_err-shared.ensures

pub returns-in_err-initial : goal.returns-in_err-initial
returns-in_err-initial c = ap (option_map parts_with) c.from_residual-in_err-initial.ensures ∙ no-key _ _ (shared_parts_of c.in_ok-shared.shared) c.in_ok-shared.ensures c.in_err-initial.ensures

pub returns : goal.returns
returns c =
    let initial = c.in_ok-initial.initial in
    let same : to_z w64 (of_z w64 initial) ≡ initial = search (rules, to_z-of_z) in
    ap (λ n. Some (shared_parts_of c.in_ok-shared.shared, n)) same ∙ parts-and-key _ _ (shared_parts_of c.in_ok-shared.shared) initial c.in_ok-shared.ensures c.in_ok-initial.ensures
