use Rattle.std.proofs.Common.{ap, ◌∙◌}
use Rattle.std.specs.Prelude.{codes, option_map}
use Rattle.serde_json.specs.View.{view}
use Rattle.script_chain_format.specs.Members.{u32_at}
use Rattle.script_format.specs.HeadViews.{parts_with, shared_parts_of}
use Rattle.script_format.proofs.ReadLemmas.{no-parts, no-key, parts-and-key}
use Rattle.script_format.proofs.read_share.share_parts.Goals as goal

pub returns-in_err-shared : goal.returns-in_err-shared
returns-in_err-shared c = ap (option_map parts_with) c.from_residual.ensures ∙ no-parts _ (u32_at (codes "replay") (view c.args.flow.now)) c.in_err-shared.ensures

pub returns-in_err-replay : goal.returns-in_err-replay
returns-in_err-replay c = ap (option_map parts_with) c.from_residual-in_err-replay.ensures ∙ no-key _ _ (shared_parts_of c.in_ok-shared.shared) c.in_ok-shared.ensures c.in_err-replay.ensures

pub returns : goal.returns
returns c = parts-and-key _ _ (shared_parts_of c.in_ok-shared.shared) c.in_ok-replay.replay c.in_ok-shared.ensures c.in_ok-replay.ensures
