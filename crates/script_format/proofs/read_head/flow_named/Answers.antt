use Rattle.std.proofs.Common.{sym, subst}
use Rattle.serde_json.specs.View.{view}
use Rattle.script_chain_format.specs.Results.{Gives}
use Rattle.script_format.specs.Heads.{flow_named}
use Rattle.script_format.specs.HeadViews.{flow_result}
use Rattle.script_format.proofs.read_head.flow_named.Goals as goal

pub returns-in-share : goal.returns-in-share
returns-in-share c =
    subst (λ kind. Gives (flow_named c.args.version kind (view c.args.flow.now)) (flow_result c.share_in.result)) (sym c.in-share.is) c.share_in.ensures

pub returns-in-state_in : goal.returns-in-state_in
returns-in-state_in c =
    subst (λ kind. Gives (flow_named c.args.version kind (view c.args.flow.now)) (flow_result c.state_in.result)) (sym c.in-state_in.is) c.state_in.ensures
