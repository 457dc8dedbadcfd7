use Rattle.std.proofs.Common.{sym, subst}
use Rattle.serde_json.specs.View.{view}
use Rattle.script_chain_format.specs.Results.{Gives}
use Rattle.script_format.specs.Heads.{only_named}
use Rattle.script_format.specs.HeadViews.{flows_result}
use Rattle.script_format.proofs.read_head.only_named.Goals as goal

pub returns-in-none : goal.returns-in-none
returns-in-none c = subst (λ kind. Gives (only_named kind (view c.args.flow.now)) (flows_result c.no_flows.result)) (sym c.in-none.is) c.no_flows.ensures
