use Rattle.std.proofs.Common.{ap, string_bytes}
use Rattle.std.specs.Prelude.{option_map}
use Rattle.script_format.specs.Actions.{named_head}
use Rattle.flow_script.specs.Said.{all_not_made}
use Rattle.flow_script.proofs.row.add_flow.Goals as goal

pub returns-in-Ok-clause-adds : goal.returns-in-Ok-clause-adds
returns-in-Ok-clause-adds c = c.add_made.ensures.adds (named_head c.args.named) (all_not_made c.args.not_made.now.items) c.in-Ok.ensures

pub returns-in-Some-clause-adds : goal.returns-in-Some-clause-adds
returns-in-Some-clause-adds c =
    c.add_not_made.ensures.adds (named_head c.args.named) (ap (option_map string_bytes) c.in-Some.is) c.in-Err.ensures

pub returns-in-None-clause-adds : goal.returns-in-None-clause-adds
returns-in-None-clause-adds c =
    c.end_not_made.ensures.ends (named_head c.args.named) c.args.row.now.items (ap (option_map string_bytes) c.in-None.is) c.in-Err.ensures
