use Rattle.std.proofs.Common.{Ok, sym, ap, ◌∙◌}
use Rattle.script_format.specs.Actions.{named_head, heads_of}
use Rattle.script_format.proofs.NameLemmas.{map-snoc}
use Rattle.script_format.proofs.read_flows.pushed.Goals as goal

pub returns : goal.returns
returns c = ap Ok (sym (ap heads_of c.in_ok-push.ensures.items ∙ map-snoc named_head c.args.flows.items c.args.flow))
