use Rattle.std.proofs.Common.{None, Some, ap}
use Rattle.std.specs.Str.{bytes_eq}
use Rattle.script_chain_format.specs.declared.reading.fault.ScriptFault.TheVariants.{UnknownName}
use Rattle.script_chain_format.specs.Results.{or_fault}
use Rattle.script_format.proofs.NameLemmas.{position-found}
use Rattle.script_format.proofs.names.place_in.Goals as goal

pub returns-in-Some : goal.returns-in-Some
returns-in-Some c =
    ap (or_fault (UnknownName c.args.at)) (position-found (λ known. bytes_eq c.args.name.now known) (λ k. k.now) c.args.names.now.keys (Some c.in-Some.place) c.in-Some.ensures.index)

pub returns-in-None : goal.returns-in-None
returns-in-None c = ap (or_fault (UnknownName c.args.at)) (position-found (λ known. bytes_eq c.args.name.now known) (λ k. k.now) c.args.names.now.keys None c.in-None.ensures.index)
