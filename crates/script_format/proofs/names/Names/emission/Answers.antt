use Rattle.script_format.specs.Checks.{NameLists}
use Rattle.script_format.proofs.NameLemmas.{found-there, no-names-there}
use Rattle.script_format.proofs.names.Names.emission.Goals as goal

pub returns-in-Some : goal.returns-in-Some
returns-in-Some c =
    found-there (λ (n : NameLists). n.emissions) c.args.at c.args.name.now c.args.self.now.flows.items c.deref.result.now c.args.flow c.in-Some.names.now c.place_in.result
    c.deref.ensures.value c.in-Some.ensures.lookup.0 c.in-Some.ensures.lookup.1 c.place_in.ensures

pub returns-in-None : goal.returns-in-None
returns-in-None c =
    no-names-there (λ (n : NameLists). n.emissions) c.args.at c.args.name.now c.args.self.now.flows.items c.deref.result.now c.args.flow c.deref.ensures.value c.in-None.ensures.lookup.0
