use Rattle.std.proofs.Common.{sym, ◌∙◌, arith}
use Rattle.script_format.specs.Checks.{naming_emission}
use Rattle.script_format.proofs.NameLemmas.{added-at, unknown-at}
use Rattle.script_format.proofs.names.Names.add_emission.Goals as goal

pub add_emission-requires : goal.add_emission-requires
add_emission-requires c =
    unknown-at c.args.name.now c.args.self.now.flows.items c.args.flow c.index_mut.result.now (omega (arith, c.args.self.now.flows.ok.0)) c.index_mut.ensures.value (sym c.is_known.ensures ∙ c.if-is_known.false)

pub returns-in_ok-add_emission : goal.returns-in_ok-add_emission
returns-in_ok-add_emission c =
    added-at (naming_emission c.args.name.now) c.args.at c.args.name.now c.args.self.now.flows.items c.args.flow c.index_mut.result.now c.add_emission.new.self
    (sym c.is_known.ensures ∙ c.if-is_known.false) (omega (arith, c.args.self.now.flows.ok.0)) c.index_mut.ensures.value c.in_ok-add_emission.ensures.added
