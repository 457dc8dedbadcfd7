use Rattle.std.proofs.Common.{sym, ◌∙◌, arith}
use Rattle.script_format.specs.Checks.{naming_subscriber}
use Rattle.script_format.proofs.NameLemmas.{added-at, unknown-at}
use Rattle.script_format.proofs.names.Names.add_subscriber.Goals as goal

pub add_subscriber-requires : goal.add_subscriber-requires
add_subscriber-requires c =
    unknown-at c.args.name.now c.args.self.now.flows.items c.args.flow c.index_mut.result.now (omega (arith, c.args.self.now.flows.ok.0)) c.index_mut.ensures.value (sym c.is_known.ensures ∙ c.if-is_known.false)

pub returns-in_ok-add_subscriber : goal.returns-in_ok-add_subscriber
returns-in_ok-add_subscriber c =
    added-at (naming_subscriber c.args.name.now) c.args.at c.args.name.now c.args.self.now.flows.items c.args.flow c.index_mut.result.now c.add_subscriber.new.self
    (sym c.is_known.ensures ∙ c.if-is_known.false) (omega (arith, c.args.self.now.flows.ok.0)) c.index_mut.ensures.value c.in_ok-add_subscriber.ensures.added
