use Rattle.std.proofs.Common.{false, true, get_or, sym, ap, ◌∙◌, arith}
use Rattle.script_format.proofs.NameLemmas.{known-next, known-past}
use Rattle.script_format.proofs.names.Names.is_known.Goals as goal

pub returns-then-is_known : goal.returns-then-is_known
returns-then-is_known c =
    let items = c.args.self.now.flows.items in
    let here = c.names-item in
    let is = here.is ∙ ap (λ l. get_or l c.loop-names.names-index here.result) c.deref-names-items.ensures.value in
    sym (known-next c.args.name.now items c.loop-names.names-index here.result true (omega (arith, c.args.self.now.flows.ok.0)) is (sym c.is_known.ensures ∙ c.if-is_known.true)) ∙ c.loop-names.invariant

pub loop-names-preserved : goal.loop-names-preserved
loop-names-preserved c =
    let items = c.args.self.now.flows.items in
    let here = c.names-item in
    let is = here.is ∙ ap (λ l. get_or l c.loop-names.names-index here.result) c.deref-names-items.ensures.value in
    sym (known-next c.args.name.now items c.loop-names.names-index here.result false (omega (arith, c.args.self.now.flows.ok.0)) is (sym c.is_known.ensures ∙ c.if-is_known.false)) ∙ c.loop-names.invariant

pub returns : goal.returns
returns c = sym (known-past c.args.name.now c.args.self.now.flows.items c.loop-names.names-index (omega (arith, c.args.self.now.flows.ok.0))) ∙ c.loop-names.invariant
