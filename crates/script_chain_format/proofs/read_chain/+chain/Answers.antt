use Rattle.std.proofs.Common.{◌-◌, drop, ◌∙◌, ap, subst, sym, arith}
use Rattle.serde_json.specs.View.{view, items_view}
use Rattle.script_chain_format.specs.Results.{Gives}
use Rattle.script_chain_format.specs.SourceFormat.{source_in}
use Rattle.script_chain_format.specs.ChainFormat.{chain_at, operator_at, operator_in, ops_on, start_of, joined_to}
use Rattle.script_chain_format.specs.Chains.{build_of, operator_build_result}
use Rattle.script_chain_format.proofs.ChainLemmas.{operator-zip, operator-plain, chain-parts, ops-more, ops-final}
use Rattle.script_chain_format.proofs.ResultLemmas.{final-whole}
use Rattle.script_chain_format.proofs.read_chain.+chain.Goals as goal

pub operator_at-returns-in-Some : goal.operator_at-returns-in-Some
operator_at-returns-in-Some t c =
    subst (λ m. Gives m (operator_build_result c.zipped.result))
    (sym (operator-zip (chain_at c.args.version c.args.levels c.args.at) c.args.version c.args.at (view c.args.op.now) (view c.in-Some.with.now) c.in-Some.by c.in-Some.ensures))
    (c.zipped.ensures (chain_at c.args.version c.args.levels c.args.at (view c.in-Some.with.now)) c.chain_at.ensures)

pub operator_at-returns-in-None : goal.operator_at-returns-in-None
operator_at-returns-in-None t c =
    subst (λ m. Gives m (operator_build_result c.plain.result)) (sym (operator-plain (chain_at c.args.version c.args.levels c.args.at) c.args.version c.args.at (view c.args.op.now) c.in-None.ensures))
    (c.plain.ensures (operator_in c.args.version c.args.at (view c.args.op.now)) c.operator_in.ensures)

pub chain_at-loop-op-init : goal.chain_at-loop-op-init
chain_at-loop-op-init t c =
    let read = source_in c.args.at (view c.in-Some.from.now) in (
      start_of read,
      c.start_of-build.ensures read c.source_in.ensures,
      ap (λ vs. ops_on (operator_at c.args.version (c.args.levels - 1) c.args.at) (start_of read) (items_view vs)) c.deref-op-items.ensures.value
          ∙ chain-parts c.args.version c.args.levels c.args.at (view c.args.chain.now) (view c.in-Some.from.now) (items_view c.in-Some.ops.now.items) c.if-levels-eq0.false c.in-Some.ensures,
    )

pub chain_at-loop-op-preserved : goal.chain_at-loop-op-preserved
chain_at-loop-op-preserved t c =
    let before = c.loop-op.invariant in
    let read = operator_at c.args.version (c.args.levels - 1) c.args.at (view c.op-item.result) in (
      joined_to before.0 read,
      c.joined_to-build.ensures before.0 read before.1 c.operator_at-operator.ensures,
      ops-more (operator_at c.args.version (c.args.levels - 1) c.args.at) c.deref-op-items.result.now c.loop-op.op-index c.op-item.result before.0 _ (omega arith) c.op-item.is before.2,
    )

pub chain_at-returns-then-is_final : goal.chain_at-returns-then-is_final
chain_at-returns-then-is_final t c =
    let before = c.loop-op.invariant in
    let operators = operator_at c.args.version (c.args.levels - 1) c.args.at in
    let left = items_view (drop c.loop-op.op-index c.deref-op-items.result.now) in
    final-whole build_of before.0 _ c.loop-op.build before.1 (sym c.is_final.ensures ∙ c.if-is_final.true)
    (λ fault first is. sym before.2 ∙ ap (λ r. ops_on operators r left) is ∙ ops-final operators fault left first)
