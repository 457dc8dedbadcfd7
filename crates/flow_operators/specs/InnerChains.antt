-- The open inner chain of a `flatMapConcat`. It has the reading of the item that the closure made it of.
use Rattle.flow_law.specs.chain.ChainRun.{ChainRun}
use Rattle.flow_operators.specs.declared.operators.flat_map_concat.InnerChain.{InnerChain}

module _ {A D : Type 0} where
  -- the inner chain itself
  abbrev pub inner_chain : InnerChain A D → D
  inner_chain inner = inner.chain

  -- it has the reading that `readings` gives for its item
  abbrev pub ReadsByItem : {R : Type 0} → (D → R → Type 0) → (A → R) → InnerChain A D → Type 0
  ReadsByItem reads readings inner = reads inner.chain (readings inner.item.value)

  -- its rest, by that reading
  abbrev pub rest_by_item : {R T : Type 0} → (D → R → ChainRun T) → (A → R) → InnerChain A D → ChainRun T
  rest_by_item rest readings inner = rest inner.chain (readings inner.item.value)
