-- The rest of an operator's run, by what it keeps beside its upstream; r is the rest of the upstream.
use Rattle.std.specs.Prelude.{ℕ, Bool, true, false, cond, Option, Some, None, Result, List, [], reverse}
use Rattle.flow_law.specs.declared.chain.ChainFault.{ChainFault}
use Rattle.flow_law.specs.declared.chain.End.TheVariants.{Completed}
use Rattle.flow_law.specs.chain.ChainRun.{ChainRun, gives, ends}
use Rattle.flow_law.specs.chain.OperatorRuns.{drop_while_run, scan_run}

-- nothing if the chain has ended, else r
abbrev pub unless_ended : {T : Type 0} → Bool → ChainRun T → ChainRun T
unless_ended is_ended r = cond is_ended (ends Completed) r

-- whether a `scan` has emitted its initial value: then it has a last result
abbrev pub has_begun : {B : Type 0} → Option B → Bool
has_begun (Some last) = true
has_begun None = false

-- the rest of a `scan`, before and after it has emitted its initial value
abbrev pub scan_rest : {A B : Type 0} → (B × A → Result B ChainFault) → B → Option B → ChainRun A → ChainRun B
scan_rest f initial (Some last) r = scan_run f last r
scan_rest f initial None r = gives initial (scan_run f initial r)

-- the rest of a `dropWhile`, which drops items that pass until one fails
abbrev pub drop_while_rest : {A : Type 0} → (A → Bool) → Bool → ChainRun A → ChainRun A
drop_while_rest test is_dropping r = cond is_dropping (drop_while_run test r) r

-- the left side of a `zip`: the kept left item, if it has one, and then r
abbrev pub with_kept : {A : Type 0} → Option A → ChainRun A → ChainRun A
with_kept (Some x) r = gives x r
with_kept None r = r

-- the images that a `transform` has not emitted yet; it keeps them in reverse
abbrev pub images_left : {A V : Type 0} → (V → List A) → Option V → List A
images_left view (Some kept) = reverse (view kept)
images_left view None = []

-- the rest of the open inner chain of a `flatMapConcat`; nothing if none is open
abbrev pub inner_left : {A S : Type 0} → (S → ChainRun A) → Option S → ChainRun A
inner_left view (Some inner) = view inner
inner_left view None = ends Completed

-- how often the open inner chain can be asked
abbrev pub most_inner : {S : Type 0} → (S → ℕ) → Option S → ℕ
most_inner most (Some inner) = most inner
most_inner most None = 0
