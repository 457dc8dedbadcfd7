-- Each arm passes on the clause of its state. The item is kept as 64 bits, and reads back as itself.
use Rattle.std.proofs.Common.{to_z-of_z}
use Rattle.flow_cold.proofs.script_chain.operator.Operator.on_item.Goals as goal

-- the clause `gives`
pub returns-in-Transform-clause-gives : goal.returns-in-Transform-clause-gives
returns-in-Transform-clause-gives c = λ r. rw c.in-Transform.is (simp (to_z-of_z, c.ranges.item) at (c.on_item.ensures.gives r))

pub returns-in-Take-clause-gives : goal.returns-in-Take-clause-gives
returns-in-Take-clause-gives c = λ r. rw (c.in-Take.is, c.on_item-in-Take.ensures.held) (simp (to_z-of_z, c.ranges.item) at (c.on_item-in-Take.ensures.gives r))

pub returns-in-DropFirst-clause-gives : goal.returns-in-DropFirst-clause-gives
returns-in-DropFirst-clause-gives c = λ r. rw (c.in-DropFirst.is, c.on_item-in-DropFirst.ensures.held) (simp (to_z-of_z, c.ranges.item) at (c.on_item-in-DropFirst.ensures.gives r))

pub returns-in-DropWhile-clause-gives : goal.returns-in-DropWhile-clause-gives
returns-in-DropWhile-clause-gives c = λ r. rw (c.in-DropWhile.is, c.on_item-in-DropWhile.ensures.held) (simp (to_z-of_z, c.ranges.item) at (c.on_item-in-DropWhile.ensures.gives r))

pub returns-in-Scan-clause-gives : goal.returns-in-Scan-clause-gives
returns-in-Scan-clause-gives c = λ r. rw (c.in-Scan.is, c.on_item-in-Scan.ensures.held) (simp (to_z-of_z, c.ranges.item) at (c.on_item-in-Scan.ensures.gives r))

pub returns-in-RunningReduce-clause-gives : goal.returns-in-RunningReduce-clause-gives
returns-in-RunningReduce-clause-gives c = λ r. rw (c.in-RunningReduce.is, c.on_item-in-RunningReduce.ensures.held) (simp (to_z-of_z, c.ranges.item) at (c.on_item-in-RunningReduce.ensures.gives r))

pub returns-in-FlatMapRange-clause-gives : goal.returns-in-FlatMapRange-clause-gives
returns-in-FlatMapRange-clause-gives c = λ r. rw c.in-FlatMapRange.is (simp (to_z-of_z, c.ranges.item) at (c.on_item-in-FlatMapRange.ensures.gives r))

pub returns-in-FlatMapRepeat-clause-gives : goal.returns-in-FlatMapRepeat-clause-gives
returns-in-FlatMapRepeat-clause-gives c = λ r. rw (c.in-FlatMapRepeat.is, c.on_item-in-FlatMapRepeat.ensures.held) (simp (to_z-of_z, c.ranges.item) at (c.on_item-in-FlatMapRepeat.ensures.gives r))

pub returns-in-Distinct-clause-gives : goal.returns-in-Distinct-clause-gives
returns-in-Distinct-clause-gives c = λ r. rw (c.in-Distinct.is, c.on_item-in-Distinct.ensures.held) (simp (to_z-of_z, c.ranges.item) at (c.on_item-in-Distinct.ensures.gives r))

-- the clause `behind`
pub returns-in-Transform-clause-behind : goal.returns-in-Transform-clause-behind
returns-in-Transform-clause-behind c = λ r. rw c.in-Transform.is (simp (to_z-of_z, c.ranges.item) at (c.on_item.ensures.behind r))

pub returns-in-Take-clause-behind : goal.returns-in-Take-clause-behind
returns-in-Take-clause-behind c = λ r. rw c.in-Take.is (c.on_item-in-Take.ensures.leaves r _)

pub returns-in-DropFirst-clause-behind : goal.returns-in-DropFirst-clause-behind
returns-in-DropFirst-clause-behind c = λ r. rw (c.in-DropFirst.is, c.on_item-in-DropFirst.ensures.held) (simp (to_z-of_z, c.ranges.item) at (c.on_item-in-DropFirst.ensures.behind r))

pub returns-in-DropWhile-clause-behind : goal.returns-in-DropWhile-clause-behind
returns-in-DropWhile-clause-behind c = λ r. rw (c.in-DropWhile.is, c.on_item-in-DropWhile.ensures.held) (simp (to_z-of_z, c.ranges.item) at (c.on_item-in-DropWhile.ensures.behind r))

pub returns-in-Scan-clause-behind : goal.returns-in-Scan-clause-behind
returns-in-Scan-clause-behind c = λ r. rw c.in-Scan.is (c.on_item-in-Scan.ensures.leaves r _)

pub returns-in-RunningReduce-clause-behind : goal.returns-in-RunningReduce-clause-behind
returns-in-RunningReduce-clause-behind c = λ r. rw c.in-RunningReduce.is (c.on_item-in-RunningReduce.ensures.leaves r _)

pub returns-in-FlatMapRange-clause-behind : goal.returns-in-FlatMapRange-clause-behind
returns-in-FlatMapRange-clause-behind c = λ r. rw c.in-FlatMapRange.is (simp (to_z-of_z, c.ranges.item) at (c.on_item-in-FlatMapRange.ensures.behind r))

pub returns-in-FlatMapRepeat-clause-behind : goal.returns-in-FlatMapRepeat-clause-behind
returns-in-FlatMapRepeat-clause-behind c = λ r. rw (c.in-FlatMapRepeat.is, c.on_item-in-FlatMapRepeat.ensures.held) (simp (to_z-of_z, c.ranges.item) at (c.on_item-in-FlatMapRepeat.ensures.behind r))

pub returns-in-Distinct-clause-behind : goal.returns-in-Distinct-clause-behind
returns-in-Distinct-clause-behind c = λ r. rw (c.in-Distinct.is, c.on_item-in-Distinct.ensures.held) (simp (to_z-of_z, c.ranges.item) at (c.on_item-in-Distinct.ensures.behind r))
