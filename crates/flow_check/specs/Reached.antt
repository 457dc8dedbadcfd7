-- The nodes of a search. No public clause cites this module.
use Rattle.std.specs.Prelude.{ℕ, List}
use Rattle.flow_check.specs.declared.node.Node.{Node}

-- a state, and how many calls of each caller have happened in it
pub record Reached (S : Type 0) : Type 0 where
  pub state : S
  pub placed : List ℕ

-- the state and the counts of a node
abbrev pub reached : {S : Type 0} → Node S → Reached S
reached n = record { state = n.state; placed = n.placed.items }
