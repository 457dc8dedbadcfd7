-- When a table of nodes shows that no order of steps goes through a record. Begin with `IsClosedTable`.
-- No public clause cites this module.
use Rattle.std.specs.Prelude.{◌≡◌, ◌⊎◌, ℕ, Bool, true, List, take, drop, map, slice_get, Option, Some, IsSome}
use Rattle.flow_check.specs.declared.timed.Timed.{Timed}
use Rattle.flow_check.specs.Records.{CallsByCaller}
use Rattle.flow_check.specs.Remaining.{placing, next_call_of, MayComeNext, OwesNothing, IsStep}
use Rattle.flow_check.specs.Reached.{Reached}
use Rattle.flow_check.specs.Settling.{Settles}
use Rattle.flow_check.specs.Twins.{HasEarlierTwin}

-- The nodes of a table as words, and a state of the flow with which others are read. The words of a node begin with the counts of
-- calls; other words may follow those of the node.
pub record Packed (S : Type 0) : Type 0 where
  pub first : S
  pub callers : ℕ
  pub rows : List (List ℕ)

-- `read first words` is the state that words encode
module _ {S : Type 0} (read : S → List ℕ → S) where
  -- the node that words encode
  abbrev pub node_of : S → ℕ → List ℕ → Reached S
  node_of first callers words = record { state = read first (drop callers words); placed = take callers words }

  -- the nodes of a table
  abbrev pub nodes_of : Packed S → List (Reached S)
  nodes_of table = map (node_of table.first table.callers) table.rows

-- some node has this state and these counts of calls
abbrev pub IsInTable : {S : Type 0} → List (Reached S) → S → List ℕ → Type 0
IsInTable {S} nodes s placed = (k : ℕ) × ((n : Reached S) × (slice_get nodes k ≡ Some n) × (n.state ≡ s) × (n.placed ≡ placed))

module _ {S C : Type 0} (stepped : S → ℕ → C → Option S) (may_skip is_private : C → Bool) (callers : CallsByCaller C) (nodes : List (Reached S)) where
  -- after some private calls this state with these counts of calls is in the table
  abbrev pub SettlesInTable : S → List ℕ → Type 0
  SettlesInTable s placed = (m : Reached S) × Settles stepped is_private callers (record { state = s; placed = placed }) m × IsInTable nodes m.state m.placed

  -- if this caller's next call may happen, the table has the nodes that follow, after private calls
  abbrev pub IsFollowedAt : Reached S → ℕ → Type 0
  IsFollowedAt n caller = (c : Timed C) (after : S) → next_call_of callers n.placed caller ≡ Some c → MayComeNext callers n.placed c
      → IsStep stepped may_skip n.state caller c.call after → SettlesInTable after (placing caller n.placed)

  -- `Swapped` says when two calls may be swapped
  module _ (Swapped : ℕ → ℕ → C → C → S → S → Type 0) where
    -- some caller's call comes before this caller's, or the table has what follows this one's
    abbrev pub IsCovered : Reached S → ℕ → Type 0
    IsCovered n caller = HasEarlierTwin stepped may_skip Swapped callers n.state n.placed caller ⊎ IsFollowedAt n caller

    -- each step that may come next leads to nodes of the table
    abbrev pub IsFollowed : Reached S → Type 0
    IsFollowed n = (caller : ℕ) → IsCovered n caller

    -- the table has the nodes that follow each of its nodes, and none of them is an end
    abbrev pub IsClosedTable : Type 0
    IsClosedTable = (k : ℕ) (n : Reached S) → slice_get nodes k ≡ Some n → IsFollowed n × (OwesNothing callers n.placed → ⊥)
