use Rattle.std.proofs.Common.{◌≡◌, ℕ, Some, Contains}
use Rattle.slab.specs.Slab.{get}
use Rattle.flow_containers.specs.declared.members.Member.{Member}
use Rattle.flow_containers.proofs.members.key_of.Given as goal

-- every entry that is left is one of the slab's, and any entry of the slab that has the number is among them
abbrev pub invariant-loop-key : goal.invariant-loop-key
invariant-loop-key g l =
    (goal.iterator-loop-key g).can_next l.key-iterator ×
    (goal.iterator-loop-key g).is_finite l.key-iterator ×
    ((key : ℕ) (member : Member g.row.R.Denot) → get l.slab key ≡ Some member → member.number ≡ l.number → Contains l.key-iterator (key, member)) ×
    ((key : ℕ) (member : Member g.row.R.Denot) → Contains l.key-iterator (key, member) → get l.slab key ≡ Some member)
