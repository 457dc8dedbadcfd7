-- Which private calls a checker makes before it looks a node up. Begin with `Settles`. No public clause cites this module.
use Rattle.std.specs.Prelude.{◌≡◌, ℕ, zero, suc, Bool, true, Option, Some, IsSome}
use Rattle.flow_check.specs.declared.timed.Timed.{Timed}
use Rattle.flow_check.specs.Records.{CallsByCaller}
use Rattle.flow_check.specs.Remaining.{placing, next_call_of}
use Rattle.flow_check.specs.Reached.{Reached}

module _ {S C : Type 0} (stepped : S → ℕ → C → Option S) (is_private : C → Bool) (callers : CallsByCaller C) where
  -- this caller's next call at n is a private one that ended, and m is the node that follows if it is made
  abbrev pub MakesPrivate : ℕ → Reached S → Reached S → Type 0
  MakesPrivate caller n m = (c : Timed C) × (next_call_of callers n.placed caller ≡ Some c) × IsSome c.end × (is_private c.call ≡ true)
      × (stepped n.state caller c.call ≡ Some m.state) × (m.placed ≡ placing caller n.placed)

  -- m is the node n after so many private calls
  abbrev pub SettlesIn : ℕ → Reached S → Reached S → Type 0
  SettlesIn zero n m = m ≡ n
  SettlesIn (suc count) n m = (between : Reached S) × SettlesIn count n between × ((caller : ℕ) × MakesPrivate caller between m)

  -- m is the node n after some private calls
  abbrev pub Settles : Reached S → Reached S → Type 0
  Settles n m = (count : ℕ) × SettlesIn count n m
