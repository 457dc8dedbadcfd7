-- From no node of a closed table does an order go through the rest. Begin with `none_goes`.
use Rattle.std.proofs.Common.{◌≡◌, ℕ, suc, zero, ◌≤◌, Bool, List, [], ◌∷◌, length, Option, Some, sym, subst, inl, inr, arith}
use Rattle.flow_check.specs.declared.timed.Timed.{Timed}
use Rattle.flow_check.specs.Records.{CallsByCaller, IsWellTimed}
use Rattle.flow_check.specs.Remaining.{placing, next_call_of, MayComeNext, OwesNothing, IsStep, GoesThrough}
use Rattle.flow_check.specs.Looks.{IsKept}
use Rattle.flow_check.specs.PrivateCalls.{ArePrivate}
use Rattle.flow_check.specs.Reached.{Reached}
use Rattle.flow_check.specs.Settling.{SettlesIn}
use Rattle.flow_check.specs.Twins.{KeepSwapped}
use Rattle.flow_check.specs.Tables.{IsInTable, SettlesInTable, IsFollowedAt, IsClosedTable}
use Rattle.flow_check.proofs.Exchanging.{begins_free}
use Rattle.flow_check.proofs.Leaving.{make_first, sound_after}

module _ {S C : Type 0} (stepped : S → ℕ → C → Option S) (may_skip is_private : C → Bool) (IsSound : S → Type 0) (kept : IsKept stepped IsSound) (Ahead : ℕ → C → S → S → Type 0)
    (private_calls : ArePrivate stepped may_skip IsSound is_private Ahead)
    (Swapped : ℕ → ℕ → C → C → S → S → Type 0) (swaps : KeepSwapped stepped may_skip Swapped)
    (callers : CallsByCaller C) (well : IsWellTimed callers) (nodes : List (Reached S)) (closed : IsClosedTable stepped may_skip is_private callers nodes Swapped) where
  abbrev Goes : S → List ℕ → List ℕ → Type 0
  Goes = GoesThrough stepped may_skip callers

  abbrev Settled : S → List ℕ → Type 0
  Settled = SettlesInTable stepped may_skip is_private callers nodes

  -- from this node an order of no more turns goes through the rest
  abbrev GoesFrom : Reached S → List ℕ → Type 0
  GoesFrom m order = IsSound m.state × ((less : List ℕ) × (length less ≤ length order) × Goes m.state m.placed less)

  -- private calls can be made first
  settles : (count : ℕ) (n m : Reached S) (order : List ℕ) → IsSound n.state → SettlesIn stepped is_private callers count n m → Goes n.state n.placed order → GoesFrom m order
  settles zero n m order sound is h = subst (λ (x : Reached S). GoesFrom x order) (sym is) (sound, (order, omega arith, h))
  settles (suc count) n m order sound is h =
      let before = settles count n is.0 order sound is.1 h in
      let i = is.2.0 in
      let made = is.2.1 in
      let c = made.0 in
      let ahead = private_calls.begins is.0.state m.state i c.call before.0 made.3 made.4 in
      let less = make_first stepped may_skip is_private IsSound kept Ahead private_calls callers well i c before.1.0 is.0.placed is.0.state m.state made.3 made.2 before.0 ahead made.1 before.1.2 in
      let some = before.1.1 in
      let one = less.1 in
      (kept is.0.state m.state i c.call before.0 made.4, (less.0, omega arith, subst (λ (p : List ℕ). Goes m.state p less.0) (sym made.5) less.2))

  -- no order of at most `most` turns goes through the rest
  none_within : (most : ℕ) (order : List ℕ) (s : S) (placed : List ℕ) → length order ≤ most → IsSound s → IsInTable nodes s placed → Goes s placed order → ⊥
  none_within most [] s placed fits sound found h = (closed found.0 found.1.0 found.1.1).1 (subst (λ (p : List ℕ). OwesNothing callers p) (sym found.1.3) h)
  none_within zero (caller ∷ order) s placed fits sound found h = absurd (omega arith)
  none_within (suc most) (caller ∷ order) s placed fits sound found h =
      let n = found.1.0 in
      let here = subst (λ (t : S). Goes t n.placed (caller ∷ order)) (sym found.1.2) (subst (λ (p : List ℕ). Goes s p (caller ∷ order)) (sym found.1.3) h) in
      let free = begins_free stepped may_skip Swapped swaps callers well n.state n.placed (IsFollowedAt stepped may_skip is_private callers nodes n) (closed found.0 n found.1.1).0 caller order here in
      let first = free.0 in
      let goes = free.2.2 in
      let next = goes.3.0 in
      let there = free.1 goes.0 next goes.1 goes.2 goes.3.1 in
      let own = subst IsSound (sym found.1.2) sound in
      let after = sound_after stepped may_skip is_private IsSound kept Ahead private_calls n.state next first goes.0.call own goes.3.1 in
      let m = there.0 in
      let less = settles there.1.0 (record { state = next; placed = placing first n.placed }) m free.2.0 after there.1.1 goes.3.2 in
      let as_many = free.2.1 in
      let no_more = less.1.1 in
      none_within most less.1.0 m.state m.placed (omega arith) less.0 there.2 less.1.2

  -- nor from a state that private calls lead to the table
  pub none_goes : (order : List ℕ) (s : S) (placed : List ℕ) → IsSound s → Settled s placed → Goes s placed order → ⊥
  none_goes order s placed sound found h =
      let less = settles found.1.0 (record { state = s; placed = placed }) found.0 order sound found.1.1 h in
      none_within (length less.1.0) less.1.0 found.0.state found.0.placed (omega arith) less.0 found.2 less.1.2
