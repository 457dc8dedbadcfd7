-- What loops over callers and over nodes keep.
use Rattle.std.specs.Prelude.{◌≡◌, ℕ, suc, ◌+◌, ◌<◌, ◌≤◌, Bool, true, false, not, is_some, IsSome, List, ◌∷◌, length, map, slice_get, Option, Some, None, IfSome, ⊤, Vec}
use Rattle.std.specs.declared.alloc.Global.{Global}
use Rattle.std.proofs.Common.{refl, sym, ap, ◌∙◌, subst, inl, inr, drop, get_or, drop-cons, add-one, below_more, arith}
use Rattle.std.proofs.lemmas.Bool.{false≢true}
use Rattle.std.proofs.lemmas.Bool.Decides.{leb_tells}
use Rattle.std.proofs.lemmas.Option.{slice_get_within, same_Some, MatchOption-at_some}
use Rattle.flow_check.specs.declared.timed.Timed.{Timed}
use Rattle.flow_check.specs.declared.node.Move.{Move}
use Rattle.flow_check.specs.Remaining.{next_at, next_call_of, MayComeNext, OwesNothing, placing, IsStep, GoesThrough}
use Rattle.flow_check.specs.Records.{CallsByCaller, recorded, call_in, count_in, is_over_before}
use Rattle.flow_check.specs.Reached.{Reached}
use Rattle.flow_check.specs.Tables.{SettlesInTable, IsFollowedAt, IsCovered, IsFollowed, IsClosedTable}

called_in : {C : Type 0} (o : Option (Vec (Timed C) Global)) (k : ℕ) (d : Timed C) → call_in o k ≡ Some d → (calls : Vec (Timed C) Global) × (o ≡ Some calls) × (slice_get calls.items k ≡ Some d)
called_in (Some calls) k d h = (calls, refl, h)
called_in None k d h = absurd (cc)

pub recorded_below : {C : Type 0} (o : Option (Vec (Timed C) Global)) (k : ℕ) (d : Timed C) → call_in o k ≡ Some d → k < count_in o
recorded_below (Some calls) k d h = slice_get_within calls.items k d h
recorded_below None k d h = absurd (cc)

module _ {C : Type 0} (callers : CallsByCaller C) where
  -- a recorded call is one of a caller
  pub recorded_within : (caller k : ℕ) (d : Timed C) → recorded callers caller k ≡ Some d → caller < length callers
  recorded_within caller k d h =
      let found = called_in (slice_get callers caller) k d h in slice_get_within callers caller found.0 found.1

  pub placed_at : (caller : ℕ) (o : Option ℕ) (d : Timed C) → next_at callers caller o ≡ Some d → (k : ℕ) × (o ≡ Some k) × (recorded callers caller k ≡ Some d)
  placed_at caller (Some k) d h = (k, refl, h)
  placed_at caller None d h = absurd (cc)

  pub next_within : (placed : List ℕ) (caller : ℕ) (d : Timed C) → next_call_of callers placed caller ≡ Some d → caller < length callers
  next_within placed caller d h = let found = placed_at caller (slice_get placed caller) d h in recorded_within caller found.0 d found.2

  abbrev pub NoneOverBelow : ℕ → ℕ → List ℕ → Type 0
  NoneOverBelow bound moment placed = (other : ℕ) (d : Timed C) → other < bound → next_call_of callers placed other ≡ Some d → is_over_before d.end moment ≡ false

  abbrev pub OwesNothingBelow : ℕ → List ℕ → Type 0
  OwesNothingBelow bound placed = (caller : ℕ) (d : Timed C) → caller < bound → next_call_of callers placed caller ≡ Some d → d.end ≡ None

module _ {S C : Type 0} (stepped : S → ℕ → C → Option S) (may_skip is_private : C → Bool) (callers : CallsByCaller C) (nodes : List (Reached S)) where
  abbrev Settles_in : S → List ℕ → Type 0
  Settles_in = SettlesInTable stepped may_skip is_private callers nodes

  -- the table has what follows if the caller's next call is made, and if it is skipped
  pub followed_at : (n : Reached S) (caller : ℕ) (c : Timed C) → next_call_of callers n.placed caller ≡ Some c
      → ((after : S) → stepped n.state caller c.call ≡ Some after → Settles_in after (placing caller n.placed))
      → (may_skip c.call ≡ true → Settles_in n.state (placing caller n.placed)) → IsFollowedAt stepped may_skip is_private callers nodes n caller
  followed_at n caller c e made skipped = λ d t e' m step.
      let is = same_Some c d (sym e ∙ e') in elim step [
        | inl f ↦ made t (ap (λ (x : Timed C). stepped n.state caller x.call) is ∙ f)
        | inr f ↦ subst (λ (x : S). Settles_in x (placing caller n.placed)) (sym f.1) (skipped (ap (λ (x : Timed C). may_skip x.call) is ∙ f.0))
      ]

  module _ (Swapped : ℕ → ℕ → C → C → S → S → Type 0) where
    abbrev pub IsCoveredBelow : ℕ → Reached S → Type 0
    IsCoveredBelow bound n = (caller : ℕ) → caller < bound → IsCovered stepped may_skip is_private callers nodes Swapped n caller

    abbrev pub IsClosedBelow : ℕ → Type 0
    IsClosedBelow bound = (k : ℕ) → k < bound → (n : Reached S) → slice_get nodes k ≡ Some n → IsFollowed stepped may_skip is_private callers nodes Swapped n × (OwesNothing callers n.placed → ⊥)

    -- beyond the last caller there is no call
    pub all_covered : (n : Reached S) (bound : ℕ) → length callers ≤ bound → IsCoveredBelow bound n → (caller : ℕ) → IsCovered stepped may_skip is_private callers nodes Swapped n caller
    all_covered n bound upto below caller = elim (leb_tells (suc caller) bound) [
      | inl e ↦ below caller e.1
      | inr e ↦ inr (λ c after next m f.
          let near = next_within callers n.placed caller c next in
          let far = e.1 in absurd (omega arith))
    ]

    pub all_closed : (bound : ℕ) → length nodes ≤ bound → IsClosedBelow bound → IsClosedTable stepped may_skip is_private callers nodes Swapped
    all_closed bound upto below = λ k n e.
        let near = slice_get_within nodes k n e in
        let low : k < bound = omega arith in below k low n e

    pub closed_more : (k : ℕ) (n : Reached S) → IsClosedBelow k → slice_get nodes k ≡ Some n → IsFollowed stepped may_skip is_private callers nodes Swapped n × (OwesNothing callers n.placed → ⊥) → IsClosedBelow (k + 1)
    closed_more k n below e here = below_more _ _ below (λ m e'.
        subst (λ (x : Reached S). IsFollowed stepped may_skip is_private callers nodes Swapped x × (OwesNothing callers x.placed → ⊥)) (same_Some n m (sym e ∙ e')) here)

module _ {S C : Type 0} (stepped : S → ℕ → C → Option S) (may_skip : C → Bool) (callers : CallsByCaller C) where
  pub explain_more : (s after : S) (placed later order rest : List ℕ) (caller : ℕ) (c : Timed C) → order ≡ caller ∷ rest
      → next_call_of callers placed caller ≡ Some c → MayComeNext callers placed c → IsStep stepped may_skip s caller c.call after → later ≡ placing caller placed
      → GoesThrough stepped may_skip callers after later rest → GoesThrough stepped may_skip callers s placed order
  explain_more s after placed later order rest caller c e next may step grown goes =
      subst (λ (o : List ℕ). GoesThrough stepped may_skip callers s placed o) (sym e)
      (c, next, may, (after, step, subst (λ (p : List ℕ). GoesThrough stepped may_skip callers after p rest) grown goes))

-- what a clause says of the state after a turn, of that state
pub step_of : {S C : Type 0} (stepped : S → ℕ → C → Option S) (may_skip : C → Bool) (s next : S) (caller : ℕ) (c : C) (o : Option S) → o ≡ Some next
    → IfSome o (IsStep stepped may_skip s caller c) → IsStep stepped may_skip s caller c next
step_of stepped may_skip s next caller c o e h = MatchOption-at_some ⊤ (IsStep stepped may_skip s caller c) next e h

move_here : (order : List Move) (i : ℕ) (turn : Move) → i < length order → drop i order ≡ get_or order i turn ∷ drop (i + 1) order
move_here order i turn h = rw (add-one, drop-cons order i turn)

-- the caller of a turn
abbrev pub caller_of : Move → ℕ
caller_of turn = turn.caller

pub map_here : (order : List Move) (i : ℕ) (turn : Move) → i < length order → map caller_of (drop i order) ≡ (get_or order i turn).caller ∷ map caller_of (drop (i + 1) order)
map_here order i turn h = ap (map caller_of) (move_here order i turn h)

-- what is not missing is there
pub not_none : (o : Option ℕ) (none : Bool) → is_some o ≡ not none → none ≡ false → IsSome o
not_none (Some x) none e f = refl
not_none None none e f = absurd (false≢true (e ∙ ap not f))
