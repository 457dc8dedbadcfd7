-- What one token has done itself, among all that it has seen.
-- Begin with `Made`: what any number of its calls add to that.
use Rattle.std.specs.Prelude.{◌≡◌, ℕ, ◌+◌, nat_eq, Bool, List, [], ◌∷◌, ◌++◌, if◌then◌else◌}
use Rattle.flow_law.specs.declared.history.HistoryEvent.{HistoryEvent}
use Rattle.flow_law.specs.declared.history.Knowledge.{Knowledge}
use Rattle.flow_law.specs.flow.Values.{is_same_list}

-- two names are the same
abbrev pub is_same_name : List ℕ → List ℕ → Bool
is_same_name = is_same_list nat_eq

-- the sum of f over a list
abbrev pub total : {X : Type 0} → (X → ℕ) → List X → ℕ
total f [] = 0
total f (x ∷ xs) = f x + total f xs

module _ {E : Type 0} where
  -- what the events of this name say, in their order
  abbrev pub said_by : List ℕ → List (HistoryEvent E) → List E
  said_by name [] = []
  said_by name (e ∷ es) = if is_same_name name e.name then e.what ∷ said_by name es else said_by name es

  -- what the token has done
  abbrev pub done_by : Knowledge E → List E
  done_by k = said_by k.name k.seen

  -- the later history begins with the earlier one
  abbrev pub Extends : List (HistoryEvent E) → List (HistoryEvent E) → Type 0
  Extends earlier later = (more : List (HistoryEvent E)) × (later ≡ earlier ++ more)

  -- The token has since made just these calls, in this order, and no seat was made through it.
  pub record Made (added : List E) (before after : Knowledge E) : Type 0 where
    pub name : after.name ≡ before.name
    pub made : after.made ≡ before.made
    pub grows : Extends before.seen after.seen
    pub done : done_by after ≡ done_by before ++ added
