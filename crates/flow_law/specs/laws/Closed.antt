-- Closed histories: a list of tokens is known, and the history has just what each of them did.
-- Begin with `IsClosed`. `all_done` (proofs/ClosedLemmas) says what follows: what the tokens did is all that was done.
use Rattle.std.specs.Prelude.{◌≡◌, ℕ, suc, ◌+◌, ◌≤◌, ◌⊎◌, Bool, IsTrue, List, [], ◌∷◌}
use Rattle.std.specs.List.{AllByRecursion}
use Rattle.flow_law.specs.declared.history.HistoryEvent.{HistoryEvent}
use Rattle.flow_law.specs.declared.history.Knowledge.{Knowledge}
use Rattle.flow_law.specs.history.Growth.{child_name, NamesOnlyMade, knowledge, child}
use Rattle.flow_law.specs.history.Done.{total, said_by, done_by}

module _ {E : Type 0} where
  -- ---- the tokens

  -- one of the tokens has the name
  abbrev pub HasName : List ℕ → List (Knowledge E) → Type 0
  HasName name [] = ⊥
  HasName name (k ∷ ks) = (k.name ≡ name) ⊎ HasName name ks

  -- no two of the tokens have the same name
  abbrev pub AreApart : List (Knowledge E) → Type 0
  AreApart [] = Unit {0}
  AreApart (k ∷ ks) = (HasName k.name ks → ⊥) × AreApart ks

  -- each seat that was made through the token is one of these
  abbrev pub HasChildren : List (Knowledge E) → Knowledge E → Type 0
  HasChildren ks k = (j : ℕ) → 1 ≤ j → j ≤ k.made → HasName (child_name k.name j) ks

  -- These are all tokens of a flow: the first seat, and with each token every seat that was made through it.
  pub record AreAll (ks : List (Knowledge E)) : Type 0 where
    pub first : HasName [] ks
    pub children : AllByRecursion (HasChildren ks) ks
    pub apart : AreApart ks

  -- ---- what they did

  -- In this history the token has done just what it knows that it did, and the history keeps its rule of names.
  pub record Accounts (h : List (HistoryEvent E)) (k : Knowledge E) : Type 0 where
    pub done : said_by k.name h ≡ done_by k
    pub names : NamesOnlyMade k.name k.made h

  -- the history has what each of them did, and nothing else under their names
  abbrev pub IsClosed : List (HistoryEvent E) → List (Knowledge E) → Type 0
  IsClosed h ks = AllByRecursion (Accounts h) ks

  -- what the tokens did is all that was done
  pub record IsAllDone (h : List (HistoryEvent E)) (ks : List (Knowledge E)) : Type 0 where
    -- each event has the name of one of the tokens
    pub names : AllByRecursion (λ (e : HistoryEvent E). HasName e.name ks) h
    -- if all that the tokens did passes a test, each event passes it
    pub every : (p : E → Bool)
        → AllByRecursion (λ (k : Knowledge E). AllByRecursion (λ (x : E). IsTrue (p x)) (done_by k)) ks
        → AllByRecursion (λ (e : HistoryEvent E). IsTrue (p e.what)) h
    -- a sum over the events is the sum over what each of the tokens did
    pub sums : (f : E → ℕ)
        → total (λ (e : HistoryEvent E). f e.what) h ≡ total (λ (k : Knowledge E). total f (done_by k)) ks

  -- ---- one seat, and seats that were made through it

  -- what the token knows after n more seats were made through it
  abbrev pub makes_many : ℕ → Knowledge E → Knowledge E
  makes_many n k = knowledge k.name (k.made + n) k.lost k.seen

  -- what the i-th of these seats knows, counted from 0
  abbrev pub nth_child : ℕ → Knowledge E → Knowledge E
  nth_child i k = child (makes_many i k)

  -- the tokens are seats that were made through the token of this name, one after the other, after the n-th; none of them made a seat
  abbrev pub AreNumbered : List ℕ → ℕ → List (Knowledge E) → Type 0
  AreNumbered name n [] = Unit {0}
  AreNumbered name n (k ∷ ks) =
      ((k.name ≡ child_name name (suc n)) × (k.made ≡ 0)) × AreNumbered name (suc n) ks

-- the law: if the tokens are all tokens of the flow, then in a closed history each event is one of the tokens', and what they did is
-- all that was done
abbrev pub LawClosed : Type 0 → Type 0
LawClosed E = (ks : List (Knowledge E)) (h : List (HistoryEvent E)) → AreAll ks → IsClosed h ks → IsAllDone h ks
