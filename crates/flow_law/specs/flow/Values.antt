-- Sameness of values that are made of others, and proofs that it is exact if the sameness of the parts is.
use Rattle.std.specs.Prelude.{◌≡◌, ◌↔◌, Bool, true, false, ◌&&◌, is_some, IsTrue, List, [], ◌∷◌, drop, nat_eq, Option, Some, None, slice_index_or}
use Rattle.std.specs.Bool.{beq}
use Rattle.std.specs.Cmp.{booleans_Decides, decided, partial_equiv_from_equiv, IsEquivalence, IsPartialEquivalence}
use Rattle.std.specs.Hash.{HashWrites, Alike, same_Alike}
use Rattle.std.specs.List.{slice_get}
use Rattle.std.specs.Option.{option_map_or}
use Rattle.std.specs.Ordering.{int_eq}
use Rattle.std.proofs.Common.{refl, ap}
use Rattle.std.proofs.lemmas.Bool.{false≢true, true≢false}
use Rattle.std.proofs.lemmas.Bool.Decides.{Decides-eqb, Decides-int_eq}

-- `same` holds of equal values, and of no others
abbrev pub IsExact : {T : Type 0} → (T → T → Bool) → Type 0
IsExact {T} same = (x y : T) → IsTrue (same x y) ↔ x ≡ y

module _ {T : Type 0} (same : T → T → Bool) where
  -- both are None, or their values are the same
  abbrev pub is_same_option : Option T → Option T → Bool
  is_same_option None None = true
  is_same_option (Some x) (Some y) = same x y
  is_same_option _ _ = false

  -- the lists are of one length, and the same value by value
  abbrev pub is_same_list : List T → List T → Bool
  is_same_list [] [] = true
  is_same_list (x ∷ xs) (y ∷ ys) = same x y && is_same_list xs ys
  is_same_list _ _ = false

-- both sides are the same
abbrev pub is_same_pair : {A B : Type 0} → (A → A → Bool) → (B → B → Bool) → A × B → A × B → Bool
is_same_pair f g x y = f x.0 y.0 && g x.1 y.1

-- all three parts are the same
abbrev pub is_same_triple : {A B C : Type 0} → (A → A → Bool) → (B → B → Bool) → (C → C → Bool) → A × B × C → A × B × C → Bool
is_same_triple f g h x y = f x.0 y.0 && (g x.1 y.1 && h x.2 y.2)

-- ---- sameness that is exact

-- sameness of units is exact
pub unit_exact : IsExact (λ (x y : Unit {0}). true)
unit_exact x y = (λ _. refl, λ _. refl)

-- sameness of truths is exact
pub truth_exact : IsExact beq
truth_exact x y = booleans_Decides x y

-- sameness of unsigned integers and of characters is exact
pub number_exact : IsExact nat_eq
number_exact x y = Decides-eqb x y

-- sameness of signed integers is exact
pub whole_exact : IsExact int_eq
whole_exact x y = Decides-int_eq x y

module _ {T : Type 0} (same : T → T → Bool) where
  -- sameness of options is exact, if that of their values is
  pub option_exact : IsExact same → IsExact (is_same_option same)
  option_exact exact None None = (λ _. refl, λ _. refl)
  option_exact exact None (Some y) = (λ h. absurd (false≢true h), λ e. absurd (false≢true (ap is_some e)))
  option_exact exact (Some x) None = (λ h. absurd (false≢true h), λ e. absurd (true≢false (ap is_some e)))
  option_exact exact (Some x) (Some y) = (λ h. ap Some ((exact x y).0 h), λ e. (exact x y).1 (ap (λ o. option_map_or (λ z. z) o x) e))

-- a conjunction is true exactly if both sides are
both : (a b : Bool) → IsTrue (a && b) ↔ (IsTrue a × IsTrue b)
both true b = (λ h. (refl, h), λ h. h.1)
both false b = (λ h. absurd (false≢true h), λ h. h.0)

module _ {T : Type 0} (same : T → T → Bool) where
  -- sameness of lists is exact, if that of their values is
  pub list_exact : IsExact same → IsExact (is_same_list same)
  list_exact exact [] [] = (λ _. refl, λ _. refl)
  list_exact exact [] (y ∷ ys) = (λ h. absurd (false≢true h), λ e. absurd (false≢true (ap (λ l. is_some (slice_get l 0)) e)))
  list_exact exact (x ∷ xs) [] = (λ h. absurd (false≢true h), λ e. absurd (true≢false (ap (λ l. is_some (slice_get l 0)) e)))
  list_exact exact (x ∷ xs) (y ∷ ys) = (
    λ h. let each = (both (same x y) (is_same_list same xs ys)).0 h in λ i. (exact x y).0 each.0 i ∷ (list_exact exact xs ys).0 each.1 i,
    λ e. (both (same x y) (is_same_list same xs ys)).1 ((exact x y).1 (ap (λ l. slice_index_or l 0 x) e), (list_exact exact xs ys).1 (ap (drop 1) e)),
  )

-- sameness of lists of numbers is exact
pub numbers_exact : IsExact (is_same_list nat_eq)
numbers_exact = list_exact nat_eq number_exact

module _ {A B : Type 0} (f : A → A → Bool) (g : B → B → Bool) where
  -- sameness of pairs is exact, if that of each side is
  pub pair_exact : IsExact f → IsExact g → IsExact (is_same_pair f g)
  pair_exact first second x y = (
    λ h. let each = (both (f x.0 y.0) (g x.1 y.1)).0 h in λ i. ((first x.0 y.0).0 each.0 i, (second x.1 y.1).0 each.1 i),
    λ e. (both (f x.0 y.0) (g x.1 y.1)).1 ((first x.0 y.0).1 (ap (λ (z : A × B). z.0) e), (second x.1 y.1).1 (ap (λ (z : A × B). z.1) e)),
  )

module _ {A B C : Type 0} (f : A → A → Bool) (g : B → B → Bool) (h : C → C → Bool) where
  -- sameness of triples is exact, if that of each part is
  pub triple_exact : IsExact f → IsExact g → IsExact h → IsExact (is_same_triple f g h)
  triple_exact first second third x y = (
    λ same. let each = (both (f x.0 y.0) (g x.1 y.1 && h x.2 y.2)).0 same in let rest = (both (g x.1 y.1) (h x.2 y.2)).0 each.1 in
        λ i. ((first x.0 y.0).0 each.0 i, (second x.1 y.1).0 rest.0 i, (third x.2 y.2).0 rest.1 i),
    λ e. (both (f x.0 y.0) (g x.1 y.1 && h x.2 y.2)).1 (
      (first x.0 y.0).1 (ap (λ (z : A × B × C). z.0) e),
      (both (g x.1 y.1) (h x.2 y.2)).1 ((second x.1 y.1).1 (ap (λ (z : A × B × C). z.1) e), (third x.2 y.2).1 (ap (λ (z : A × B × C). z.2) e)),
    ),
  )

-- ---- what an exact sameness gives: the laws of `PartialEq`, `Eq` and `Hash`

module _ {T : Type 0} {same : T → T → Bool} (exact : IsExact same) where
  -- an exact sameness is an equivalence
  pub exact_eq : IsEquivalence same
  exact_eq = decided same exact

  -- an exact sameness is a partial equivalence
  pub exact_partial_eq : IsPartialEquivalence same
  exact_partial_eq = partial_equiv_from_equiv exact_eq

  -- values that are the same are hashed alike
  pub exact_hash : (writes : T → HashWrites) → (x y : T) → IsTrue (same x y) → writes x ≡ writes y
  exact_hash writes x y h = (same_Alike writes exact).fed x y h
