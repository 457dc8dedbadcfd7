-- The list of members by number: how a call on one of them changes the list, and the list of subscribers made from it.
-- For a list whose numbers rise: `rises_insert`, `rises_with_row`, `rises_without`, `take_out_is`.
use Rattle.std.proofs.Common.{inl, inr, ◌≡◌, ℕ, suc, ◌+◌, ◌<◌, ◌≤◌, ◌==◌, true, false, not, cond, if◌then◌else◌, List, [], ◌∷◌, ◌++◌, length, map, Some, None, refl, sym, ap, ◌∙◌, arith}
use Rattle.std.proofs.lemmas.Bool.Decides.{eqb_tells}
use Rattle.flow_law.specs.laws.Laws.{RisesTo}
use Rattle.flow_law.proofs.Rows.{rises_from}
use Rattle.flow_containers.specs.declared.members.Member.{Member}
use Rattle.flow_containers.specs.Members.{member_numbers, row_of, member_with, with_row, without_number, take_out}

module _ {R : Type 0} where
  -- ---- numbers that rise

  pub rises_insert : (floor last number : ℕ) (row : R) (members : List (Member R)) → RisesTo floor (member_numbers members) last → last < number
      → RisesTo floor (member_numbers (members ++ record { number = number; row = row } ∷ [])) number
  rises_insert floor last number row [] rises above = (omega (arith, rises), omega arith)
  rises_insert floor last number row (member ∷ members) rises above = (rises.0, rises_insert member.number last number row members rises.1 above)

  pub rises_with_row : (floor top number : ℕ) (row : R) (members : List (Member R)) → RisesTo floor (member_numbers members) top → RisesTo floor (member_numbers (with_row number row members)) top
  rises_with_row floor top number row [] rises = rises
  rises_with_row floor top number row (member ∷ members) rises =
      elim (member.number == number) as (λ t. RisesTo floor (member_numbers (if t then member_with row member ∷ members else member ∷ with_row number row members)) top) [
        | true ↦ rises
        | false ↦ (rises.0, rises_with_row member.number top number row members rises.1)
      ]

  pub rises_without : (floor top number : ℕ) (members : List (Member R)) → RisesTo floor (member_numbers members) top → RisesTo floor (member_numbers (without_number number members)) top
  rises_without floor top number [] rises = rises
  rises_without floor top number (member ∷ members) rises =
      elim (member.number == number) as (λ t. RisesTo floor (member_numbers (cond (not t) (member ∷ without_number number members) (without_number number members))) top) [
        | true ↦ rises_without floor top number members (rises_from floor member.number top (member_numbers members) (omega (arith, rises.0)) rises.1)
        | false ↦ (rises.0, rises_without member.number top number members rises.1)
      ]

  -- no member has a number that is at most the floor, which is below all numbers
  pub row_below : (floor top number : ℕ) (members : List (Member R)) → RisesTo floor (member_numbers members) top → number ≤ floor → row_of number members ≡ None
  row_below floor top number [] rises below = refl
  row_below floor top number (member ∷ members) rises below =
      elim (eqb_tells member.number number) [
        | inl same ↦ absurd (omega (arith, same.1, rises.0))
        | inr other ↦ ap (λ t. cond t (Some member.row) (row_of number members)) other.0 ∙ row_below member.number top number members rises.1 (omega (arith, rises.0))
      ]

  -- no member has a number above the last one
  pub row_above : (floor top number : ℕ) (members : List (Member R)) → RisesTo floor (member_numbers members) top → top < number → row_of number members ≡ None
  row_above floor top number [] rises above = refl
  row_above floor top number (member ∷ members) rises above =
      elim (eqb_tells member.number number) [
        | inl same ↦ absurd (omega (arith, same.1, above, top_of member.number top (member_numbers members) rises.1))
        | inr other ↦ ap (λ t. cond t (Some member.row) (row_of number members)) other.0 ∙ row_above member.number top number members rises.1 above
      ]
    where
      top_of : (floor top : ℕ) (ns : List ℕ) → RisesTo floor ns top → floor ≤ top
      top_of floor top [] h = h
      top_of floor top (n ∷ ns) h = omega (arith, h.0, top_of n top ns h.1)

  without_absent : (number : ℕ) (members : List (Member R)) → row_of number members ≡ None → without_number number members ≡ members
  without_absent number [] none = refl
  without_absent number (member ∷ members) none =
      elim (member.number == number) as (λ t. cond t (Some member.row) (row_of number members) ≡ None → cond (not t) (member ∷ without_number number members) (without_number number members) ≡ member ∷ members) [
        | true ↦ λ there. absurd (cc)
        | false ↦ λ rest. ap (λ l. member ∷ l) (without_absent number members rest)
      ] none

  -- if the numbers rise, removing the first member of a number removes all of them
  pub take_out_is : (floor top number : ℕ) (members : List (Member R)) → RisesTo floor (member_numbers members) top → take_out number members ≡ without_number number members
  take_out_is floor top number [] rises = refl
  take_out_is floor top number (member ∷ members) rises =
      elim (eqb_tells member.number number) [
        | inl same ↦
            ap (λ t. cond t members (member ∷ take_out number members)) same.0
            ∙ sym (without_absent number members (row_below member.number top number members rises.1 (omega (arith, same.1))))
            ∙ sym (ap (λ t. cond (not t) (member ∷ without_number number members) (without_number number members)) same.0)
        | inr other ↦
            ap (λ t. cond t members (member ∷ take_out number members)) other.0
            ∙ ap (λ l. member ∷ l) (take_out_is member.number top number members rises.1)
            ∙ sym (ap (λ t. cond (not t) (member ∷ without_number number members) (without_number number members)) other.0)
      ]

  abbrev pub rewritten : ℕ → R → Member R → Member R
  rewritten number row member = if member.number == number then member_with row member else member

  rewritten_absent : (number : ℕ) (row : R) (members : List (Member R)) → row_of number members ≡ None → map (rewritten number row) members ≡ members
  rewritten_absent number row [] none = refl
  rewritten_absent number row (member ∷ members) none =
      elim (member.number == number) as (λ t. cond t (Some member.row) (row_of number members) ≡ None → (if t then member_with row member else member) ∷ map (rewritten number row) members ≡ member ∷ members) [
        | true ↦ λ there. absurd (cc)
        | false ↦ λ rest. ap (λ l. member ∷ l) (rewritten_absent number row members rest)
      ] none

  pub with_row_is : (floor top number : ℕ) (row : R) (members : List (Member R)) → RisesTo floor (member_numbers members) top → with_row number row members ≡ map (rewritten number row) members
  with_row_is floor top number row [] rises = refl
  with_row_is floor top number row (member ∷ members) rises =
      elim (eqb_tells member.number number) [
        | inl same ↦
            ap (λ t. cond t (member_with row member ∷ members) (member ∷ with_row number row members)) same.0
            ∙ ap (λ l. member_with row member ∷ l) (sym (rewritten_absent number row members (row_below member.number top number members rises.1 (omega (arith, same.1)))))
            ∙ sym (ap (λ t. cond t (member_with row member) member ∷ map (rewritten number row) members) same.0)
        | inr other ↦
            ap (λ t. cond t (member_with row member ∷ members) (member ∷ with_row number row members)) other.0
            ∙ ap (λ l. member ∷ l) (with_row_is member.number top number row members rises.1)
            ∙ sym (ap (λ t. cond t (member_with row member) member ∷ map (rewritten number row) members) other.0)
      ]

  pub length-with_row : (number : ℕ) (row : R) (members : List (Member R)) → length (with_row number row members) ≡ length members
  length-with_row number row [] = refl
  length-with_row number row (member ∷ members) =
      elim (member.number == number) as (λ t. length (if t then member_with row member ∷ members else member ∷ with_row number row members) ≡ suc (length members)) [
        | true ↦ refl
        | false ↦ ap suc (length-with_row number row members)
      ]

  pub length-take_out : (number : ℕ) (row : R) (members : List (Member R)) → row_of number members ≡ Some row → length (take_out number members) + 1 ≡ length members
  length-take_out number row [] there = absurd (cc)
  length-take_out number row (member ∷ members) there =
      elim (member.number == number) as (λ t. cond t (Some member.row) (row_of number members) ≡ Some row → length (if t then members else member ∷ take_out number members) + 1 ≡ suc (length members)) [
        | true ↦ λ here. omega arith
        | false ↦ λ rest. omega (arith, length-take_out number row members rest)
      ] there

  -- if no member has the number, nothing changes
  pub with_row_absent : (number : ℕ) (row : R) (members : List (Member R)) → row_of number members ≡ None → with_row number row members ≡ members
  with_row_absent number row [] none = refl
  with_row_absent number row (member ∷ members) none =
      elim (member.number == number) as (λ t. cond t (Some member.row) (row_of number members) ≡ None → (if t then member_with row member ∷ members else member ∷ with_row number row members) ≡ member ∷ members) [
        | true ↦ λ there. absurd (cc)
        | false ↦ λ rest. ap (λ l. member ∷ l) (with_row_absent number row members rest)
      ] none

  -- replacing a row by itself changes nothing
  pub with_row_same : (number : ℕ) (row : R) (members : List (Member R)) → row_of number members ≡ Some row → with_row number row members ≡ members
  with_row_same number row [] there = refl
  with_row_same number row (member ∷ members) there =
      elim (member.number == number) as (λ t. cond t (Some member.row) (row_of number members) ≡ Some row → (if t then member_with row member ∷ members else member ∷ with_row number row members) ≡ member ∷ members) [
        | true ↦ λ here. ap (λ r. member_with r member ∷ members) (kept member.row row here)
        | false ↦ λ rest. ap (λ l. member ∷ l) (with_row_same number row members rest)
      ] there
    where
      kept : (x y : R) → Some x ≡ Some y → y ≡ x
      kept x y e = cc

  pub without_number_absent : (number : ℕ) (members : List (Member R)) → row_of number members ≡ None → without_number number members ≡ members
  without_number_absent = without_absent

  pub take_out_absent : (number : ℕ) (members : List (Member R)) → row_of number members ≡ None → take_out number members ≡ members
  take_out_absent number [] none = refl
  take_out_absent number (member ∷ members) none =
      elim (member.number == number) as (λ t. cond t (Some member.row) (row_of number members) ≡ None → (if t then members else member ∷ take_out number members) ≡ member ∷ members) [
        | true ↦ λ there. absurd (cc)
        | false ↦ λ rest. ap (λ l. member ∷ l) (take_out_absent number members rest)
      ] none
