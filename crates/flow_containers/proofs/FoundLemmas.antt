-- The list of all members that are found by number, up to the last one: how it changes when one of them changes.
use Rattle.std.proofs.Common.{inl, inr, ◌≡◌, ◌≢◌, ℕ, zero, suc, ◌<◌, ◌≤◌, ◌==◌, true, false, not, cond, if◌then◌else◌, List, [], ◌∷◌, ◌++◌, map, Option, Some, None, refl, sym, ap, subst, ◌∙◌, arith, eq-eqb, append-nil}
use Rattle.std.proofs.lemmas.Bool.{cases_eq}
use Rattle.std.proofs.lemmas.Bool.Decides.{eqb_tells}
use Rattle.std.proofs.lemmas.List.{map-append}
use Rattle.std.proofs.lemmas.List.Elements.{filter-append}
use Rattle.flow_law.specs.laws.Laws.{RisesTo}
use Rattle.flow_law.proofs.Rows.{rises_higher}
use Rattle.flow_containers.specs.declared.members.Member.{Member}
use Rattle.flow_containers.specs.Members.{member_numbers, row_of, member_with, with_row, without_number, take_out, listed, found_to}
use Rattle.flow_containers.proofs.MemberLemmas.{rises_insert, row_above, take_out_is, rewritten, with_row_is}

module _ {R : Type 0} where
  -- a member that is found for a number has that number
  abbrev pub HasNumbers : (ℕ → Option (Member R)) → Type 0
  HasNumbers find = (n : ℕ) (member : Member R) → find n ≡ Some member → member.number ≡ n

  pub found_to-same : (f g : ℕ → Option (Member R)) (m : ℕ) → ((n : ℕ) → n ≤ m → f n ≡ g n) → found_to f m ≡ found_to g m
  found_to-same f g zero same = refl
  found_to-same f g (suc m) same =
      ap (λ l. l ++ listed (f (suc m))) (found_to-same f g m (λ n below. same n (omega arith)))
      ∙ ap (λ o. found_to g m ++ listed o) (same (suc m) (omega arith))

  pub found_to-past : (f : ℕ → Option (Member R)) (last m : ℕ) → last ≤ m → ((n : ℕ) → last < n → f n ≡ None) → found_to f m ≡ found_to f last
  found_to-past f last zero past none =
      let same : zero ≡ last = omega arith in
      ap (found_to f) same
  found_to-past f last (suc m) past none =
      elim (cases_eq last (suc m)) [
        | inl same ↦ ap (found_to f) (sym same)
        | inr other ↦ ap (λ o. found_to f m ++ listed o) (none (suc m) (omega arith)) ∙ append-nil (found_to f m) ∙ found_to-past f last m (omega arith) none
      ]

  pub found_to-rises : (f : ℕ → Option (Member R)) (m : ℕ) → HasNumbers f → RisesTo 0 (member_numbers (found_to f m)) m
  found_to-rises f zero has = omega arith
  found_to-rises f (suc m) has = by_case (found_to-rises f m has) (f (suc m)) refl
    where
      by_case : RisesTo 0 (member_numbers (found_to f m)) m → (o : Option (Member R)) → f (suc m) ≡ o → RisesTo 0 (member_numbers (found_to f m ++ listed o)) (suc m)
      by_case rises None none = rw append-nil (rises_higher 0 m (suc m) (member_numbers (found_to f m)) (omega arith) rises)
      by_case rises (Some member) there =
          let is : member.number ≡ suc m = has (suc m) member there in
          subst (RisesTo 0 (member_numbers (found_to f m ++ member ∷ []))) is (rises_insert 0 m member.number member.row (found_to f m) rises (omega (arith, is)))

  -- ---- one number

  pub row_absent : (f : ℕ → Option (Member R)) (n m : ℕ) → HasNumbers f → f n ≡ None → row_of n (found_to f m) ≡ None
  row_absent f n zero has none = refl
  row_absent f n (suc m) has none =
      row_of-append n (found_to f m) (listed (f (suc m))) (row_absent f n m has none) ∙ by_case (f (suc m)) refl
    where
      row_of-append : (n : ℕ) (xs ys : List (Member R)) → row_of n xs ≡ None → row_of n (xs ++ ys) ≡ row_of n ys
      row_of-append n [] ys none = refl
      row_of-append n (x ∷ xs) ys none =
          elim (x.number == n) as (λ t. cond t (Some x.row) (row_of n xs) ≡ None → cond t (Some x.row) (row_of n (xs ++ ys)) ≡ row_of n ys) [
            | true ↦ λ there. absurd (cc)
            | false ↦ λ rest. row_of-append n xs ys rest
          ] none

      by_case : (o : Option (Member R)) → f (suc m) ≡ o → row_of n (listed o) ≡ None
      by_case None none = refl
      by_case (Some member) there =
          elim (eqb_tells member.number n) [
            | inl same ↦
                let at : f n ≡ Some member = ap f (sym same.1 ∙ has (suc m) member there) ∙ there in
                absurd (cc)
            | inr other ↦ ap (λ t. cond t (Some member.row) None) other.0
          ]

  pub row_found : (f : ℕ → Option (Member R)) (n m : ℕ) (member : Member R) → HasNumbers f → 0 < n → n ≤ m → f n ≡ Some member → row_of n (found_to f m) ≡ Some member.row
  row_found f n zero member has some within there = absurd (omega arith)
  row_found f n (suc m) member has some within there =
      elim (cases_eq n (suc m)) [
        | inl same ↦
            let at : f (suc m) ≡ Some member = ap f (sym same) ∙ there in
            ap (λ o. row_of n (found_to f m ++ listed o)) at
            ∙ behind n (found_to f m) (member ∷ []) (row_above 0 m n (found_to f m) (found_to-rises f m has) (omega arith))
            ∙ ap (λ t. cond t (Some member.row) None) (eq-eqb _ _ (has n member there))
        | inr other ↦ before n (found_to f m) (listed (f (suc m))) member.row (row_found f n m member has some (omega arith) there)
      ]
    where
      behind : (n : ℕ) (xs ys : List (Member R)) → row_of n xs ≡ None → row_of n (xs ++ ys) ≡ row_of n ys
      behind n [] ys none = refl
      behind n (x ∷ xs) ys none =
          elim (x.number == n) as (λ t. cond t (Some x.row) (row_of n xs) ≡ None → cond t (Some x.row) (row_of n (xs ++ ys)) ≡ row_of n ys) [
            | true ↦ λ there. absurd (cc)
            | false ↦ λ rest. behind n xs ys rest
          ] none

      before : (n : ℕ) (xs ys : List (Member R)) (row : R) → row_of n xs ≡ Some row → row_of n (xs ++ ys) ≡ Some row
      before n [] ys row there = absurd (cc)
      before n (x ∷ xs) ys row there =
          elim (x.number == n) as (λ t. cond t (Some x.row) (row_of n xs) ≡ Some row → cond t (Some x.row) (row_of n (xs ++ ys)) ≡ Some row) [
            | true ↦ λ here. here
            | false ↦ λ rest. before n xs ys row rest
          ] there

  -- ---- one number more, changed or gone

  pub found_to-insert : (f g : ℕ → Option (Member R)) (last : ℕ) (member : Member R) → last < member.number → ((n : ℕ) → last < n → f n ≡ None)
      → ((n : ℕ) → g n ≡ (if n == member.number then Some member else f n)) → found_to g member.number ≡ found_to f last ++ member ∷ []
  found_to-insert f g last member above none gives = at member.number refl
    where
      at : (number : ℕ) → member.number ≡ number → found_to g number ≡ found_to f last ++ member ∷ []
      at zero is = absurd (omega arith)
      at (suc p) is =
          let below : (n : ℕ) → n ≤ p → g n ≡ f n = λ n le. elim (eqb_tells n member.number) [
            | inl same ↦ absurd (omega (arith, same.1, is, le))
            | inr other ↦ gives n ∙ ap (λ t. cond t (Some member) (f n)) other.0
          ] in
          let here : g (suc p) ≡ Some member = gives (suc p) ∙ ap (λ t. cond t (Some member) (f (suc p))) (eq-eqb _ _ (sym is)) in
          ap (λ o. found_to g p ++ listed o) here
          ∙ ap (λ l. l ++ member ∷ []) (found_to-same g f p below ∙ found_to-past f last p (omega (arith, is)) none)

  pub found_to-gone : (f g : ℕ → Option (Member R)) (number m : ℕ) → HasNumbers f → ((n : ℕ) → g n ≡ (if n == number then None else f n))
      → found_to g m ≡ without_number number (found_to f m)
  found_to-gone f g number zero has gives = refl
  found_to-gone f g number (suc m) has gives =
      ap (λ l. l ++ listed (g (suc m))) (found_to-gone f g number m has gives)
      ∙ ap (λ l. without_number number (found_to f m) ++ l) (by_case (f (suc m)) refl)
      ∙ sym (filter-append (λ s. not (s.number == number)) (found_to f m) (listed (f (suc m))))
    where
      by_case : (o : Option (Member R)) → f (suc m) ≡ o → listed (g (suc m)) ≡ without_number number (listed o)
      by_case None none = elim (eqb_tells (suc m) number) [
        | inl same ↦ ap listed (gives (suc m) ∙ ap (λ t. cond t None (f (suc m))) same.0)
        | inr other ↦ ap listed (gives (suc m) ∙ ap (λ t. cond t None (f (suc m))) other.0 ∙ none)
      ]
      by_case (Some member) there =
          let is : member.number ≡ suc m = has (suc m) member there in
          elim (eqb_tells (suc m) number) [
            | inl same ↦
                ap listed (gives (suc m) ∙ ap (λ t. cond t None (f (suc m))) same.0)
                ∙ sym (ap (λ t. cond (not t) (member ∷ []) []) (ap (λ k. k == number) is ∙ same.0))
            | inr other ↦
                ap listed (gives (suc m) ∙ ap (λ t. cond t None (f (suc m))) other.0 ∙ there)
                ∙ sym (ap (λ t. cond (not t) (member ∷ []) []) (ap (λ k. k == number) is ∙ other.0))
          ]

  pub found_to-taken : (f g : ℕ → Option (Member R)) (number m : ℕ) → HasNumbers f → ((n : ℕ) → g n ≡ (if n == number then None else f n))
      → found_to g m ≡ take_out number (found_to f m)
  found_to-taken f g number m has gives = found_to-gone f g number m has gives ∙ sym (take_out_is 0 m number (found_to f m) (found_to-rises f m has))

  found_to-rewritten : (f g : ℕ → Option (Member R)) (member : Member R) (row : R) (m : ℕ) → HasNumbers f → f member.number ≡ Some member
      → ((n : ℕ) → g n ≡ (if n == member.number then Some (member_with row member) else f n))
      → found_to g m ≡ map (rewritten member.number row) (found_to f m)
  found_to-rewritten f g member row zero has there gives = refl
  found_to-rewritten f g member row (suc m) has there gives =
      ap (λ l. l ++ listed (g (suc m))) (found_to-rewritten f g member row m has there gives)
      ∙ ap (λ l. map (rewritten member.number row) (found_to f m) ++ l) (by_case (f (suc m)) refl)
      ∙ sym (map-append (rewritten member.number row) (found_to f m) (listed (f (suc m))))
    where
      by_case : (o : Option (Member R)) → f (suc m) ≡ o → listed (g (suc m)) ≡ map (rewritten member.number row) (listed o)
      by_case o at = elim (eqb_tells (suc m) member.number) [
        | inl same ↦
            let is : o ≡ Some member = sym at ∙ ap f same.1 ∙ there in
            ap listed (gives (suc m) ∙ ap (λ t. cond t (Some (member_with row member)) (f (suc m))) same.0)
            ∙ sym (ap (λ t. cond t (member_with row member) member ∷ []) (eq-eqb member.number member.number refl))
            ∙ sym (ap (λ o. map (rewritten member.number row) (listed o)) is)
        | inr other ↦ ap listed (gives (suc m) ∙ ap (λ t. cond t (Some (member_with row member)) (f (suc m))) other.0 ∙ at) ∙ kept o at other.1
      ]
        where
          kept : (o : Option (Member R)) → f (suc m) ≡ o → suc m ≢ member.number → listed o ≡ map (rewritten member.number row) (listed o)
          kept None at other = refl
          kept (Some x) at other = elim (eqb_tells x.number member.number) [
            | inl same ↦ absurd (other (sym (has (suc m) x at) ∙ same.1))
            | inr differs ↦ sym (ap (λ t. cond t (member_with row x) x ∷ []) differs.0)
          ]

  pub found_to-replaced : (f g : ℕ → Option (Member R)) (member : Member R) (row : R) (m : ℕ) → HasNumbers f → f member.number ≡ Some member
      → ((n : ℕ) → g n ≡ (if n == member.number then Some (member_with row member) else f n))
      → found_to g m ≡ with_row member.number row (found_to f m)
  found_to-replaced f g member row m has there gives =
      found_to-rewritten f g member row m has there gives ∙ sym (with_row_is 0 m member.number row (found_to f m) (found_to-rises f m has))
