-- The member of a number among the slots of a slab, and what a write of one slot does to it.
use Rattle.std.proofs.Common.{inl, inr, ◌≡◌, ◌≢◌, ◌⊎◌, ℕ, zero, suc, ◌<◌, ◌==◌, cond, if◌then◌else◌, List, [], ◌∷◌, get_or, length, Option, Some, None, is_some, refl, sym, ap, subst, ◌∙◌, arith, eq-eqb}
use Rattle.std.proofs.lemmas.Bool.{cases_eq}
use Rattle.std.proofs.lemmas.Bool.Decides.{eqb_tells}
use Rattle.std.proofs.lemmas.List.Sums.{sum_by-set}
use Rattle.slab.specs.Slab.{Slab, get, slab_len, with_value, Updates}
use Rattle.slab.proofs.SlabLemmas.{ContainsKey-within}
use Rattle.flow_containers.specs.declared.members.Member.{Member}
use Rattle.flow_containers.specs.Members.{seek}

module _ {R : Type 0} where
  -- no two keys have one number
  abbrev pub AreDistinct : Slab (Member R) → Type 0
  AreDistinct s = (a b : ℕ) (x y : Member R) → get s a ≡ Some x → get s b ≡ Some y → x.number ≡ y.number → a ≡ b

  -- ---- what is found

  seek_some : (n : ℕ) (slots : List (Option (Member R))) (x : Member R) → seek n slots ≡ Some x → (key : ℕ) × (get_or slots key None ≡ Some x) × (x.number ≡ n)
  seek_some n [] x found = absurd (cc)
  seek_some n (None ∷ slots) x found = let rest = seek_some n slots x found in (suc rest.0, rest.1, rest.2)
  seek_some n (Some member ∷ slots) x found =
      elim (eqb_tells member.number n) [
        | inl here ↦
            let at : Some member ≡ Some x = subst (λ t. cond t (Some member) (seek n slots) ≡ Some x) here.0 found in
            let same : member ≡ x = cc in
            (0, at, ap (λ (s : Member R). s.number) (sym same) ∙ here.1)
        | inr there ↦
            let rest = seek_some n slots x (subst (λ t. cond t (Some member) (seek n slots) ≡ Some x) there.0 found) in
            (suc rest.0, rest.1, rest.2)
      ]

  seek_at : (slots : List (Option (Member R))) (key : ℕ) (x : Member R) → get_or slots key None ≡ Some x → (y : Member R) × (seek x.number slots ≡ Some y)
  seek_at [] key x at = absurd (cc)
  seek_at (None ∷ slots) zero x at = absurd (cc)
  seek_at (None ∷ slots) (suc key) x at = seek_at slots key x at
  seek_at (Some member ∷ slots) zero x at =
      let same : member ≡ x = cc in
      (member, ap (λ t. cond t (Some member) (seek x.number slots)) (eq-eqb _ _ (ap (λ (s : Member R). s.number) same)))
  seek_at (Some member ∷ slots) (suc key) x at =
      elim (eqb_tells member.number x.number) [
        | inl here ↦ (member, ap (λ t. cond t (Some member) (seek x.number slots)) here.0)
        | inr there ↦ let rest = seek_at slots key x at in (rest.0, ap (λ t. cond t (Some member) (seek x.number slots)) there.0 ∙ rest.1)
      ]

  -- this is the member of a number, or there is none
  abbrev pub IsFound : Slab (Member R) → ℕ → Option (Member R) → Type 0
  IsFound s n None = (key : ℕ) (x : Member R) → get s key ≡ Some x → x.number ≡ n → ⊥
  IsFound s n (Some x) = (key : ℕ) × (get s key ≡ Some x) × (x.number ≡ n)

  pub seek_tells : (s : Slab (Member R)) (n : ℕ) → IsFound s n (seek n s.slots)
  seek_tells s n = by_case (seek n s.slots) refl
    where
      by_case : (o : Option (Member R)) → seek n s.slots ≡ o → IsFound s n o
      by_case None missing = λ key x at same.
          let there = seek_at s.slots key x at in
          let found : seek n s.slots ≡ Some there.0 = subst (λ k. seek k s.slots ≡ Some there.0) same there.1 in
          absurd (cc)
      by_case (Some x) found = seek_some n s.slots x found

  pub seek_is : (s : Slab (Member R)) (n : ℕ) (o : Option (Member R)) → AreDistinct s → IsFound s n o → seek n s.slots ≡ o
  seek_is s n o distinct is = by_cases (seek n s.slots) o (seek_tells s n) is
    where
      by_cases : (p o : Option (Member R)) → IsFound s n p → IsFound s n o → p ≡ o
      by_cases None None p o = refl
      by_cases None (Some x) p o = absurd (p o.0 x o.1 o.2)
      by_cases (Some y) None p o = absurd (o p.0 y p.1 p.2)
      by_cases (Some y) (Some x) p o =
          let same : p.0 ≡ o.0 = distinct p.0 o.0 y x p.1 o.1 (p.2 ∙ sym o.2) in
          sym p.1 ∙ ap (λ k. get s k) same ∙ o.1

  pub seek_number : (s : Slab (Member R)) (n : ℕ) (x : Member R) → seek n s.slots ≡ Some x → x.number ≡ n
  seek_number s n x found = (seek_some n s.slots x found).2

  -- ---- a write of one slot

  -- the member at this key, if any, has this number, and no other member has it
  pub record IsFree (s : Slab (Member R)) (key number : ℕ) : Type 0 where
    pub here : (y : Member R) → get s key ≡ Some y → y.number ≡ number
    pub others : (k : ℕ) (y : Member R) → get s k ≡ Some y → y.number ≡ number → k ≡ key

  pub free_here : (s : Slab (Member R)) (key : ℕ) (x : Member R) → AreDistinct s → get s key ≡ Some x → IsFree s key x.number
  free_here s key x distinct at = record {
    here = λ y other. let same : y ≡ x = cc in ap (λ (s : Member R). s.number) same;
    others = λ k y there same. distinct k key y x there at same;
  }

  pub free_new : (s : Slab (Member R)) (key number : ℕ) → get s key ≡ None → ((k : ℕ) (y : Member R) → get s k ≡ Some y → y.number ≡ number → ⊥) → IsFree s key number
  free_new s key number vacant new = record {
    here = λ y other. absurd (cc);
    others = λ k y there same. absurd (new k y there same);
  }

  pub distinct_put : (old new : Slab (Member R)) (key : ℕ) (x : Member R) → AreDistinct old → IsFree old key x.number → Updates old new key (Some x) → AreDistinct new
  distinct_put old new key x distinct free put a b y z at bt same =
      elim (cases_eq a key) [
        | inl a_is ↦ elim (cases_eq b key) [
          | inl b_is ↦ a_is ∙ sym b_is
          | inr b_not ↦
              let y_is : Some y ≡ Some x = sym at ∙ ap (get new) a_is ∙ put.changed in
              let y_same : y ≡ x = cc in
              a_is ∙ sym (free.others b z (sym (put.others b b_not) ∙ bt) (sym same ∙ ap (λ (s : Member R). s.number) y_same))
        ]
        | inr a_not ↦ elim (cases_eq b key) [
          | inl b_is ↦
              let z_is : Some z ≡ Some x = sym bt ∙ ap (get new) b_is ∙ put.changed in
              let z_same : z ≡ x = cc in
              free.others a y (sym (put.others a a_not) ∙ at) (same ∙ ap (λ (s : Member R). s.number) z_same) ∙ sym b_is
          | inr b_not ↦ distinct a b y z (sym (put.others a a_not) ∙ at) (sym (put.others b b_not) ∙ bt) same
        ]
      ]

  pub distinct_gone : (old new : Slab (Member R)) (key : ℕ) → AreDistinct old → Updates old new key None → AreDistinct new
  distinct_gone old new key distinct gone a b y z at bt same = distinct a b y z (kept a y at) (kept b z bt) same
    where
      kept : (k : ℕ) (x : Member R) → get new k ≡ Some x → get old k ≡ Some x
      kept k x there =
          elim (cases_eq k key) [
            | inl is ↦ let none : get new k ≡ None = ap (get new) is ∙ gone.changed in absurd (cc)
            | inr differs ↦ sym (gone.others k differs) ∙ there
          ]

  -- the member that is found for another number stays the same
  seek_other : (old new : Slab (Member R)) (key number n : ℕ) (slot : Option (Member R)) → AreDistinct new → IsFree old key number → Updates old new key slot → ((x : Member R) → slot ≡ Some x → x.number ≡ number)
      → n ≢ number → seek n new.slots ≡ seek n old.slots
  seek_other old new key number n slot distinct free put has other = seek_is new n (seek n old.slots) distinct (carried (seek n old.slots) (seek_tells old n))
    where
      carried : (o : Option (Member R)) → IsFound old n o → IsFound new n o
      carried None none = λ k x at same.
          elim (cases_eq k key) [
            | inl is ↦ other (sym same ∙ has x (sym put.changed ∙ ap (get new) (sym is) ∙ at))
            | inr differs ↦ none k x (sym (put.others k differs) ∙ at) same
          ]
      carried (Some x) found =
          let differs : found.0 ≢ key = λ is. other (sym found.2 ∙ free.here x (ap (get old) (sym is) ∙ found.1)) in
          (found.0, put.others found.0 differs ∙ found.1, found.2)

  pub seek_put : (old new : Slab (Member R)) (key : ℕ) (x : Member R) → AreDistinct old → IsFree old key x.number → Updates old new key (Some x)
      → (n : ℕ) → seek n new.slots ≡ (if n == x.number then Some x else seek n old.slots)
  seek_put old new key x distinct free put n =
      let after = distinct_put old new key x distinct free put in
      elim (eqb_tells n x.number) [
        | inl same ↦ seek_is new n (Some x) after (key, put.changed, sym same.1) ∙ sym (ap (λ t. cond t (Some x) (seek n old.slots)) same.0)
        | inr other ↦
            let has : (y : Member R) → Some x ≡ Some y → y.number ≡ x.number = λ y e. let is : x ≡ y = cc in ap (λ (s : Member R). s.number) (sym is) in
            seek_other old new key x.number n (Some x) after free put has other.1 ∙ sym (ap (λ t. cond t (Some x) (seek n old.slots)) other.0)
      ]

  pub seek_gone : (old new : Slab (Member R)) (key : ℕ) (x : Member R) → AreDistinct old → get old key ≡ Some x → Updates old new key None
      → (n : ℕ) → seek n new.slots ≡ (if n == x.number then None else seek n old.slots)
  seek_gone old new key x distinct at gone n =
      let after = distinct_gone old new key distinct gone in
      let free = free_here old key x distinct at in
      elim (eqb_tells n x.number) [
        | inl same ↦ seek_is new n None after (λ k y there is. by_key (cases_eq k key) y there (is ∙ same.1)) ∙ sym (ap (λ t. cond t None (seek n old.slots)) same.0)
        | inr other ↦ seek_other old new key x.number n None after free gone (λ y e. absurd (cc)) other.1 ∙ sym (ap (λ t. cond t None (seek n old.slots)) other.0)
      ]
    where
      by_key : {k : ℕ} → (k ≡ key) ⊎ (k ≢ key) → (y : Member R) → get new k ≡ Some y → y.number ≡ x.number → ⊥
      by_key {k} (inl is) y there same = let none : get new k ≡ None = ap (get new) is ∙ gone.changed in absurd (cc)
      by_key {k} (inr differs) y there same = differs ((free_here old key x distinct at).others k y (sym (gone.others k differs) ∙ there) same)

  -- a write through `get_mut` adds no value
  pub slab_len-with_value : (s : Slab (Member R)) (key : ℕ) (x y : Member R) → get s key ≡ Some x → slab_len (with_value s key y) ≡ slab_len s
  slab_len-with_value s key x y at =
      let within : key < length s.slots = ContainsKey-within s key (ap is_some at) in
      let counted = sum_by-set (λ o. cond (is_some o) 1 0) s.slots key (Some y) None within in
      let test : Option (Member R) → ℕ = λ o. cond (is_some o) 1 0 in
      let one : test (get_or s.slots key None) ≡ test (Some x) = ap test at in
      omega (arith, counted, one)
