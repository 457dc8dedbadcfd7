-- The numbers of a list of sleepers, after a change of the list.
use Rattle.std.proofs.Common.{◌≡◌, ℕ, zero, suc, ◌==◌, Bool, true, false, cond, not, List, [], ◌∷◌, filter, length, ◌≤◌, arith, refl, ap}
use Rattle.std.specs.Prelude.{insert, nat_le}
use Rattle.std.proofs.lemmas.List.Edits.{get_or-insert_at, length-insert}
use Rattle.flow_sleepers.specs.declared.sleepers.Sleeper.{Sleeper}
use Rattle.flow_sleepers.specs.Sleepers.{HasNumber, numbers_of}

split : (b : Bool) (P : Bool → Type 0) → P true → P false → P b
split true P t f = t
split false P t f = f

pub numbers-insert : {A : Type 0} → (xs : List (Sleeper A)) (i : ℕ) (x : Sleeper A) → numbers_of (insert xs i x) ≡ insert (numbers_of xs) i x.number
numbers-insert [] zero x = refl
numbers-insert [] (suc i) x = refl
numbers-insert (y ∷ ys) zero x = refl
numbers-insert (y ∷ ys) (suc i) x = ap (λ l. y.number ∷ l) (numbers-insert ys i x)

pub numbers-at_least : {A : Type 0} → (number : ℕ) (xs : List (Sleeper A)) → numbers_of (filter (λ s. nat_le number s.number) xs) ≡ filter (λ k. nat_le number k) (numbers_of xs)
numbers-at_least number [] = refl
numbers-at_least number (x ∷ xs) = split (nat_le number x.number)
    (λ t. numbers_of (cond t (x ∷ filter (λ s. nat_le number s.number) xs) (filter (λ s. nat_le number s.number) xs))
    ≡ cond t (x.number ∷ filter (λ k. nat_le number k) (numbers_of xs)) (filter (λ k. nat_le number k) (numbers_of xs)))
    (ap (λ l. x.number ∷ l) (numbers-at_least number xs)) (numbers-at_least number xs)

pub numbers-filter : {A : Type 0} → (number : ℕ) (xs : List (Sleeper A)) → numbers_of (filter (λ s. not (s.number == number)) xs) ≡ filter (λ k. not (k == number)) (numbers_of xs)
numbers-filter number [] = refl
numbers-filter number (x ∷ xs) = split (not (x.number == number))
    (λ t. numbers_of (cond t (x ∷ filter (λ s. not (s.number == number)) xs) (filter (λ s. not (s.number == number)) xs))
    ≡ cond t (x.number ∷ filter (λ k. not (k == number)) (numbers_of xs)) (filter (λ k. not (k == number)) (numbers_of xs)))
    (ap (λ l. x.number ∷ l) (numbers-filter number xs)) (numbers-filter number xs)

pub inserted : (ns : List ℕ) (i n : ℕ) → i ≤ length ns → HasNumber (insert ns i n) i n
inserted ns i n within = (omega (arith, length-insert ns i n within), get_or-insert_at ns i n n within)
