-- How many turns a caller has in an order, and in what is taken of it.
use Rattle.std.proofs.Common.{◌≡◌, ◌≢◌, ℕ, suc, zero, ◌+◌, ◌<◌, ◌≤◌, true, false, ◌==◌, cond, List, [], ◌∷◌, ◌++◌, length, take, Some, refl, sym, ap, ◌∙◌, subst, arith, eq-eqb, ne_eqb, zero-add}
use Rattle.std.specs.Prelude.{slice_get}
use Rattle.std.proofs.lemmas.Bool.{cond-true, cond-false}
use Rattle.std.proofs.lemmas.Bool.Decides.{Decides-eqb}
use Rattle.std.proofs.lemmas.List.{take_all}
use Rattle.std.proofs.lemmas.Option.{slice_get_within, same_Some}
use Rattle.flow_law.proofs.Rows.{split}
use Rattle.flow_check.specs.Orders.{turns_of}

pub turns-append : (i : ℕ) (p q : List ℕ) → turns_of i (p ++ q) ≡ turns_of i p + turns_of i q
turns-append i [] q = sym (zero-add (turns_of i q))
turns-append i (t ∷ p) q = let e = turns-append i p q in
    split (t == i) (λ b. cond b (turns_of i (p ++ q) + 1) (turns_of i (p ++ q)) ≡ cond b (turns_of i p + 1) (turns_of i p) + turns_of i q) (λ _. omega arith) (λ _. omega arith)

pub turns-snoc : (i : ℕ) (p : List ℕ) → turns_of i (p ++ i ∷ []) ≡ turns_of i p + 1
turns-snoc i p = let one : turns_of i (i ∷ []) ≡ 0 + 1 = cond-true (i == i) (0 + 1) 0 (eq-eqb i i refl) in
    let all = turns-append i p (i ∷ []) in omega arith

pub turns-snoc_other : (i j : ℕ) (p : List ℕ) → i ≢ j → turns_of j (p ++ i ∷ []) ≡ turns_of j p
turns-snoc_other i j p apart = let none : turns_of j (i ∷ []) ≡ 0 = cond-false (i == j) (0 + 1) 0 (ne_eqb i j apart) in
    let all = turns-append j p (i ∷ []) in omega arith

-- a caller has no fewer turns in more of an order
pub turns-take : (i m n : ℕ) (order : List ℕ) → m ≤ n → turns_of i (take m order) ≤ turns_of i (take n order)
turns-take i zero n order h = omega arith
turns-take i (suc m) zero order h = absurd (omega arith)
turns-take i (suc m) (suc n) [] h = omega arith
turns-take i (suc m) (suc n) (t ∷ order) h =
    let low : m ≤ n = omega arith in
    let rest = turns-take i m n order low in
    split (t == i) (λ b. cond b (turns_of i (take m order) + 1) (turns_of i (take m order)) ≤ cond b (turns_of i (take n order) + 1) (turns_of i (take n order))) (λ _. omega arith) (λ _. omega arith)

-- a turn is one more
pub turn_counts : (i m n : ℕ) (order : List ℕ) → slice_get order m ≡ Some i → m < n → turns_of i (take m order) + 1 ≤ turns_of i (take n order)
turn_counts i m n [] e h = let past = slice_get_within [] m i e in absurd (omega arith)
turn_counts i m zero (t ∷ order) e h = absurd (omega arith)
turn_counts i zero (suc n) (t ∷ order) e h =
    let one : turns_of i (t ∷ take n order) ≡ turns_of i (take n order) + 1 = cond-true (t == i) (turns_of i (take n order) + 1) (turns_of i (take n order)) (eq-eqb t i (same_Some t i e)) in omega arith
turn_counts i (suc m) (suc n) (t ∷ order) e h =
    let low : m < n = omega arith in
    let rest = turn_counts i m n order e low in
    split (t == i) (λ b. cond b (turns_of i (take m order) + 1) (turns_of i (take m order)) + 1 ≤ cond b (turns_of i (take n order) + 1) (turns_of i (take n order))) (λ _. omega arith) (λ _. omega arith)

pub turn_counts_all : (i m : ℕ) (order : List ℕ) → slice_get order m ≡ Some i → turns_of i (take m order) + 1 ≤ turns_of i order
turn_counts_all i m order e =
    subst (λ (o : List ℕ). turns_of i (take m order) + 1 ≤ turns_of i o) (take_all (length order) order (omega arith)) (turn_counts i m (length order) order e (slice_get_within order m i e))

-- the turn of a caller that it has after k others
abbrev pub TurnAfter : ℕ → ℕ → List ℕ → Type 0
TurnAfter i k order = (n : ℕ) × (slice_get order n ≡ Some i) × (turns_of i (take n order) ≡ k)

own_turn : (i t k : ℕ) (order : List ℕ) → ((j : ℕ) → j < turns_of i order → TurnAfter i j order) → (t == i) ≡ true → k < turns_of i order + 1 → TurnAfter i k (t ∷ order)
own_turn i t zero order more e l = (0, ap Some ((Decides-eqb t i).0 e), refl)
own_turn i t (suc k) order more e l =
    let low : k < turns_of i order = omega arith in
    let found = more k low in
    let is = found.2 in
    let one = cond-true (t == i) (turns_of i (take found.0 order) + 1) (turns_of i (take found.0 order)) e in
    (suc found.0, found.1, one ∙ omega arith)

other_turn : (i t k : ℕ) (order : List ℕ) → TurnAfter i k order → (t == i) ≡ false → TurnAfter i k (t ∷ order)
other_turn i t k order found e =
    (suc found.0, found.1, cond-false (t == i) (turns_of i (take found.0 order) + 1) (turns_of i (take found.0 order)) e ∙ found.2)

-- a caller that has more than k turns has one after k others
pub find_turn : (i k : ℕ) (order : List ℕ) → k < turns_of i order → TurnAfter i k order
find_turn i k [] h = absurd (omega arith)
find_turn i k (t ∷ order) h = split (t == i) (λ b. (t == i) ≡ b → k < cond b (turns_of i order + 1) (turns_of i order) → TurnAfter i k (t ∷ order))
    (λ _ e l. own_turn i t k order (λ j low. find_turn i j order low) e l) (λ _ e l. other_turn i t k order (find_turn i k order l) e) refl h
