-- Lists by place: what holds at each place after an element is added, and what is left after one is taken.
use Rattle.std.proofs.Common.{◌≡◌, ℕ, zero, suc, ◌+◌, ◌*◌, ◌<◌, List, [], ◌∷◌, ◌++◌, length, get_or, map, refl, sym, ap, ◌∙◌, subst, arith, below_more}
use Rattle.std.specs.List.{AllByRecursion}
use Rattle.std.proofs.Math.ListN.{get_or-append}
use Rattle.std.proofs.Math.Seq.{get_or-append_seam}
use Rattle.flow_law.specs.history.Done.{total}

module _ {W K : Type 0} (k : W → K) where
  pub every_place : (P : K → Type 0) (ws : List W) → ((i : ℕ) (d : W) → i < length ws → P (k (get_or ws i d))) → AllByRecursion P (map k ws)
  every_place P [] h = tt
  every_place P (w ∷ ws) h = (h 0 w (omega arith), every_place P ws (λ i d l. h (suc i) d (omega arith)))

  pub at_place : (P : K → Type 0) (ws : List W) → AllByRecursion P (map k ws) → (i : ℕ) (d : W) → i < length ws → P (k (get_or ws i d))
  at_place P [] a i d l = absurd (omega arith)
  at_place P (w ∷ ws) a zero d l = a.0
  at_place P (w ∷ ws) a (suc i) d l = at_place P ws a.1 i d (omega arith)

  pub total_place : (f : K → ℕ) (each : ℕ) (ws : List W) → ((i : ℕ) (d : W) → i < length ws → f (k (get_or ws i d)) ≡ each) → total f (map k ws) ≡ length ws * each
  total_place f each [] h = omega arith
  total_place f each (w ∷ ws) h =
      let a : f (k w) ≡ each = h 0 w (omega arith) in
      let b : total f (map k ws) ≡ length ws * each = total_place f each ws (λ i d l. h (suc i) d (omega arith)) in
      grind arith

  pub length_map : (ws : List W) → length (map k ws) ≡ length ws
  length_map [] = refl
  length_map (w ∷ ws) = let h : length (map k ws) ≡ length ws = length_map ws in omega arith

pub one_of : {W : Type 0} (ws : List W) → 0 < length ws → W
one_of [] l = absurd (omega arith)
one_of (w ∷ ws) l = w

module _ {X : Type 0} where
  -- an element was added at the end
  pub pushed_each : (P : ℕ → X → Type 0) (xs ys : List X) (x : X) (n : ℕ) → length xs ≡ n → ys ≡ xs ++ x ∷ [] → ((k : ℕ) (d : X) → k < n → P k (get_or xs k d)) → P n x → (k : ℕ) (d : X) → k < n + 1 → P k (get_or ys k d)
  pushed_each P xs ys x n len e each last k d l =
      subst (λ zs. P k (get_or zs k d)) (sym e)
      (below_more (λ i. P i (get_or (xs ++ x ∷ []) i d)) n
      (λ i low. subst (P i) (sym (get_or-append xs (x ∷ []) d i (omega arith))) (each i d low))
      (subst (P n) (sym (ap (λ i. get_or (xs ++ x ∷ []) i d) (sym len) ∙ get_or-append_seam xs x [] d)) last) k (omega arith))

  -- the first of what was left was taken
  pub taken_next : (xs ss ts : List X) (x : X) (done n m : ℕ) → ss ≡ x ∷ ts → m + 1 ≡ n → ((k : ℕ) (d : X) → k < n → get_or ss k d ≡ get_or xs (done + k) d)
      → ((d : X) → x ≡ get_or xs done d) × ((k : ℕ) (d : X) → k < m → get_or ts k d ≡ get_or xs (done + 1 + k) d)
  taken_next xs ss ts x done n m e less left = (
    (λ d. ap (λ l. get_or l 0 d) (sym e) ∙ left 0 d (omega arith) ∙ ap (λ i. get_or xs i d) (let z : done + 0 ≡ done = omega arith in z)),
    (λ k d l. ap (λ l. get_or l (suc k) d) (sym e) ∙ left (suc k) d (omega arith) ∙ ap (λ i. get_or xs i d) (let z : done + suc k ≡ done + 1 + k = omega arith in z)),
  )

-- an element was added at the end of each of two lists
pub pushed_pair : {X Y : Type 0} (P : ℕ → X → Y → Type 0) (xs xs-after : List X) (ys ys-after : List Y) (x : X) (y : Y) (n : ℕ) → length xs ≡ n → length ys ≡ n → xs-after ≡ xs ++ x ∷ [] → ys-after ≡ ys ++ y ∷ []
    → ((k : ℕ) (d : X) (e : Y) → k < n → P k (get_or xs k d) (get_or ys k e)) → P n x y → (k : ℕ) (d : X) (e : Y) → k < n + 1 → P k (get_or xs-after k d) (get_or ys-after k e)
pushed_pair P xs xs-after ys ys-after x y n lx ly ex ey each last k d e l =
    let us = xs ++ x ∷ [] in let vs = ys ++ y ∷ [] in
    subst (λ zs. P k (get_or zs k d) (get_or ys-after k e)) (sym ex) (subst (λ zs. P k (get_or us k d) (get_or zs k e)) (sym ey)
    (below_more (λ i. P i (get_or us i d) (get_or vs i e)) n
    (λ i low. subst (λ a. P i a (get_or vs i e)) (sym (get_or-append xs (x ∷ []) d i (omega arith)))
    (subst (P i (get_or xs i d)) (sym (get_or-append ys (y ∷ []) e i (omega arith))) (each i d e low)))
    (subst (λ a. P n a (get_or vs n e)) (sym (ap (λ i. get_or us i d) (sym lx) ∙ get_or-append_seam xs x [] d))
    (subst (P n x) (sym (ap (λ i. get_or vs i e) (sym ly) ∙ get_or-append_seam ys y [] e)) last)) k (omega arith)))
