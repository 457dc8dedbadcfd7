-- The cells of values of several words. Begin with `apart` (no cell of one place is one of another), `words_kept` (a store elsewhere leaves
-- the words of a value), `begun_more` and `begun_whole` (a value whose words are read one by one).
use Rattle.std.proofs.Common.{◌≡◌, ◌≢◌, ℕ, zero, suc, ◌+◌, ◌-◌, ◌*◌, ◌/◌, ◌%◌, ◌<◌, ◌≤◌, List, [], ◌∷◌, ◌++◌, length, map, get_or, set, Some, refl, sym, ap, ◌∙◌, subst, inl, inr, length-append, arith}
use Rattle.std.specs.Prelude.{take, drop}
use Rattle.std.specs.List.{slice_get, AllByRecursion}
use Rattle.std.proofs.Math.Nat.{mod-lt, div-add-mod}
use Rattle.std.proofs.lemmas.Bool.{cases_lt}
use Rattle.std.proofs.lemmas.List.{get_or-set_other}
use Rattle.atomic_table.proofs.Lists.{one_turn}
use Rattle.flow_word_shared.specs.declared.view.RingStart.{RingStart}
use Rattle.flow_word_shared.specs.Rule.{head, capacity_of, cell_at, IsStart, words_from, HasValue}
use Rattle.flow_word_shared.specs.Steps.{IsBegun, values_of}

-- ---- places of values

-- the cells of an earlier place end before those of a later one begin
pub before : (width a b : ℕ) → a < b → a * width + width ≤ b * width
before width a zero less = absurd (omega (arith, less))
before width zero (suc b) less = omega arith
before width (suc a) (suc b) less = omega (arith, before width a b (omega (arith, less)))

pub apart : (width a b i j : ℕ) → a ≢ b → i < width → j < width → a * width + i ≢ b * width + j
apart width a b i j ne first second e = elim (cases_lt a b) as (λ _. Unit {0} → ⊥) [
  | inl less ↦ λ _. let far = before width a b less in absurd (omega (arith, far, first, second, e))
  | inr past ↦ λ _. let far = before width b a (omega (arith, past, ne)) in absurd (omega (arith, far, first, second, e))
] tt

-- the cells of a position are within those of the flow
pub cells_within : (start : RingStart) → IsStart start → (k : ℕ) → cell_at start k + start.width ≤ head + start.room * start.width
cells_within start is k = let room = is.room in let l = mod-lt k {m = start.room} (omega arith) in let far = before start.width (k % start.room) start.room l in omega (arith, far)

-- another position of the window, and the next one
other_place : (start : RingStart) → IsStart start → (k n : ℕ) → k < n → n ≤ k + capacity_of start → k % start.room ≢ n % start.room
other_place start is k n less kept same = let room = is.room in let one = one_turn k n start.room (omega arith) (omega arith) same in absurd (omega arith)

-- the cells of another position of the window, and those of the next one
pub other_cell : (start : RingStart) → IsStart start → (k n j : ℕ) → k < n → n ≤ k + capacity_of start → j < start.width → (i : ℕ) → cell_at start k ≤ i → i < cell_at start k + start.width → cell_at start n + j ≢ i
other_cell start is k n j less kept there i from within e =
    apart start.width (k % start.room) (n % start.room) (i - cell_at start k) j (other_place start is k n less kept) (omega (arith, from, within)) there (omega (arith, from, e))

-- ---- words in cells

pub length_from : (n : ℕ) (words : List ℕ) (p : ℕ) → length (words_from n words p) ≡ n
length_from zero words p = refl
length_from (suc n) words p = ap suc (length_from n words (p + 1))

-- the same words in all cells
pub words_same : (n : ℕ) (words words' : List ℕ) (p : ℕ) → ((i : ℕ) → p ≤ i → i < p + n → get_or words' i 0 ≡ get_or words i 0) → words_from n words' p ≡ words_from n words p
words_same zero words words' p same = refl
words_same (suc n) words words' p same = λ i. same p (omega arith) (omega arith) i ∷ words_same n words words' (p + 1) (λ j from less. same j (omega (arith, from)) (omega (arith, less))) i

-- a store into another cell
pub words_kept : (n : ℕ) (words : List ℕ) (place w p : ℕ) → ((i : ℕ) → p ≤ i → i < p + n → place ≢ i) → words_from n (set words place w) p ≡ words_from n words p
words_kept n words place w p other = words_same n words (set words place w) p (λ i from less. get_or-set_other words place i w 0 (λ e. other i from less (sym e)))

-- a store into a word before the cells
pub head_kept : (n : ℕ) (start : RingStart) (words : List ℕ) (place w k : ℕ) → place < head → words_from n (set words place w) (cell_at start k) ≡ words_from n words (cell_at start k)
head_kept n start words place w k less = words_kept n words place w (cell_at start k) (λ i from there e. absurd (omega (arith, less, from, e)))

-- the word in one of the cells
pub word_from : (n : ℕ) (words : List ℕ) (p j : ℕ) → j < n → get_or (words_from n words p) j 0 ≡ get_or words (p + j) 0
word_from zero words p j less = absurd (omega (arith, less))
word_from (suc n) words p zero less = ap (λ q. get_or words q 0) (let e : p ≡ p + 0 = omega arith in e)
word_from (suc n) words p (suc j) less = word_from n words (p + 1) j (omega (arith, less)) ∙ ap (λ q. get_or words q 0) (let e : p + 1 + j ≡ p + suc j = omega arith in e)

-- one more cell
pub words_more : (n : ℕ) (words : List ℕ) (p : ℕ) → words_from (n + 1) words p ≡ words_from n words p ++ get_or words (p + n) 0 ∷ []
words_more zero words p = ap (λ q. get_or words q 0 ∷ []) (let e : p ≡ p + 0 = omega arith in e)
words_more (suc n) words p = ap (λ k. words_from k words p) (let e : suc n + 1 ≡ suc (n + 1) = omega arith in e) ∙ ap (λ l. get_or words p 0 ∷ l) (words_more n words (p + 1) ∙ ap (λ q. words_from n words (p + 1) ++ get_or words q 0 ∷ []) (let e : p + 1 + n ≡ p + suc n = omega arith in e))

-- ---- lists

module _ {A : Type 0} where
  pub slice_get_left : (xs ys : List A) (k : ℕ) → k < length xs → slice_get (xs ++ ys) k ≡ slice_get xs k
  slice_get_left [] ys k l = absurd (omega arith)
  slice_get_left (x ∷ xs) ys zero l = refl
  slice_get_left (x ∷ xs) ys (suc k) l = slice_get_left xs ys k (omega arith)

  pub slice_get_end : (xs : List A) (x : A) (k : ℕ) → k ≡ length xs → slice_get (xs ++ x ∷ []) k ≡ Some x
  slice_get_end [] x zero e = refl
  slice_get_end [] x (suc k) e = absurd (omega arith)
  slice_get_end (y ∷ xs) x zero e = absurd (omega arith)
  slice_get_end (y ∷ xs) x (suc k) e = slice_get_end xs x k (omega arith)

-- ---- a value whose words are read one by one

none_left : {A : Type 0} (xs : List A) → length xs ≡ 0 → xs ≡ []
none_left [] e = refl
none_left (x ∷ xs) e = absurd (omega (arith, e))

append_none : {A : Type 0} (xs : List A) → xs ++ [] ≡ xs
append_none [] = refl
append_none (x ∷ xs) = ap (λ l. x ∷ l) (append_none xs)

-- the word after a beginning, and what is left after it
next_word : (part rest : List ℕ) (n : ℕ) → length (part ++ rest) ≡ n → length part < n → (left : List ℕ) × (part ++ rest ≡ (part ++ get_or (part ++ rest) (length part) 0 ∷ []) ++ left)
next_word [] [] n whole less = absurd (omega (arith, whole, less))
next_word [] (w ∷ rest) n whole less = (rest, refl)
next_word (v ∷ part) rest zero whole less = absurd (omega (arith, less))
next_word (v ∷ part) rest (suc n) whole less = let one = next_word part rest n (omega (arith, whole)) (omega (arith, less)) in (one.0, ap (λ l. v ∷ l) one.1)

module _ {T : Type 0} (packs : List ℕ → Type 0) (value_of : List ℕ → T) where
  -- each value has one list of words
  abbrev pub Once : Type 0
  Once = (v w : List ℕ) → packs v → packs w → value_of v ≡ value_of w → v ≡ w

  same_value : (log : List T) (k : ℕ) → Once → (v w : List ℕ) → HasValue packs value_of log k v → HasValue packs value_of log k w → v ≡ w
  same_value log k once v w a b = let e : Some (value_of v) ≡ Some (value_of w) = sym a.1 ∙ b.1 in once v w a.0 b.0 (cc)

  -- one more word of the value at this position
  pub begun_more : (log : List T) (k n : ℕ) (words : List ℕ) (p : ℕ) → Once → HasValue packs value_of log k (words_from n words p) → (part : List ℕ) → length part < n
      → IsBegun packs value_of log k part → IsBegun packs value_of log k (part ++ get_or words (p + length part) 0 ∷ [])
  begun_more log k n words p once here part less begun w has =
      let is : w ≡ words_from n words p = same_value log k once w (words_from n words p) has here in
      let old = begun w has in
      let cells : part ++ old.0 ≡ words_from n words p = sym old.1 ∙ is in
      let one = next_word part old.0 n (ap length cells ∙ length_from n words p) less in
      let word : get_or (part ++ old.0) (length part) 0 ≡ get_or words (p + length part) 0 = ap (λ l. get_or l (length part) 0) cells ∙ word_from n words p (length part) less in
      (one.0, old.1 ∙ one.1 ∙ ap (λ (x : ℕ). (part ++ x ∷ []) ++ one.0) word)

  -- all words of the value at this position
  pub begun_whole : (log : List T) (k n : ℕ) (words : List ℕ) (p : ℕ) → HasValue packs value_of log k (words_from n words p) → (part : List ℕ) → length part ≡ n
      → IsBegun packs value_of log k part → HasValue packs value_of log k part
  begun_whole log k n words p here part all begun =
      let old = begun (words_from n words p) here in
      let longer = length-append part old.0 in let whole = ap length old.1 in let count = length_from n words p in
      let none : old.0 ≡ [] = none_left old.0 (omega (arith, longer, whole, count, all)) in
      subst (HasValue packs value_of log k) (old.1 ∙ ap (λ l. part ++ l) none ∙ append_none part) here

-- nothing has been read
pub begun_none : {T : Type 0} (packs : List ℕ → Type 0) (value_of : List ℕ → T) (log : List T) (k : ℕ) → IsBegun packs value_of log k []
begun_none packs value_of log k w has = (w, refl)

-- ---- the words of several values, one after the other

take_whole : (n : ℕ) (xs ys : List ℕ) → length xs ≡ n → take n (xs ++ ys) ≡ xs
take_whole zero [] ys e = refl
take_whole zero (x ∷ xs) ys e = absurd (omega (arith, e))
take_whole (suc n) [] ys e = absurd (omega (arith, e))
take_whole (suc n) (x ∷ xs) ys e = ap (λ l. x ∷ l) (take_whole n xs ys (omega (arith, e)))

take_left : (n : ℕ) (xs ys : List ℕ) → n ≤ length xs → take n (xs ++ ys) ≡ take n xs
take_left zero xs ys e = refl
take_left (suc n) [] ys e = absurd (omega (arith, e))
take_left (suc n) (x ∷ xs) ys e = ap (λ l. x ∷ l) (take_left n xs ys (omega (arith, e)))

drop_left : (n : ℕ) (xs ys : List ℕ) → n ≤ length xs → drop n (xs ++ ys) ≡ drop n xs ++ ys
drop_left zero xs ys e = refl
drop_left (suc n) [] ys e = absurd (omega (arith, e))
drop_left (suc n) (x ∷ xs) ys e = drop_left n xs ys (omega (arith, e))

length_dropped : (n : ℕ) (xs : List ℕ) (m : ℕ) → length xs ≡ n + m → length (drop n xs) ≡ m
length_dropped zero xs m e = e ∙ (let z : 0 + m ≡ m = omega arith in z)
length_dropped (suc n) [] m e = absurd (omega (arith, e))
length_dropped (suc n) (x ∷ xs) m e = length_dropped n xs m (omega (arith, e))

-- one more value
pub values_more : (width n : ℕ) (ws p : List ℕ) → length ws ≡ n * width → length p ≡ width → values_of width (n + 1) (ws ++ p) ≡ values_of width n ws ++ p ∷ []
values_more width zero [] p all one = ap (λ l. l ∷ []) (take_full width p one)
  where
    take_full : (n : ℕ) (xs : List ℕ) → length xs ≡ n → take n xs ≡ xs
    take_full zero [] e = refl
    take_full zero (x ∷ xs) e = absurd (omega (arith, e))
    take_full (suc n) [] e = absurd (omega (arith, e))
    take_full (suc n) (x ∷ xs) e = ap (λ l. x ∷ l) (take_full n xs (omega (arith, e)))
values_more width zero (w ∷ ws) p all one = absurd (omega (arith, all))
values_more width (suc n) ws p all one = let long : width ≤ length ws = omega (arith, all) in
    ap (λ k. values_of width k (ws ++ p)) (let e : suc n + 1 ≡ suc (n + 1) = omega arith in e)
    ∙ (λ i. take_left width ws p long i ∷ (ap (values_of width (n + 1)) (drop_left width ws p long) ∙ values_more width n (drop width ws) p (length_dropped width ws (n * width) (omega (arith, all))) one) i)

pub length_values_of : (width n : ℕ) (ws : List ℕ) → length (values_of width n ws) ≡ n
length_values_of width zero ws = refl
length_values_of width (suc n) ws = ap suc (length_values_of width n (drop width ws))

drop_drop : (a b : ℕ) (xs : List ℕ) → drop a (drop b xs) ≡ drop (a + b) xs
drop_drop a zero xs = ap (λ n. drop n xs) (let e : a ≡ a + 0 = omega arith in e)
drop_drop zero (suc b) xs = ap (λ n. drop n xs) (let e : suc b ≡ 0 + suc b = omega arith in e)
drop_drop (suc a) (suc b) [] = ap (λ n. drop {A = ℕ} n []) (let e : suc (a + suc b) ≡ suc a + suc b = omega arith in e)
drop_drop (suc a) (suc b) (x ∷ xs) = drop_drop (suc a) b xs ∙ ap (λ n. drop n (x ∷ xs)) (let e : suc (suc a + b) ≡ suc a + suc b = omega arith in e)

-- without the first values
pub values_drop : (width n d : ℕ) (ws : List ℕ) → d ≤ n → drop d (values_of width n ws) ≡ values_of width (n - d) (drop (d * width) ws)
values_drop width n zero ws less = let z : 0 ≡ 0 * width = omega arith in let m : n ≡ n - 0 = omega arith in λ i. values_of width (m i) (drop (z i) ws)
values_drop width zero (suc d) ws less = absurd (omega (arith, less))
values_drop width (suc n) (suc d) ws less = values_drop width n d (drop width ws) (omega (arith, less)) ∙ (let m : n - d ≡ suc n - suc d = omega arith in let e : d * width + width ≡ suc d * width = omega arith in
    λ i. values_of width (m i) ((drop_drop (d * width) width ws ∙ ap (λ k. drop k ws) e) i))

-- one of the values
pub value_is : {A : Type 0} (f : List ℕ → A) (width n i : ℕ) (ws : List ℕ) → i < n → slice_get (map f (values_of width n ws)) i ≡ Some (f (take width (drop (i * width) ws)))
value_is f width zero i ws less = absurd (omega (arith, less))
value_is f width (suc n) zero ws less = ap (λ k. Some (f (take width (drop k ws)))) (let z : 0 ≡ 0 * width = omega arith in z)
value_is f width (suc n) (suc i) ws less = value_is f width n i (drop width ws) (omega (arith, less))
    ∙ ap (λ l. Some (f (take width l))) (drop_drop (i * width) width ws ∙ ap (λ k. drop k ws) (let e : i * width + width ≡ suc i * width = omega arith in e))

pub each_is : (packs : List ℕ → Type 0) (width n i : ℕ) (ws : List ℕ) → AllByRecursion packs (values_of width n ws) → i < n → packs (take width (drop (i * width) ws))
each_is packs width zero i ws all less = absurd (omega (arith, less))
each_is packs width (suc n) zero ws all less = subst (λ k. packs (take width (drop k ws))) (let z : 0 ≡ 0 * width = omega arith in z) all.0
each_is packs width (suc n) (suc i) ws all less =
    subst packs (ap (take width) (drop_drop (i * width) width ws ∙ ap (λ k. drop k ws) (let e : i * width + width ≡ suc i * width = omega arith in e))) (each_is packs width n i (drop width ws) all.1 (omega (arith, less)))

-- the first of the values that are left
pub first_left : (width n d : ℕ) (ws : List ℕ) → d < n → take 1 (drop d (values_of width n ws)) ≡ take width (drop (d * width) ws) ∷ []
first_left width n d ws less = ap (take 1) (values_drop width n d ws (omega (arith, less))) ∙ one (n - d) (omega (arith, less))
  where
    one : (m : ℕ) → 0 < m → take 1 (values_of width m (drop (d * width) ws)) ≡ take width (drop (d * width) ws) ∷ []
    one zero l = absurd (omega (arith, l))
    one (suc m) l = refl

pub length_took : (n : ℕ) (xs : List ℕ) → n ≤ length xs → length (take n xs) ≡ n
length_took zero xs less = refl
length_took (suc n) [] less = absurd (omega (arith, less))
length_took (suc n) (x ∷ xs) less = ap suc (length_took n xs (omega (arith, less)))

-- places in order have cells in order
pub in_order : (a b width : ℕ) → a ≤ b → a * width ≤ b * width
in_order a b width less = elim (cases_lt a b) as (λ _. a * width ≤ b * width) [
  | inl l ↦ omega (arith, before width a b l)
  | inr past ↦ let same : a ≡ b = omega (arith, past, less) in subst (λ k. a * width ≤ k * width) same (omega arith)
]

-- values whose words are at most 64 in all
pub fit_ahead : (count width : ℕ) → count ≤ 64 / width → count * width ≤ 64
fit_ahead count width less = let all = div-add-mod 64 width in let order = in_order count (64 / width) width less in let turned : width * (64 / width) ≡ 64 / width * width = omega arith in omega (arith, all, order, turned)

-- the words of one of several values
pub part_is : (i wide width : ℕ) (ws : List ℕ) → wide ≡ width → take width (drop (i * width) ws) ≡ take (i * wide + wide - i * wide) (drop (i * wide) ws)
part_is i wide width ws is = let n : width ≡ i * wide + wide - i * wide = omega (arith, is) in λ j. take (n j) (drop (i * sym is j) ws)

spread : (d p width : ℕ) → (d + p) * width ≡ d * width + p * width
spread d p width = omega arith

-- the words of some values, and of those that are left
pub left_of : (count passed width : ℕ) → passed ≤ count → (count - passed) * width + passed * width ≡ count * width
left_of count passed width less = sym (spread (count - passed) passed width) ∙ ap (λ k. k * width) (let e : count - passed + passed ≡ count = omega (arith, less) in e)
