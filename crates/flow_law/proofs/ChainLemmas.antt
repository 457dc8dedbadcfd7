-- The run that each operator makes means what the lists say. A lemma `map_means` is of `map_run` and `map_meaning`, and so
-- for each operator.
use Rattle.std.proofs.Common.{◌≡◌, ℕ, zero, suc, Bool, true, false, cond, ◌&&◌, List, [], ◌∷◌, length, Option, Some, None, Result, Ok, Err, inl, inr, arith, refl, sym, ap, ◌∙◌}
use Rattle.std.specs.Prelude.{nat_le, filter, take_while, drop, flat_map, option_to_list}
use Rattle.std.specs.List.{list_all}
use Rattle.std.proofs.Math.Dec.{leb-suc-zero, leb-suc-suc}
use Rattle.std.proofs.lemmas.Bool.Decides.{leb_tells}
use Rattle.std.proofs.lemmas.List.Sums.{take_while-cons}
use Rattle.std.specs.Bool.{IsTrue}
use Rattle.flow_law.specs.declared.chain.ChainFault.{ChainFault}
use Rattle.flow_law.specs.declared.chain.End.{End}
use Rattle.flow_law.specs.declared.chain.End.TheVariants.{Completed, Failed}
use Rattle.flow_law.specs.chain.ChainRun.{ChainRun, gives, pends, ends, items, ending, entries, asks}
use Rattle.flow_law.specs.chain.OperatorRuns.{continued, map_run, filter_run, take_while_run, take_run, drop_run, drop_while_run, is_repeated, distinct_run, scan_run, running_reduce_run, pair_run, zip_run, prepended, transform_run, followed, flat_map_run}
use Rattle.flow_law.specs.chain.Chain.{Meaning, meaning, meaning_of, with_first, with_ending, then_meaning, onward, images, map_meaning, filter_meaning, take_while_meaning, take_meaning, drop_meaning, drop_while_meaning, differing, distinct_meaning, results, scan_meaning, running_reduce_meaning, concatenated, transform_meaning, flattened, flat_map_meaning, zip_meaning}

continued_means : {B C : Type 0} (a : Result B ChainFault) (k : B → ChainRun C) (m : B → Meaning C) → ((y : B) → meaning_of (k y) ≡ m y)
    → meaning_of (continued a k) ≡ onward a m
continued_means (Ok y) k m h = h y
continued_means (Err fault) k m h = refl

module _ {A B : Type 0} (f : A → Result B ChainFault) where
  pub map_means : (r : ChainRun A) → meaning_of (map_run f r) ≡ map_meaning f (meaning_of r)
  map_means (gives x r) =
      continued_means (f x) (λ y. gives y (map_run f r)) (λ y. with_first (y ∷ []) (images f (items r) (ending r))) (λ y. ap (with_first (y ∷ [])) (map_means r))
  map_means (pends r) = map_means r
  map_means (ends e) = refl

module _ {A : Type 0} (test : A → Bool) where
  filter-step : (b : Bool) (x : A) (r : ChainRun A) (xs : List A) (e : End) → meaning_of r ≡ meaning xs e
      → meaning_of (cond b (gives x r) r) ≡ meaning (cond b (x ∷ xs) xs) e
  filter-step true x r xs e h = ap (with_first (x ∷ [])) h
  filter-step false x r xs e h = h

  pub filter_means : (r : ChainRun A) → meaning_of (filter_run test r) ≡ filter_meaning test (meaning_of r)
  filter_means (gives x r) = filter-step (test x) x (filter_run test r) (filter test (items r)) (ending r) (filter_means r)
  filter_means (pends r) = filter_means r
  filter_means (ends e) = refl

  take_while-step : (b all : Bool) (x : A) (r : ChainRun A) (xs : List A) (e : End) → meaning_of r ≡ meaning xs (cond all e Completed)
      → meaning_of (cond b (gives x r) (ends Completed)) ≡ meaning (cond b (x ∷ xs) []) (cond (b && all) e Completed)
  take_while-step true all x r xs e h = ap (with_first (x ∷ [])) h
  take_while-step false all x r xs e h = refl

  pub take_while_means : (r : ChainRun A) → meaning_of (take_while_run test r) ≡ take_while_meaning test (meaning_of r)
  take_while_means (gives x r) =
      take_while-step (test x) (list_all test (items r)) x (take_while_run test r) (take_while test (items r)) (ending r) (take_while_means r)
      ∙ ap (λ xs. meaning xs (cond (test x && list_all test (items r)) (ending r) Completed)) (sym (take_while-cons test x (items r)))
  take_while_means (pends r) = take_while_means r
  take_while_means (ends e) = refl

  drop_while-step : (b : Bool) (x : A) (r dropped : ChainRun A) (xs : List A) → meaning_of dropped ≡ meaning (drop (length xs) (items r)) (ending r)
      → meaning_of (cond b dropped (gives x r)) ≡ meaning (drop (length (cond b (x ∷ xs) [])) (x ∷ items r)) (ending r)
  drop_while-step true x r dropped xs h = h
  drop_while-step false x r dropped xs h = refl

  pub drop_while_means : (r : ChainRun A) → meaning_of (drop_while_run test r) ≡ drop_while_meaning test (meaning_of r)
  drop_while_means (gives x r) =
      drop_while-step (test x) x r (drop_while_run test r) (take_while test (items r)) (drop_while_means r)
      ∙ ap (λ xs. meaning (drop (length xs) (x ∷ items r)) (ending r)) (sym (take_while-cons test x (items r)))
  drop_while_means (pends r) = drop_while_means r
  drop_while_means (ends e) = refl

zero-le-length : (n : ℕ) → nat_le 0 n ≡ true
zero-le-length n = elim (leb_tells 0 n) [ inl h ↦ h.0 | inr h ↦ absurd (omega (arith, h.1)) ]

module _ {A : Type 0} where
  pub take_means : (n : ℕ) (r : ChainRun A) → meaning_of (take_run n r) ≡ take_meaning n (meaning_of r)
  take_means zero r = rw (zero-le-length (length (items r))) refl
  take_means (suc n) (gives x r) = rw (leb-suc-suc n (length (items r))) (ap (with_first (x ∷ [])) (take_means n r))
  take_means (suc n) (pends r) = take_means (suc n) r
  take_means (suc n) (ends e) = rw (leb-suc-zero n) refl

  pub drop_means : (r : ChainRun A) (n : ℕ) → meaning_of (drop_run r n) ≡ drop_meaning n (meaning_of r)
  drop_means (gives x r) zero = ap (with_first (x ∷ [])) (drop_means r zero)
  drop_means (gives x r) (suc n) = drop_means r n
  drop_means (pends r) n = drop_means r n
  drop_means (ends e) zero = refl
  drop_means (ends e) (suc n) = refl

module _ {A : Type 0} (is_same : A → A → Bool) (exact : (x y : A) → IsTrue (is_same x y) → x ≡ y) where
  repeated-is : (last : Option A) (x : A) → is_repeated is_same last x ≡ true → last ≡ Some x
  repeated-is (Some y) x h = ap Some (exact y x h)
  repeated-is None x h = cc

  distinct-step : (b : Bool) (last : Option A) (x : A) (r : ChainRun A) → is_repeated is_same last x ≡ b
      → ((before : Option A) → meaning_of (distinct_run is_same before r) ≡ meaning (differing is_same before (items r)) (ending r))
      → meaning_of (cond b (distinct_run is_same last r) (gives x (distinct_run is_same (Some x) r)))
      ≡ meaning (cond b (differing is_same (Some x) (items r)) (x ∷ differing is_same (Some x) (items r))) (ending r)
  distinct-step true last x r h rest = rest last ∙ ap (λ before. meaning (differing is_same before (items r)) (ending r)) (repeated-is last x h)
  distinct-step false last x r h rest = ap (with_first (x ∷ [])) (rest (Some x))

  distinct-means_from : (r : ChainRun A) (last : Option A) → meaning_of (distinct_run is_same last r) ≡ meaning (differing is_same last (items r)) (ending r)
  distinct-means_from (gives x r) last = distinct-step (is_repeated is_same last x) last x r refl (distinct-means_from r)
  distinct-means_from (pends r) last = distinct-means_from r last
  distinct-means_from (ends e) last = refl

  pub distinct_means : (r : ChainRun A) → meaning_of (distinct_run is_same None r) ≡ distinct_meaning is_same (meaning_of r)
  distinct_means r = distinct-means_from r None

module _ {A B : Type 0} (f : B × A → Result B ChainFault) where
  results_means : (last : B) (r : ChainRun A) → meaning_of (scan_run f last r) ≡ results f last (items r) (ending r)
  results_means last (gives x r) =
      continued_means (f (last, x)) (λ y. gives y (scan_run f y r)) (λ y. with_first (y ∷ []) (results f y (items r) (ending r)))
      (λ y. ap (with_first (y ∷ [])) (results_means y r))
  results_means last (pends r) = results_means last r
  results_means last (ends e) = refl

  pub scan_means : (initial : B) (r : ChainRun A) → meaning_of (gives initial (scan_run f initial r)) ≡ scan_meaning f initial (meaning_of r)
  scan_means initial r = ap (with_first (initial ∷ [])) (results_means initial r)

module _ {A : Type 0} (f : A × A → Result A ChainFault) where
  reduced-means_after : (last : A) (r : ChainRun A) → meaning_of (running_reduce_run f (Some last) r) ≡ results f last (items r) (ending r)
  reduced-means_after last (gives x r) =
      continued_means (f (last, x)) (λ y. gives y (running_reduce_run f (Some y) r)) (λ y. with_first (y ∷ []) (results f y (items r) (ending r)))
      (λ y. ap (with_first (y ∷ [])) (reduced-means_after y r))
  reduced-means_after last (pends r) = reduced-means_after last r
  reduced-means_after last (ends e) = refl

  pub running_reduce_means : (r : ChainRun A) → meaning_of (running_reduce_run f None r) ≡ running_reduce_meaning f (meaning_of r)
  running_reduce_means (gives x r) = ap (with_first (x ∷ [])) (reduced-means_after x r)
  running_reduce_means (pends r) = running_reduce_means r
  running_reduce_means (ends e) = refl

prepended_means : {B : Type 0} (xs : List B) (r : ChainRun B) → meaning_of (prepended xs r) ≡ with_first xs (meaning_of r)
prepended_means [] r = refl
prepended_means (x ∷ xs) r = ap (with_first (x ∷ [])) (prepended_means xs r)

module _ {A B : Type 0} (f : A → Result (List B) ChainFault) where
  pub transform_means : (r : ChainRun A) → meaning_of (transform_run f r) ≡ transform_meaning f (meaning_of r)
  transform_means (gives x r) =
      continued_means (f x) (λ ys. prepended ys (transform_run f r)) (λ ys. with_first ys (concatenated f (items r) (ending r)))
      (λ ys. prepended_means ys (transform_run f r) ∙ ap (with_first ys) (transform_means r))
  transform_means (pends r) = transform_means r
  transform_means (ends e) = refl

module _ {B : Type 0} where
  with_ending-first : (x : B) (xs : List B) (e : End) (m : Meaning B) → with_first (x ∷ []) (with_ending xs e m) ≡ with_ending (x ∷ xs) e m
  with_ending-first x xs Completed m = refl
  with_ending-first x xs (Failed fault) m = refl

  followed_means : (r q : ChainRun B) → meaning_of (followed r q) ≡ then_meaning (meaning_of r) (meaning_of q)
  followed_means (gives x r) q = ap (with_first (x ∷ [])) (followed_means r q) ∙ with_ending-first x (items r) (ending r) (meaning_of q)
  followed_means (pends r) q = followed_means r q
  followed_means (ends Completed) q = refl
  followed_means (ends (Failed fault)) q = refl

module _ {A B : Type 0} (f : A → Result (ChainRun B) ChainFault) where
  pub flat_map_means : (r : ChainRun A) → meaning_of (flat_map_run f r) ≡ flat_map_meaning f (meaning_of r)
  flat_map_means (gives x r) =
      continued_means (f x) (λ inner. followed inner (flat_map_run f r)) (λ inner. then_meaning (meaning_of inner) (flattened f (items r) (ending r)))
      (λ inner. followed_means inner (flat_map_run f r) ∙ ap (then_meaning (meaning_of inner)) (flat_map_means r))
  flat_map_means (pends r) = flat_map_means r
  flat_map_means (ends e) = refl

module _ {A B C : Type 0} (f : A × B → Result C ChainFault) where
  pair_means : (x : A) (r : ChainRun A) (k : ChainRun B → ChainRun C) → ((q : ChainRun B) → meaning_of (k q) ≡ zip_meaning f (meaning_of r) (meaning_of q))
      → (q : ChainRun B) → meaning_of (pair_run f x k q) ≡ zip_meaning f (meaning_of (gives x r)) (meaning_of q)
  pair_means x r k h (gives y q) =
      rw (leb-suc-suc (length (items r)) (length (items q)))
      (continued_means (f (x, y)) (λ z. gives z (k q)) (λ z. with_first (z ∷ []) (zip_meaning f (meaning_of r) (meaning_of q))) (λ z. ap (with_first (z ∷ [])) (h q)))
  pair_means x r k h (pends q) = pair_means x r k h q
  pair_means x r k h (ends e) = rw (leb-suc-zero (length (items r))) refl

  pub zip_means : (r : ChainRun A) (q : ChainRun B) → meaning_of (zip_run f r q) ≡ zip_meaning f (meaning_of r) (meaning_of q)
  zip_means (gives x r) q = pair_means x r (zip_run f r) (zip_means r) q
  zip_means (pends r) q = zip_means r q
  zip_means (ends e) q = rw (zero-le-length (length (items q))) refl

-- a chain can be asked as often as its run has entries
pub asks_entries : {T : Type 0} (r : ChainRun T) → asks r ≡ length (entries r)
asks_entries (gives x r) = rw (asks_entries r) (omega arith)
asks_entries (pends r) = rw (asks_entries r) (omega arith)
asks_entries (ends e) = refl

-- the items are those of the entries
pub items_entries : {T : Type 0} (r : ChainRun T) → items r ≡ flat_map option_to_list (entries r)
items_entries (gives x r) = ap (λ xs. x ∷ xs) (items_entries r)
items_entries (pends r) = items_entries r
items_entries (ends e) = refl
