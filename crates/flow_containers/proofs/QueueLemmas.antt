-- A number in a list whose numbers rise: where it is, and what is left without it.
use Rattle.std.proofs.Common.{inl, inr, ◌≡◌, ℕ, zero, suc, ◌+◌, ◌-◌, ◌≤◌, ◌<◌, ◌==◌, Bool, true, false, not, ◌||◌, cond, List, [], ◌∷◌, ◌++◌, length, map, get_or, take, drop, refl, sym, ap, ◌∙◌, subst, arith}
use Rattle.std.specs.Prelude.{filter, nat_lt}
use Rattle.std.specs.List.{list_any, remove, AllWithin}
use Rattle.std.specs.List.Sorted.{IsNonDecreasingBy}
use Rattle.std.proofs.lemmas.Bool.{cases_lt, or_parts, or_from}
use Rattle.std.proofs.lemmas.Bool.Decides.{Decides-eqb, Decides-ltb}
use Rattle.std.specs.Prelude.{Option, Some, None, Result, Ok, Err, ◌^◌, if◌then◌else◌}
use Rattle.std.specs.Option.{IsSome, OnSome, option_to_list}
use Rattle.std.specs.Result.{is_ok}
use Rattle.std.proofs.lemmas.List.{length-map, take-map, drop-map, map-append}
use Rattle.flow_law.specs.declared.states.Numbered.{Numbered}
use Rattle.flow_law.specs.laws.Laws.{RisesTo}
use Rattle.flow_containers.specs.declared.queue.Queued.{Queued}
use Rattle.flow_containers.specs.Queue.{numbered_of, Rises, IsPlace}
use Rattle.flow_law.proofs.Rows.{rises_from, rises_more, rises_higher, rises_filter}

pub list_any-map : {X Y : Type 0} (p : Y → Bool) (f : X → Y) (xs : List X) → list_any p (map f xs) ≡ list_any (λ x. p (f x)) xs
list_any-map p f [] = refl
list_any-map p f (x ∷ xs) = ap (λ b. p (f x) || b) (list_any-map p f xs)

pub filter-map : {X Y : Type 0} (p : Y → Bool) (f : X → Y) (xs : List X) → filter p (map f xs) ≡ map f (filter (λ x. p (f x)) xs)
filter-map p f [] = refl
filter-map p f (x ∷ xs) =
    elim (p (f x)) as (λ t. cond t (f x ∷ filter p (map f xs)) (filter p (map f xs)) ≡ map f (cond t (x ∷ filter (λ y. p (f y)) xs) (filter (λ y. p (f y)) xs))) [
      | true ↦ ap (λ l. f x ∷ l) (filter-map p f xs)
      | false ↦ filter-map p f xs
    ]

pub unequal : (a b : ℕ) → (a ≡ b → ⊥) → (a == b) ≡ false
unequal a b other = elim (a == b) as (λ t. (a == b) ≡ t → t ≡ false) [ true ↦ λ e. absurd (other ((Decides-eqb a b).0 e)) | false ↦ λ _. refl ] refl

pub equal : (a b : ℕ) → a ≡ b → (a == b) ≡ true
equal a b e = (Decides-eqb a b).1 e

module _ {X : Type 0} where
  pub none_at_each : (p : X → Bool) (xs : List X) → ((k : ℕ) (d : X) → k < length xs → p (get_or xs k d) ≡ false) → list_any p xs ≡ false
  none_at_each p [] h = refl
  none_at_each p (x ∷ xs) h = or_from (p x) (list_any p xs) (h zero x (omega arith)) (none_at_each p xs (λ k d l. h (suc k) d (omega (arith, l))))

  pub filter_all : (p : X → Bool) (xs : List X) → list_any p xs ≡ false → filter (λ x. not (p x)) xs ≡ xs
  filter_all p [] h = refl
  filter_all p (x ∷ xs) h =
      let parts = or_parts (p x) (list_any p xs) h in
      ap (λ t. cond (not t) (x ∷ filter (λ y. not (p y)) xs) (filter (λ y. not (p y)) xs)) parts.0 ∙ ap (λ l. x ∷ l) (filter_all p xs parts.1)

module _ {X : Type 0} (key : X → ℕ) where
  pub above_floor : (floor top : ℕ) (xs : List X) (i : ℕ) (d : X) → RisesTo floor (map key xs) top → i < length xs → floor < key (get_or xs i d)
  above_floor floor top [] i d r h = absurd (omega (arith, h))
  above_floor floor top (x ∷ xs) zero d r h = r.0
  above_floor floor top (x ∷ xs) (suc i) d r h =
      let more = above_floor (key x) top xs i d r.1 (omega (arith, h)) in
      omega (arith, r.0, more)

  with_first : (x : X) (xs : List X) → ((i : ℕ) (d : X) → i < length xs → key x < key (get_or xs i d)) → IsNonDecreasingBy key xs → IsNonDecreasingBy key (x ∷ xs)
  with_first x xs above rest zero zero d a b = omega arith
  with_first x xs above rest zero (suc j) d a b = omega (arith, above j d (omega (arith, b)))
  with_first x xs above rest (suc i) zero d a b = absurd (omega (arith, a))
  with_first x xs above rest (suc i) (suc j) d a b = rest i j d (omega (arith, a)) (omega (arith, b))

  pub non_decreasing : (floor top : ℕ) (xs : List X) → RisesTo floor (map key xs) top → IsNonDecreasingBy key xs
  non_decreasing floor top [] r = λ i j d a b. absurd (omega (arith, b))
  non_decreasing floor top (x ∷ xs) r = with_first x xs (λ i d h. above_floor (key x) top xs i d r.1 h) (non_decreasing (key x) top xs r.1)

  pub none_above : (e top : ℕ) (xs : List X) → RisesTo e (map key xs) top → list_any (λ q. key q == e) xs ≡ false
  none_above e top xs r = none_at_each (λ q. key q == e) xs (λ k d l. let h = above_floor e top xs k d r l in unequal _ _ (λ is. omega (arith, h, is)))

  pub found : (e floor top : ℕ) (xs : List X) (i : ℕ) (d : X) → RisesTo floor (map key xs) top → i < length xs → key (get_or xs i d) ≡ e
      → (list_any (λ q. key q == e) xs ≡ true) × (remove xs i ≡ filter (λ q. not (key q == e)) xs)
  found e floor top [] i d r h is = absurd (omega (arith, h))
  found e floor top (x ∷ xs) zero d r h is =
      let same : (key x == e) ≡ true = equal (key x) e is in
      let rest : filter (λ q. not (key q == e)) xs ≡ xs = filter_all (λ q. key q == e) xs (none_above e top xs (subst (λ n. RisesTo n (map key xs) top) is r.1)) in (
        ap (λ t. t || list_any (λ q. key q == e) xs) same,
        sym (ap (λ t. cond (not t) (x ∷ filter (λ q. not (key q == e)) xs) (filter (λ q. not (key q == e)) xs)) same ∙ rest),
      )
  found e floor top (x ∷ xs) (suc i) d r h is =
      let below = above_floor (key x) top xs i d r.1 (omega (arith, h)) in
      let other : (key x == e) ≡ false = unequal (key x) e (λ same. omega (arith, below, is, same)) in
      let rest = found e (key x) top xs i d r.1 (omega (arith, h)) is in (
        ap (λ t. t || list_any (λ q. key q == e) xs) other ∙ rest.0,
        ap (λ l. x ∷ l) rest.1 ∙ sym (ap (λ t. cond (not t) (x ∷ filter (λ q. not (key q == e)) xs) (filter (λ q. not (key q == e)) xs)) other),
      )

  -- the place between those below e and those from e on has no e
  pub none_there : (e floor top : ℕ) (xs : List X) (i : ℕ) → RisesTo floor (map key xs) top
      → AllWithin (λ q. nat_lt (key q) e ≡ true) xs 0 i → AllWithin (λ q. nat_lt (key q) e ≡ false) xs i (length xs)
      → ((d : X) → i < length xs → key (get_or xs i d) ≡ e → ⊥) → list_any (λ q. key q == e) xs ≡ false
  none_there e floor top xs i r low high other = none_at_each (λ q. key q == e) xs (λ k d l. unequal _ _ (λ is. elim (cases_lt k i) as (λ _. ⊥) [
    | inl lt ↦
        let under : key (get_or xs k d) < e = (Decides-ltb (key (get_or xs k d)) e).0 (low k d (omega arith) lt) in
        omega (arith, under, is)
    | inr ge ↦
        let order = non_decreasing floor top xs r i k d ge l in
        let not_under : e ≤ key (get_or xs i d) = elim (cases_lt (key (get_or xs i d)) e) as (λ _. e ≤ key (get_or xs i d)) [
          | inl lt ↦ absurd (Rattle.std.proofs.lemmas.Bool.both_ways _ (high i d (omega arith) (omega (arith, ge, l))) ((Decides-ltb (key (get_or xs i d)) e).1 lt))
          | inr h ↦ h
        ] in
        other d (omega (arith, ge, l)) (omega (arith, order, is, not_under))
  ]))

-- ---- the queue as the definitions have it

module _ {T : Type 0} where
  pub numbers_of : (xs : List (Queued T)) → map (λ (q : Numbered T). q.number) (map numbered_of xs) ≡ map (λ q. q.number) xs
  numbers_of [] = refl
  numbers_of (x ∷ xs) = ap (λ l. x.number ∷ l) (numbers_of xs)

  pub remove-map : (xs : List (Queued T)) (i : ℕ) → remove (map numbered_of xs) i ≡ map numbered_of (remove xs i)
  remove-map xs i =
      ap (λ l. l ++ drop (suc i) (map numbered_of xs)) (take-map numbered_of i xs)
      ∙ ap (λ l. map numbered_of (take i xs) ++ l) (drop-map numbered_of (suc i) xs)
      ∙ sym (map-append numbered_of (take i xs) (drop (suc i) xs))

  pub place_found : (e : ℕ) (xs : List (Queued T)) (i : ℕ) (d : Queued T) → Rises (map numbered_of xs) → i < length xs → (get_or xs i d).number ≡ e
      → IsPlace e (map numbered_of xs) (Some i)
  place_found e xs i d r h is =
      let rises : RisesTo 0 (map (λ q. q.number) xs) (2 ^ 64) = subst (λ l. RisesTo 0 l (2 ^ 64)) (numbers_of xs) r in
      let there = found (λ (q : Queued T). q.number) e 0 (2 ^ 64) xs i d rises h is in (
        rw length-map h,
        list_any-map (λ q. q.number == e) numbered_of xs ∙ there.0,
        remove-map xs i ∙ ap (map numbered_of) there.1 ∙ sym (filter-map (λ q. not (q.number == e)) numbered_of xs),
      )

  pub place_missing : (e : ℕ) (xs : List (Queued T)) (i : ℕ) → Rises (map numbered_of xs)
      → AllWithin (λ q. nat_lt q.number e ≡ true) xs 0 i → AllWithin (λ q. nat_lt q.number e ≡ false) xs i (length xs)
      → ((d : Queued T) → i < length xs → (get_or xs i d).number ≡ e → ⊥) → IsPlace e (map numbered_of xs) None
  place_missing e xs i r low high other =
      let rises : RisesTo 0 (map (λ q. q.number) xs) (2 ^ 64) = subst (λ l. RisesTo 0 l (2 ^ 64)) (numbers_of xs) r in
      let none : list_any (λ (q : Numbered T). q.number == e) (map numbered_of xs) ≡ false =
      list_any-map (λ (q : Numbered T). q.number == e) numbered_of xs ∙ none_there (λ (q : Queued T). q.number) e 0 (2 ^ 64) xs i rises low high other in
      (none, sym (filter_all (λ (q : Numbered T). q.number == e) (map numbered_of xs) none))

  pub rises_tail : (x : Queued T) (xs : List (Queued T)) → Rises (map numbered_of (x ∷ xs)) → Rises (map numbered_of xs)
  rises_tail x xs r = rises_from 0 x.number (2 ^ 64) (map (λ q. q.number) (map numbered_of xs)) (omega arith) r.1

  pub rises_push : (number : ℕ) (value : T) (xs : List (Queued T)) → 0 < number → number < 2 ^ 64 → RisesTo 0 (map (λ (q : Numbered T). q.number) (map numbered_of xs)) (number - 1)
      → Rises (map numbered_of (xs ++ record { value = value; number = number } ∷ []))
  rises_push number value xs positive fits r =
      let same : (number - 1) + 1 ≡ number = omega arith in
      let more : RisesTo 0 (map (λ (q : Numbered T). q.number) (map numbered_of xs) ++ number ∷ []) number =
      subst (λ n. RisesTo 0 (map (λ (q : Numbered T). q.number) (map numbered_of xs) ++ n ∷ []) n) same (rises_more 0 (number - 1) (map (λ (q : Numbered T). q.number) (map numbered_of xs)) r) in
      let last : Numbered T = record { value = value; number = number } in
      let all : map (λ (q : Numbered T). q.number) (map numbered_of (xs ++ record { value = value; number = number } ∷ [])) ≡ map (λ (q : Numbered T). q.number) (map numbered_of xs) ++ number ∷ [] =
      ap (map (λ (q : Numbered T). q.number)) (map-append numbered_of xs (record { value = value; number = number } ∷ []))
      ∙ map-append (λ (q : Numbered T). q.number) (map numbered_of xs) (last ∷ []) in
      subst (λ l. RisesTo 0 l (2 ^ 64)) (sym all) (rises_higher 0 number (2 ^ 64) _ (omega arith) more)

  pub rises_popped : (r : Option (Queued T)) (xs ys : List (Queued T)) → xs ≡ option_to_list r ++ ys → Rises (map numbered_of xs) → Rises (map numbered_of ys)
  rises_popped None xs ys e r = subst (λ l. Rises (map numbered_of l)) e r
  rises_popped (Some x) xs ys e r = rises_tail x ys (subst (λ l. Rises (map numbered_of l)) e r)

  -- what is left after the value at a place was taken out
  pub taken_out : (number place : ℕ) (xs ys : List (Queued T)) → IsPlace number (map numbered_of xs) (Some place) → ys ≡ remove xs place
      → map numbered_of ys ≡ filter (λ (q : Numbered T). not (q.number == number)) (map numbered_of xs)
  taken_out number place xs ys there e = ap (map numbered_of) e ∙ sym (remove-map xs place) ∙ there.2

  pub rises_taken_out : (number place : ℕ) (xs ys : List (Queued T)) → IsPlace number (map numbered_of xs) (Some place) → ys ≡ remove xs place
      → Rises (map numbered_of xs) → Rises (map numbered_of ys)
  rises_taken_out number place xs ys there e rises =
      subst (λ l. Rises l) (sym (taken_out number place xs ys there e)) (rises_filter (λ q. not (q.number == number)) 0 (2 ^ 64) [] (map numbered_of xs) rises)

  pub rises_pushed : {R E : Type 0} (r : Result R E) (number : ℕ) (value : T) (xs ys : List (Queued T)) → 0 < number → number < 2 ^ 64
      → RisesTo 0 (map (λ (q : Numbered T). q.number) (map numbered_of xs)) (number - 1) → Rises (map numbered_of xs)
      → ys ≡ (if is_ok r then xs ++ record { value = value; number = number } ∷ [] else xs) → Rises (map numbered_of ys)
  rises_pushed (Ok x) number value xs ys positive fits above rises e = subst (λ l. Rises (map numbered_of l)) (sym e) (rises_push number value xs positive fits above)
  rises_pushed (Err x) number value xs ys positive fits above rises e = subst (λ l. Rises (map numbered_of l)) (sym e) rises

pub on_some : {X : Type 0} (r : Option X) (P : Type 0) → IsSome r → OnSome r P → P
on_some None P h k = absurd (cc)
on_some (Some x) P h k = k
