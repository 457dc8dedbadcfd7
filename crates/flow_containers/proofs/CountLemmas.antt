-- A row of counts, and the subscribers whose positions it counts.
-- The key facts: `blocked_by_count` (one count shows whether a subscriber is a whole window behind), `fits-shift` (the floor rises by
-- one), `fits-enroll`, `fits-take_out`, `fits-move_to`, `least_is` (where a walk along the row ends).
use Rattle.std.proofs.Common.{◌≡◌, ◌≢◌, ◌⊎◌, inl, inr, ℕ, suc, ◌+◌, ◌-◌, ◌<◌, ◌≤◌, ◌%◌, max, Bool, true, false, ◌||◌, ◌==◌, nat_lt, nat_le, if◌then◌else◌, List, [], ◌∷◌, ◌++◌, length, get_or, set, Some, refl, sym, ap, subst, ◌∙◌, arith}
use Rattle.std.specs.List.{list_any}
use Rattle.std.proofs.Math.Nat.{add-mod_right}
use Rattle.std.proofs.lemmas.Nat.{mod_below}
use Rattle.std.proofs.lemmas.Bool.Decides.{Decides-eqb, leb_tells, eqb_tells, nat_tests}
use Rattle.std.proofs.lemmas.List.{get_or-set_same, get_or-set_other, length-set}
use Rattle.flow_law.specs.declared.states.Subscriber.{Subscriber}
use Rattle.flow_law.specs.flow.SharedFlow.{position_of, stand_at, move_to, raise_to}
use Rattle.flow_law.specs.flow.Standing.{least_position}
use Rattle.flow_law.proofs.CoveringLemmas.{least_position_bound}
use Rattle.flow_containers.specs.PositionCounts.{IsLeast, AreWithin, count_of, CountsPositions, take_subscriber_out}
use Rattle.flow_containers.proofs.PlaceLemmas.{same_place, same_place_in, other_place}

pub unequal : (a b : ℕ) → a ≢ b → (a == b) ≡ false
unequal a b other = elim (a == b) as (λ t. (a == b) ≡ t → t ≡ false) [ true ↦ λ e. absurd (other ((Decides-eqb a b).0 e)) | false ↦ λ _. refl ] refl

pub equal : (a b : ℕ) → a ≡ b → (a == b) ≡ true
equal a b same = (Decides-eqb a b).1 same

-- one of the last w + 1 positions has the place of the next position exactly if it is the first of them
pub at_end : (w n p : ℕ) → p ≤ n → n ≤ p + w → (p % (w + 1) == (n + 1) % (w + 1)) ≡ nat_le w (n - p)
at_end w n p le near =
    elim (leb_tells w (n - p)) [
      | inl whole ↦
          let round : p + (w + 1) ≡ n + 1 = omega (arith, whole.1) in
          equal _ _ (sym (add-mod_right p (w + 1)) ∙ ap (λ k. k % (w + 1)) round) ∙ sym whole.0
      | inr less ↦ unequal _ _ (other_place (w + 1) p (n + 1) (omega arith) (omega arith) (omega (arith, less.1))) ∙ sym less.0
    ]

-- ---- one count shows whether the flow is blocked

some_more : (t : Bool) (k : ℕ) → nat_lt 0 (if t then suc k else k) ≡ (t || nat_lt 0 k)
some_more true k = grind (arith, nat_tests)
some_more false k = grind (arith, nat_tests)

pub any_at_end : {T : Type 0} (w n : ℕ) (us : List (Subscriber T)) → AreWithin w n us
    → nat_lt 0 (count_of (w + 1) ((n + 1) % (w + 1)) us) ≡ list_any (λ u. nat_le w (n - u.position)) us
any_at_end w n [] h = refl
any_at_end w n (u ∷ us) h =
    some_more (u.position % (w + 1) == (n + 1) % (w + 1)) (count_of (w + 1) ((n + 1) % (w + 1)) us)
    ∙ ap (λ t. t || nat_lt 0 (count_of (w + 1) ((n + 1) % (w + 1)) us)) (at_end w n u.position h.0 h.1)
    ∙ ap (λ t. nat_le w (n - u.position) || t) (any_at_end w n us h.2)

pub blocked_by_count : {T : Type 0} (w n : ℕ) (row : List ℕ) (us : List (Subscriber T)) → CountsPositions w n row us
    → nat_lt 0 (get_or row ((n + 1) % (w + 1)) 0) ≡ list_any (λ u. nat_le w (n - u.position)) us
blocked_by_count w n row us fits =
    ap (nat_lt 0) (fits.counts ((n + 1) % (w + 1)) (mod_below (n + 1) (w + 1) (omega arith))) ∙ any_at_end w n us fits.window

-- one count shows whether a subscriber is at a position
pub any_at : {T : Type 0} (w n q : ℕ) (us : List (Subscriber T)) → AreWithin w n us → q ≤ n → n ≤ q + w
    → nat_lt 0 (count_of (w + 1) (q % (w + 1)) us) ≡ list_any (λ u. u.position == q) us
any_at w n q [] h le near = refl
any_at w n q (u ∷ us) h le near =
    some_more (u.position % (w + 1) == q % (w + 1)) (count_of (w + 1) (q % (w + 1)) us)
    ∙ ap (λ t. t || nat_lt 0 (count_of (w + 1) (q % (w + 1)) us)) same
    ∙ ap (λ t. (u.position == q) || t) (any_at w n q us h.2 le near)
  where
    same : (u.position % (w + 1) == q % (w + 1)) ≡ (u.position == q)
    same =
        elim (eqb_tells u.position q) [
          | inl here ↦ equal _ _ (ap (λ p. p % (w + 1)) here.1) ∙ sym here.0
          | inr there ↦ unequal _ _ (λ e. there.1 (same_place_in (w + 1) (n - w) u.position q (omega arith) (omega (arith, h.1)) (omega (arith, h.0)) (omega (arith, near)) (omega (arith, le)) e)) ∙ sym there.0
        ]

-- ---- an append while no subscriber is a whole window behind changes no count

or_left : (a b : Bool) → (a || b) ≡ false → a ≡ false
or_left true b h = h
or_left false b h = refl

or_right : (a b : Bool) → (a || b) ≡ false → b ≡ false
or_right true b h = absurd (cc)
or_right false b h = h

differ : true ≡ false → ⊥
differ e = absurd (cc e)

pub within-append : {T : Type 0} (w n : ℕ) (us : List (Subscriber T)) → AreWithin w n us → list_any (λ u. nat_le w (n - u.position)) us ≡ false → AreWithin w (n + 1) us
within-append w n [] h none = tt
within-append w n (u ∷ us) h none =
    let here : nat_le w (n - u.position) ≡ false = or_left (nat_le w (n - u.position)) (list_any (λ v. nat_le w (n - v.position)) us) none in
    let less : n - u.position < w = elim (leb_tells w (n - u.position)) [ inl whole ↦ absurd (differ (sym whole.0 ∙ here)) | inr less ↦ less.1 ] in
    (omega (arith, h.0), omega (arith, h.0, h.1, less), within-append w n us h.2 (or_right (nat_le w (n - u.position)) (list_any (λ v. nat_le w (n - v.position)) us) none))

pub fits-append : {T : Type 0} (w n : ℕ) (row : List ℕ) (us : List (Subscriber T)) → CountsPositions w n row us → list_any (λ u. nat_le w (n - u.position)) us ≡ false → CountsPositions w (n + 1) row us
fits-append w n row us fits none = record { long = fits.long; counts = fits.counts; window = within-append w n us fits.window none }

-- ---- the floor rises by one: all subscribers at the oldest position move on by one

sum_step : (a b c : Bool) (x y z : ℕ) → ((a ≡ true) × (b ≡ true) × (c ≡ false)) ⊎ ((b ≡ false) × (a ≡ c)) → x ≡ y + z
    → (if a then suc x else x) ≡ (if b then suc y else y) + (if c then suc z else z)
sum_step true true false x y z h e = omega (arith, e)
sum_step true false true x y z h e = omega (arith, e)
sum_step false false false x y z h e = e
sum_step a true c x y z (inr h) e = absurd (cc (h.0))
sum_step a b true x y z (inl h) e = absurd (cc (h.2))
sum_step a false c x y z (inl h) e = absurd (cc (h.1))
sum_step false b c x y z (inl h) e = absurd (cc (h.0))
sum_step true false false x y z (inr h) e = absurd (cc (h.1))
sum_step false false true x y z (inr h) e = absurd (cc (h.1))

-- p is their position, and the floor is the next one
module _ (w p : ℕ) (h : 0 < w) where
  step_place : (q : ℕ) → p ≤ q → q ≤ p + w → ((q ≡ p) × (max q (p + 1) ≡ p + 1)) ⊎ ((q % (w + 1) ≢ p % (w + 1)) × (max q (p + 1) ≡ q))
  step_place q le near =
      elim (leb_tells (p + 1) q) [
        | inl above ↦ inr ((λ same. absurd (omega (arith, above.1, same_place (w + 1) p q (omega arith) le (omega arith) (sym same)))), omega (arith, above.1))
        | inr below ↦ inl (omega (arith, below.1), omega (arith, below.1))
      ]

  pub apart : p % (w + 1) ≢ (p + 1) % (w + 1)
  apart = other_place (w + 1) p (p + 1) (omega arith) (omega arith) (omega (arith, h))

  raised_none : {T : Type 0} (us : List (Subscriber T)) → AreWithin w (p + w) us → count_of (w + 1) (p % (w + 1)) (raise_to (p + 1) us) ≡ 0
  raised_none [] within = refl
  raised_none (u ∷ us) within =
      let rest = raised_none us within.2 in
      let head : (max u.position (p + 1) % (w + 1) == p % (w + 1)) ≡ false = elim (step_place u.position (omega (arith, within.1)) within.0) [
        | inl here ↦ unequal _ _ (λ same. apart (sym same ∙ ap (λ q. q % (w + 1)) here.1))
        | inr there ↦ unequal _ _ (λ same. there.0 (ap (λ q. q % (w + 1)) (sym there.1) ∙ same))
      ] in
      ap (λ t. if t then suc (count_of (w + 1) (p % (w + 1)) (raise_to (p + 1) us)) else count_of (w + 1) (p % (w + 1)) (raise_to (p + 1) us)) head ∙ rest

  raised_both : {T : Type 0} (us : List (Subscriber T)) → AreWithin w (p + w) us → count_of (w + 1) ((p + 1) % (w + 1)) (raise_to (p + 1) us)
      ≡ count_of (w + 1) (p % (w + 1)) us + count_of (w + 1) ((p + 1) % (w + 1)) us
  raised_both [] within = refl
  raised_both (u ∷ us) within =
      let rest = raised_both us within.2 in
      sum_step _ _ _ _ _ _ (elim (step_place u.position (omega (arith, within.1)) within.0) [
        | inl here ↦ inl (
          equal _ _ (ap (λ q. q % (w + 1)) here.1),
          equal _ _ (ap (λ q. q % (w + 1)) here.0),
          unequal _ _ (λ same. apart (ap (λ q. q % (w + 1)) (sym here.0) ∙ same)),
        )
        | inr there ↦ inr (unequal _ _ there.0, ap (λ q. q % (w + 1) == (p + 1) % (w + 1)) there.1)
      ]) rest

  raised_other : {T : Type 0} (r : ℕ) (us : List (Subscriber T)) → AreWithin w (p + w) us → r ≢ p % (w + 1) → r ≢ (p + 1) % (w + 1)
      → count_of (w + 1) r (raise_to (p + 1) us) ≡ count_of (w + 1) r us
  raised_other r [] within a b = refl
  raised_other r (u ∷ us) within a b =
      let rest = raised_other r us within.2 a b in
      let head : (max u.position (p + 1) % (w + 1) == r) ≡ (u.position % (w + 1) == r) = elim (step_place u.position (omega (arith, within.1)) within.0) [
        | inl here ↦ unequal _ _ (λ same. b (sym same ∙ ap (λ q. q % (w + 1)) here.1)) ∙ sym (unequal _ _ (λ same. a (sym same ∙ ap (λ q. q % (w + 1)) here.0)))
        | inr there ↦ ap (λ q. q % (w + 1) == r) there.1
      ] in
      ap (λ t. if t then suc (count_of (w + 1) r (raise_to (p + 1) us)) else count_of (w + 1) r (raise_to (p + 1) us)) head ∙ ap (λ k. if (u.position % (w + 1) == r) then suc k else k) rest

  raised_within : {T : Type 0} (us : List (Subscriber T)) → AreWithin w (p + w) us → AreWithin w (p + w + 1) (raise_to (p + 1) us)
  raised_within [] within = tt
  raised_within (u ∷ us) within = (omega (arith, within.0, h), omega arith, raised_within us within.2)

  -- the row after the shift
  pub fits-shift : {T : Type 0} (row : List ℕ) (us : List (Subscriber T)) → CountsPositions w (p + w) row us
      → CountsPositions w (p + w + 1) (set (set row ((p + 1) % (w + 1)) (get_or row (p % (w + 1)) 0 + get_or row ((p + 1) % (w + 1)) 0)) (p % (w + 1)) 0) (raise_to (p + 1) us)
  fits-shift row us fits = record {
    long = length-set _ (p % (w + 1)) 0 ∙ length-set row _ _ ∙ fits.long;
    counts = λ r below. at r below;
    window = raised_within us fits.window;
  }
    where
      x : ℕ
      x = p % (w + 1)

      y : ℕ
      y = (p + 1) % (w + 1)

      both : ℕ
      both = get_or row x 0 + get_or row y 0

      x_in : x < w + 1
      x_in = mod_below p (w + 1) (omega arith)

      y_in : y < w + 1
      y_in = mod_below (p + 1) (w + 1) (omega arith)

      at : (r : ℕ) → r < w + 1 → get_or (set (set row y both) x 0) r 0 ≡ count_of (w + 1) r (raise_to (p + 1) us)
      at r below =
          elim (r == x) as (λ t. (r == x) ≡ t → get_or (set (set row y both) x 0) r 0 ≡ count_of (w + 1) r (raise_to (p + 1) us)) [
            | true ↦ λ e.
                let same : r ≡ x = (Decides-eqb r x).0 e in
                let room : x < length (set row y both) = rw (length-set row y both ∙ fits.long) x_in in
                rw same (get_or-set_same (set row y both) x 0 0 room ∙ sym (raised_none us fits.window))
            | false ↦ λ e.
                let off : r ≢ x = λ same. absurd (cc (e, equal r x same)) in
                get_or-set_other (set row y both) x r 0 0 off ∙
                (elim (r == y) as (λ t. (r == y) ≡ t → get_or (set row y both) r 0 ≡ count_of (w + 1) r (raise_to (p + 1) us)) [
                  | true ↦ λ f.
                      let same : r ≡ y = (Decides-eqb r y).0 f in
                      let room : y < length row = rw fits.long y_in in
                      rw same (get_or-set_same row y both 0 room ∙ ap (λ k. k + get_or row y 0) (fits.counts x x_in)
                      ∙ ap (λ k. count_of (w + 1) x us + k) (fits.counts y y_in) ∙ sym (raised_both us fits.window))
                  | false ↦ λ f.
                      let away : r ≢ y = λ same. absurd (cc (f, equal r y same)) in
                      get_or-set_other row y r both 0 away ∙ fits.counts r below ∙ sym (raised_other r us fits.window off away)
                ] refl)
          ] refl

-- ---- one more, one less

pub set_at : (row : List ℕ) (x k r : ℕ) → x < length row → get_or (set row x k) r 0 ≡ (if x == r then k else get_or row r 0)
set_at row x k r room =
    elim (x == r) as (λ t. (x == r) ≡ t → get_or (set row x k) r 0 ≡ (if t then k else get_or row r 0)) [
      | true ↦ λ e. subst (λ i. get_or (set row x k) i 0 ≡ k) ((Decides-eqb x r).0 e) (get_or-set_same row x k 0 room)
      | false ↦ λ e. get_or-set_other row x r k 0 (λ same. absurd (cc (e, equal x r (sym same))))
    ] refl

pub count-append : {T : Type 0} (n r : ℕ) (us : List (Subscriber T)) (v : Subscriber T)
    → count_of n r (us ++ v ∷ []) ≡ (if v.position % n == r then suc (count_of n r us) else count_of n r us)
count-append n r [] v = refl
count-append n r (u ∷ us) v =
    ap (λ k. if u.position % n == r then suc k else k) (count-append n r us v)
    ∙ swap (u.position % n == r) (v.position % n == r) (count_of n r us)
  where
    swap : (a b : Bool) (k : ℕ) → (if a then suc (if b then suc k else k) else (if b then suc k else k)) ≡ (if b then suc (if a then suc k else k) else (if a then suc k else k))
    swap true true k = refl
    swap true false k = refl
    swap false true k = refl
    swap false false k = refl

pub within-enroll : {T : Type 0} (w n : ℕ) (us : List (Subscriber T)) (v : Subscriber T) → AreWithin w n us → v.position ≤ n → n ≤ v.position + w → AreWithin w n (us ++ v ∷ [])
within-enroll w n [] v h le near = (le, near, tt)
within-enroll w n (u ∷ us) v h le near = (h.0, h.1, within-enroll w n us v h.2 le near)

-- a row that counts one more subscriber at a position
pub fits_more : {T : Type 0} (w n p : ℕ) (row : List ℕ) (us more : List (Subscriber T)) → CountsPositions w n row us → AreWithin w n more
    → ((r : ℕ) → count_of (w + 1) r more ≡ (if p % (w + 1) == r then suc (count_of (w + 1) r us) else count_of (w + 1) r us))
    → CountsPositions w n (set row (p % (w + 1)) (get_or row (p % (w + 1)) 0 + 1)) more
fits_more w n p row us more fits within counted = record {
  long = length-set row _ _ ∙ fits.long;
  counts = λ r below.
      let room : p % (w + 1) < length row = rw fits.long (mod_below p (w + 1) (omega arith)) in
      set_at row (p % (w + 1)) (get_or row (p % (w + 1)) 0 + 1) r room ∙ one r below ∙ sym (counted r);
  window = within;
}
  where
    one : (r : ℕ) → r < w + 1 → (if p % (w + 1) == r then get_or row (p % (w + 1)) 0 + 1 else get_or row r 0)
        ≡ (if p % (w + 1) == r then suc (count_of (w + 1) r us) else count_of (w + 1) r us)
    one r below =
        elim (p % (w + 1) == r) as (λ t. (p % (w + 1) == r) ≡ t → (if t then get_or row (p % (w + 1)) 0 + 1 else get_or row r 0)
        ≡ (if t then suc (count_of (w + 1) r us) else count_of (w + 1) r us)) [
          | true ↦ λ e. let same : p % (w + 1) ≡ r = (Decides-eqb (p % (w + 1)) r).0 e in omega (arith, ap (λ i. get_or row i 0) same, fits.counts r below)
          | false ↦ λ e. fits.counts r below
        ] refl

pub fits-enroll : {T : Type 0} (w n : ℕ) (row : List ℕ) (us : List (Subscriber T)) (v : Subscriber T) → CountsPositions w n row us → v.position ≤ n → n ≤ v.position + w
    → CountsPositions w n (set row (v.position % (w + 1)) (get_or row (v.position % (w + 1)) 0 + 1)) (us ++ v ∷ [])
fits-enroll w n row us v fits le near =
    fits_more w n v.position row us (us ++ v ∷ []) fits (within-enroll w n us v fits.window le near) (λ r. count-append (w + 1) r us v)

pub count-take_out : {T : Type 0} (n r number p : ℕ) (us : List (Subscriber T)) → position_of number us ≡ Some p
    → count_of n r us ≡ (if p % n == r then suc (count_of n r (take_subscriber_out number us)) else count_of n r (take_subscriber_out number us))
count-take_out n r number p [] found = absurd (cc)
count-take_out n r number p (u ∷ us) found =
    elim (u.number == number) as (λ t. (if t then Some u.position else position_of number us) ≡ Some p
    → (if u.position % n == r then suc (count_of n r us) else count_of n r us)
    ≡ (if p % n == r then suc (count_of n r (if t then us else u ∷ take_subscriber_out number us)) else count_of n r (if t then us else u ∷ take_subscriber_out number us))) [
      | true ↦ λ here. let same : u.position ≡ p = cc in ap (λ q. if q % n == r then suc (count_of n r us) else count_of n r us) same
      | false ↦ λ there.
          ap (λ k. if u.position % n == r then suc k else k) (count-take_out n r number p us there)
          ∙ swap (u.position % n == r) (p % n == r) (count_of n r (take_subscriber_out number us))
    ] found
  where
    swap : (a b : Bool) (k : ℕ) → (if a then suc (if b then suc k else k) else (if b then suc k else k)) ≡ (if b then suc (if a then suc k else k) else (if a then suc k else k))
    swap true true k = refl
    swap true false k = refl
    swap false true k = refl
    swap false false k = refl

pub count-move_to : {T : Type 0} (n r number p q : ℕ) (us : List (Subscriber T)) → position_of number us ≡ Some p
    → count_of n r (move_to number q us) ≡ (if q % n == r then suc (count_of n r (take_subscriber_out number us)) else count_of n r (take_subscriber_out number us))
count-move_to n r number p q [] found = absurd (cc)
count-move_to n r number p q (u ∷ us) found =
    elim (u.number == number) as (λ t. (if t then Some u.position else position_of number us) ≡ Some p
    → count_of n r (if t then stand_at q u ∷ us else u ∷ move_to number q us)
    ≡ (if q % n == r then suc (count_of n r (if t then us else u ∷ take_subscriber_out number us)) else count_of n r (if t then us else u ∷ take_subscriber_out number us))) [
      | true ↦ λ here. refl
      | false ↦ λ there.
          ap (λ k. if u.position % n == r then suc k else k) (count-move_to n r number p q us there)
          ∙ swap (u.position % n == r) (q % n == r) (count_of n r (take_subscriber_out number us))
    ] found
  where
    swap : (a b : Bool) (k : ℕ) → (if a then suc (if b then suc k else k) else (if b then suc k else k)) ≡ (if b then suc (if a then suc k else k) else (if a then suc k else k))
    swap true true k = refl
    swap true false k = refl
    swap false true k = refl
    swap false false k = refl

pub within-take_out : {T : Type 0} (w n number : ℕ) (us : List (Subscriber T)) → AreWithin w n us → AreWithin w n (take_subscriber_out number us)
within-take_out w n number [] h = tt
within-take_out w n number (u ∷ us) h =
    elim (u.number == number) as (λ t. AreWithin w n (if t then us else u ∷ take_subscriber_out number us)) [
      | true ↦ h.2
      | false ↦ (h.0, h.1, within-take_out w n number us h.2)
    ]

pub within-move_to : {T : Type 0} (w n number q : ℕ) (us : List (Subscriber T)) → AreWithin w n us → q ≤ n → n ≤ q + w → AreWithin w n (move_to number q us)
within-move_to w n number q [] h le near = tt
within-move_to w n number q (u ∷ us) h le near =
    elim (u.number == number) as (λ t. AreWithin w n (if t then stand_at q u ∷ us else u ∷ move_to number q us)) [
      | true ↦ (le, near, h.2)
      | false ↦ (h.0, h.1, within-move_to w n number q us h.2 le near)
    ]

-- a subscriber that is found is within the window, and is counted
pub found_within : {T : Type 0} (w n number p : ℕ) (us : List (Subscriber T)) → AreWithin w n us → position_of number us ≡ Some p → (p ≤ n) × (n ≤ p + w)
found_within w n number p [] h found = absurd (cc)
found_within w n number p (u ∷ us) h found =
    elim (u.number == number) as (λ t. (if t then Some u.position else position_of number us) ≡ Some p → (p ≤ n) × (n ≤ p + w)) [
      | true ↦ λ here. let same : u.position ≡ p = cc in (omega (arith, h.0, same), omega (arith, h.1, same))
      | false ↦ λ there. found_within w n number p us h.2 there
    ] found

pub found_counted : {T : Type 0} (n number p : ℕ) (us : List (Subscriber T)) → position_of number us ≡ Some p → 0 < count_of n (p % n) us
found_counted n number p us found =
    let whole = count-take_out n (p % n) number p us found in
    let here : (p % n == p % n) ≡ true = equal (p % n) (p % n) refl in
    let all : count_of n (p % n) us ≡ suc (count_of n (p % n) (take_subscriber_out number us)) =
    whole ∙ ap (λ t. if t then suc (count_of n (p % n) (take_subscriber_out number us)) else count_of n (p % n) (take_subscriber_out number us)) here in
    omega (arith, all)

-- a row that counts one subscriber less
pub fits-take_out : {T : Type 0} (w n number p : ℕ) (row : List ℕ) (us : List (Subscriber T)) → CountsPositions w n row us → position_of number us ≡ Some p
    → CountsPositions w n (set row (p % (w + 1)) (get_or row (p % (w + 1)) 0 - 1)) (take_subscriber_out number us)
fits-take_out w n number p row us fits found = record {
  long = length-set row _ _ ∙ fits.long;
  counts = λ r below.
      let room : p % (w + 1) < length row = rw fits.long (mod_below p (w + 1) (omega arith)) in
      set_at row (p % (w + 1)) (get_or row (p % (w + 1)) 0 - 1) r room ∙ one r below;
  window = within-take_out w n number us fits.window;
}
  where
    one : (r : ℕ) → r < w + 1 → (if p % (w + 1) == r then get_or row (p % (w + 1)) 0 - 1 else get_or row r 0) ≡ count_of (w + 1) r (take_subscriber_out number us)
    one r below =
        elim (p % (w + 1) == r) as (λ t. (p % (w + 1) == r) ≡ t
        → count_of (w + 1) r us ≡ (if t then suc (count_of (w + 1) r (take_subscriber_out number us)) else count_of (w + 1) r (take_subscriber_out number us))
        → (if t then get_or row (p % (w + 1)) 0 - 1 else get_or row r 0) ≡ count_of (w + 1) r (take_subscriber_out number us)) [
          | true ↦ λ e f. let same : p % (w + 1) ≡ r = (Decides-eqb (p % (w + 1)) r).0 e in omega (arith, ap (λ i. get_or row i 0) same, fits.counts r below, f)
          | false ↦ λ e f. fits.counts r below ∙ f
        ] refl (count-take_out (w + 1) r number p us found)

pub fits-move_to : {T : Type 0} (w n number p q : ℕ) (row : List ℕ) (us : List (Subscriber T)) → CountsPositions w n row us → position_of number us ≡ Some p → q ≤ n → n ≤ q + w
    → CountsPositions w n (set (set row (p % (w + 1)) (get_or row (p % (w + 1)) 0 - 1)) (q % (w + 1)) (get_or (set row (p % (w + 1)) (get_or row (p % (w + 1)) 0 - 1)) (q % (w + 1)) 0 + 1)) (move_to number q us)
fits-move_to w n number p q row us fits found le near =
    fits_more w n q _ (take_subscriber_out number us) (move_to number q us) (fits-take_out w n number p row us fits found)
    (within-move_to w n number q us fits.window le near) (λ r. count-move_to (w + 1) r number p q us found)

-- the count shows whether other subscribers stay at the position of one that moves on
pub others_at : {T : Type 0} (w n number p : ℕ) (row : List ℕ) (us : List (Subscriber T)) → 0 < w → CountsPositions w n row us → position_of number us ≡ Some p → p < n
    → nat_lt 0 (get_or row (p % (w + 1)) 0 - 1) ≡ list_any (λ u. u.position == p) (move_to number (p + 1) us)
others_at w n number p row us some fits found less =
    let near = found_within w n number p us fits.window found in
    let whole : count_of (w + 1) (p % (w + 1)) us ≡ suc (count_of (w + 1) (p % (w + 1)) (take_subscriber_out number us)) =
    count-take_out (w + 1) (p % (w + 1)) number p us found
    ∙ ap (λ t. if t then suc (count_of (w + 1) (p % (w + 1)) (take_subscriber_out number us)) else count_of (w + 1) (p % (w + 1)) (take_subscriber_out number us)) (equal (p % (w + 1)) (p % (w + 1)) refl) in
    let rest : count_of (w + 1) (p % (w + 1)) (move_to number (p + 1) us) ≡ count_of (w + 1) (p % (w + 1)) (take_subscriber_out number us) =
    count-move_to (w + 1) (p % (w + 1)) number p (p + 1) us found
    ∙ ap (λ t. if t then suc (count_of (w + 1) (p % (w + 1)) (take_subscriber_out number us)) else count_of (w + 1) (p % (w + 1)) (take_subscriber_out number us))
    (unequal ((p + 1) % (w + 1)) (p % (w + 1)) (λ e. apart w p some (sym e))) in
    let counted = fits.counts (p % (w + 1)) (mod_below p (w + 1) (omega arith)) in
    let others : get_or row (p % (w + 1)) 0 - 1 ≡ count_of (w + 1) (p % (w + 1)) (move_to number (p + 1) us) = omega (arith, whole, rest, counted) in
    ap (nat_lt 0) others
    ∙ any_at w n p (move_to number (p + 1) us) (within-move_to w n number (p + 1) us fits.window (omega (arith, less)) (omega (arith, near.1))) (omega (arith, less)) near.1

-- ---- bounds of the counts

pub count_bound : {T : Type 0} (n r : ℕ) (us : List (Subscriber T)) → count_of n r us ≤ length us
count_bound n r [] = omega arith
count_bound n r (u ∷ us) =
    elim (u.position % n == r) as (λ t. (if t then suc (count_of n r us) else count_of n r us) ≤ suc (length us)) [
      | true ↦ omega (arith, count_bound n r us)
      | false ↦ omega (arith, count_bound n r us)
    ]

pub counts_bound : {T : Type 0} (n a b : ℕ) (us : List (Subscriber T)) → a ≢ b → count_of n a us + count_of n b us ≤ length us
counts_bound n a b [] off = omega arith
counts_bound n a b (u ∷ us) off =
    let rest = counts_bound n a b us off in
    elim (eqb_tells (u.position % n) a) [
      | inl here ↦
          let other : (u.position % n == b) ≡ false = unequal _ _ (λ same. off (sym here.1 ∙ same)) in
          rw (here.0, other) (omega (arith, rest))
      | inr off_a ↦ rw off_a.0 (elim (u.position % n == b) as (λ t. count_of n a us + (if t then suc (count_of n b us) else count_of n b us) ≤ suc (length us)) [
        | true ↦ omega (arith, rest)
        | false ↦ omega (arith, rest)
      ])
    ]

-- ---- the least position is found by walking along the row

pub nobody_before : {T : Type 0} (n first start q : ℕ) (us : List (Subscriber T)) → q ≤ first → start ≤ least_position first us
    → ((p : ℕ) → start ≤ p → p < q → count_of n (p % n) us ≡ 0) → q ≤ least_position first us
nobody_before n first start q [] le from none = le
nobody_before n first start q (u ∷ us) le from none =
    let rest = nobody_before n first start q us le (omega (arith, from)) (λ p a b. fewer (u.position % n == p % n) (count_of n (p % n) us) (none p a b)) in
    let here : q ≤ u.position = elim (leb_tells q u.position) [
      | inl fine ↦ fine.1
      | inr less ↦ absurd (some (count_of n (u.position % n) us)
          (ap (λ t. if t then suc (count_of n (u.position % n) us) else count_of n (u.position % n) us) (sym (equal (u.position % n) (u.position % n) refl))
          ∙ none u.position (omega (arith, from)) less.1))
    ] in
    omega (arith, here, rest)
  where
    fewer : (t : Bool) (k : ℕ) → (if t then suc k else k) ≡ 0 → k ≡ 0
    fewer true k e = omega (arith, e)
    fewer false k e = e

    some : (k : ℕ) → suc k ≡ 0 → ⊥
    some k e = omega (arith, e)

pub somebody_at : {T : Type 0} (w n low first q : ℕ) (us : List (Subscriber T)) → AreWithin w n us → low ≤ least_position first us → low ≤ q → q ≤ n → n ≤ low + w
    → 0 < count_of (w + 1) (q % (w + 1)) us → least_position first us ≤ q
somebody_at w n low first q [] h from a b c some = absurd (omega (arith, some))
somebody_at w n low first q (u ∷ us) h from a b c some =
    elim (eqb_tells (u.position % (w + 1)) (q % (w + 1))) [
      | inl here ↦
          let same : u.position ≡ q = same_place_in (w + 1) low u.position q (omega arith) (omega (arith, from)) (omega (arith, h.0)) a (omega arith) here.1 in
          omega (arith, same)
      | inr there ↦
          let more : 0 < count_of (w + 1) (q % (w + 1)) us = subst (λ t. 0 < (if t then suc (count_of (w + 1) (q % (w + 1)) us) else count_of (w + 1) (q % (w + 1)) us)) there.0 some in
          omega (arith, somebody_at w n low first q us h.2 (omega (arith, from)) a b c more)
    ]

pub least_is : {T : Type 0} (w n start first q : ℕ) (row : List ℕ) (us : List (Subscriber T)) → CountsPositions w n row us → IsLeast row start first q
    → start ≤ least_position first us → first ≤ n → n ≤ start + w → least_position first us ≡ q
least_is w n start first q row us fits least from le near =
    let below : (p : ℕ) → p % (w + 1) < w + 1 = λ p. mod_below p (w + 1) (omega arith) in
    let lower = nobody_before (w + 1) first start q us least.to from
    (λ p a b. sym (fits.counts (p % (w + 1)) (below p)) ∙ ap (λ k. get_or row (p % k) 0) (sym fits.long) ∙ least.before p a b) in
    elim (leb_tells first q) [
      | inl whole ↦ omega (arith, lower, least_position_bound first us, whole.1)
      | inr less ↦
          let counted : get_or row (q % length row) 0 ≡ count_of (w + 1) (q % (w + 1)) us = ap (λ k. get_or row (q % k) 0) fits.long ∙ fits.counts (q % (w + 1)) (below q) in
          let some : 0 < count_of (w + 1) (q % (w + 1)) us = omega (arith, counted, least.here less.1) in
          omega (arith, lower, somebody_at w n start first q us fits.window from least.from (omega (arith, less.1)) near some)
    ]
