-- Which moment `idle_since` is.
use Rattle.std.proofs.Common.{◌≡◌, ◌<◌, ℕ, Bool, true, false, if◌then◌else◌, List, [], ◌∷◌, ◌++◌, Some, None, refl, ap, ◌∙◌, subst, arith, lt-ltb, le-ltb, ltb-true, ltb-false}
use Rattle.flow_law.specs.declared.sharing.SharingObservation.{SharingObservation}
use Rattle.std.specs.List.{AllByRecursion}
use Rattle.flow_law.specs.sharing.Sharing.{has_subscribers, is_subscribed, idle_since, IsIdleSince, LawIdleSince}

abbrev IsZero : SharingObservation → Type 0
IsZero o = o.count ≡ 0

zero-none : (o : SharingObservation) → IsZero o → has_subscribers o ≡ false
zero-none o h = le-ltb 0 o.count (omega arith)

none-zero : (o : SharingObservation) → has_subscribers o ≡ false → IsZero o
none-zero o h = let e = ltb-false 0 o.count h in omega (arith, e)

-- ---- from the recursion to the words

one-more : (o : SharingObservation) (seen : List SharingObservation) (moment : ℕ) → IsZero o → IsIdleSince moment seen → IsIdleSince moment (o ∷ seen)
one-more o seen moment zero i =
    record {
      later = o ∷ i.later;
      first = i.first;
      positive = i.positive;
      older = i.older;
      order = ap (λ rest. o ∷ rest) i.order;
      later_zero = (zero, i.later_zero);
      first_zero = i.first_zero;
      was_positive = i.was_positive;
      at_first = i.at_first;
    }

begins : (o : SharingObservation) (seen : List SharingObservation) → IsZero o → is_subscribed seen ≡ true → IsIdleSince o.moment (o ∷ seen)
begins o [] zero e = let x : false ≡ true = e in cc
begins o (p ∷ seen) zero e =
    record {
      later = [];
      first = o;
      positive = p;
      older = seen;
      order = refl;
      later_zero = tt;
      first_zero = zero;
      was_positive = ltb-true 0 p.count e;
      at_first = refl;
    }

by_case : (o : SharingObservation) (seen : List SharingObservation) (moment : ℕ) (now before : Bool) → has_subscribers o ≡ now → is_subscribed seen ≡ before
    → (idle_since seen ≡ Some moment → IsIdleSince moment seen)
    → (if now then None else (if before then Some o.moment else idle_since seen)) ≡ Some moment → IsIdleSince moment (o ∷ seen)
by_case o seen moment true before n b rest e = let x : None ≡ Some moment = e in cc
by_case o seen moment false true n b rest e =
    let at : o.moment ≡ moment = cc in
    let P : ℕ → Type 0 = λ m. IsIdleSince m (o ∷ seen) in
    subst P at (begins o seen (none-zero o n) b)
by_case o seen moment false false n b rest e = one-more o seen moment (none-zero o n) (rest e)

told : (seen : List SharingObservation) (moment : ℕ) → idle_since seen ≡ Some moment → IsIdleSince moment seen
told [] moment e = let x : None ≡ Some moment = e in cc
told (o ∷ seen) moment e = by_case o seen moment (has_subscribers o) (is_subscribed seen) refl refl (told seen moment) e

-- ---- from the words to the recursion

at_first : (first positive : SharingObservation) (older : List SharingObservation) → IsZero first → 0 < positive.count
    → idle_since (first ∷ positive ∷ older) ≡ Some first.moment
at_first first positive older zero positive_count =
    rw (zero-none first zero, lt-ltb 0 positive.count positive_count) refl

unsubscribed : (later : List SharingObservation) (first positive : SharingObservation) (older : List SharingObservation) → AllByRecursion IsZero later → IsZero first
    → is_subscribed (later ++ first ∷ positive ∷ older) ≡ false
unsubscribed [] first positive older zeros zero = zero-none first zero
unsubscribed (o ∷ later) first positive older zeros zero = zero-none o zeros.0

after_zeros : (later : List SharingObservation) (first positive : SharingObservation) (older : List SharingObservation) → AllByRecursion IsZero later → IsZero first
    → 0 < positive.count → idle_since (later ++ first ∷ positive ∷ older) ≡ Some first.moment
after_zeros [] first positive older zeros zero some = at_first first positive older zero some
after_zeros (o ∷ later) first positive older zeros zero some =
    rw (zero-none o zeros.0, unsubscribed later first positive older zeros.1 zero) (after_zeros later first positive older zeros.1 zero some)

computed : (seen : List SharingObservation) (moment : ℕ) → IsIdleSince moment seen → idle_since seen ≡ Some moment
computed seen moment i =
    ap idle_since i.order
    ∙ after_zeros i.later i.first i.positive i.older i.later_zero i.first_zero i.was_positive
    ∙ ap Some i.at_first

pub idle_since_means : LawIdleSince
idle_since_means seen moment = (told seen moment, computed seen moment)
