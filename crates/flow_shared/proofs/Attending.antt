-- Callers that sleep have nothing to receive: this still holds after a call, and when one more caller sleeps.
use Rattle.std.proofs.Common.{inl, inr, ◌≡◌, ◌≢◌, ◌⊎◌, ℕ, ◌≤◌, ◌==◌, true, false, not, List, [], ◌∷◌, take, drop, Option, ap, sym, ◌∙◌, subst, arith}
use Rattle.std.specs.Prelude.{All, filter, nat_le, IsSomeAnd}
use Rattle.std.proofs.lemmas.Bool.Decides.{Decides-eqb, nat_tests}
use Rattle.std.proofs.lemmas.Bool.{not-true}
use Rattle.std.proofs.lemmas.List.Elements.{All-nil, All-cons, All-append, All-take, All-drop, All-weaker, All-filter, filter_passes}
use Rattle.flow_law.specs.declared.touch.Touch.{Touch}
use Rattle.flow_law.specs.declared.touch.Touch.TheVariants as touch
use Rattle.flow_law.specs.history.History.{Kind}
use Rattle.flow_law.specs.history.Sleeping.{FindsNothing, Sleeping}
use Rattle.flow_law.specs.flow.Standing.{Documents}
use Rattle.flow_sleepers.specs.Sleepers.{AddsSleeper}
use Rattle.flow_shared.specs.declared.attended.Attended.{Attended}
use Rattle.flow_shared.specs.Attended.{Attends, AttendedAs, attended_stands, IsAlone, Rests, Lasts, Watches, HasSubscribers, without_reader, without_emitter}

-- no caller sleeps
pub none_sleeps : (P : ℕ → Type 0) (sleepers : List ℕ) → sleepers ≡ [] → All P sleepers
none_sleeps P sleepers none = subst (All P) (sym none) (All-nil P)

-- one more in a list
pub joins : (P : ℕ → Type 0) (u : ℕ) (old new : List ℕ) → AddsSleeper u old new → P u → All P old → All P new
joins P u old new adds here all = elim adds as (λ _. All P new) [
  | inl same ↦ subst (All P) (sym same) all
  | inr at ↦ subst (All P) (sym at.1) (All-append P (take at.0 old) (u ∷ drop at.0 old) (All-take P at.0 old all) (All-cons P u (drop at.0 old) here (All-drop P at.0 old all)))
]

-- a list without one number: what holds if it is not empty
pub one_less : (number : ℕ) (old new : List ℕ) (P : Type 0) → new ≡ filter (λ k. not (k == number)) old → (old ≡ []) ⊎ P → (new ≡ []) ⊎ P
one_less number old new P less (inl none) = inl (less ∙ ap (filter (λ k. not (k == number))) none)
one_less number old new P less (inr holds) = inr holds

-- both hold of each
both : (P Q : ℕ → Type 0) (xs : List ℕ) → All P xs → All Q xs → All (λ u. P u × Q u) xs
both P Q xs p q = λ k d l. (p k d l, q k d l)

-- those without this number do not have it
others : (P : ℕ → Type 0) (n : ℕ) (xs : List ℕ) → All P xs → All (λ u. P u × (u ≢ n)) (filter (λ k. not (k == n)) xs)
others P n xs all =
    All-weaker (λ u. P u × (not (u == n) ≡ true)) (λ u. P u × (u ≢ n)) (λ u p. (p.0, other u p.1)) (filter (λ k. not (k == n)) xs)
    (both P (λ u. not (u == n) ≡ true) (filter (λ k. not (k == n)) xs) (All-filter (λ k. not (k == n)) P xs all) (filter_passes (λ k. not (k == n)) xs))
  where
    other : (u : ℕ) → not (u == n) ≡ true → u ≡ n → ⊥
    other u passes same = let not_it : (u == n) ≡ false = not-true (u == n) passes in let it : (u == n) ≡ true = (Decides-eqb u n).1 same in cc

-- the readers that are left were not touched
readers_left : (P : ℕ → Type 0) (touches : Touch) (xs : List ℕ) → All P xs → All (λ u. P u × (touches ≢ touch.Subscriber u) × (touches ≢ touch.Subscribers)) (without_reader touches xs)
readers_left P touch.NoSleeper xs all = All-weaker P (λ u. P u × (touch.NoSleeper ≢ touch.Subscriber u) × (touch.NoSleeper ≢ touch.Subscribers)) (λ u p. (p, (λ e. cc), (λ e. cc))) xs all
readers_left P (touch.Subscriber n) xs all =
    All-weaker (λ u. P u × (u ≢ n)) (λ u. P u × (touch.Subscriber n ≢ touch.Subscriber u) × (touch.Subscriber n ≢ touch.Subscribers))
    (λ u p. (p.0, (λ e. let same : n ≡ u = cc in p.1 (sym same)), (λ e. cc))) (without_reader (touch.Subscriber n) xs) (others P n xs all)
readers_left P touch.Subscribers xs all = All-nil (λ u. P u × (touch.Subscribers ≢ touch.Subscriber u) × (touch.Subscribers ≢ touch.Subscribers))
readers_left P (touch.Emission e) xs all = All-weaker P (λ u. P u × (touch.Emission e ≢ touch.Subscriber u) × (touch.Emission e ≢ touch.Subscribers)) (λ u p. (p, (λ e. cc), (λ e. cc))) xs all

-- the emitters that are left were not touched
emitters_left : (P : ℕ → Type 0) (touches : Touch) (xs : List ℕ) → All P xs → All (λ e. P e × (touches ≢ touch.Emission e)) (without_emitter touches xs)
emitters_left P touch.NoSleeper xs all = All-weaker P (λ e. P e × (touch.NoSleeper ≢ touch.Emission e)) (λ e p. (p, λ is. cc)) xs all
emitters_left P (touch.Subscriber n) xs all = All-weaker P (λ e. P e × (touch.Subscriber n ≢ touch.Emission e)) (λ e p. (p, λ is. cc)) xs all
emitters_left P touch.Subscribers xs all = All-weaker P (λ e. P e × (touch.Subscribers ≢ touch.Emission e)) (λ e p. (p, λ is. cc)) xs all
emitters_left P (touch.Emission n) xs all =
    All-weaker (λ e. P e × (e ≢ n)) (λ e. P e × (touch.Emission n ≢ touch.Emission e)) (λ e p. (p.0, λ is. let same : n ≡ e = cc in p.1 (sym same))) (without_emitter (touch.Emission n) xs) (others P n xs all)

le_from : (a b : ℕ) → nat_le a b ≡ true → a ≤ b
le_from a b e = grind (arith, nat_tests, e)

-- those that are at least the number
at_least : (P : ℕ → Type 0) (number : ℕ) (xs : List ℕ) → All P xs → All (λ e. P e × (number ≤ e)) (filter (λ k. nat_le number k) xs)
at_least P number xs all =
    All-weaker (λ e. P e × (nat_le number e ≡ true)) (λ e. P e × (number ≤ e)) (λ e p. (p.0, le_from number e p.1)) (filter (λ k. nat_le number k) xs)
    (both P (λ e. nat_le number e ≡ true) (filter (λ k. nat_le number k) xs) (All-filter (λ k. nat_le number k) P xs all) (filter_passes (λ k. nat_le number k) xs))

module _ {K T S C R : Type 0} {kind : Kind T S C R} (sleeping : Sleeping kind) (StandsAs : K → S → Type 0) where
  pub readers_rest : (x y : K) (c : C) (r : R) (touches : Touch) (before : ℕ) (xs ys : List ℕ) (s : S)
      → Documents kind StandsAs x c r y → touches ≡ sleeping.touches c r
      → ((t : S) → StandsAs x t → before ≡ sleeping.mark t)
      → Rests sleeping StandsAs y before (without_reader touches xs) ys
      → StandsAs x s → All (λ u. FindsNothing kind u s) xs
      → All (λ u. FindsNothing kind u (kind.after s c r)) ys
  readers_rest x y c r touches before xs ys s documents touched mark rests stands all = elim rests as (λ _. All Later ys) [
    | inl none ↦ subst (All Later) (sym none) (All-nil Later)
    | inr quiet ↦ subst (All Later) (sym quiet.0) (
        let now = documents s stands in
        All-weaker (λ u. FindsNothing kind u s × (touches ≢ touch.Subscriber u) × (touches ≢ touch.Subscribers)) Later
        (λ u p. sleeping.stays u s c r now.0 (λ e. p.1 (touched ∙ e)) (λ e. p.2 (touched ∙ e)) (sym (quiet.1 (kind.after s c r) now.1) ∙ mark s stands) p.0)
        (without_reader touches xs) (readers_left (λ u. FindsNothing kind u s) touches xs all))
  ]
    where
      Later : ℕ → Type 0
      Later u = FindsNothing kind u (kind.after s c r)

  pub emitters_last : (x y : K) (c : C) (r : R) (touches : Touch) (first : Option ℕ) (xs ys : List ℕ) (s : S)
      → Documents kind StandsAs x c r y → touches ≡ sleeping.touches c r
      → ((t : S) → StandsAs x t → first ≡ sleeping.first_waiting t)
      → Lasts sleeping StandsAs y first (without_emitter touches xs) ys
      → StandsAs x s → sleeping.IsSound s → All (λ e. sleeping.waits e s ≡ true) xs
      → All (λ e. sleeping.waits e (kind.after s c r) ≡ true) ys
  emitters_last x y c r touches first xs ys s documents touched before lasts stands sound all = elim lasts as (λ _. All Later ys) [
    | inl none ↦ subst (All Later) (sym none) (All-nil Later)
    | inr some ↦ elim some as (λ _. All Later ys) [
      | inl same ↦ subst (All Later) (sym same.0) (All-weaker (λ e. Now e × (touches ≢ touch.Emission e)) Later
          (λ e p. sleeping.goes_on e s c r sound (λ is. p.1 (touched ∙ is)) p.0
          (subst (λ o. IsSomeAnd o (λ f. f ≤ e)) (sym (before s stands) ∙ same.1 (kind.after s c r) now.1) (sleeping.first_first e s sound p.0)))
          (without_emitter touches xs) (emitters_left Now touches xs all))
      | inr below ↦ subst (All Later) (sym below.1) (All-weaker (λ e. (Now e × (touches ≢ touch.Emission e)) × (below.0 ≤ e)) Later
          (λ e p. sleeping.goes_on e s c r sound (λ is. p.0.1 (touched ∙ is)) p.0.0 (subst (λ o. IsSomeAnd o (λ f. f ≤ e)) (below.2 (kind.after s c r) now.1) p.1))
          (filter (λ k. nat_le below.0 k) (without_emitter touches xs)) (at_least (λ e. Now e × (touches ≢ touch.Emission e)) below.0 (without_emitter touches xs) (emitters_left Now touches xs all)))
    ]
  ]
    where
      Now : ℕ → Type 0
      Now e = sleeping.waits e s ≡ true

      Later : ℕ → Type 0
      Later e = sleeping.waits e (kind.after s c r) ≡ true

      now : kind.Replies s c r × StandsAs y (kind.after s c r)
      now = documents s stands

  pub watchers_last : (core : K) (watchers : List ℕ) (watched : ℕ) (s : S) → Watches sleeping StandsAs core watchers watched → StandsAs core s
      → (watchers ≡ []) ⊎ HasSubscribers kind watched s
  watchers_last core watchers watched s (inl none) stands = inl none
  watchers_last core watchers watched s (inr seen) stands = inr (seen s stands)

  -- a call of the core while no caller sleeps
  pub alone_after : {A : Type 0} (old : Attended K A T S C R) (new : Attended K A T S C R) (c : C) (r : R) (s : S) → old.asleep ≡ false → new.asleep ≡ old.asleep
      → Documents kind StandsAs old.core c r new.core → new.readers ≡ old.readers → new.emitters ≡ old.emitters → new.watchers ≡ old.watchers
      → AttendedAs sleeping StandsAs old s → kind.Replies s c r × AttendedAs sleeping StandsAs new (kind.after s c r)
  alone_after old new c r s quiet flag documents readers emitters watchers at =
      let now = documents s at.attends.core in
      let alone = at.alone quiet in (
        now.0,
        record {
          attends = record {
            core = now.1;
            sound = sleeping.keeps s c r at.attends.sound;
            readers = none_sleeps (λ u. FindsNothing kind u (kind.after s c r)) new.readers (readers ∙ alone.0);
            emitters = none_sleeps (λ e. sleeping.waits e (kind.after s c r) ≡ true) new.emitters (emitters ∙ alone.1);
            watchers = inl (watchers ∙ alone.2);
          };
          alone = λ _. (readers ∙ alone.0, emitters ∙ alone.1, watchers ∙ alone.2);
        },
      )

module _ {K A T S C R : Type 0} {kind : Kind T S C R} (sleeping : Sleeping kind) (start : K → S) (StandsAs : K → S → Type 0) where
  -- a core before its first call
  pub begins : (w : Attended K A T S C R) → kind.MayBegin (start w.core) → StandsAs w.core (start w.core) → IsAlone w → attended_stands sleeping start StandsAs w w []
  begins w may stands alone = (
    record { begins = may; legal = tt; owned = tt },
    record {
      attends = record {
        core = stands;
        sound = sleeping.begins (start w.core) may;
        readers = subst (All (λ u. FindsNothing kind u (start w.core))) (sym alone.0) (All-nil (λ u. FindsNothing kind u (start w.core)));
        emitters = subst (All (λ e. sleeping.waits e (start w.core) ≡ true)) (sym alone.1) (All-nil (λ e. sleeping.waits e (start w.core) ≡ true));
        watchers = inl alone.2;
      };
      alone = λ _. alone;
    },
  )
