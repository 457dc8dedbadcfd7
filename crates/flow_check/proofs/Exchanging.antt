-- Of two callers' next calls that may be swapped, the one that ends first can come first. Begin with `exchange`.
use Rattle.std.proofs.Common.{◌≡◌, ◌≢◌, ◌⊎◌, ℕ, suc, zero, ◌+◌, ◌<◌, ◌≤◌, Bool, true, false, List, [], ◌∷◌, length, get_or, Option, Some, None, refl, sym, ap, ◌∙◌, subst, inl, inr, arith}
use Rattle.std.specs.Prelude.{slice_get, nat_lt}
use Rattle.std.proofs.lemmas.Bool.{false≢true}
use Rattle.std.proofs.lemmas.Bool.Decides.{eqb_tells, Decides-ltb}
use Rattle.std.proofs.lemmas.Option.{same_Some, slice_get_within, get_or_from_slice_get}
use Rattle.flow_law.proofs.Rows.{split}
use Rattle.flow_check.specs.declared.timed.Timed.{Timed}
use Rattle.flow_check.specs.Records.{CallsByCaller, recorded, is_over_before, IsWellTimed}
use Rattle.flow_check.specs.Remaining.{placing, next_at, next_call_of, MayComeNext, OwesNothing, IsStep, GoesThrough}
use Rattle.flow_check.specs.Twins.{KeepSwapped, IsEarlierTwin, HasEarlierTwin}
use Rattle.flow_check.proofs.Leaving.{get-set_else, placing_comm, next_else, not_over_later, may_still}
use Rattle.flow_check.proofs.Parts.{placed_at}
use Rattle.flow_check.proofs.Places.{get-set_same}

-- ---- ends

-- a call that has an end has one that is over before some moment
over_before_later : (one : Option ℕ) (end moment : ℕ) → is_over_before one end ≡ true → end ≤ moment → is_over_before one moment ≡ true
over_before_later None end moment h low = absurd (false≢true h)
over_before_later (Some a) end moment h low = let less = (Decides-ltb a end).0 h in (Decides-ltb a moment).1 (omega arith)

-- an end that is not over before a moment is later than one that is over before that end
not_over : (one : Option ℕ) (end moment : ℕ) → is_over_before one end ≡ true → is_over_before one moment ≡ false → is_over_before (Some end) moment ≡ false
not_over one end moment h free = split (nat_lt end moment) (λ b. nat_lt end moment ≡ b → b ≡ false)
    (λ _ over. let less = (Decides-ltb end moment).0 over in absurd (false≢true (sym free ∙ over_before_later one end moment h (omega arith)))) (λ _ _. refl) refl

module _ {S C : Type 0} (stepped : S → ℕ → C → Option S) (may_skip : C → Bool) (Swapped : ℕ → ℕ → C → C → S → S → Type 0) (swaps : KeepSwapped stepped may_skip Swapped) where
  module _ (callers : CallsByCaller C) (well : IsWellTimed callers) where
    abbrev Goes : S → List ℕ → List ℕ → Type 0
    Goes = GoesThrough stepped may_skip callers

    -- an order of as many turns goes through what is left after this caller's next call
    abbrev GoesInstead : ℕ → S → List ℕ → List ℕ → Type 0
    GoesInstead a s placed order = (rest : List ℕ) × (length rest ≡ length order) × Goes s (placing a placed) rest

    module _ (a b k moment : ℕ) (c d : Timed C) (apart : a ≢ b) (ends : c.end ≡ Some moment) (over : is_over_before d.end moment ≡ true)
        (gap : (e : Timed C) → recorded callers b (k + 1) ≡ Some e → is_over_before d.end e.begin ≡ true) where
      apart' : b ≢ a
      apart' = λ e. apart (sym e)

      -- the twin happens: the call c of b happens at its turn
      own_turn : (order placed : List ℕ) (s t : S) → Swapped b a c.call d.call s t → next_call_of callers placed b ≡ Some c → next_call_of callers placed a ≡ Some d → MayComeNext callers placed c
          → Goes s (placing b placed) (a ∷ order) → GoesInstead a t placed (a ∷ order)
      own_turn order placed s t swapped later first may h =
          let is : d ≡ h.0 = same_Some d h.0 (sym (next_else callers placed b a apart' ∙ first) ∙ h.1) in
          let step = subst (λ (x : Timed C). IsStep stepped may_skip s a x.call h.3.0) (sym is) h.3.1 in (
            b ∷ order,
            omega arith,
            (
              c,
              next_else callers placed a b apart ∙ later,
              may_still callers well placed a d c first may,
              (h.3.0, swaps.ends s t h.3.0 b a c.call d.call apart' swapped step, subst (λ (p : List ℕ). Goes h.3.0 p order) (placing_comm a b placed apart) h.3.2),
            ),
          )

      -- b cannot make the call after c before the twin happens
      not_yet : (placed : List ℕ) (e : Timed C) → slice_get placed b ≡ Some k → next_call_of callers placed a ≡ Some d → next_call_of callers (placing b placed) b ≡ Some e
          → MayComeNext callers (placing b placed) e → ⊥
      not_yet placed e at first next may =
          let count = get_or_from_slice_get placed b k 0 at in
          let grown = get-set_same placed b (get_or placed b 0 + 1) (slice_get_within placed b k at) in
          let after : recorded callers b (k + 1) ≡ Some e = sym (ap (next_at callers b) (grown ∙ ap (λ (n : ℕ). Some (n + 1)) count)) ∙ next in
          false≢true (sym (may a d (next_else callers placed b a apart' ∙ first)) ∙ gap e after)

      -- a call of another caller may come next after d instead of c
      may_instead : (placed : List ℕ) (e : Timed C) → next_call_of callers placed b ≡ Some c → next_call_of callers placed a ≡ Some d
          → MayComeNext callers (placing b placed) e → MayComeNext callers (placing a placed) e
      may_instead placed e later first may other y there =
          let free = may a d (next_else callers placed b a apart' ∙ first) in
          elim (eqb_tells a other) [
            | inl same ↦ not_over_later callers well placed a e.begin d y first (subst (λ (j : ℕ). next_call_of callers (placing a placed) j ≡ Some y) (sym same.1) there) free
            | inr x ↦ elim (eqb_tells b other) [
              | inl same ↦
                  let is : c ≡ y = same_Some c y (sym (next_else callers placed a b apart ∙ later) ∙ subst (λ (j : ℕ). next_call_of callers (placing a placed) j ≡ Some y) (sym same.1) there) in
                  subst (λ (z : Timed C). is_over_before z.end e.begin ≡ false) is (
                  subst (λ (o : Option ℕ). is_over_before o e.begin ≡ false) (sym ends) (not_over d.end moment e.begin over free))
              | inr z ↦ may other y (next_else callers placed b other z.1 ∙ sym (next_else callers placed a other x.1) ∙ there)
            ]
          ]

      -- if an order goes through the rest after the call c of b, one of as many turns does after the call d of a
      swap_in : (order placed : List ℕ) (s t : S) → Swapped b a c.call d.call s t → slice_get placed b ≡ Some k → next_call_of callers placed b ≡ Some c → next_call_of callers placed a ≡ Some d → MayComeNext callers placed c
          → Goes s (placing b placed) order → GoesInstead a t placed order
      swap_in [] placed s t swapped at later first may h =
          absurd (false≢true (subst (λ (o : Option ℕ). is_over_before o moment ≡ true) (h a d (next_else callers placed b a apart' ∙ first)) over))
      swap_in (x ∷ order) placed s t swapped at later first may h = elim (eqb_tells a x) [
        | inl same ↦
            subst (λ (j : ℕ). Goes s (placing b placed) (j ∷ order) → GoesInstead a t placed (j ∷ order)) same.1 (own_turn order placed s t swapped later first may) h
        | inr other ↦ elim (eqb_tells b x) [
          | inl same ↦ absurd (not_yet placed h.0 at first (subst (λ (j : ℕ). next_call_of callers (placing b placed) j ≡ Some h.0) (sym same.1) h.1) h.2)
          | inr z ↦
              let from_a : x ≢ a = λ e. other.1 (sym e) in
              let from_b : x ≢ b = λ e. z.1 (sym e) in
              let next = sym (next_else callers placed b x z.1) ∙ h.1 in
              let then = swaps.keeps s t h.3.0 b a x c.call d.call h.0.call from_b from_a swapped h.3.1 in
              let more = swap_in order (placing x placed) h.3.0 then.0 then.2 (get-set_else placed x b (get_or placed x 0 + 1) from_b ∙ at) (next_else callers placed x b from_b ∙ later)
              (next_else callers placed x a from_a ∙ first) (may_still callers well placed x h.0 c next may)
              (subst (λ (p : List ℕ). Goes h.3.0 p order) (placing_comm x b placed from_b) h.3.2) in
              let count = more.1 in (
                x ∷ more.0,
                omega arith,
                (
                  h.0,
                  next_else callers placed a x other.1 ∙ next,
                  may_instead placed h.0 later first h.2,
                  (then.0, then.1, subst (λ (p : List ℕ). Goes then.0 p more.0) (placing_comm a x placed other.1) more.2),
                ),
              )
        ]
      ]

    -- an order of as many turns that begins with this caller goes through the rest
    abbrev GoesFirst : ℕ → S → List ℕ → List ℕ → Type 0
    GoesFirst a s placed order = (rest : List ℕ) × (length rest ≡ length order) × Goes s placed (a ∷ rest)

    apart_from_twin : (a b moment : ℕ) (c d : Timed C) (placed : List ℕ) → next_call_of callers placed b ≡ Some c → next_call_of callers placed a ≡ Some d
        → c.end ≡ Some moment → is_over_before d.end moment ≡ true → a ≢ b
    apart_from_twin a b moment c d placed later first ends over same =
        let is : d ≡ c = same_Some d c (sym first ∙ subst (λ (j : ℕ). next_call_of callers placed j ≡ Some c) (sym same) later) in
        let early = (Decides-ltb moment moment).0 (subst (λ (o : Option ℕ). is_over_before o moment ≡ true) ends (subst (λ (x : Timed C). is_over_before x.end moment ≡ true) is over)) in
        absurd (omega arith)

    pub exchange : (a b : ℕ) (order placed : List ℕ) (s : S) → IsEarlierTwin stepped may_skip Swapped callers s placed b a → Goes s placed (b ∷ order) → GoesFirst a s placed order
    exchange a b order placed s found h =
        let c = found.0 in
        let d = found.2.0 in
        let twin = found.2.2 in
        let at = placed_at callers b (slice_get placed b) c found.1 in
        let is : h.0 ≡ c = same_Some h.0 c (sym h.1 ∙ found.1) in
        let may = subst (λ (x : Timed C). MayComeNext callers placed x) is h.2 in
        let step = subst (λ (x : Timed C). IsStep stepped may_skip s b x.call h.3.0) is h.3.1 in
        let apart = apart_from_twin a b twin.0.0 c d placed found.1 found.2.1 twin.0.1 twin.0.2 in
        let instead = twin.3 h.3.0 step in
        let more = swap_in a b at.0 twin.0.0 c d apart twin.0.1 twin.0.2 (λ e. twin.1 at.0 e at.1) order placed h.3.0 instead.0 instead.2 at.1 found.1 found.2.1 may h.3.2 in
        (more.0, more.1, (d, found.2.1, twin.2, (instead.0, instead.1, more.2)))

    -- ---- the first of several twins

    abbrev latest : Option ℕ → ℕ
    latest None = 0
    latest (Some end) = end

    latest_is : (o : Option ℕ) (end : ℕ) → o ≡ Some end → end ≤ latest o
    latest_is None end e = absurd (cc)
    latest_is (Some last) end e = let same = same_Some last end e in omega arith

    over_within : (o : Option ℕ) (moment end most : ℕ) → is_over_before o moment ≡ true → o ≡ Some end → moment ≤ suc most → end ≤ most
    over_within o moment end most over e low =
        let less = (Decides-ltb end moment).0 (subst (λ (p : Option ℕ). is_over_before p moment ≡ true) e over) in omega arith

    none_before_zero : (o : Option ℕ) (moment : ℕ) → is_over_before o moment ≡ true → moment ≤ 0 → ⊥
    none_before_zero None moment over low = false≢true over
    none_before_zero (Some end) moment over low = let less = (Decides-ltb end moment).0 over in absurd (omega arith)

    module _ (s : S) (placed : List ℕ) (IsFree : ℕ → Type 0) (each : (caller : ℕ) → HasEarlierTwin stepped may_skip Swapped callers s placed caller ⊎ IsFree caller) where
      -- an order of as many turns begins with a caller whose call has no earlier twin
      abbrev pub BeginsFree : List ℕ → Type 0
      BeginsFree order = (first : ℕ) × IsFree first × GoesFirst first s placed order

      begins_within : (most caller : ℕ) (order : List ℕ) → ((c : Timed C) (end : ℕ) → next_call_of callers placed caller ≡ Some c → c.end ≡ Some end → end ≤ most)
          → Goes s placed (caller ∷ order) → BeginsFree order
      begins_within zero caller order low h = elim (each caller) [
        | inl twin ↦
            let found = twin.1 in
            let ends = found.2.2.0 in
            absurd (none_before_zero found.2.0.end ends.0 ends.2 (low found.0 ends.0 found.1 ends.1))
        | inr free ↦ (caller, free, (order, refl, h))
      ]
      begins_within (suc most) caller order low h = elim (each caller) [
        | inl twin ↦
            let found = twin.1 in
            let d = found.2.0 in
            let ends = found.2.2.0 in
            let less = exchange twin.0 caller order placed s found h in
            let count = less.1 in
            let more = begins_within most twin.0 less.0 (λ e end next is.
            let same : e ≡ d = same_Some e d (sym next ∙ found.2.1) in
            over_within d.end ends.0 end most ends.2 (subst (λ (x : Timed C). x.end ≡ Some end) same is) (low found.0 ends.0 found.1 ends.1)) less.2 in
            let counted = more.2.1 in
            (more.0, more.1, (more.2.0, omega arith, more.2.2))
        | inr free ↦ (caller, free, (order, refl, h))
      ]

      pub begins_free : (caller : ℕ) (order : List ℕ) → Goes s placed (caller ∷ order) → BeginsFree order
      begins_free caller order h = begins_within (latest h.0.end) caller order
          (λ c end next is.
          let same : c ≡ h.0 = same_Some c h.0 (sym next ∙ h.1) in
          latest_is h.0.end end (subst (λ (x : Timed C). x.end ≡ Some end) same is)) h
