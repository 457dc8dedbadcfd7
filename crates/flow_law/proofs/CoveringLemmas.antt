-- How a core still covers the states after the one that it covers (specs/Covering).
-- The key facts: `covers-longer` (one more value), `covers-subscribers` (other positions). HoldingLemmas has what it then holds.
use Rattle.std.proofs.Common.{◌≡◌, ℕ, zero, suc, ◌+◌, ◌-◌, ◌≤◌, min, Bool, true, false, not, cond, ◌&&◌, ◌||◌, ◌==◌, if◌then◌else◌, List, [], ◌∷◌, ◌++◌, length, map, take, drop, Option, Some, None, refl, sym, ap, ◌∙◌, arith, append_assoc, length-append}
use Rattle.std.specs.Option.{IfSome, option_map_or}
use Rattle.std.specs.List.{list_any, slice_get}
use Rattle.std.proofs.lemmas.Bool.Decides.{Decides-eqb}
use Rattle.std.proofs.lemmas.List.{take-append-drop, drop-drop, drop-append-le, map-append, length-map}
use Rattle.std.proofs.lemmas.Grind.{common_steps}
use Rattle.flow_law.specs.flow.SharedFlow.{Numbered, Subscriber, SharedFlowState, cache_start, values, cache, entry, is_offering, newest, position_of, move_to, stand_at, raise_to, without, leave_own, with_own}
use Rattle.flow_law.specs.flow.SharedStep.{admit, settle, forget}
use Rattle.flow_law.specs.flow.Standing.{Core, least_position, first_needed, needed}
use Rattle.flow_law.specs.flow.Covering.{Covers, EndsWith}

-- ---- the least position

pub least_position_bound : {T : Type 0} (b : ℕ) (us : List (Subscriber T)) → least_position b us ≤ b
least_position_bound b [] = omega arith
least_position_bound b (u ∷ us) = omega (arith, least_position_bound b us)

pub least_position_rises : {T : Type 0} (a b : ℕ) (us : List (Subscriber T)) → a ≤ b → least_position a us ≤ least_position b us
least_position_rises a b [] h = h
least_position_rises a b (u ∷ us) h = omega (arith, least_position_rises a b us h)

pub least_position-append : {T : Type 0} (b : ℕ) (us : List (Subscriber T)) (v : Subscriber T) → least_position b (us ++ v ∷ []) ≡ min v.position (least_position b us)
least_position-append b [] v = refl
least_position-append b (u ∷ us) v = omega (arith, least_position-append b us v)

pub least_position-move_to : {T : Type 0} (b number p : ℕ) (us : List (Subscriber T)) → IfSome (position_of number us) (λ q. q ≤ p) → least_position b us ≤ least_position b (move_to number p us)
least_position-move_to b number p [] h = omega arith
least_position-move_to b number p (u ∷ us) h =
    elim (u.number == number) as (λ t. IfSome (if t then Some u.position else position_of number us) (λ q. q ≤ p)
    → min u.position (least_position b us) ≤ least_position b (if t then stand_at p u ∷ us else u ∷ move_to number p us)) [
      | true ↦ λ le. omega (arith, le)
      | false ↦ λ le. omega (arith, least_position-move_to b number p us le)
    ] h

pub least_position-raise_to : {T : Type 0} (b floor : ℕ) (us : List (Subscriber T)) → least_position b us ≤ least_position b (raise_to floor us)
least_position-raise_to b floor [] = omega arith
least_position-raise_to b floor (u ∷ us) = omega (arith, least_position-raise_to b floor us)

pub least_position-gathered : {T : Type 0} (b n : ℕ) (us : List (Subscriber T)) → b ≤ n → least_position b us ≤ least_position b (map (stand_at n) us)
least_position-gathered b n us h = omega (arith, least_position_bound b us, no_lower b n us h)
  where
    no_lower : {T : Type 0} (b n : ℕ) (us : List (Subscriber T)) → b ≤ n → b ≤ least_position b (map (stand_at n) us)
    no_lower b n [] h = omega arith
    no_lower b n (u ∷ us) h = omega (arith, no_lower b n us h)

pub least_position-with_own : {T : Type 0} (b number : ℕ) (own : List T) (us : List (Subscriber T)) → least_position b (with_own number own us) ≡ least_position b us
least_position-with_own b number own [] = refl
least_position-with_own b number own (u ∷ us) =
    elim (u.number == number) as (λ t. least_position b (if t then leave_own own u ∷ us else u ∷ with_own number own us) ≡ min u.position (least_position b us)) [
      | true ↦ refl
      | false ↦ ap (λ n. min u.position n) (least_position-with_own b number own us)
    ]

pub least_position-without : {T : Type 0} (b number : ℕ) (us : List (Subscriber T)) → least_position b us ≤ least_position b (without number us)
least_position-without b number [] = omega arith
least_position-without b number (u ∷ us) =
    elim (u.number == number) as (λ t. min u.position (least_position b us) ≤ least_position b (cond (not t) (u ∷ without number us) (without number us))) [
      | true ↦ omega (arith, least_position-without b number us)
      | false ↦ omega (arith, least_position-without b number us)
    ]

pub least_position-position_of : {T : Type 0} (b number : ℕ) (us : List (Subscriber T)) → IfSome (position_of number us) (λ p. least_position b us ≤ p)
least_position-position_of b number [] = tt
least_position-position_of b number (u ∷ us) =
    elim (u.number == number) as (λ t. IfSome (if t then Some u.position else position_of number us) (λ p. min u.position (least_position b us) ≤ p)) [
      | true ↦ omega arith
      | false ↦ above (position_of number us) (least_position-position_of b number us)
    ]
  where
    above : (o : Option ℕ) → IfSome o (λ p. least_position b us ≤ p) → IfSome o (λ p. min u.position (least_position b us) ≤ p)
    above None h = tt
    above (Some p) h = omega (arith, h)

-- if a value is offered, some subscriber has still to receive it
pub least_position_offered : {T : Type 0} (b n : ℕ) (us : List (Subscriber T)) → list_any (λ u. (n - u.position) == 1) us ≡ true → (least_position b us ≤ n - 1) × (1 ≤ n)
least_position_offered b n [] h = absurd (cc)
least_position_offered b n (u ∷ us) h =
    elim (n - u.position == 1) as (λ t. (n - u.position == 1) ≡ t → (t || list_any (λ v. (n - v.position) == 1) us) ≡ true
    → (min u.position (least_position b us) ≤ n - 1) × (1 ≤ n)) [
      | true ↦ λ e _. let same : n - u.position ≡ 1 = (Decides-eqb (n - u.position) 1).0 e in (omega arith, omega arith)
      | false ↦ λ _ more. let rest = least_position_offered b n us more in (omega (arith, rest), rest.1)
    ] refl h

-- ---- what a list ends with

pub ends_further : {X : Type 0} (xs ys : List X) (a b : ℕ) → a ≤ b → EndsWith xs (drop a ys) → EndsWith xs (drop b ys)
ends_further xs ys a b h e =
    let whole : a + (b - a) ≡ b = omega arith in
    let dropped : drop (b - a) (drop a ys) ≡ drop b ys = drop-drop (b - a) a ys ∙ ap (λ n. drop n ys) whole in
    let parts : drop a ys ≡ take (b - a) (drop a ys) ++ drop b ys =
    sym (take-append-drop (b - a) (drop a ys)) ∙ ap (λ l. take (b - a) (drop a ys) ++ l) dropped in
    (e.0 ++ take (b - a) (drop a ys), e.1 ∙ ap (λ l. e.0 ++ l) parts ∙ sym (append_assoc e.0 _ _))

pub ends-append : {X : Type 0} (xs ys zs : List X) → EndsWith xs ys → EndsWith (xs ++ zs) (ys ++ zs)
ends-append xs ys zs e = (e.0, ap (λ l. l ++ zs) e.1 ∙ append_assoc e.0 ys zs)

-- a place in a list is the front of what is left there
pub slice_get-drop : {X : Type 0} (i : ℕ) (xs : List X) → slice_get (drop i xs) 0 ≡ slice_get xs i
slice_get-drop i [] = grind (arith, common_steps)
slice_get-drop zero (x ∷ xs) = refl
slice_get-drop (suc i) (x ∷ xs) = slice_get-drop i xs

pub slice_get_last : {X : Type 0} (xs : List X) (x : X) → slice_get (xs ++ x ∷ []) (length (xs ++ x ∷ []) - 1) ≡ Some x
slice_get_last xs x =
    let count : length (xs ++ x ∷ []) - 1 ≡ length xs = omega (arith, length-append xs (x ∷ [])) in
    ap (slice_get (xs ++ x ∷ [])) count ∙ at xs
  where
    at : (ys : List _) → slice_get (ys ++ x ∷ []) (length ys) ≡ Some x
    at [] = refl
    at (y ∷ ys) = at ys

-- ---- steps of a core

module _ {T : Type 0} where
  -- the first needed position is within the emitted values if the reset mark is
  pub needed_within : (core : Core T) (s : SharedFlowState T) → Covers core s → core.reset_mark ≤ core.appended → first_needed s ≤ length s.emitted
  needed_within core s stands h = omega (arith, least_position_bound (cache_start s) s.subscribers, stands.reset_mark, stands.appended)

  -- a value more, and another queue
  pub covers-longer : (core : Core T) (s : SharedFlowState T) (e : Numbered T) (q : List (Numbered T)) (n : ℕ) → core.reset_mark ≤ core.appended → Covers core s
      → Covers (record core { held = core.held ++ e.value ∷ []; appended = core.appended + 1; newest = e.number; queue = q; issued = n })
      (record s { emitted = s.emitted ++ e ∷ []; queue = q; issued = n })
  covers-longer core s e q n h stands =
      let longer : SharedFlowState T = record s { emitted = s.emitted ++ e ∷ []; queue = q; issued = n } in
      let within : first_needed s ≤ length (values s) = rw length-map (needed_within core s stands h) in
      let all : values longer ≡ values s ++ e.value ∷ [] = map-append _ s.emitted _ in
      let count : length s.emitted + 1 ≡ length longer.emitted = sym (length-append s.emitted _) in
      let moved : first_needed s ≤ first_needed longer = least_position_rises (cache_start s) (cache_start longer) s.subscribers (omega (arith, count)) in
      let kept : EndsWith (core.held ++ e.value ∷ []) (drop (first_needed s) (values longer)) =
      rw (all, drop-append-le (first_needed s) (values s) (e.value ∷ []) within) (ends-append core.held (needed s) (e.value ∷ []) stands.held) in
      record {
        config = stands.config;
        held = ends_further _ _ _ _ moved kept;
        appended = ap (λ n. n + 1) stands.appended ∙ count;
        newest = sym (ap (λ o. option_map_or (λ (x : Numbered T). x.number) o 0) (slice_get_last s.emitted e));
        reset_mark = stands.reset_mark;
        queue = refl;
        subscribers = stands.subscribers;
        issued = refl;
      }

  -- a core still covers the state after positions change, if none needs an earlier value
  pub covers-subscribers : (core : Core T) (s : SharedFlowState T) (old new : List (Subscriber T)) (m n : ℕ) → Covers core s → old ≡ new → m ≡ n
      → least_position (cache_start s) s.subscribers ≤ least_position (cache_start s) new
      → Covers (record core { subscribers = old; issued = m }) (record s { subscribers = new; issued = n })
  covers-subscribers core s old new m n stands same count later = record {
    config = stands.config;
    held = ends_further _ _ _ _ later stands.held;
    appended = stands.appended;
    newest = stands.newest;
    reset_mark = stands.reset_mark;
    queue = stands.queue;
    subscribers = same;
    issued = count;
  }

  pub needed_entry : (s : SharedFlowState T) → first_needed s ≤ entry s
  needed_entry s =
      let bound = least_position_bound (cache_start s) s.subscribers in
      elim (is_offering s) as (λ t. is_offering s ≡ t → first_needed s ≤ (if t then length s.emitted - 1 else cache_start s)) [
        | true ↦ λ offering. (least_position_offered (cache_start s) (length s.emitted) s.subscribers (and_right _ _ offering)).0
        | false ↦ λ _. bound
      ] refl
    where
      and_right : (a b : Bool) → (a && b) ≡ true → b ≡ true
      and_right true b h = h
      and_right false b h = absurd (cc)

  -- the cache of a new subscriber is empty from now on
  pub covers-forget : (core : Core T) (s : SharedFlowState T) → core.reset_mark ≤ core.appended → Covers core s
      → Covers (record core { reset_mark = core.appended }) (forget s)
  covers-forget core s h stands = record {
    config = stands.config;
    held = ends_further _ _ _ _ (least_position_rises (cache_start s) (cache_start (forget s)) s.subscribers (omega (arith, stands.reset_mark, stands.appended, h))) stands.held;
    appended = stands.appended;
    newest = stands.newest;
    reset_mark = stands.appended;
    queue = stands.queue;
    subscribers = stands.subscribers;
    issued = stands.issued;
  }

  -- ---- admission

  pub settle_idle : (s : SharedFlowState T) → s.queue ≡ [] → settle s ≡ s
  settle_idle s e = ap (λ q. admit s q) e ∙ ap (λ q. record s { queue = q }) (sym e)

  -- admission puts its own queue in place of the state's
  pub admit_any_queue : (s : SharedFlowState T) (r q : List (Numbered T)) → admit (record s { queue = r }) q ≡ admit s q
  admit_any_queue s r [] = refl
  admit_any_queue s r (e ∷ q) = ap (λ (t : SharedFlowState T). cond (Rattle.flow_law.specs.flow.SharedFlow.is_blocked s) (record s { queue = e ∷ q }) t) (admit_any_queue (record s { emitted = s.emitted ++ e ∷ [] }) r q)

  pub settle_first : (s : SharedFlowState T) (e : Numbered T) (q : List (Numbered T)) → s.queue ≡ e ∷ q → Rattle.flow_law.specs.flow.SharedFlow.is_blocked s ≡ false
      → settle s ≡ settle (record s { emitted = s.emitted ++ e ∷ []; queue = q })
  settle_first s e q here free =
      ap (λ r. admit s r) here
      ∙ ap (λ t. cond t (record s { queue = e ∷ q }) (admit (record s { emitted = s.emitted ++ e ∷ [] }) q)) free
      ∙ sym (admit_any_queue (record s { emitted = s.emitted ++ e ∷ [] }) q q)

  pub settle_blocked : (s : SharedFlowState T) → Rattle.flow_law.specs.flow.SharedFlow.is_blocked s ≡ true → settle s ≡ s
  settle_blocked s b = at s.queue refl
    where
      at : (q : List (Numbered T)) → s.queue ≡ q → admit s q ≡ s
      at [] e = ap (λ r. record s { queue = r }) (sym e)
      at (x ∷ q) e = ap (λ t. cond t (record s { queue = x ∷ q }) (admit (record s { emitted = s.emitted ++ x ∷ [] }) q)) b ∙ ap (λ r. record s { queue = r }) (sym e)
