-- One more value: a core whose ring drops its oldest value covers the states after an emission.
-- The key facts: `covers-pushed`, `covers-appended`, `covers-dropped`; `blocked_is` and `offering_is` (what is read off a core).
use Rattle.std.proofs.Common.{inl, inr, ◌≡◌, ℕ, ◌+◌, ◌-◌, ◌<◌, ◌≤◌, max, false, true, ◌&&◌, ◌==◌, List, [], ◌∷◌, ◌++◌, length, drop, length-append, refl, ap, ◌∙◌, subst, arith}
use Rattle.std.specs.List.{list_any}
use Rattle.std.proofs.lemmas.Bool.Decides.{eqb_tells, leb_tells}
use Rattle.flow_law.specs.declared.config.Overflow.TheVariants.{DropOldest}
use Rattle.flow_law.specs.declared.states.Numbered.{Numbered}
use Rattle.flow_law.specs.declared.states.Subscriber.{Subscriber}
use Rattle.flow_law.specs.declared.states.SharedFlowState.{SharedFlowState}
use Rattle.flow_law.specs.flow.SharedFlow.{is_blocked, is_offering, capacity, window, cache_start, raise_to}
use Rattle.flow_law.specs.flow.EmitRule.{append, drop_oldest}
use Rattle.flow_law.specs.flow.Standing.{Core, StandsFor, least_position}
use Rattle.flow_law.specs.flow.Covering.{Covers, kept_start, kept_need}
use Rattle.flow_law.proofs.CoveringLemmas.{covers-longer, covers-subscribers, least_position-raise_to, least_position_bound, least_position_rises, needed_within}
use Rattle.flow_law.proofs.HoldingLemmas.{covers, covers-last, need_is, held_is, held_from, tidy}
use Rattle.flow_containers.specs.Subscribers.{is_full}
use Rattle.flow_core.specs.SharedCore.{window_of, fields_of, AreInWindow, IsSound, kept_full, pushed, dropped}
use Rattle.flow_core.specs.declared.shared.SharedCore.TheInside.{Inside}
use Rattle.flow_core.proofs.RingLemmas.{within-more, within-raised, full_long, offered_full}
use Rattle.flow_core.proofs.SoundLemmas.{length-keep_last, next_start, window_more}

module _ {T : Type 0} where
  -- ---- what is read off a core

  pub blocked_is : (core : Core T) (s : SharedFlowState T) → Covers core s → kept_full core ≡ is_blocked s
  blocked_is core s stands =
      ap (λ us. is_full (window_of core.config) core.appended us) stands.subscribers
      ∙ ap (λ c. is_full (window_of c) core.appended s.subscribers) stands.config
      ∙ ap (λ n. is_full (window s) n s.subscribers) stands.appended

  pub offering_is : (core : Core T) (s : SharedFlowState T) (floor : ℕ) → Covers core s → AreInWindow floor core.appended (window_of core.config) core.subscribers
      → ((core.config.replay + core.config.extra == 0) && kept_full core) ≡ is_offering s
  offering_is core s floor stands within =
      same
      ∙ ap (λ us. (core.config.replay + core.config.extra == 0) && list_any (λ u. (core.appended - u.position) == 1) us) stands.subscribers
      ∙ ap (λ c. (c.replay + c.extra == 0) && list_any (λ u. (core.appended - u.position) == 1) s.subscribers) stands.config
      ∙ ap (λ n. (capacity s == 0) && list_any (λ u. (n - u.position) == 1) s.subscribers) stands.appended
    where
      same : ((core.config.replay + core.config.extra == 0) && kept_full core)
          ≡ ((core.config.replay + core.config.extra == 0) && list_any (λ u. (core.appended - u.position) == 1) core.subscribers)
      same = elim (eqb_tells (core.config.replay + core.config.extra) 0) [
        | inl none ↦ ap (λ t. (core.config.replay + core.config.extra == 0) && t) (offered_full floor core.appended (window_of core.config) core.subscribers within (omega (arith, none.1)))
        | inr some ↦ rw some.0 refl
      ]

  -- ---- one more value

  -- the core with one more value and none dropped, and the state after it
  abbrev longer_core : Core T → Numbered T → List (Numbered T) → ℕ → Core T
  longer_core core e q n = record core { held = core.held ++ e.value ∷ []; appended = core.appended + 1; newest = e.number; queue = q; issued = n }

  abbrev longer_state : SharedFlowState T → Numbered T → List (Numbered T) → ℕ → SharedFlowState T
  longer_state s e q n = record s { emitted = s.emitted ++ e ∷ []; queue = q; issued = n }

  pub covers-pushed : (core : Core T) (s : SharedFlowState T) (e : Numbered T) (q : List (Numbered T)) (n : ℕ) → core.reset_mark ≤ core.appended → Covers core s
      → core.appended + 1 ≤ least_position (max core.reset_mark (core.appended + 1 - core.config.replay)) core.subscribers + window_of core.config
      → Covers (pushed e.value e.number (record core { queue = q; issued = n })) (record s { emitted = s.emitted ++ e ∷ []; queue = q; issued = n })
  covers-pushed core s e q n h stands near =
      let longer = covers-longer core s e q n h stands in
      covers-last (longer_core core e q n) (longer_state s e q n) (window_of core.config) longer
      (omega (arith, need_is (longer_core core e q n) (longer_state s e q n) longer, longer.appended, near))

  -- the value took the next number
  appended_is : (core : Core T) (s : SharedFlowState T) (v : T) → Covers core s
      → longer_state s (record { value = v; number = core.issued + 1 }) core.queue (core.issued + 1) ≡ append v s
  appended_is core s v stands =
      ap (λ q. longer_state s (record { value = v; number = core.issued + 1 }) q (core.issued + 1)) stands.queue
      ∙ ap (λ n. longer_state s (record { value = v; number = n + 1 }) s.queue (n + 1)) stands.issued

  pub covers-appended : (core : Core T) (s : SharedFlowState T) (v : T) → core.reset_mark ≤ core.appended → Covers core s
      → core.appended + 1 ≤ least_position (max core.reset_mark (core.appended + 1 - core.config.replay)) core.subscribers + window_of core.config
      → Covers (pushed v (core.issued + 1) (record core { issued = core.issued + 1 })) (append v s)
  covers-appended core s v h stands near =
      subst (λ t. Covers (pushed v (core.issued + 1) (record core { issued = core.issued + 1 })) t) (appended_is core s v stands)
      (covers-pushed core s (record { value = v; number = core.issued + 1 }) core.queue (core.issued + 1) h stands near)

  least_position-beyond : (a b : ℕ) (us : List (Subscriber T)) → a ≤ b → least_position a us < a → least_position b us ≡ least_position a us
  least_position-beyond a b [] le less = absurd (omega (arith, less))
  least_position-beyond a b (u ∷ us) le less =
      elim (leb_tells a (least_position a us)) [
        | inl whole ↦ omega (arith, less, whole.1, least_position_rises a b us le)
        | inr more ↦ omega (arith, least_position-beyond a b us le more.1)
      ]

  -- if the ring does not begin where the cache does, all its values are still needed after one more value
  pub stands-appended : (core : Core T) (s : SharedFlowState T) (v : T) → core.reset_mark ≤ core.appended → StandsFor core s
      → (core.appended - length core.held == kept_start core) ≡ false
      → Covers (pushed v (core.issued + 1) (record core { issued = core.issued + 1 })) (append v s)
      → StandsFor (pushed v (core.issued + 1) (record core { issued = core.issued + 1 })) (append v s)
  stands-appended core s v marked stands bound grown =
      let after = pushed v (core.issued + 1) (record core { issued = core.issued + 1 }) in
      let all = core.held ++ v ∷ [] in
      let covered = covers core s stands in
      let need = need_is core s covered in
      let from = held_from core s stands marked in
      let less : kept_need core < kept_start core = elim (eqb_tells (core.appended - length core.held) (kept_start core)) [
        | inl same ↦ absurd (cc (same.0, bound))
        | inr other ↦ omega (arith, from, need, other.1, least_position_bound (kept_start core) core.subscribers)
      ] in
      let stays : kept_need after ≡ kept_need core = least_position-beyond (kept_start core) (kept_start after) core.subscribers (omega arith) less in
      let kept = length-keep_last (window_of core.config) all in
      let long = length-append core.held (v ∷ []) in
      let none : length after.held + kept_need after - after.appended ≡ 0 =
      omega (arith, stays, kept, long, need, held_is core s stands, stands.appended, needed_within core s covered marked) in
      subst (λ k. StandsFor (record after { held = drop k after.held }) (append v s)) none (tidy after (append v s) grown (omega (arith, marked)))

  -- the first queued value was emitted
  pub covers-admitted : (core : Core T) (s : SharedFlowState T) (e : Numbered T) (q : List (Numbered T)) → core.reset_mark ≤ core.appended → Covers core s
      → core.appended + 1 ≤ least_position (max core.reset_mark (core.appended + 1 - core.config.replay)) core.subscribers + window_of core.config
      → Covers (pushed e.value e.number (record core { queue = q })) (record s { emitted = s.emitted ++ e ∷ []; queue = q })
  covers-admitted core s e q h stands near =
      subst (λ n. Covers (pushed e.value e.number (record core { queue = q })) (record s { emitted = s.emitted ++ e ∷ []; queue = q; issued = n })) stands.issued
      (covers-pushed core s e q core.issued h stands near)

  -- the same, with each subscriber at most a buffer behind: they are moved on before the oldest value is dropped
  pub covers-dropped : (core : Core T) (s : SharedFlowState T) (v : T) → core.reset_mark ≤ core.appended → Covers core s
      → core.appended + 1 ≤ least_position (max core.reset_mark (core.appended + 1 - core.config.replay))
      (raise_to (core.appended + 1 - (core.config.replay + core.config.extra)) core.subscribers) + window_of core.config
      → Covers (dropped (pushed v (core.issued + 1) (record core { issued = core.issued + 1 }))) (drop_oldest (append v s))
  covers-dropped core s v h stands near =
      let e : Numbered T = record { value = v; number = core.issued + 1 } in
      let n = core.issued + 1 in
      let t = longer_state s e core.queue n in
      let longer = covers-longer core s e core.queue n h stands in
      let raised = raise_to (core.appended + 1 - (core.config.replay + core.config.extra)) core.subscribers in
      let same : raised ≡ raise_to (length t.emitted - capacity t) t.subscribers =
      ap (λ us. raise_to (core.appended + 1 - (core.config.replay + core.config.extra)) us) stands.subscribers
      ∙ ap (λ c. raise_to (core.appended + 1 - (c.replay + c.extra)) s.subscribers) stands.config
      ∙ ap (λ k. raise_to (k - capacity t) s.subscribers) longer.appended in
      let moved = covers-subscribers (longer_core core e core.queue n) t raised (raise_to (length t.emitted - capacity t) t.subscribers) n n longer same refl
      (least_position-raise_to (cache_start t) (length t.emitted - capacity t) t.subscribers) in
      let core_after : Core T = record (longer_core core e core.queue n) { subscribers = raised } in
      let after : SharedFlowState T = drop_oldest t in
      let kept : Covers (dropped (pushed v (core.issued + 1) (record core { issued = core.issued + 1 }))) (drop_oldest t) =
      covers-last core_after after (window_of core.config) moved (omega (arith, need_is core_after after moved, moved.appended, near)) in
      subst (λ (t : SharedFlowState T). Covers (dropped (pushed v (core.issued + 1) (record core { issued = core.issued + 1 }))) (drop_oldest t)) (appended_is core s v stands) kept

-- ---- the lags of subscribers after one more value

module _ {T A : Type 0} where
  pub near_free : (c : Inside T A) → IsSound c → kept_full (fields_of c) ≡ false
      → c.subscribers.emitted + 1 ≤ least_position (next_start c) c.subscribers.list + window_of c.config
  near_free c sound free = window_more c c.subscribers.list c.subscribers.floor sound (within-more c.subscribers.floor c.subscribers.emitted (window_of c.config) c.subscribers.list sound.within free)

  pub near_dropped : (c : Inside T A) → IsSound c → c.config.overflow ≡ DropOldest → kept_full (fields_of c) ≡ true
      → c.subscribers.emitted + 1 ≤ least_position (next_start c) (raise_to (c.subscribers.emitted + 1 - (c.config.replay + c.config.extra)) c.subscribers.list) + window_of c.config
  near_dropped c sound drops full =
      let floor = c.subscribers.emitted + 1 - window_of c.config in
      let long = full_long (window_of c.config) c.subscribers.emitted c.subscribers.list (omega arith) full in
      let some = sound.buffered drops in
      let same : window_of c.config ≡ c.config.replay + c.config.extra = omega (arith, some) in
      let within = within-raised c.subscribers.floor c.subscribers.emitted (window_of c.config) c.subscribers.list sound.within (omega arith) long in
      subst (λ w. c.subscribers.emitted + 1 ≤ least_position (next_start c) (raise_to (c.subscribers.emitted + 1 - w) c.subscribers.list) + window_of c.config) same
      (window_more c (raise_to floor c.subscribers.list) floor sound within)
