-- What a core holds of the values that were emitted: from all that it covers to exactly what it stands for, and back.
-- The key facts: `tidy` (a core that covers a state and is tidied stands for it), `covers-last` (so many of the last values
-- are enough), `held_is`, `same_value` and `same_cache` (what a core that stands for a state has of its values).
use Rattle.std.proofs.Common.{◌≡◌, ℕ, ◌+◌, ◌-◌, ◌≤◌, List, [], ◌∷◌, ◌++◌, length, drop, Some, sym, ap, ◌∙◌, subst, arith, length-append, length-drop}
use Rattle.std.specs.Option.{IfSome}
use Rattle.std.specs.List.{slice_get}
use Rattle.std.proofs.lemmas.List.{drop-drop, drop-append-le, length-map}
use Rattle.flow_law.specs.flow.SharedFlow.{SharedFlowState, Subscriber, cache_start, values, cache, entry, position_of, with_own}
use Rattle.flow_law.specs.flow.EmitRule.{suspend}
use Rattle.flow_law.specs.flow.SharedStep.{enroll, keep_own}
use Rattle.flow_law.specs.flow.Standing.{Core, StandsFor, least_position, first_needed, needed, held}
use Rattle.flow_law.specs.flow.Covering.{Covers, EndsWith, kept_start, kept_need, tidied}
use Rattle.flow_law.proofs.CoveringLemmas.{least_position_bound, least_position-append, least_position-with_own, least_position-position_of, needed_within, needed_entry, slice_get-drop}

-- ---- what a list ends with

ends_short : {X : Type 0} (xs ys : List X) (e : EndsWith xs ys) (k : ℕ) → k ≤ length e.0 → EndsWith (drop k xs) ys
ends_short xs ys e k le = (drop k e.0, ap (drop k) e.1 ∙ drop-append-le k e.0 ys le)

ends_all : {X : Type 0} (xs ys : List X) → EndsWith xs ys → length xs ≡ length ys → xs ≡ ys
ends_all xs ys e same = none e.0 e.1
  where
    none : (front : List _) → xs ≡ front ++ ys → xs ≡ ys
    none [] is = is
    none (x ∷ front) is = absurd (omega (arith, ap length is, length-append front ys, same))

module _ {T : Type 0} where
  pub covers : (core : Core T) (s : SharedFlowState T) → StandsFor core s → Covers core s
  covers core s stands = record {
    config = stands.config;
    held = ([], stands.held);
    appended = stands.appended;
    newest = stands.newest;
    reset_mark = stands.reset_mark;
    queue = stands.queue;
    subscribers = stands.subscribers;
    issued = stands.issued;
  }

  -- ---- what is needed, by the core's own numbers

  pub start_is : (core : Core T) (s : SharedFlowState T) → Covers core s → kept_start core ≡ cache_start s
  start_is core s stands = omega (arith, stands.appended, stands.reset_mark, ap (λ c. c.replay) stands.config)

  pub need_is : (core : Core T) (s : SharedFlowState T) → Covers core s → kept_need core ≡ first_needed s
  need_is core s stands = ap (λ b. least_position b core.subscribers) (start_is core s stands) ∙ ap (least_position (cache_start s)) stands.subscribers

  needed_count : (s : SharedFlowState T) → length (needed s) ≡ held s
  needed_count s = length-drop (first_needed s) (values s) ∙ ap (λ n. n - first_needed s) (length-map s.emitted _)

  -- ---- letting go of values

  -- a core still covers a state after it drops its first values, but none that a subscriber may still receive
  pub covers-drop : (core : Core T) (s : SharedFlowState T) (k : ℕ) → Covers core s → k + held s ≤ length core.held → Covers (record core { held = drop k core.held }) s
  covers-drop core s k stands enough =
      let all : length core.held ≡ length stands.held.0 + length (needed s) = ap length stands.held.1 ∙ length-append stands.held.0 (needed s) in
      record {
        config = stands.config;
        held = ends_short core.held (needed s) stands.held k (omega (arith, all, needed_count s, enough));
        appended = stands.appended;
        newest = stands.newest;
        reset_mark = stands.reset_mark;
        queue = stands.queue;
        subscribers = stands.subscribers;
        issued = stands.issued;
      }

  -- a core still covers a state if it keeps the last n values, and a subscriber may still receive at most n
  pub covers-last : (core : Core T) (s : SharedFlowState T) (n : ℕ) → Covers core s → held s ≤ n → Covers (record core { held = drop (length core.held - n) core.held }) s
  covers-last core s n stands enough =
      let all : length core.held ≡ length stands.held.0 + length (needed s) = ap length stands.held.1 ∙ length-append stands.held.0 (needed s) in
      covers-drop core s (length core.held - n) stands (omega (arith, all, needed_count s, enough))

  pub tidy : (core : Core T) (s : SharedFlowState T) → Covers core s → core.reset_mark ≤ core.appended → StandsFor (tidied core) s
  tidy core s stands h =
      let within : first_needed s ≤ length s.emitted = needed_within core s stands h in
      let asked : kept_need core ≡ first_needed s = need_is core s stands in
      let all : length core.held ≡ length stands.held.0 + length (needed s) = ap length stands.held.1 ∙ length-append stands.held.0 (needed s) in
      let count = needed_count s in
      let k = length core.held + kept_need core - core.appended in
      let less : k ≡ length stands.held.0 = omega (arith, within, asked, all, count, stands.appended) in
      let short = ends_short core.held (needed s) stands.held k (omega (arith, less)) in
      let left : length (drop k core.held) ≡ length (needed s) = omega (arith, length-drop k core.held, less, all) in
      record {
        config = stands.config;
        held = ends_all (drop k core.held) (needed s) short left;
        appended = stands.appended;
        newest = stands.newest;
        reset_mark = stands.reset_mark;
        queue = stands.queue;
        subscribers = stands.subscribers;
        issued = stands.issued;
      }

  -- a core that covers a state holds enough, by its own numbers
  pub covers_enough : (core : Core T) (s : SharedFlowState T) → Covers core s → core.appended ≤ length core.held + kept_need core
  covers_enough core s stands =
      let all : length core.held ≡ length stands.held.0 + length (needed s) = ap length stands.held.1 ∙ length-append stands.held.0 (needed s) in
      omega (arith, all, needed_count s, need_is core s stands, stands.appended)

  -- ---- reads

  pub held_is : (core : Core T) (s : SharedFlowState T) → StandsFor core s → length core.held ≡ held s
  held_is core s stands = ap length stands.held ∙ needed_count s

  -- the first of the values that a core holds is the first that may be asked for
  pub held_from : (core : Core T) (s : SharedFlowState T) → StandsFor core s → core.reset_mark ≤ core.appended → core.appended - length core.held ≡ first_needed s
  held_from core s stands h = omega (arith, held_is core s stands, needed_within core s (covers core s stands) h, stands.appended)

  pub same_rest : (core : Core T) (s : SharedFlowState T) (i : ℕ) → StandsFor core s → core.reset_mark ≤ core.appended → first_needed s ≤ i
      → drop (i - (core.appended - length core.held)) core.held ≡ drop i (values s)
  same_rest core s i stands h le =
      let whole : first_needed s + (i - first_needed s) ≡ i = omega (arith, le) in
      ap (λ n. drop (i - n) core.held) (held_from core s stands h) ∙ ap (drop (i - first_needed s)) stands.held
      ∙ drop-drop (i - first_needed s) (first_needed s) (values s)
      ∙ ap (λ n. drop n (values s)) whole

  pub same_value : (core : Core T) (s : SharedFlowState T) (number p : ℕ) → StandsFor core s → core.reset_mark ≤ core.appended
      → position_of number s.subscribers ≡ Some p → slice_get (values s) p ≡ slice_get core.held (p - (core.appended - length core.held))
  same_value core s number p stands h at =
      let least : IfSome (Some p) (λ q. first_needed s ≤ q) = subst (λ o. IfSome o (λ q. first_needed s ≤ q)) at (least_position-position_of (cache_start s) number s.subscribers) in
      sym (slice_get-drop p (values s)) ∙ ap (λ l. slice_get l 0) (sym (same_rest core s p stands h least)) ∙ slice_get-drop (p - (core.appended - length core.held)) core.held

  pub same_cache : (core : Core T) (s : SharedFlowState T) → StandsFor core s → core.reset_mark ≤ core.appended
      → drop (kept_start core - (core.appended - length core.held)) core.held ≡ cache s
  same_cache core s stands h =
      ap (λ n. drop (n - (core.appended - length core.held)) core.held) (start_is core s (covers core s stands))
      ∙ same_rest core s (cache_start s) stands h (least_position_bound (cache_start s) s.subscribers)

  -- ---- steps after which a subscriber may still receive the same values

  -- other subscribers
  pub stands-subscribers : (core : Core T) (s : SharedFlowState T) (old new : List (Subscriber T)) (m n : ℕ) → StandsFor core s → old ≡ new → m ≡ n
      → least_position (cache_start s) s.subscribers ≡ least_position (cache_start s) new
      → StandsFor (record core { subscribers = old; issued = m }) (record s { subscribers = new; issued = n })
  stands-subscribers core s old new m n stands same count needs = record {
    config = stands.config;
    held = stands.held ∙ ap (λ n. drop n (values s)) needs;
    appended = stands.appended;
    newest = stands.newest;
    reset_mark = stands.reset_mark;
    queue = stands.queue;
    subscribers = same;
    issued = count;
  }

  -- a subscriber more
  pub stands-enroll : (core : Core T) (s : SharedFlowState T) (first : List T) (p : ℕ) → StandsFor core s → p ≡ entry s
      → StandsFor (record core { subscribers = core.subscribers ++ record { number = core.issued + 1; own = first; position = p } ∷ []; issued = core.issued + 1 }) (enroll first s)
  stands-enroll core s first p stands at =
      let joined = least_position-append (cache_start s) s.subscribers (record { number = s.issued + 1; own = first; position = entry s }) in
      stands-subscribers core s _ _ _ _ stands (cc (stands.subscribers, stands.issued, at)) (ap (λ n. n + 1) stands.issued) (omega (arith, needed_entry s, joined))

  -- a subscriber has an own value less
  pub stands-own : (core : Core T) (s : SharedFlowState T) (number : ℕ) (own : List T) → StandsFor core s
      → StandsFor (record core { subscribers = with_own number own core.subscribers }) (keep_own number own s)
  stands-own core s number own stands =
      stands-subscribers core s _ _ _ _ stands (ap (with_own number own) stands.subscribers) stands.issued (sym (least_position-with_own (cache_start s) number own s.subscribers))

  -- a value more in the queue
  pub stands-suspend : (core : Core T) (s : SharedFlowState T) (v : T) → StandsFor core s
      → StandsFor (record core { queue = core.queue ++ record { value = v; number = core.issued + 1 } ∷ []; issued = core.issued + 1 }) (suspend v s)
  stands-suspend core s v stands = record {
    config = stands.config;
    held = stands.held;
    appended = stands.appended;
    newest = stands.newest;
    reset_mark = stands.reset_mark;
    queue = ap (λ q. q ++ record { value = v; number = core.issued + 1 } ∷ []) stands.queue ∙ ap (λ n. s.queue ++ record { value = v; number = n + 1 } ∷ []) stands.issued;
    subscribers = stands.subscribers;
    issued = ap (λ n. n + 1) stands.issued;
  }
