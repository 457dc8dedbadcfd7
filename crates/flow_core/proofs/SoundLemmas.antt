-- The private steps of a core keep its invariant.
-- The key facts: `sound_emitted` (one more value in the ring), `sound_trimmed`, `sound_standing` (changed subscribers).
use Rattle.std.proofs.Common.{◌≡◌, ◌≢◌, ℕ, ◌+◌, ◌-◌, ◌≤◌, ◌<◌, max, List, [], ◌∷◌, ◌++◌, length, map, Option, sym, ap, ◌∙◌, arith, length-append, length-drop}
use Rattle.circular_buffer.specs.Buffer.{buffer, keep_last}
use Rattle.flow_law.specs.declared.states.Subscriber.{Subscriber}
use Rattle.flow_law.specs.declared.states.Numbered.{Numbered}
use Rattle.flow_law.specs.laws.Laws.{RisesTo}
use Rattle.flow_law.specs.flow.Standing.{Core, least_position}
use Rattle.flow_law.specs.flow.Covering.{kept_start, kept_need}
use Rattle.flow_law.proofs.CoveringLemmas.{least_position_rises}
use Rattle.flow_law.proofs.Rows.{rises_higher}
use Rattle.flow_containers.specs.Subscribers.{Standing}
use Rattle.flow_core.specs.SharedCore.{window_of, fields_of, AreInWindow, IsSound}
use Rattle.flow_core.specs.declared.shared.SharedCore.TheInside.{Inside}
use Rattle.flow_core.proofs.RingLemmas.{within_least}

pub length-keep_last : {X : Type 0} (n : ℕ) (xs : List X) → length (keep_last n xs) ≡ length xs - (length xs - n)
length-keep_last n xs = length-drop (length xs - n) xs

module _ {T A : Type 0} where
  -- the start of the cache after one more value
  abbrev pub next_start : Inside T A → ℕ
  next_start c = max c.reset_mark (c.subscribers.emitted + 1 - c.config.replay)

  -- the subscribers after one more value
  abbrev pub standing_more : Inside T A → List (Subscriber T) → ℕ → Standing T
  standing_more c us floor = record c.subscribers { list = us; emitted = c.subscribers.emitted + 1; floor = floor }

  -- one more value in the ring, after which no subscriber needs a value before the window
  abbrev pub emitted_inside : Inside T A → T → ℕ → List (Subscriber T) → ℕ → Inside T A
  emitted_inside c v number us floor = record c {
    values = buffer (keep_last c.values.capacity (c.values.items ++ v ∷ [])) c.values.capacity;
    subscribers = standing_more c us floor;
    newest = number;
  }

  -- no subscriber needs a value before the window after one more value
  pub window_more : (c : Inside T A) (us : List (Subscriber T)) (floor : ℕ) → IsSound c → AreInWindow floor (c.subscribers.emitted + 1) (window_of c.config) us
      → c.subscribers.emitted + 1 ≤ least_position (next_start c) us + window_of c.config
  window_more c us floor sound within = within_least floor (c.subscribers.emitted + 1) (window_of c.config) (next_start c) us within (omega arith)

  pub sound_emitted : (c : Inside T A) (v : T) (number : ℕ) (us : List (Subscriber T)) (floor : ℕ) → IsSound c → AreInWindow floor (c.subscribers.emitted + 1) (window_of c.config) us
      → floor ≤ next_start c → least_position (kept_start (fields_of c)) c.subscribers.list ≤ least_position (kept_start (fields_of c)) us → c.subscribers.emitted + length c.queue < c.issued
      → IsSound (emitted_inside c v number us floor)
  sound_emitted c v number us floor sound within low later issued =
      let all = c.values.items ++ v ∷ [] in
      let long : length all ≡ length c.values.items + 1 = length-append c.values.items (v ∷ []) in
      let kept : length (keep_last c.values.capacity all) ≡ length all - (length all - c.values.capacity) = length-keep_last c.values.capacity all in
      let rises : least_position (kept_start (fields_of c)) us ≤ least_position (next_start c) us = least_position_rises (kept_start (fields_of c)) (next_start c) us (omega arith) in
      let near = window_more c us floor sound within in
      let capacity = sound.capacity in
      let enough = sound.enough in
      let held = sound.held in
      let reset_mark = sound.reset_mark in
      record {
        window = sound.window;
        capacity = sound.capacity;
        buffered = sound.buffered;
        within = within;
        floor = low;
        reset_mark = omega (arith, reset_mark);
        enough = omega (arith, long, kept, rises, near, capacity, enough, later);
        held = omega (arith, long, kept, held);
        last = sound.last;
        numbers = omega (arith, issued);
        issued = sound.issued;
        rising = sound.rising;
      }

  -- the values that are not needed are dropped
  pub sound_trimmed : (c : Inside T A) (count : ℕ) → IsSound c → count ≡ c.subscribers.emitted - kept_need (fields_of c)
      → IsSound (record c { values = buffer (keep_last count c.values.items) c.values.capacity })
  sound_trimmed c count sound is =
      let kept = length-keep_last count c.values.items in
      let enough = sound.enough in
      let held = sound.held in
      record {
        window = sound.window;
        capacity = sound.capacity;
        buffered = sound.buffered;
        within = sound.within;
        floor = sound.floor;
        reset_mark = sound.reset_mark;
        enough = omega (arith, kept, is, enough);
        held = omega (arith, kept, held);
        last = sound.last;
        numbers = sound.numbers;
        issued = sound.issued;
        rising = sound.rising;
      }

  -- changed subscribers that need no earlier value, and more numbers
  pub sound_standing : (c : Inside T A) (us : List (Subscriber T)) (last floor issued : ℕ) (keys : List (Option ℕ)) → IsSound c → AreInWindow floor c.subscribers.emitted (window_of c.config) us
      → floor ≤ kept_start (fields_of c) → least_position (kept_start (fields_of c)) c.subscribers.list ≤ least_position (kept_start (fields_of c)) us
      → last ≤ issued → c.issued ≤ issued → issued ≤ c.config.limit → RisesTo 0 (map (λ q. q.number) c.queue) issued
      → IsSound (record c { subscribers = record c.subscribers { list = us; last = last; floor = floor; by_key = keys }; issued = issued })
  sound_standing c us last floor issued keys sound within low later lasts more limit rising =
      let enough = sound.enough in
      let numbers = sound.numbers in
      record {
        window = sound.window;
        capacity = sound.capacity;
        buffered = sound.buffered;
        within = within;
        floor = low;
        reset_mark = sound.reset_mark;
        enough = omega (arith, enough, later);
        held = sound.held;
        last = lasts;
        numbers = omega (arith, numbers, more);
        issued = limit;
        rising = rising;
      }

  -- only changed subscribers
  pub sound_subscribers : (c : Inside T A) (us : List (Subscriber T)) (floor : ℕ) → IsSound c → AreInWindow floor c.subscribers.emitted (window_of c.config) us
      → floor ≤ kept_start (fields_of c) → least_position (kept_start (fields_of c)) c.subscribers.list ≤ least_position (kept_start (fields_of c)) us
      → IsSound (record c { subscribers = record c.subscribers { list = us; floor = floor } })
  sound_subscribers c us floor sound within low later = sound_standing c us c.subscribers.last floor c.issued c.subscribers.by_key sound within low later sound.last (omega arith) sound.issued sound.rising

  -- one more number
  pub sound_issued : (c : Inside T A) → IsSound c → (c.issued ≡ c.config.limit → ⊥) → IsSound (record c { issued = c.issued + 1 })
  sound_issued c sound left =
      let issued = sound.issued in
      let last = sound.last in
      sound_standing c c.subscribers.list c.subscribers.last c.subscribers.floor (c.issued + 1) c.subscribers.by_key sound sound.within sound.floor (omega arith)
      (omega (arith, last)) (omega arith) (omega (arith, issued, left)) (rises_higher 0 c.issued (c.issued + 1) (map (λ q. q.number) c.queue) (omega arith) sound.rising)

  -- another queue, which is no longer than the numbers that were issued for it
  pub sound_queue : (c : Inside T A) (queue : List (Numbered T)) (issued : ℕ) → IsSound c → c.issued ≤ issued → issued ≤ c.config.limit → c.subscribers.emitted + length queue ≤ issued
      → RisesTo 0 (map (λ q. q.number) queue) issued → IsSound (record c { queue = queue; issued = issued })
  sound_queue c queue issued sound more limit numbers rising =
      let last = sound.last in
      record {
        window = sound.window;
        capacity = sound.capacity;
        buffered = sound.buffered;
        within = sound.within;
        floor = sound.floor;
        reset_mark = sound.reset_mark;
        enough = sound.enough;
        held = sound.held;
        last = omega (arith, last, more);
        numbers = numbers;
        issued = limit;
        rising = rising;
      }

  -- the cache of new subscribers begins where the next value will be
  pub sound_forgotten : (c : Inside T A) → IsSound c → IsSound (record c { reset_mark = c.subscribers.emitted })
  sound_forgotten c sound =
      let enough = sound.enough in
      let floor = sound.floor in
      let reset_mark = sound.reset_mark in
      let rises : kept_need (fields_of c) ≤ least_position (max c.subscribers.emitted (c.subscribers.emitted - c.config.replay)) c.subscribers.list =
      least_position_rises (kept_start (fields_of c)) (max c.subscribers.emitted (c.subscribers.emitted - c.config.replay)) c.subscribers.list (omega (arith, reset_mark)) in
      record {
        window = sound.window;
        capacity = sound.capacity;
        buffered = sound.buffered;
        within = sound.within;
        floor = omega (arith, floor, reset_mark);
        reset_mark = omega arith;
        enough = omega (arith, enough, rises);
        held = sound.held;
        last = sound.last;
        numbers = sound.numbers;
        issued = sound.issued;
        rising = sound.rising;
      }

  -- the next number, if one is left
  pub number_left : (c : Inside T A) (core : Core T) → fields_of c ≡ core → (c.issued ≡ c.config.limit → ⊥) → (c.issued + 1 ≡ core.issued + 1) × (core.issued ≢ core.config.limit)
  number_left c core is left = (
    ap (λ (k : Core T). k.issued + 1) is,
    λ spent. left (ap (λ (k : Core T). k.issued) is ∙ spent ∙ sym (ap (λ (k : Core T). k.config.limit) is)),
  )
