-- Emissions: what a checker of shared flows does at one, and what the documented flow does. Begin with `admitted`.
use Rattle.std.proofs.Common.{◌≡◌, ℕ, ◌+◌, ◌-◌, ◌<◌, ◌≤◌, Bool, true, false, ◌==◌, cond, List, [], ◌∷◌, ◌++◌, length, map, Option, Some, None, refl, sym, ap, ◌∙◌, subst, inl, inr, arith, eq-eqb, ne_eqb, append_assoc}
use Rattle.std.specs.Prelude.{max, min}
use Rattle.std.specs.List.{list_any}
use Rattle.std.specs.Option.{option_map_or}
use Rattle.std.proofs.lemmas.Bool.{cond-true, cond-false, and_parts, or_cases, or_left}
use Rattle.std.proofs.lemmas.Bool.Decides.{Decides-eqb}
use Rattle.std.proofs.lemmas.List.{map-append, length_push}
use Rattle.flow_law.specs.declared.config.Config.{Config}
use Rattle.flow_law.specs.history.History.{Owner}
use Rattle.flow_law.specs.declared.states.Numbered.{Numbered}
use Rattle.flow_law.specs.declared.states.SharedFlowState.{SharedFlowState}
use Rattle.flow_law.specs.flow.SharedFlow.{raise_to}
use Rattle.flow_law.specs.flow.SharedFlow as law
use Rattle.flow_law.specs.flow.SharedStep as flow
use Rattle.flow_law.proofs.CoveringLemmas.{slice_get_last}
use Rattle.flow_law.proofs.Rows.{split}
use Rattle.flow_law.proofs.RowOrder.{InOrder}
use Rattle.flow_check.specs.declared.shared_machine.Held.{Held}
use Rattle.flow_check.specs.SharedMachine.{Kept, most_lag, raised, kept_capacity, kept_window, append_kept, admit_kept, settle_kept}
use Rattle.flow_check.proofs.LagLemmas.{most_raised}
use Rattle.flow_check.proofs.SharedSeats.{SeatsAs, moves_none, moves_all, seats_moved}
use Rattle.flow_check.proofs.SharedStanding.{IsEmitter, ValuesAs, Queued, OnceWaits, WaitsAs, SeatsOf, ValuesOf, StandsAs, or_right}
use Rattle.flow_check.proofs.SharedOffering.{blocked_same, free_below}

-- ---- values

-- one more value is emitted
pub values_more : (mine : Config) (last : List ℕ) (cached most more : ℕ) (config : Config) (emitted : List (Numbered ℕ)) (mark v : ℕ) (e : Numbered ℕ) → e.value ≡ v → more ≤ most + 1 → (mine.replay + mine.extra ≡ 0 → more ≤ 1)
    → ValuesAs mine last cached most config emitted mark → ValuesAs mine (last ++ v ∷ []) (min (cached + 1) mine.replay) more config (emitted ++ e ∷ []) mark
values_more mine last cached most more config emitted mark v e is low one st =
    let longer = length_push emitted e in
    let kept = length_push last v in
    let r = st.replay in
    let a = st.most_kept in
    let b = st.cache_kept in
    let c = st.cache in
    let d = st.marked in record {
      replay = st.replay;
      extra = st.extra;
      overflow = st.overflow;
      suspends = st.suspends;
      one = one;
      front = st.front;
      tail = map-append (λ (x : Numbered ℕ). x.value) emitted (e ∷ []) ∙ ap (λ (l : List ℕ). l ++ e.value ∷ []) st.tail ∙ append_assoc st.front last (e.value ∷ []) ∙ ap (λ (x : ℕ). st.front ++ (last ++ x ∷ [])) is;
      most_kept = omega arith;
      cache_kept = omega arith;
      cache = omega arith;
      marked = omega arith;
    }

-- no subscriber has more to receive
pub values_fewer : (mine : Config) (last : List ℕ) (cached most fewer : ℕ) (config : Config) (emitted : List (Numbered ℕ)) (mark : ℕ) → fewer ≤ most
    → ValuesAs mine last cached most config emitted mark → ValuesAs mine last cached fewer config emitted mark
values_fewer mine last cached most fewer config emitted mark low st = record {
  replay = st.replay;
  extra = st.extra;
  overflow = st.overflow;
  suspends = st.suspends;
  one = λ none. let upto = st.one none in omega arith;
  front = st.front;
  tail = st.tail;
  most_kept = let upto = st.most_kept in omega arith;
  cache_kept = st.cache_kept;
  cache = st.cache;
  marked = st.marked;
}

-- ---- the newest value

pub newest_is : (s : SharedFlowState ℕ) (e : Numbered ℕ) → law.newest (record s { emitted = s.emitted ++ e ∷ [] }) ≡ e.number
newest_is s e = ap (λ (o : Option (Numbered ℕ)). option_map_or (λ x. x.number) o 0) (slice_get_last s.emitted e)

module _ (size : ℕ) (m : Kept) (k : ℕ) (s : SharedFlowState ℕ) (owners : List Owner) (seats : SeatsOf size m s owners) (values : ValuesOf m s) where
  abbrev Emitted : Numbered ℕ → SharedFlowState ℕ
  Emitted e = record s { emitted = s.emitted ++ e ∷ [] }

  -- every subscriber has one more to receive
  pub seats_appended : (caller v : ℕ) (e : Numbered ℕ) → InOrder s → law.is_blocked s ≡ false → SeatsOf size (append_kept caller v m) (Emitted e) owners
  seats_appended caller v e rises free =
      let below = free_below size m s owners seats values rises free in
      let longer = length_push s.emitted e in
      seats_moved size m.lags m.owns s.subscribers (length s.emitted) owners seats s.subscribers (length (s.emitted ++ e ∷ [])) (λ p. p) (λ lag. min (lag + 1) (kept_window m)) (raised (kept_window m)) (moves_none s.subscribers) refl (λ lag. refl)
      (λ lag p low reach. omega arith)

  -- the same, but none has more than a buffer
  pub seats_dropped : (caller v : ℕ) (e : Numbered ℕ) → 0 < kept_capacity m
      → SeatsAs size (map (raised (kept_window m)) m.lags) m.owns (raise_to (length (s.emitted ++ e ∷ []) - law.capacity s) s.subscribers) (length (s.emitted ++ e ∷ [])) owners
  seats_dropped caller v e some =
      let longer = length_push s.emitted e in
      let a = values.replay in
      let b = values.extra in
      seats_moved size m.lags m.owns s.subscribers (length s.emitted) owners seats (raise_to (length (s.emitted ++ e ∷ []) - law.capacity s) s.subscribers) (length (s.emitted ++ e ∷ []))
      (λ p. max p (length (s.emitted ++ e ∷ []) - law.capacity s)) (λ lag. min (lag + 1) (kept_window m)) (raised (kept_window m)) (moves_all (λ p. max p (length (s.emitted ++ e ∷ []) - law.capacity s)) s.subscribers) refl (λ lag. refl)
      (λ lag p low reach. omega arith)

  pub values_appended : (caller v : ℕ) (e : Numbered ℕ) → e.value ≡ v → ValuesOf (append_kept caller v m) (Emitted e)
  values_appended caller v e is =
      let raise = most_raised (kept_window m) m.lags in
      values_more m.config m.values m.cached (most_lag m.lags) (most_lag (map (raised (kept_window m)) m.lags)) s.config s.emitted s.reset_mark v e is (omega arith) (λ none. omega arith) values

-- what is offered after an emission whose emitter has this number, if it waits
pub waits_appended : (m : Kept) (caller v : ℕ) (t : SharedFlowState ℕ) (e : Numbered ℕ) (hs : List Held) (owners : List Owner) → law.newest t ≡ e.number → Queued owners hs t.queue → OnceWaits owners t
    → (kept_capacity m ≡ 0 → 0 < most_lag (map (raised (kept_window m)) m.lags) → IsEmitter caller e.number owners) → WaitsAs (record (append_kept caller v m) { queue = hs }) t owners
waits_appended m caller v t e hs owners newest queue once emitter = record {
  queue = queue;
  offered = λ none some. (
    caller,
    cond-true (kept_capacity m == 0) (Some caller) None (eq-eqb (kept_capacity m) 0 none),
    subst (λ (n : ℕ). IsEmitter caller n owners) (sym newest) (emitter none some),
  );
  unoffered = λ some. cond-false (kept_capacity m == 0) (Some caller) None (ne_eqb (kept_capacity m) 0 some);
  once = once;
}

-- an emitter that waits waited before
pub once_fewer : (owners : List Owner) (s t : SharedFlowState ℕ) → ((e : ℕ) → flow.is_waiting e t ≡ true → flow.is_waiting e s ≡ true) → OnceWaits owners s → OnceWaits owners t
once_fewer owners s t fewer once = λ caller e f a b x y. once caller e f a b (fewer e x) (fewer f y)

-- ---- queued values are emitted

module _ (size k : ℕ) (owners : List Owner) where
  -- the first of the queue, into a flow that is not blocked
  first_admitted : (m : Kept) (s : SharedFlowState ℕ) (h : Held) (hs : List Held) (q : Numbered ℕ) (qs : List (Numbered ℕ)) → StandsAs size (record m { queue = h ∷ hs }) k (record s { queue = q ∷ qs }) owners
      → InOrder s → law.is_blocked s ≡ false → StandsAs size (record (append_kept h.caller h.value m) { queue = hs }) k (record s { emitted = s.emitted ++ q ∷ []; queue = qs }) owners
  first_admitted m s h hs q qs st rises free = record {
    seats = seats_appended size m k s owners st.seats st.values h.caller h.value q rises free;
    values = values_appended size m k s owners st.seats st.values h.caller h.value q st.waits.queue.0;
    waits = waits_appended m h.caller h.value (record s { emitted = s.emitted ++ q ∷ []; queue = qs }) q hs owners (newest_is s q) st.waits.queue.2
        (once_fewer owners (record s { queue = q ∷ qs }) (record s { emitted = s.emitted ++ q ∷ []; queue = qs }) (λ e w. waited e w) st.waits.once) (λ none some. st.waits.queue.1);
    issued = st.issued;
    owned = st.owned;
  }
    where
      waited : (e : ℕ) → flow.is_waiting e (record s { emitted = s.emitted ++ q ∷ []; queue = qs }) ≡ true → flow.is_waiting e (record s { queue = q ∷ qs }) ≡ true
      waited e w = elim (or_cases (list_any (λ p. p.number == e) qs) (law.is_offered_as e (record s { emitted = s.emitted ++ q ∷ []; queue = qs })) w) [
        | inl t ↦ or_left (law.is_queued e (record s { queue = q ∷ qs })) (law.is_offered_as e (record s { queue = q ∷ qs })) (or_right (q.number == e) (list_any (λ p. p.number == e) qs) t)
        | inr t ↦
            let both = and_parts (law.is_offering (record s { emitted = s.emitted ++ q ∷ []; queue = qs })) (law.newest (record s { emitted = s.emitted ++ q ∷ [] }) == e) t in
            let is = sym (newest_is s q) ∙ (Decides-eqb (law.newest (record s { emitted = s.emitted ++ q ∷ [] })) e).0 both.1 in
            or_left (law.is_queued e (record s { queue = q ∷ qs })) (law.is_offered_as e (record s { queue = q ∷ qs })) (or_left (q.number == e) (list_any (λ p. p.number == e) qs) (eq-eqb q.number e is))
      ]

  pub admitted : (hs : List Held) (qs : List (Numbered ℕ)) (m : Kept) (s : SharedFlowState ℕ) → StandsAs size (record m { queue = hs }) k (record s { queue = qs }) owners → InOrder s
      → StandsAs size (admit_kept m hs) k (flow.admit s qs) owners
  admitted [] [] m s st rises = st
  admitted [] (q ∷ qs) m s st rises = absurd st.waits.queue
  admitted (h ∷ hs) [] m s st rises = absurd st.waits.queue
  admitted (h ∷ hs) (q ∷ qs) m s st rises =
      subst (λ (b : Bool). StandsAs size (cond b (record m { queue = h ∷ hs }) (admit_kept (append_kept h.caller h.value m) hs)) k (flow.admit s (q ∷ qs)) owners) (sym (blocked_same size m s owners st.seats st.values rises))
      (split (law.is_blocked s)
      (λ b. law.is_blocked s ≡ b → StandsAs size (cond b (record m { queue = h ∷ hs }) (admit_kept (append_kept h.caller h.value m) hs)) k (cond b (record s { queue = q ∷ qs }) (flow.admit (record s { emitted = s.emitted ++ q ∷ [] }) qs)) owners)
      (λ _ _. st)
      (λ _ free. admitted hs qs (append_kept h.caller h.value m) (record s { emitted = s.emitted ++ q ∷ [] }) (first_admitted m s h hs q qs st rises free) rises) refl)

  pub settled : (m : Kept) (s : SharedFlowState ℕ) → StandsAs size m k s owners → InOrder s → StandsAs size (settle_kept m) k (flow.settle s) owners
  settled m s st rises = admitted m.queue s.queue m s st rises
