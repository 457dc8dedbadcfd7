-- Several values taken at once are those that as many calls of `next` in a row give.
-- The key facts: `taken_at_once` (for a core without queued values), `drains_on` (one drain and then another one),
-- `drains_lifted` (of a part, and so of the whole).
use Rattle.std.proofs.Common.{◌≡◌, ℕ, zero, suc, ◌+◌, ◌-◌, ◌<◌, ◌≤◌, ◌==◌, true, false, if◌then◌else◌, List, [], ◌∷◌, ◌++◌, length, take, drop, Some, refl, sym, ap, ◌∙◌, subst, arith, length-append, length-drop, append_assoc}
use Rattle.std.specs.Prelude.{Result, Ok}
use Rattle.std.specs.List.{FoldsTo, slice_get}
use Rattle.std.specs.Option.{IfSome}
use Rattle.std.proofs.lemmas.List.{append-nil, drop-drop, take-append-drop, length-take-le}
use Rattle.flow_law.specs.declared.call.SharedReply.TheVariants as reply
use Rattle.flow_law.specs.declared.fault.FlowFault.{FlowFault}
use Rattle.flow_law.specs.declared.outcome.Drained.{Drained}
use Rattle.flow_law.specs.declared.outcome.Drained.TheVariants as drained
use Rattle.flow_law.specs.declared.outcome.Next.{Next}
use Rattle.flow_law.specs.declared.outcome.Next.TheVariants.{Value}
use Rattle.flow_law.specs.declared.states.SharedFlowState.{SharedFlowState}
use Rattle.flow_law.specs.declared.states.Subscriber.{Subscriber}
use Rattle.flow_law.specs.flow.Draining.{NextsGive, TakesAtMost, DrainsBy}
use Rattle.flow_law.specs.flow.SharedFlow.{answer, cache_start, values, position_of, own_of, stand_at, move_to}
use Rattle.flow_law.specs.flow.SharedHistory.{reply_by}
use Rattle.flow_law.specs.flow.SharedStep.{advance, next}
use Rattle.flow_law.specs.flow.Standing.{Core, StandsFor}
use Rattle.flow_law.specs.flow.Covering.{Covers, kept_start, kept_need, tidied}
use Rattle.flow_law.proofs.CoveringLemmas.{covers-subscribers, least_position_bound, least_position-move_to, settle_idle, slice_get-drop}
use Rattle.flow_law.proofs.HoldingLemmas.{tidy, covers_enough, same_value}
use Rattle.flow_law.proofs.Rows.{position-move_to, own-move_to}
use Rattle.flow_core.specs.SharedCore.{SharedCoreNexts}
use Rattle.flow_core.proofs.CallLemmas.{next_value}
use Rattle.flow_core.proofs.RingLemmas.{least_at}

-- ---- places of a list

place_further : {X : Type 0} (k j : ℕ) (xs : List X) → slice_get (drop k xs) j ≡ slice_get xs (k + j)
place_further k j xs = sym (slice_get-drop j (drop k xs)) ∙ ap (λ l. slice_get l 0) (drop-drop j k xs) ∙ slice_get-drop (k + j) xs

-- these are the items from this place on
abbrev AreFrom : {X : Type 0} → List X → ℕ → List X → Type 0
AreFrom xs k [] = Unit {0}
AreFrom xs k (y ∷ ys) = (slice_get xs k ≡ Some y) × AreFrom xs (k + 1) ys

taken_from : {X : Type 0} (xs : List X) (count k : ℕ) (rest : List X) → drop k xs ≡ rest → AreFrom xs k (take count rest)
taken_from xs zero k rest is = tt
taken_from xs (suc count) k [] is = tt
taken_from xs (suc count) k (y ∷ ys) is =
    (sym (slice_get-drop k xs) ∙ ap (λ l. slice_get l 0) is, taken_from xs count (k + 1) ys (sym (drop-drop 1 k xs) ∙ ap (drop 1) is))

-- ---- a subscriber that moves

module _ {T : Type 0} where
  move_to-again : (number p q : ℕ) (us : List (Subscriber T)) → move_to number q (move_to number p us) ≡ move_to number q us
  move_to-again number p q [] = refl
  move_to-again number p q (u ∷ us) =
      elim (u.number == number) as (λ t. (u.number == number) ≡ t → move_to number q (if t then stand_at p u ∷ us else u ∷ move_to number p us) ≡ (if t then stand_at q u ∷ us else u ∷ move_to number q us)) [
        | true ↦ λ e. ap (λ t. if t then stand_at q u ∷ us else stand_at p u ∷ move_to number q us) e
        | false ↦ λ e. ap (λ t. if t then stand_at q u ∷ move_to number p us else u ∷ move_to number q (move_to number p us)) e ∙ ap (λ l. u ∷ l) (move_to-again number p q us)
      ] refl

  move_to-here : (number p : ℕ) (us : List (Subscriber T)) → position_of number us ≡ Some p → move_to number p us ≡ us
  move_to-here number p [] at = refl
  move_to-here number p (u ∷ us) at =
      elim (u.number == number) as (λ t. (if t then Some u.position else position_of number us) ≡ Some p → (if t then stand_at p u ∷ us else u ∷ move_to number p us) ≡ u ∷ us) [
        | true ↦ λ here. let same : u.position ≡ p = cc in ap (λ q. stand_at q u ∷ us) (sym same)
        | false ↦ λ there. ap (λ l. u ∷ l) (move_to-here number p us there)
      ] at

  -- ---- a core that holds more values than are needed

  untidied : (core : Core T) (s : SharedFlowState T) → StandsFor (tidied core) s → Covers core s
  untidied core s stands =
      let k = length core.held + kept_need core - core.appended in
      record {
        config = stands.config;
        held = (take k core.held, sym (take-append-drop k core.held) ∙ ap (λ l. take k core.held ++ l) stands.held);
        appended = stands.appended;
        newest = stands.newest;
        reset_mark = stands.reset_mark;
        queue = stands.queue;
        subscribers = stands.subscribers;
        issued = stands.issued;
      }

  covered_value : (core : Core T) (s : SharedFlowState T) (number q : ℕ) → Covers core s → core.reset_mark ≤ core.appended → length core.held ≤ core.appended
      → position_of number s.subscribers ≡ Some q → slice_get (values s) q ≡ slice_get core.held (q - (core.appended - length core.held))
  covered_value core s number q covers marked short at =
      let k = length core.held + kept_need core - core.appended in
      let own : position_of number core.subscribers ≡ Some q = ap (position_of number) covers.subscribers ∙ at in
      let place : k + (q - (core.appended - length (drop k core.held))) ≡ q - (core.appended - length core.held) =
      omega (arith, length-drop k core.held, covers_enough core s covers, least_at (kept_start core) number q core.subscribers own, least_position_bound (kept_start core) core.subscribers, marked, short) in
      same_value (tidied core) s number q (tidy core s covers marked) marked at
      ∙ place_further k (q - (core.appended - length (drop k core.held))) core.held ∙ ap (slice_get core.held) place

  -- ---- values in a row

  module _ (core : Core T) (number p : ℕ) (marked : core.reset_mark ≤ core.appended) (short : length core.held ≤ core.appended) (idle : core.queue ≡ [])
      (none : own_of number core.subscribers ≡ []) (at : position_of number core.subscribers ≡ Some p) where
    abbrev pub first : ℕ
    first = core.appended - length core.held

    -- the core after the subscriber has moved and before values are dropped
    abbrev pub moved : ℕ → Core T
    moved q = record core { subscribers = move_to number q core.subscribers }

    further : (q : ℕ) (s : SharedFlowState T) → Covers (moved q) s → position_of number s.subscribers ≡ Some q → Covers (moved (q + 1)) (advance number (q + 1) s)
    further q s covers stood =
        let later : IfSome (position_of number s.subscribers) (λ r. r ≤ q + 1) = rw stood (omega arith) in
        covers-subscribers (moved q) s (move_to number (q + 1) core.subscribers) (move_to number (q + 1) s.subscribers) core.issued s.issued covers
        (sym (move_to-again number q (q + 1) core.subscribers) ∙ ap (move_to number (q + 1)) covers.subscribers) covers.issued
        (least_position-move_to (cache_start s) number (q + 1) s.subscribers later)

    one : (q : ℕ) (v : T) (before after : Core T) → slice_get core.held (q - first) ≡ Some v → ((s : SharedFlowState T) → StandsFor before s → Covers (moved q) s)
        → ((s : SharedFlowState T) → Covers (moved (q + 1)) s → StandsFor after s) → SharedCoreNexts number before (Ok (Value v)) after
    one q v before after here covered stands = (
      λ s standing.
          let covers = covered s standing in
          let stood : position_of number s.subscribers ≡ Some q = sym (ap (position_of number) covers.subscribers) ∙ position-move_to number p q core.subscribers at in
          let mine : own_of number s.subscribers ≡ [] = sym (ap (own_of number) covers.subscribers) ∙ own-move_to number number q core.subscribers ∙ none in
          let value : slice_get (values s) q ≡ Some v = covered_value (moved q) s number q covers marked short stood ∙ here in
          let quiet : (advance number (q + 1) s).queue ≡ [] = sym covers.queue ∙ idle in
          let all : next number s ≡ answer (Value v) (advance number (q + 1) s) =
          next_value number q v s mine stood value ∙ ap (answer (Value v)) (settle_idle (advance number (q + 1) s) quiet) in
          (sym (ap (λ a. reply_by reply.Received a.reply) all), subst (StandsFor after) (sym (ap (λ a. a.after) all)) (stands (advance number (q + 1) s) (further q s covers stood))),
      tt,
    )

    in_a_row : (v : T) (vs : List T) (q k : ℕ) (before after : Core T) → first ≤ q → q - first ≡ k → AreFrom core.held k (v ∷ vs)
        → ((s : SharedFlowState T) → StandsFor before s → Covers (moved q) s) → ((s : SharedFlowState T) → Covers (moved (q + length (v ∷ vs))) s → StandsFor after s)
        → NextsGive (SharedCoreNexts number) before (v ∷ vs) after
    in_a_row v [] q k before after low is from covered stands =
        (after, one q v before after (ap (slice_get core.held) is ∙ from.0) covered stands, refl)
    in_a_row v (w ∷ vs) q k before after low is from covered stands =
        let middle = tidied (moved (q + 1)) in
        let total : q + 1 + length (w ∷ vs) ≡ q + length (v ∷ w ∷ vs) = omega arith in (
          middle,
          one q v before middle (ap (slice_get core.held) is ∙ from.0) covered (λ s covers. tidy (moved (q + 1)) s covers marked),
          in_a_row w vs (q + 1) (k + 1) middle after (omega (arith, low)) (omega (arith, low, is)) from.1 (untidied (moved (q + 1)))
              (λ s covers. stands s (subst (λ n. Covers (moved n) s) total covers)),
        )

    pub taken_at_once : (count : ℕ) (after : Core T) (list longer : List T) → ((s : SharedFlowState T) → StandsFor core s → Covers core s)
        → first ≤ p → p + count ≤ core.appended → 0 < count → longer ≡ list ++ take count (drop (p - first) core.held)
        → ((s : SharedFlowState T) → Covers (moved (p + count)) s → StandsFor after s) → DrainsBy (SharedCoreNexts number) count core list (Ok drained.Most) longer after
    taken_at_once count after list longer covered low within some is stands =
        let counted : length (take count (drop (p - first) core.held)) ≡ count = length-take-le count (drop (p - first) core.held) (omega (arith, length-drop (p - first) core.held, within, short, low)) in
        record {
          values = take count (drop (p - first) core.held);
          last = after;
          taken = row (take count (drop (p - first) core.held)) counted (taken_from core.held count (p - first) (drop (p - first) core.held) refl);
          ended = refl;
          appended = is;
          within = omega (arith, counted);
          enough = (λ _. counted, λ _. refl);
        }
      where
        start : (s : SharedFlowState T) → StandsFor core s → Covers (moved p) s
        start s standing = subst (λ us. Covers (record core { subscribers = us }) s) (sym (move_to-here number p core.subscribers at)) (covered s standing)

        row : (xs : List T) → length xs ≡ count → AreFrom core.held (p - first) xs → NextsGive (SharedCoreNexts number) core xs after
        row [] counted from = absurd (omega (arith, counted, some))
        row (v ∷ vs) counted from = in_a_row v vs p (p - first) core after low refl from start (λ s covers. stands s (subst (λ n. Covers (moved (p + n)) s) counted covers))

-- ---- one drain and then another one

folds_on : {P A : Type 0} (R : P → A → P → Type 0) (p q r : P) (xs ys : List A) → FoldsTo R p xs q → FoldsTo R q ys r → FoldsTo R p (xs ++ ys) r
folds_on R p q r [] ys folds more = subst (λ t. FoldsTo R t ys r) (sym folds) more
folds_on R p q r (x ∷ xs) ys folds more = (folds.0, folds.1, folds_on R folds.0 q r xs ys folds.2 more)

module _ {X T : Type 0} (R : X → Result (Next T) FlowFault → X → Type 0) where
  pub drains_none : (core : X) (list : List T) → DrainsBy R 0 core list (Ok drained.Most) list core
  drains_none core list = record {
    values = [];
    last = core;
    taken = refl;
    ended = refl;
    appended = sym (append-nil list);
    within = omega arith;
    enough = (λ _. refl, λ _. refl);
  }

  pub drains_on : (Ends : X → Result Drained FlowFault → X → Type 0) (k most : ℕ) (old middle new : X) (list longer longest : List T) (result : Result Drained FlowFault) → k ≤ most → DrainsBy R k old list (Ok drained.Most) longer middle
      → TakesAtMost R Ends (most - k) middle longer result longest new → TakesAtMost R Ends most old list result longest new
  drains_on Ends k most old middle new list longer longest result within first rest =
      let all : length (first.values ++ rest.values) ≡ length first.values + length rest.values = length-append first.values rest.values in
      let counted : length first.values ≡ k = first.enough.0 refl in
      record {
        values = first.values ++ rest.values;
        last = rest.last;
        taken = folds_on (λ before value after. R before (Ok (Value value)) after) old first.last rest.last first.values rest.values first.taken
            (subst (λ t. NextsGive R t rest.values rest.last) (sym first.ended) rest.taken);
        ended = rest.ended;
        appended = rest.appended ∙ ap (λ l. l ++ rest.values) first.appended ∙ append_assoc list first.values rest.values;
        within = omega (arith, all, counted, rest.within, within);
        enough = (λ e. omega (arith, all, counted, rest.enough.0 e, within), λ e. rest.enough.1 (omega (arith, all, counted, e, within)));
      }

-- ---- a drain of a part is a drain of the whole

module _ {X Y T : Type 0} (R : X → Result (Next T) FlowFault → X → Type 0) (Q : Y → Result (Next T) FlowFault → Y → Type 0) (lift : X → Y)
    (lifts : (before : X) (answer : Result (Next T) FlowFault) (after : X) → R before answer after → Q (lift before) answer (lift after)) where
  give_lifted : (before : X) (values : List T) (after : X) → NextsGive R before values after → NextsGive Q (lift before) values (lift after)
  give_lifted before [] after given = ap lift given
  give_lifted before (v ∷ vs) after given = (lift given.0, lifts before (Ok (Value v)) given.0 given.1, give_lifted given.0 vs after given.2)

  pub drains_lifted : (k : ℕ) (old new : X) (list longer : List T) → DrainsBy R k old list (Ok drained.Most) longer new → DrainsBy Q k (lift old) list (Ok drained.Most) longer (lift new)
  drains_lifted k old new list longer d = record {
    values = d.values;
    last = lift d.last;
    taken = give_lifted old d.values d.last d.taken;
    ended = ap lift d.ended;
    appended = d.appended;
    within = d.within;
    enough = d.enough;
  }
