-- Threads that only update one state flow, each through its own seat: the final value is the function applied once for each of
-- their updates.
use Rattle.std.proofs.Common.{◌≡◌, ℕ, suc, ◌+◌, ◌*◌, ◌<◌, List, [], ◌∷◌, length, get_or, map, refl, ap, ◌∙◌, arith}
use Rattle.std.specs.List.{AllByRecursion}
use Rattle.flow_law.specs.declared.history.Knowledge.{Knowledge}
use Rattle.flow_law.specs.declared.history.Said.{Said}
use Rattle.flow_law.specs.declared.call.StateCall.{StateCall}
use Rattle.flow_law.specs.declared.call.StateReply.{StateReply}
use Rattle.flow_law.specs.declared.states.StateFlowState.{StateFlowState}
use Rattle.flow_law.specs.history.Growth.{child_name, first_knowledge}
use Rattle.flow_law.specs.history.Promise.{Token}
use Rattle.flow_law.specs.history.Updates.{StateTokenOf}
use Rattle.flow_law.specs.history.Done.{total, done_by}
use Rattle.flow_law.specs.laws.Closed.{AreAll, AreNumbered, makes_many, nth_child}
use Rattle.flow_law.specs.laws.UpdateCounts.{iterate, updates, OnlyUpdates, UpdatesTimes}
use Rattle.flow_law.specs.history.Rounds.{IsFinalValue}
use Rattle.flow_law.proofs.ClosedLemmas.{first_and_made}
use Rattle.flow_law.proofs.UpdateCountLemmas.{all_updated, times_all}

module _ {Id E W : Type 0} (seat : W → Token Id E) where
  abbrev pub knows_all : List W → List (Knowledge E)
  knows_all = map (λ (w : W). (seat w).knows)

  pub length_knows : (ws : List W) → length (knows_all ws) ≡ length ws
  length_knows [] = refl
  length_knows (w ∷ ws) = let h : length (knows_all ws) ≡ length ws = length_knows ws in omega arith

  -- the i-th of them, from 0, is the seat of number m + i + 1
  numbered_by_place : (name : List ℕ) (m : ℕ) (ws : List W)
      → ((i : ℕ) (d : W) → i < length ws → ((seat (get_or ws i d)).knows.name ≡ child_name name (m + suc i)) × ((seat (get_or ws i d)).knows.made ≡ 0)) → AreNumbered name m (knows_all ws)
  numbered_by_place name m [] h = tt
  numbered_by_place name m (w ∷ ws) h = (
    (let k = h 0 w (omega arith) in let e : m + suc 0 ≡ suc m = omega arith in (k.0 ∙ ap (child_name name) e, k.1)),
    numbered_by_place name (suc m) ws
        (λ i d l. let k = h (suc i) d (omega arith) in let e : m + suc (suc i) ≡ suc m + suc i = omega arith in (k.0 ∙ ap (child_name name) e, k.1)),
  )

  -- the first seat, and the seats that were made through it
  pub callers_are_all : (n : ℕ) (ws : List W) → length ws ≡ n
      → ((i : ℕ) (d : W) → i < n → ((seat (get_or ws i d)).knows.name ≡ child_name [] (suc i)) × ((seat (get_or ws i d)).knows.made ≡ 0)) → AreAll (makes_many n first_knowledge ∷ knows_all ws)
  callers_are_all n ws len h = first_and_made (makes_many n first_knowledge) (knows_all ws) refl (let e : length (knows_all ws) ≡ length ws = length_knows ws in omega arith)
      (numbered_by_place [] 0 ws (λ i d l. let k = h i d (omega arith) in let e : suc i ≡ 0 + suc i = omega arith in (k.0 ∙ ap (child_name []) e, k.1)))

abbrev Says : Type 0 → Type 0
Says T = Said (StateCall T) (StateReply T)

module _ {Id T W : Type 0} (seat : W → StateTokenOf Id T) (g : T → T) where
  only_by_place : (ws : List W) → ((i : ℕ) (d : W) → i < length ws → OnlyUpdates g (done_by (seat (get_or ws i d)).knows)) → AllByRecursion (λ (k : Knowledge (Says T)). OnlyUpdates g (done_by k)) (knows_all seat ws)
  only_by_place [] h = tt
  only_by_place (w ∷ ws) h = (h 0 w (omega arith), only_by_place ws (λ i d l. h (suc i) d (omega arith)))

  total_by_place : (each : ℕ) (ws : List W) → ((i : ℕ) (d : W) → i < length ws → updates (done_by (seat (get_or ws i d)).knows) ≡ each) → total (λ (k : Knowledge (Says T)). updates (done_by k)) (knows_all seat ws) ≡ length ws * each
  total_by_place each [] h = omega arith
  total_by_place each (w ∷ ws) h =
      let a : updates (done_by (seat w).knows) ≡ each = h 0 w (omega arith) in
      let b : total (λ (k : Knowledge (Says T)). updates (done_by k)) (knows_all seat ws) ≡ length ws * each = total_by_place each ws (λ i d l. h (suc i) d (omega arith)) in
      grind arith

  pub updated_by_all : (first : StateFlowState T) (n each : ℕ) (xs ys : List W) (x : T) → length ys ≡ n
      → ((i : ℕ) (d : W) → i < n → (seat (get_or xs i d)).knows ≡ nth_child i first_knowledge)
      → ((i : ℕ) (d : W) → i < n → UpdatesTimes g each (seat (get_or xs i d)).knows (seat (get_or ys i d)).knows)
      → IsFinalValue first (makes_many n first_knowledge ∷ knows_all seat ys) x
      → x ≡ iterate g (n * each) first.value
  updated_by_all first n each xs ys x len begin count last =
      let all : AreAll (makes_many n first_knowledge ∷ knows_all seat ys) = callers_are_all seat n ys len
      (λ i d l. let e = begin i d l in let m = (count i d l).1 in
      (m.name ∙ ap (λ (k : Knowledge (Says T)). k.name) e ∙ ap (child_name []) (let z : 0 + i + 1 ≡ suc i = omega arith in z), m.made ∙ ap (λ (k : Knowledge (Says T)). k.made) e)) in
      let did = λ (i : ℕ) (d : W) (l : i < n). times_all g each (seat (get_or xs i d)).knows (seat (get_or ys i d)).knows (ap done_by (begin i d l)) (count i d l) in
      let sum : total (λ (k : Knowledge (Says T)). updates (done_by k)) (knows_all seat ys) ≡ length ys * each = total_by_place each ys (λ i d l. (did i d (omega arith)).1) in
      let total : total (λ (k : Knowledge (Says T)). updates (done_by k)) (makes_many n first_knowledge ∷ knows_all seat ys) ≡ n * each = (let z : 0 + total (λ (k : Knowledge (Says T)). updates (done_by k)) (knows_all seat ys) ≡ length ys * each = (omega arith) in z ∙ ap (λ m. m * each) len) in
      last.3 ∙ all_updated g first (makes_many n first_knowledge ∷ knows_all seat ys) last.0 last.1.legal all last.2 (tt, only_by_place ys (λ i d l. (did i d (omega arith)).0)) ∙ ap (λ m. iterate g m first.value) total
