-- What callers of a word state have updated: one call after another, each caller in its own thread, and the final value.
use Rattle.std.proofs.Common.{◌≡◌, ℕ, zero, suc, pos, ◌+◌, ◌*◌, ◌^◌, ◌<◌, w64, List, ◌∷◌, length, get_or, map, refl, ap, subst, ◌∙◌, arith}
use Rattle.std.proofs.lemmas.Int.{wrapping_add_is, int_wrap_fits}
use Rattle.std.specs.Fork.{ChangesEach}
use denote.Ref.{MutBor}
use denote.Param.Members.{Shared}
use Rattle.flow_law.specs.declared.history.Knowledge.{Knowledge}
use Rattle.flow_law.specs.laws.Closed.{makes_many, nth_child}
use Rattle.flow_law.specs.history.Growth.{first_knowledge}
use Rattle.flow_law.specs.history.Handles.{called_by}
use Rattle.flow_law.specs.history.Rounds.{IsFinalValue}
use Rattle.flow_law.specs.flow.StateFlow.{first_state_flow}
use Rattle.flow_law.specs.history.Tokens.{Begins}
use Rattle.flow_law.specs.laws.UpdateCounts.{iterate}
use Rattle.flow_law.specs.history.Updates.{Updates}
use Rattle.flow_law.proofs.CountedLemmas.{updated_by_all}
use Rattle.flow_law.proofs.UpdateCountLemmas.{times_none, times_one, times_more}
use Rattle.flow_word.specs.Handles.{CallerOfWord, MakesMany, AreNextSeats}
use Rattle.flow_word.specs.Tokens.{WordOrigin, WordToken}
use Rattle.flow_word.specs.Updating.{HasUpdated, plus_one}

-- ---- one caller

module _ {T : Type 0} {g : T → T} where
  pub updated_nothing : (c : CallerOfWord T) → HasUpdated g 0 c c
  updated_nothing c = record { flow = refl; updates = times_none g c.token.knows }

  -- one more update, by a function that returns what g does
  pub updated_more : {n : ℕ} {a b c : CallerOfWord T} {Gives : T → T → Type 0} → ((x y : T) → Gives x y → y ≡ g x) → HasUpdated g n a b → c.flow ≡ b.flow
      → (x : T) × (y : T) × Updates b.flow.first Gives b.token x y c.token → HasUpdated g (n + 1) a c
  updated_more {n} {a} {b} {c} {Gives} gives was same u = record {
    flow = same ∙ was.flow;
    updates = times_more g n 1 a.token.knows b.token.knows c.token.knows was.updates (times_one g b.flow.first Gives gives b.token c.token u.0 u.1 u.2);
  }

-- ---- callers in threads

-- what holds of each call of `for_each_mut` holds at each place
at_each : {F X : Type 0} {m : Shared F (ℕ × (MutBor X × Unit {0})) ((Unit {0}) × (MutBor X × Unit {0}))} {f : F} (P : X → X → Type 0)
    → ((i : ℕ) (x y : MutBor X) → m.post f (i, (x, tt)) (tt, (y, tt)) → P x.now y.now) → (xs ys : List X) → ChangesEach m f xs ys → (i : ℕ) (d : X) → i < length xs → P (get_or xs i d) (get_or ys i d)
at_each P holds xs ys changes i d l =
    let e = (changes i d l).1 in
    subst (λ y. P (get_or xs i d) y) e.left (subst (λ x. P x e.after_call.now) e.argument_is (holds i e.argument e.after_call e.call))

-- n callers were made through the first one of a new flow, and then each of them has made `each` updates in a call of `for_each_mut`.
-- The final value is g applied n * each times to the first value.
pub value_of_updates : {T F : Type 0} {m : Shared F (ℕ × (MutBor (CallerOfWord T) × Unit {0})) ((Unit {0}) × (MutBor (CallerOfWord T) × Unit {0}))} {f : F} {g : T → T} {limit n each : ℕ} {v value : T}
    {flow now : WordOrigin T} {seat token : WordToken T} {maker : CallerOfWord T} {made xs : List (CallerOfWord T)} (ys : List (CallerOfWord T))
    → Begins (first_state_flow limit v) (flow, seat) → maker ≡ called_by flow seat → now ≡ maker.flow → MakesMany n maker.token token → AreNextSeats maker.flow maker.token n made
    → xs ≡ made → length xs ≡ n → length ys ≡ length xs → ((i : ℕ) (x y : MutBor (CallerOfWord T)) → m.post f (i, (x, tt)) (tt, (y, tt)) → HasUpdated g each x.now y.now) → ChangesEach m f xs ys
    → IsFinalValue now.first (token.knows ∷ map (λ (w : CallerOfWord T). w.token.knows) ys) value → value ≡ iterate g (n * each) v
value_of_updates {g = g} {limit = limit} {n = n} {each = each} {v = v} {value = value} {now = now} {xs = xs} ys new first same makes seats is long len updates changes final =
    let begun = ap (λ (w : CallerOfWord _). w.token.knows) first ∙ new.2 in
    let start : now.first ≡ first_state_flow limit v = ap (λ o. o.first) (same ∙ ap (λ (w : CallerOfWord _). w.flow) first) ∙ new.0 in
    let knows = map (λ (w : CallerOfWord _). w.token.knows) ys in
    updated_by_all (λ (w : CallerOfWord _). w.token) g (first_state_flow limit v) n each xs ys value (len ∙ long)
    (λ i d l. ap (λ ws. (get_or ws i d).token.knows) is ∙ ap (λ (w : CallerOfWord _). w.token.knows) (seats i d l) ∙ ap (nth_child i) begun)
    (λ i d l. (at_each (HasUpdated g each) updates xs ys changes i d (omega (arith, long, l))).updates)
    (subst (λ o. IsFinalValue o (makes_many n first_knowledge ∷ knows) value) start
    (subst (λ (k : Knowledge _). IsFinalValue now.first (k ∷ knows) value) (ap (λ t. t.knows) makes ∙ ap (makes_many n) begun) final))

-- ---- updates by one

adds_up : (n v : ℕ) → v + n < 2 ^ 63 → iterate plus_one n (pos v) ≡ pos (v + n)
adds_up zero v h = let e : v ≡ v + zero = omega arith in ap pos e
adds_up (suc n) v h =
    let one : plus_one (pos v) ≡ pos (v + 1) = wrapping_add_is w64 (pos v) (pos 1) (omega arith) (omega arith) ∙ int_wrap_fits w64 (pos (v + 1)) (omega arith) in
    let rest : iterate plus_one n (pos (v + 1)) ≡ pos ((v + 1) + n) = adds_up n (v + 1) (omega arith) in
    let k : (v + 1) + n ≡ v + suc n = omega arith in
    ap (iterate plus_one n) one ∙ rest ∙ ap pos k

-- as long as it fits 64 bits, the value is the number of updates
pub counts_up : (n : ℕ) → n < 2 ^ 63 → iterate plus_one n (pos 0) ≡ pos n
counts_up n h = adds_up n 0 (omega arith) ∙ ap pos (let z : 0 + n ≡ n = omega arith in z)
