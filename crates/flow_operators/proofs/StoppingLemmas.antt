-- How an item that is taken leads a search, or the calls of a closure, on to the rest of a run.
use Rattle.std.proofs.Common.{◌≡◌, ◌⊎◌, ◌+◌, ◌^◌, ℕ, Bool, not, List, [], ◌∷◌, ◌++◌, length, Option, Some, None, Result, Ok, Err, inl, inr, sym, ap, subst, ◌∙◌, arith}
use Rattle.std.specs.Prelude.{IfOk, IfErr, IfSome}
use Rattle.std.proofs.lemmas.List.{append_assoc, length-append}
use Rattle.std.proofs.lemmas.Grind.{common_steps}
use Rattle.flow_law.specs.declared.chain.ChainFault.{ChainFault}
use Rattle.flow_law.specs.chain.ChainRun.{ChainRun, gives, pends, ends, items}
use Rattle.flow_operators.specs.Behind.{rest_after_ask}
use Rattle.flow_operators.specs.Collecting.{IsRestOf}
use Rattle.flow_operators.specs.Terminal.{GivesItem}
use Rattle.flow_operators.specs.Stopping.{StandsAfterOverflow, StandsAfterFirst, StandsAfterFound, StandsAfterFailed, StandsAfterVisited}

module _ {T : Type 0} where
  abbrev pub head_of : T → ChainRun T → T
  head_of x (gives y r) = y
  head_of x (pends r) = x
  head_of x (ends e) = x

  -- what a run with an item gives first, and then
  same-item : (x y : T) (r after : ChainRun T) → gives y r ≡ gives x after → y ≡ x
  same-item x y r after is = ap (head_of x) is

  same-rest : (x y : T) (r after : ChainRun T) → gives y r ≡ gives x after → r ≡ after
  same-rest x y r after is = ap rest_after_ask is

module _ {T : Type 0} (post : T → Bool → Type 0) (wanted : Bool) where
  -- the search ends at the next item
  pub found-here : (x : T) (before after : ChainRun T) → StandsAfterFirst x before after → post x wanted → StandsAfterFound post wanted x before after
  found-here x (gives y r) after is told = inl (same-item x y r after is, told, same-rest x y r after is)
  found-here x (pends r) after is told = found-here x r after is told
  found-here x (ends e) after is told = grind (arith, common_steps)

  -- the search goes on after the next item
  pub found-later : (x y : T) (before between after : ChainRun T) → StandsAfterFirst y before between → post y (not wanted)
      → StandsAfterFound post wanted x between after → StandsAfterFound post wanted x before after
  found-later x y (gives z r) between after is told found =
      inr (subst (λ k. post k (not wanted)) (sym (same-item y z r between is)) told, subst (λ k. StandsAfterFound post wanted x k after) (sym (same-rest y z r between is)) found)
  found-later x y (pends r) between after is told found = found-later x y r between after is told found
  found-later x y (ends e) between after is told found = grind (arith, common_steps)

module _ {T U : Type 0} (post : U → T → Result U ChainFault → Type 0) (fault : ChainFault) where
  -- the closure fails at the next item
  pub failed-here : (last : U) (x : T) (before after : ChainRun T) → StandsAfterFirst x before after → post last x (Err fault) → StandsAfterFailed post fault last before after
  failed-here last x (gives y r) after is fails = inl (subst (λ k. post last k (Err fault)) (sym (same-item x y r after is)) fails, same-rest x y r after is)
  failed-here last x (pends r) after is fails = failed-here last x r after is fails
  failed-here last x (ends e) after is fails = grind (arith, common_steps)

  -- the closure makes the next result of the next item
  pub failed-later : (last next : U) (x : T) (before between after : ChainRun T) → StandsAfterFirst x before between → post last x (Ok next)
      → StandsAfterFailed post fault next between after → StandsAfterFailed post fault last before after
  failed-later last next x (gives y r) between after is made failed =
      inr (next, subst (λ k. post last k (Ok next)) (sym (same-item x y r between is)) made, subst (λ k. StandsAfterFailed post fault next k after) (sym (same-rest x y r between is)) failed)
  failed-later last next x (pends r) between after is made failed = failed-later last next x r between after is made failed
  failed-later last next x (ends e) between after is made failed = grind (arith, common_steps)

module _ {T F : Type 0} (step : F → T → Result (Unit {0}) ChainFault → F → Type 0) (fault : ChainFault) where
  -- the closure fails at the next item
  pub visited-here : (f g : F) (x : T) (before after : ChainRun T) → StandsAfterFirst x before after → step f x (Err fault) g → StandsAfterVisited step fault f before after
  visited-here f g x (gives y r) after is fails = inl (g, subst (λ k. step f k (Err fault) g) (sym (same-item x y r after is)) fails, same-rest x y r after is)
  visited-here f g x (pends r) after is fails = visited-here f g x r after is fails
  visited-here f g x (ends e) after is fails = grind (arith, common_steps)

  -- the closure visits the next item
  pub visited-later : (f g : F) (x : T) (before between after : ChainRun T) → StandsAfterFirst x before between → step f x (Ok tt) g
      → StandsAfterVisited step fault g between after → StandsAfterVisited step fault f before after
  visited-later f g x (gives y r) between after is called visited =
      inr (g, subst (λ k. step f k (Ok tt) g) (sym (same-item x y r between is)) called, subst (λ k. StandsAfterVisited step fault g k after) (sym (same-rest x y r between is)) visited)
  visited-later f g x (pends r) between after is called visited = visited-later f g x r between after is called visited
  visited-later f g x (ends e) between after is called visited = grind (arith, common_steps)

-- a fault that a closure answered, and not the chain
pub closure-fault : {A : Type 0} (r : Result A ChainFault) (fault : ChainFault) (Own P : ChainFault → Type 0) → r ≡ Err fault → P fault → IfErr r (λ f. Own f ⊎ P f)
closure-fault r fault Own P is holds = subst (λ s. IfErr s (λ f. Own f ⊎ P f)) (sym is) (inr holds)

-- What is said of the rest of a run, at the start of the chain, is said of the whole run.
module _ {T M : Type 0} (Reads Started : M → Type 0) (start whole after : M → ChainRun T) (begins : (m : M) → start m ≡ whole m) (reads : (m : M) → Reads m → Started m) where
  of-whole : {A : Type 0} (S : A → ChainRun T → ChainRun T → Type 0) (x : A) → ((m : M) → Started m → S x (start m) (after m)) → (m : M) → Reads m → S x (whole m) (after m)
  of-whole S x stands m r = subst (λ k. S x k (after m)) (begins m) (stands m (reads m r))

  pub started-fault : {A : Type 0} (r : Result A ChainFault) (Own : ChainFault → Type 0) (S : ChainFault → ChainRun T → ChainRun T → Type 0)
      → IfErr r (λ f. Own f ⊎ ((m : M) → Started m → S f (start m) (after m))) → IfErr r (λ f. Own f ⊎ ((m : M) → Reads m → S f (whole m) (after m)))
  started-fault (Ok y) Own S h = tt
  started-fault (Err f) Own S (inl own) = inl own
  started-fault (Err f) Own S (inr stands) = inr (of-whole S f stands)

  pub started-item : (r : Result (Option T) ChainFault) (S : T → ChainRun T → ChainRun T → Type 0)
      → IfOk r (λ found. IfSome found (λ x. (m : M) → Started m → S x (start m) (after m))) → IfOk r (λ found. IfSome found (λ x. (m : M) → Reads m → S x (whole m) (after m)))
  started-item (Ok (Some x)) S stands = of-whole S x stands
  started-item (Ok None) S stands = tt
  started-item (Err f) S stands = tt

  pub started-some : (found : Option T) (x : T) (S : T → ChainRun T → ChainRun T → Type 0) → found ≡ Some x
      → IfSome found (λ y. (m : M) → Started m → S y (start m) (after m)) → (m : M) → Reads m → (y : T) × S y (whole m) (after m)
  started-some found x S is stands m r = (x, of-whole S x (subst (λ o. IfSome o (λ y. (n : M) → Started n → S y (start n) (after n))) is stands) m r)

-- a count that was full at an item
pub overflows : {T : Type 0} (n : ℕ) (x : T) (whole before after : ChainRun T) → n + 1 ≡ 2 ^ 64 → length (items whole) ≡ n + length (items before)
    → IsRestOf whole before → GivesItem before (Ok (Some x)) after → StandsAfterOverflow whole after
overflows n x whole before after full counted stands next =
    let all : length (items whole) ≡ length stands.0 + length (items before) = ap length stands.1 ∙ length-append stands.0 (items before) in
    let taken : length (stands.0 ++ x ∷ []) ≡ length stands.0 + 1 = length-append stands.0 (x ∷ []) in (
      stands.0 ++ x ∷ [],
      omega (arith, full, counted, all, taken),
      stands.1 ∙ ap (λ ys. stands.0 ++ ys) next.0 ∙ sym (append_assoc stands.0 (x ∷ []) (items after)),
      stands.2 ∙ next.1,
    )
