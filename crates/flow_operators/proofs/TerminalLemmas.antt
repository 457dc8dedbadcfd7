-- What is left of a chain after its next item, what `any` and `all` return for the first item that is found, and the first call of `for_each`.
use Rattle.std.proofs.Common.{◌≡◌, ◌⊎◌, Bool, true, false, cond, ◌||◌, ◌&&◌, not, List, [], ◌∷◌, ◌++◌, Option, Some, None, Result, Ok, Err, inl, inr, refl, sym, ap, ◌∙◌}
use Rattle.std.specs.Prelude.{filter}
use Rattle.std.specs.List.{list_all, list_any}
use Rattle.std.proofs.lemmas.List.{append_assoc}
use Rattle.flow_law.specs.declared.chain.ChainFault.{ChainFault}
use Rattle.flow_law.specs.declared.chain.ChainFault.TheVariants.{OutOfMemory}
use Rattle.flow_law.specs.declared.chain.End.{End}
use Rattle.flow_law.specs.declared.chain.End.TheVariants.{Completed, Failed}
use Rattle.flow_law.specs.chain.ChainRun.{ChainRun, items, ending}
use Rattle.flow_operators.specs.Collecting.{IsRestOf}
use Rattle.flow_operators.specs.Closures.{Follows}
use Rattle.flow_operators.specs.Terminal.{FollowsRun, GivesItem, Visits, all_of, any_of, first_of}

pub reaches-next : {T : Type 0} (x : T) (whole before after : ChainRun T) → IsRestOf whole before → GivesItem before (Ok (Some x)) after → IsRestOf whole after
reaches-next x whole before after stands gives =
    (stands.0 ++ x ∷ [], stands.1 ∙ ap (λ ys. stands.0 ++ ys) gives.0 ∙ sym (append_assoc stands.0 (x ∷ []) (items after)), stands.2 ∙ gives.1)

-- what `any` (found is true) and `all` (found is false) return for the item that was searched
abbrev pub told : {A : Type 0} → Bool → Result (Option A) ChainFault → Result Bool ChainFault
told found (Ok (Some x)) = Ok found
told found (Ok None) = Ok (not found)
told found (Err fault) = Err fault

told-follows : {A : Type 0} (found : Bool) (meant result : Result (Option A) ChainFault) → Follows meant result → Follows (told found meant) (told found result)
told-follows found meant (Ok (Some x)) is = ap (told found) is
told-follows found meant (Ok None) is = ap (told found) is
told-follows found meant (Err fault) (inl is) = inl (ap (told found) is)
told-follows found meant (Err fault) (inr memory) = inr memory

module _ {A : Type 0} (test : A → Bool) where
  any-step : (x : A) (xs : List A) (e : End) (b : Bool) → any_of test xs e ≡ told true (first_of (filter test xs) e)
      → cond (b || list_any test xs) (Ok true) (any_of test [] e) ≡ told true (first_of (cond b (x ∷ filter test xs) (filter test xs)) e)
  any-step x xs e true h = refl
  any-step x xs e false h = h

  any-told : (xs : List A) (e : End) → any_of test xs e ≡ told true (first_of (filter test xs) e)
  any-told [] Completed = refl
  any-told [] (Failed fault) = refl
  any-told (x ∷ xs) e = any-step x xs e (test x) (any-told xs e)

  -- `any` returns the answer for the first item that passes; the chain is restarted before it is searched
  pub any-follows : (whole rest : ChainRun A) (found : Result (Option A) ChainFault) → rest ≡ whole → FollowsRun (λ xs e. first_of (filter test xs) e) rest found
      → FollowsRun (any_of test) whole (told true found)
  any-follows whole rest found is finds = rw (any-told (items whole) (ending whole)) (told-follows true _ found (rw is at finds))

  all-step : (x : A) (xs : List A) (e : End) (b : Bool) → all_of test xs e ≡ told false (first_of (filter (λ y. not (test y)) xs) e)
      → cond (b && list_all test xs) (all_of test [] e) (Ok false) ≡ told false (first_of (cond (not b) (x ∷ filter (λ y. not (test y)) xs) (filter (λ y. not (test y)) xs)) e)
  all-step x xs e true h = h
  all-step x xs e false h = refl

  all-told : (xs : List A) (e : End) → all_of test xs e ≡ told false (first_of (filter (λ y. not (test y)) xs) e)
  all-told [] Completed = refl
  all-told [] (Failed fault) = refl
  all-told (x ∷ xs) e = all-step x xs e (test x) (all-told xs e)

  -- `all` returns the answer for the first item that fails; the chain is restarted before it is searched
  pub all-follows : (whole rest : ChainRun A) (found : Result (Option A) ChainFault) → rest ≡ whole
      → FollowsRun (λ xs e. first_of (filter (λ y. not (test y)) xs) e) rest found → FollowsRun (all_of test) whole (told false found)
  all-follows whole rest found is finds = rw (all-told (items whole) (ending whole)) (told-follows false _ found (rw is at finds))

module _ {A F : Type 0} (step : F → A → Result (Unit {0}) ChainFault → F → Type 0) where
  visits_memory : (f : F) (xs : List A) (e : End) → Visits step f xs e (Err OutOfMemory)
  visits_memory f [] e = inr refl
  visits_memory f (x ∷ xs) e = inl refl

  pub visits_fault : (f : F) (r : ChainRun A) (fault : ChainFault) → ((items r ≡ []) × (ending r ≡ Failed fault)) ⊎ (fault ≡ OutOfMemory)
      → Visits step f (items r) (ending r) (Err fault)
  visits_fault f r fault (inl e) = rw (e.0, e.1) (inl refl)
  visits_fault f r fault (inr e) = rw e (visits_memory f (items r) (ending r))

  pub visits_item : (f g : F) (x : A) (before after : ChainRun A) → GivesItem before (Ok (Some x)) after → step f x (Ok tt) g
      → (result : Result (Unit {0}) ChainFault) → Visits step g (items after) (ending after) result → Visits step f (items before) (ending before) result
  visits_item f g x before after gives called result h = rw (gives.0, gives.1) (inr (inl (g, called, h)))
