-- How a drain ends early: there is no value, the subscriber is gone, a call is refused, or memory is refused.
use Rattle.std.proofs.Common.{◌≡◌, ◌≢◌, ℕ, ◌<◌, true, List, inl, inr, refl, sym, subst}
use Rattle.std.specs.Prelude.{Result, Ok, Err}
use Rattle.std.specs.Result.{is_ok, OnOk, IsErr}
use Rattle.flow_law.specs.declared.fault.FlowFault.{FlowFault}
use Rattle.flow_law.specs.declared.fault.FlowFault.TheVariants.{OutOfMemory}
use Rattle.flow_law.specs.declared.outcome.Next.{Next}
use Rattle.flow_law.specs.declared.outcome.Next.TheVariants as next
use Rattle.flow_law.specs.declared.outcome.Drained.TheVariants as drained
use Rattle.flow_law.specs.flow.Draining.{DrainsBy, EndsBy}
use Rattle.flow_law.proofs.DrainingLemmas.{HasTaken, takes_before}

-- n values were taken, and asking for room then did not change the list's items
module _ {X T : Type 0} (R : X → Result (Next T) FlowFault → X → Type 0) (n most : ℕ) (old now : X) (old_list list same : List T) (taken : HasTaken R n old old_list list now) (less : n < most) (is : same ≡ list) where
  so_far : HasTaken R n old old_list same now
  so_far = subst (λ l. HasTaken R n old old_list l now) {x = list} {y = same} (sym is) taken

  pub by_empty : (after : X) (answer : Result (Next T) FlowFault) → answer ≡ Ok next.Empty → R now answer after → DrainsBy R most old old_list (Ok drained.Empty) same after
  by_empty after answer empty called = takes_before R (EndsBy R) n most old now after old_list same (Ok drained.Empty) so_far less (subst (λ r. R now r after) empty called) (λ e. cc)

  pub by_gone : (after : X) (answer : Result (Next T) FlowFault) → answer ≡ Ok next.Gone → R now answer after → DrainsBy R most old old_list (Ok drained.Gone) same after
  by_gone after answer gone called = takes_before R (EndsBy R) n most old now after old_list same (Ok drained.Gone) so_far less (subst (λ r. R now r after) gone called) (λ e. cc)

  pub by_fault : (after : X) (answer : Result (Next T) FlowFault) (fault : FlowFault) → answer ≡ Err fault → R now answer after → DrainsBy R most old old_list (Err fault) same after
  by_fault after answer fault refused called = takes_before R (EndsBy R) n most old now after old_list same (Err fault) so_far less (inl (subst (λ r. R now r after) refused called)) (λ e. cc)

  pub for_memory : DrainsBy R most old old_list (Err OutOfMemory) same now
  for_memory = takes_before R (EndsBy R) n most old now now old_list same (Err OutOfMemory) so_far less (inr (refl, refl)) (λ e. cc)

-- a fact about `Ok`, for a result that is `Ok`
pub where_ok : {X E : Type 0} (P : Type 0) (r : Result X E) → is_ok r ≡ true → OnOk r P → P
where_ok P (Ok x) ok holds = holds
where_ok P (Err e) ok holds = absurd (cc)

pub not_ok : {X E : Type 0} (r : Result X E) (x : X) → IsErr r → r ≢ Ok x
not_ok (Ok y) x fails is = absurd (cc)
not_ok (Err e) x fails is = absurd (cc)
