-- A drain takes values several times. Begin with `taken_on`.
use Rattle.std.proofs.Common.{◌≡◌, ℕ, ◌+◌, List, [], ◌∷◌, ◌++◌, sym, ap, ◌∙◌, subst, append_assoc, length-append, arith}
use Rattle.std.specs.Prelude.{Result}
use Rattle.flow_law.specs.declared.fault.FlowFault.{FlowFault}
use Rattle.flow_law.specs.declared.outcome.Next.{Next}
use Rattle.flow_law.specs.declared.states.SharedFlowState.{SharedFlowState}
use Rattle.flow_law.specs.flow.Draining.{NextsGive}
use Rattle.flow_law.proofs.DrainingLemmas.{HasTaken}
use Rattle.flow_word_shared.specs.Answers.{NextsTaken, WordFlowNexts}
use Rattle.flow_word_shared.specs.Tokens.{WordFlowNumbered}

module _ {X T : Type 0} (Nexts : X → Result (Next T) FlowFault → X → Type 0) where
  gives_on : (xs ys : List T) (p q r : X) → NextsGive Nexts p xs q → NextsGive Nexts q ys r → NextsGive Nexts p (xs ++ ys) r
  gives_on [] ys p q r one two = subst (λ s. NextsGive Nexts s ys r) (sym one) two
  gives_on (x ∷ xs) ys p q r one two = (one.0, one.1, gives_on xs ys one.0 q r one.2 two)

  -- some values were taken, and then some more
  pub taken_on : (n m all : ℕ) (old now after : X) (old_list list same longer : List T) → n + m ≡ all → HasTaken Nexts n old old_list list now → same ≡ list → NextsTaken Nexts m now same longer after → HasTaken Nexts all old old_list longer after
  taken_on n m all old now after old_list list same longer sum h is t = record {
    values = h.values ++ t.values;
    taken = gives_on h.values t.values old now after h.taken t.taken;
    appended = t.appended ∙ ap (λ l. l ++ t.values) (is ∙ h.appended) ∙ append_assoc old_list h.values t.values;
    counted = let l = length-append h.values t.values in omega (arith, l, h.counted, t.counted, sum);
  }

-- the subscription keeps its flow and its number
pub gives_keep : {T : Type 0} (first : SharedFlowState T) (vs : List T) (a c : WordFlowNumbered T) → NextsGive (WordFlowNexts first) a vs c → (c.token.table_id ≡ a.token.table_id) × (c.number ≡ a.number)
gives_keep first [] a c folds = (ap (λ n. n.token.table_id) (sym folds), ap (λ n. n.number) (sym folds))
gives_keep first (v ∷ vs) a c folds = let rest = gives_keep first vs folds.0 c folds.2 in (rest.0 ∙ folds.1.0.0, rest.1 ∙ folds.1.1)
