-- A token that meets one that has seen a `set`, and then reads, reads after that `set`.
use Rattle.std.proofs.Common.{◌≡◌, ℕ, [], ◌∷◌, ◌++◌, sym, ap, ◌∙◌, append_assoc}
use Rattle.flow_law.specs.declared.call.StateCall.TheVariants.{GetValue}
use Rattle.flow_law.specs.declared.call.StateReply.TheVariants.{Got}
use Rattle.flow_law.specs.declared.states.StateFlowState.{StateFlowState}
use Rattle.flow_law.specs.history.Growth.{event}
use Rattle.flow_law.specs.history.Promise.{said, Token, CallsIn}
use Rattle.flow_law.specs.flow.StateFlow.{state_flow}
use Rattle.flow_law.specs.history.Tokens.{MeetsIn}
use Rattle.flow_messages.specs.Before.{SaysNumber, set_by, IsSetByMaker, ReadsAfterSet}

module _ {Id : Type 0} (first : StateFlowState ℕ) where
  pub reads_after : (reader caller met told read : Token Id SaysNumber) (value found : ℕ) → IsSetByMaker value caller.knows → MeetsIn state_flow first reader caller met told → CallsIn state_flow first met GetValue (Got found) read
      → ReadsAfterSet value found read.knows
  reads_after reader caller met told read value found set meets called =
      let maker = set.0 in let began = set.3 in let before = set.4.0 in let after = set.4.1 in
      let l = set_by maker began value ∷ after in let m = meets.fits_other.0.0 in let g = called.1.grows in
      let here : met.knows.seen ≡ (before ++ l) ++ m = ap (λ (t : Token Id SaysNumber). t.knows.seen) meets.sees_one ∙ meets.fits_other.0.1 ∙ ap (λ h. h ++ m) set.4.2 in
      let r = event read.knows.name called.1.began (said GetValue (Got found)) ∷ [] in (
        maker,
        began,
        called.1.began,
        (
          before,
          (after ++ m) ++ g.0,
          [],
          g.1 ∙ ap (λ n. (met.knows.seen ++ g.0) ++ event n called.1.began (said GetValue (Got found)) ∷ []) (sym called.1.name)
              ∙ ap (λ h. (h ++ g.0) ++ r) (here ∙ append_assoc before l m) ∙ ap (λ h. h ++ r) (append_assoc before (l ++ m) g.0) ∙ append_assoc before ((l ++ m) ++ g.0) r,
        ),
      )
