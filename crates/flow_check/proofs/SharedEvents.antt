-- The history of a shared flow after one more event, or none. Begin with `goes_on`.
use Rattle.std.proofs.Common.{◌≡◌, ℕ, ◌+◌, false, List, [], ◌∷◌, ◌++◌, length, sym, subst, append-nil}
use Rattle.std.proofs.lemmas.Bool.{cond-false}
use Rattle.flow_law.specs.declared.config.Config.{Config}
use Rattle.flow_law.specs.declared.history.HistoryEvent.{HistoryEvent}
use Rattle.flow_law.specs.declared.history.Said.{Said}
use Rattle.flow_law.specs.declared.call.SharedCall.{SharedCall}
use Rattle.flow_law.specs.history.Growth.{event}
use Rattle.flow_law.specs.history.Promise.{said}
use Rattle.flow_law.specs.history.History.{Owner, with_owner, owners_all, MaySpeak}
use Rattle.flow_law.specs.declared.states.SharedFlowState.{SharedFlowState}
use Rattle.flow_law.specs.flow.SharedFlow.{first_state}
use Rattle.flow_law.specs.flow.SharedHistory.{History, shared_flow, shared_after_all, after, answer_to, is_refused, gives, speaks_of}
use Rattle.flow_law.proofs.HistoryLemmas.{after_all-snoc}
use Rattle.flow_law.proofs.Owners.{owners_all-append}
use Rattle.flow_law.proofs.RowOrder.{InOrder, always_in_order}
use Rattle.flow_check.specs.declared.shared_calls.SharedOperation.{SharedOperation}
use Rattle.flow_check.specs.declared.shared_calls.SharedEntry.{SharedEntry}
use Rattle.flow_check.specs.Records.{CallsByCaller}
use Rattle.flow_check.specs.StateRecords.{caller_name}
use Rattle.flow_check.specs.SharedRecords.{call_of}
use Rattle.flow_check.specs.SharedMachine.{Kept, trim}
use Rattle.flow_check.proofs.SharedStanding.{StandsAs}
use Rattle.flow_check.proofs.SharedCalls.{later, trimmed}
use Rattle.flow_check.proofs.SharedReplies.{Reply}

-- the state in which a flow of this configuration with this limit begins
abbrev pub first_of : Config → ℕ → SharedFlowState ℕ
first_of config limit = first_state (record config { limit = limit })

-- the checker's state m stands for the state that the history h led to in k turns
abbrev pub StandsIn : CallsByCaller SharedEntry → Config → ℕ → Kept → ℕ → History ℕ → Type 0
StandsIn callers config limit m k h = StandsAs (length callers) m k (shared_after_all (first_of config limit) h) (owners_all shared_flow [] h)

-- after the history h the caller owns the number that its call names, if it names one
abbrev pub SpeaksOf : History ℕ → ℕ → SharedOperation → ℕ → Type 0
SpeaksOf h caller op n = MaySpeak {T = ℕ} shared_flow (speaks_of (call_of caller n op)) (owners_all shared_flow [] h) (caller_name caller)

pub in_order : (config : Config) (limit : ℕ) (h : History ℕ) → InOrder (shared_after_all (first_of config limit) h)
in_order config limit h = always_in_order (record config { limit = limit }) h

abbrev pub told : ℕ → SharedCall ℕ → Reply → HistoryEvent (Said (SharedCall ℕ) Reply)
told caller c r = event (caller_name caller) 0 (said c r)

module _ (callers : CallsByCaller SharedEntry) (config : Config) (limit : ℕ) (m : Kept) (k : ℕ) (h : History ℕ) (st : StandsIn callers config limit m k h) where
  abbrev first : SharedFlowState ℕ
  first = first_of config limit

  abbrev s : SharedFlowState ℕ
  s = shared_after_all first h

  abbrev owners : List Owner
  owners = owners_all shared_flow [] h

  pub goes_on : (caller : ℕ) (n : Kept) (c : SharedCall ℕ) (r : Reply) → is_refused r ≡ false → StandsAs (length callers) n (k + 1) (answer_to c s).after (with_owner (gives (caller_name caller) c r) owners) → StandsIn callers config limit (trim n) (k + 1) (h ++ told caller c r ∷ [])
  goes_on caller n c r fresh stands =
      subst (λ (t : SharedFlowState ℕ). StandsAs (length callers) (trim n) (k + 1) t (owners_all shared_flow [] (h ++ told caller c r ∷ []))) (sym (after_all-snoc shared_flow first h (told caller c r)))
      (subst (λ (os : List Owner). StandsAs (length callers) (trim n) (k + 1) (after s c r) os) (sym (owners_all-append shared_flow [] h (told caller c r ∷ [])))
      (subst (λ (t : SharedFlowState ℕ). StandsAs (length callers) (trim n) (k + 1) t (with_owner (gives (caller_name caller) c r) owners)) (sym (cond-false (is_refused r) s (answer_to c s).after fresh))
      (trimmed (length callers) (k + 1) (with_owner (gives (caller_name caller) c r) owners) n (answer_to c s).after stands)))

  -- nothing happened
  pub stays_on : (n : Kept) → n ≡ m → StandsIn callers config limit (trim n) (k + 1) (h ++ [])
  stays_on n e = subst (λ (p : History ℕ). StandsIn callers config limit (trim n) (k + 1) p) (sym (append-nil h)) (subst (λ (x : Kept). StandsAs (length callers) (trim x) (k + 1) s owners) (sym e)
      (trimmed (length callers) (k + 1) owners m s (later (length callers) k owners m s st)))
