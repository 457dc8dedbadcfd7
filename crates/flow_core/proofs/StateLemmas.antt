-- Rows of a state core, as the subscribers of the definitions.
use Rattle.std.proofs.Common.{◌≡◌, ◌≢◌, ℕ, inl, inr, Bool, true, false, List, map, Option, Some, refl, ap, sym, subst, ◌∙◌}
use Rattle.std.specs.Prelude.{◌↔◌, IsTrue}
use Rattle.std.proofs.lemmas.Bool.{both_ways}
use Rattle.flow_law.specs.declared.call.StateCall.TheVariants.{CompareAndSet, TakeNext}
use Rattle.flow_law.specs.declared.call.StateReply.TheVariants.{Answered, Refused}
use Rattle.flow_law.specs.declared.fault.FlowFault.{FlowFault}
use Rattle.flow_law.specs.declared.fault.FlowFault.TheVariants.{OutOfMemory}
use Rattle.flow_law.specs.declared.states.StateFlowState.{StateFlowState}
use Rattle.flow_law.specs.flow.StateFlow.{last_got_by, with_last, IsDue, StateFlowReplies}
use Rattle.flow_containers.specs.declared.members.Member.{Member}
use Rattle.flow_containers.specs.Members.{row_of, with_row}
use Rattle.flow_containers.proofs.SubscriberLemmas.{last_of-row, with_last-row}
use Rattle.std.proofs.lemmas.Iterator.Adapters.{option_map_id}
use Rattle.flow_core.specs.StateCore.{state_subscriber_of}

module _ {T : Type 0} where
  -- the last value that a subscriber got is the row that is kept for it
  pub last_is : (number : ℕ) (members : List (Member (Option T))) → last_got_by number (map state_subscriber_of members) ≡ row_of number members
  last_is number members = last_of-row state_subscriber_of (λ member. refl) number members ∙ option_map_id (row_of number members)

  pub got : (number : ℕ) (value : T) (old : Option T) (members : List (Member (Option T))) → row_of number members ≡ Some old
      → map state_subscriber_of (with_row number (Some value) members) ≡ with_last number value (map state_subscriber_of members)
  got number value old members there = sym (with_last-row state_subscriber_of (λ member. refl) number value old (Some value) refl members there)

  -- a present subscriber that has not got the value may be refused its copy
  pub copy_refused : (s : StateFlowState T) (number : ℕ) (last : Option T) (fault : FlowFault) → last_got_by number s.subscribers ≡ Some last → last ≢ Some s.value → fault ≡ OutOfMemory
      → StateFlowReplies s (TakeNext number) (Refused fault)
  copy_refused s number last fault there differs is =
      subst (λ f. StateFlowReplies s (TakeNext number) (Refused f)) (sym is) (subst (λ o. IsDue s.value o) (sym there) differs)

  -- the comparison with the expected value, and the value after it
  pub exchanged : (inside now s : StateFlowState T) (expect update : T) (found is : Bool) → inside ≡ now → now ≡ s → (IsTrue is ↔ inside.value ≡ expect) → found ≡ is → found ≡ true
      → StateFlowReplies s (CompareAndSet expect update) (Answered true) × (record inside { value = update } ≡ record s { value = update })
  exchanged inside now s expect update found is view same exact finds it =
      let all = view ∙ same in
      (inl (sym (ap (λ k. k.value) all) ∙ exact.0 (sym finds ∙ it), refl), ap (λ (k : StateFlowState T). record k { value = update }) all)

  pub kept : (inside now s : StateFlowState T) (expect update : T) (found is : Bool) → inside ≡ now → now ≡ s → (IsTrue is ↔ inside.value ≡ expect) → found ≡ is → found ≡ false
      → StateFlowReplies s (CompareAndSet expect update) (Answered false)
  kept inside now s expect update found is view same exact finds it =
      inr (λ equal. both_ways is (sym finds ∙ it) (exact.1 (ap (λ k. k.value) (view ∙ same) ∙ equal)), refl)
