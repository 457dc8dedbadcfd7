-- What each step proves for its caller. Begin with `StepMakes`: a step that is the one event of a call.
use Rattle.std.specs.Prelude.{◌≡◌, ◌≢◌, ℕ, ◌+◌, ◌/◌, ◌%◌, ◌<◌, ◌≤◌, ◌==◌, true, if◌then◌else◌, List, [], ◌∷◌, map, Option, Some, None}
use Rattle.std.specs.List.{AllByRecursion}
use Rattle.atomic_table.specs.Table.{Me, Step}
use Rattle.flow_law.specs.declared.call.StateCall.{StateCall}
use Rattle.flow_law.specs.declared.call.StateCall.TheVariants.{GetValue, Set, CompareAndSet, Subscribe, TakeNext, Unsubscribe, SubscriptionCount}
use Rattle.flow_law.specs.declared.call.StateReply.{StateReply}
use Rattle.flow_law.specs.declared.call.StateReply.TheVariants.{Done, Got, Answered, Subscribed, Received, Counted, Refused}
use Rattle.flow_law.specs.declared.fault.FlowFault.TheVariants.{Exhausted}
use Rattle.flow_law.specs.declared.outcome.Next.{Next}
use Rattle.flow_law.specs.declared.outcome.Next.TheVariants.{Value, Empty}
use Rattle.flow_law.specs.declared.states.StateFlowState.{StateFlowState}
use Rattle.flow_law.specs.history.Growth.{Fits, sees, child}
use Rattle.flow_law.specs.history.History.{subscriber, IsGiven}
use Rattle.flow_law.specs.history.Promise.{AddsOne}
use Rattle.flow_law.specs.history.RealTime.{IsTimed}
use Rattle.flow_law.specs.flow.StateFlow.{StateHistory, last_got_by, state_flow, state_after_all, IsStateHistory}
use Rattle.flow_law.specs.history.Tokens.{subscription_name}
use Rattle.flow_word.specs.declared.view.Known.{Known}
use Rattle.flow_word.specs.declared.view.LastGot.{LastGot}
use Rattle.flow_word.specs.View.{StateKnowledge, begun, got_last, in_call, with_knows, only_in_view}

-- what a subscriber receives if this word is found, by the pack of the last value that it got
abbrev pub word_received : {T : Type 0} → (ℕ → T) → Option ℕ → ℕ → Next T
word_received value_of None found = Value (value_of found)
word_received value_of (Some last) found = if last == found then Empty else Value (value_of found)

-- the value of a pack, if there is one
abbrev pub value_in : {T : Type 0} → (ℕ → T) → Option ℕ → Option T
value_in value_of None = None
value_in value_of (Some w) = Some (value_of w)

-- the word of a last value, if there is one, is the pack of a value
abbrev pub IsPack : (ℕ → Type 0) → Option ℕ → Type 0
IsPack packs None = Unit {0}
IsPack packs (Some w) = packs w

-- the token was given the number, and after what it has seen the subscriber is in the flow and got the value of this pack last
pub record HasGot {T : Type 0} (packs : ℕ → Type 0) (value_of : ℕ → T) (first : StateFlowState T) (k : StateKnowledge T) (number : ℕ) (last : Option ℕ) : Type 0 where
  pub given : IsGiven state_flow k.name (subscriber number) k.seen
  pub got : last_got_by number (state_after_all first k.seen).subscribers ≡ Some (value_in value_of last)
  pub packed : IsPack packs last

module _ {T : Type 0} (value_of : ℕ → T) where
  -- the step was the event of this call with this reply, the seat still has one token, and no exchange was lost
  abbrev pub StepMakes : Me Unit (List (Known T)) → StateCall T → StateReply T → Me Unit (List (Known T)) → Type 0
  StepMakes before call reply after =
      AddsOne (IsStateHistory (begun value_of (only_in_view before.0).start)) (only_in_view before.0).knows call reply (only_in_view after.0).knows × ((only_in_view after.0).start ≡ (only_in_view before.0).start) × (after ≡ (only_in_view after.0 ∷ [], before.1))
      × ((only_in_view after.0).knows.lost ≡ (only_in_view before.0).knows.lost)

  -- `set`: a swap of the value's word
  abbrev pub sets : Step Unit → Me Unit (List (Known T)) → ℕ → Me Unit (List (Known T)) → Type 0
  sets step before found after = StepMakes before (Set (value_of step.first)) Done after

  -- `compare_and_set`: an exchange of the value's word, which succeeds if the word found is the expected one
  abbrev pub exchanges : Step Unit → Me Unit (List (Known T)) → ℕ → Me Unit (List (Known T)) → Type 0
  exchanges step before found after = StepMakes before (CompareAndSet (value_of step.first) (value_of step.second)) (Answered (found == step.first)) after

  -- `subscription_count`: the lower half of the word of the counts
  abbrev pub counts_live : Step Unit → Me Unit (List (Known T)) → ℕ → Me Unit (List (Known T)) → Type 0
  counts_live step before found after = StepMakes before SubscriptionCount (Counted (found % 4294967296)) after

  -- `counts`: the same, and the upper half, which is the number of issued numbers
  abbrev pub counts_all : Step Unit → Me Unit (List (Known T)) → ℕ → Me Unit (List (Known T)) → Type 0
  counts_all step before found after =
      counts_live step before found after
      × ((state_after_all (begun value_of (only_in_view before.0).start) (only_in_view after.0).knows.seen).issued ≡ found / 4294967296)

  -- `unsubscribe` of the subscriber whose seat it is
  abbrev pub leaves : Step Unit → Me Unit (List (Known T)) → ℕ → Me Unit (List (Known T)) → Type 0
  leaves step before found after = (x : LastGot) → (only_in_view before.0).subscriber ≡ Some x → StepMakes before (Unsubscribe x.number) (Answered true) after

  -- if no number is left, a refused `subscribe`; else the first step of one, or one more try: no event, and the counts have room for one
  -- more subscription
  abbrev pub finds_room : Step Unit → Me Unit (List (Known T)) → ℕ → Me Unit (List (Known T)) → Type 0
  finds_room step before found after =
      ((only_in_view before.0).start.limit ≤ found / 4294967296 → StepMakes before (Subscribe (subscription_name (only_in_view before.0).knows)) (Refused Exhausted) after)
      × (found / 4294967296 < (only_in_view before.0).start.limit → (began : ℕ) × (after ≡ (in_call began (only_in_view before.0) ∷ [], before.1)) × (found + 4294967297 < 18446744073709551616))

  -- each token of the view has seen the whole history so far
  abbrev pub observes : Step Unit → Me Unit (List (Known T)) → ℕ → Me Unit (List (Known T)) → Type 0
  observes step before found after =
      (history : StateHistory T) × IsStateHistory (begun value_of (only_in_view before.0).start) history × IsTimed history × AllByRecursion (λ x. Fits history x.knows) before.0 × (after ≡ (map (with_knows (sees history)) before.0, before.1))

  -- nothing has changed, and some history of the flow fits what the token knows
  abbrev pub looks : Step Unit → Me Unit (List (Known T)) → ℕ → Me Unit (List (Known T)) → Type 0
  looks step before found after = (history : StateHistory T) × IsStateHistory (begun value_of (only_in_view before.0).start) history × IsTimed history × Fits history (only_in_view before.0).knows × (after ≡ before)

module _ {T : Type 0} (packs : ℕ → Type 0) (value_of : ℕ → T) where
  -- `value`: a load of the value's word
  abbrev pub reads : Step Unit → Me Unit (List (Known T)) → ℕ → Me Unit (List (Known T)) → Type 0
  reads step before found after = packs found × StepMakes value_of before GetValue (Got (value_of found)) after

  -- `value` through the seat of a subscriber; the last value that the subscriber got stays the same
  abbrev pub reads_by : Step Unit → Me Unit (List (Known T)) → ℕ → Me Unit (List (Known T)) → Type 0
  reads_by step before found after = (x : LastGot) → (only_in_view before.0).subscriber ≡ Some x
      → packs found × StepMakes value_of before GetValue (Got (value_of found)) after × ((only_in_view after.0).subscriber ≡ Some x) × HasGot packs value_of (begun value_of (only_in_view before.0).start) (only_in_view after.0).knows x.number x.last

  -- `next` of the subscriber whose seat it is; the value of the word found is then the last one that it got
  abbrev pub receives : Step Unit → Me Unit (List (Known T)) → ℕ → Me Unit (List (Known T)) → Type 0
  receives step before found after = (x : LastGot) → (only_in_view before.0).subscriber ≡ Some x
      → packs found × StepMakes value_of before (TakeNext x.number) (Received (word_received value_of x.last found)) after
      × ((only_in_view after.0).subscriber ≡ Some (got_last x.number (Some found))) × HasGot packs value_of (begun value_of (only_in_view before.0).start) (only_in_view after.0).knows x.number (Some found)

  -- if the exchange succeeds, a `subscribe` that issues the next number to the token that is made next; else no event
  abbrev pub enters : Step Unit → Me Unit (List (Known T)) → ℕ → Me Unit (List (Known T)) → Type 0
  enters step before found after =
      (found ≡ step.first → StepMakes value_of before (Subscribe (subscription_name (only_in_view before.0).knows)) (Subscribed (step.first / 4294967296 + 1)) after
      × ((only_in_view after.0).subscriber ≡ Some (got_last (step.first / 4294967296 + 1) None)) × HasGot packs value_of (begun value_of (only_in_view before.0).start) (child (only_in_view after.0).knows) (step.first / 4294967296 + 1) None)
      × (found ≢ step.first → after ≡ before)
