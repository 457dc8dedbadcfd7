-- State flows whose value is changed only by updates with one function.
-- Begin with `UpdatesTimes`: how many updates a token has made.
use Rattle.std.specs.Prelude.{◌≡◌, ℕ, zero, suc, true, List}
use Rattle.std.specs.List.{AllByRecursion}
use Rattle.flow_law.specs.declared.history.Knowledge.{Knowledge}
use Rattle.flow_law.specs.declared.history.Said.{Said}
use Rattle.flow_law.specs.declared.call.StateCall.{StateCall}
use Rattle.flow_law.specs.declared.call.StateCall.TheVariants.{Set, TryEmit, CompareAndSet}
use Rattle.flow_law.specs.declared.call.StateReply.{StateReply}
use Rattle.flow_law.specs.declared.call.StateReply.TheVariants.{Answered}
use Rattle.flow_law.specs.declared.states.StateFlowState.{StateFlowState}
use Rattle.flow_law.specs.flow.StateFlow.{StateHistory, state_after_all, IsLegalState}
use Rattle.flow_law.specs.history.Done.{total, done_by, Made}
use Rattle.flow_law.specs.laws.Closed.{AreAll, IsClosed}

-- g applied n times to a value
abbrev pub iterate : {T : Type 0} → (T → T) → ℕ → T → T
iterate g zero v = v
iterate g (suc n) v = iterate g n (g v)

module _ {T : Type 0} where
  -- how many updates a call is: one if it is a `compare_and_set` that succeeded
  abbrev pub update_by : StateCall T → StateReply T → ℕ
  update_by (CompareAndSet a b) (Answered true) = 1
  update_by _ _ = 0

  -- how many updates are among these calls
  abbrev pub updates : List (Said (StateCall T) (StateReply T)) → ℕ
  updates = total (λ (e : Said (StateCall T) (StateReply T)). update_by e.call e.reply)

  module _ (g : T → T) where
    -- the call leaves the value as it is, or exchanges it for what g makes of it
    abbrev pub UpdatesBy : StateCall T → StateReply T → Type 0
    UpdatesBy (Set x) r = ⊥
    UpdatesBy (TryEmit x) r = ⊥
    UpdatesBy (CompareAndSet a b) (Answered true) = b ≡ g a
    UpdatesBy _ _ = Unit {0}

    -- each of the calls leaves the value as it is or updates it by g
    abbrev pub OnlyUpdates : List (Said (StateCall T) (StateReply T)) → Type 0
    OnlyUpdates = AllByRecursion (λ (e : Said (StateCall T) (StateReply T)). UpdatesBy e.call e.reply)

    -- the token has made n updates by g, and changed the value in no other way
    abbrev pub UpdatesTimes : ℕ → Knowledge (Said (StateCall T) (StateReply T))
        → Knowledge (Said (StateCall T) (StateReply T)) → Type 0
    UpdatesTimes n before after =
        (added : List (Said (StateCall T) (StateReply T)))
        × Made added before after × OnlyUpdates added × (updates added ≡ n)

-- the law: if these are all tokens, the history is closed, and they changed the value only by updates with g, the value is g applied
-- to the first value once for each of their updates
abbrev pub LawUpdated : Type 0 → Type 0
LawUpdated T =
    (g : T → T) (first : StateFlowState T)
    (ks : List (Knowledge (Said (StateCall T) (StateReply T)))) (h : StateHistory T)
    → IsLegalState first h → AreAll ks → IsClosed h ks
    → AllByRecursion (λ (k : Knowledge (Said (StateCall T) (StateReply T))). OnlyUpdates g (done_by k)) ks
    → (state_after_all first h).value
    ≡ iterate g (total (λ (k : Knowledge (Said (StateCall T) (StateReply T))). updates (done_by k)) ks) first.value
