-- What a caller that borrows a flow can conclude from the laws of flows.
use Rattle.std.specs.Prelude.{◌≡◌, ◌≢◌, ℕ, ◌+◌, ◌<◌, List, [], ◌∷◌, ◌++◌, length, drop}
use Rattle.flow_law.specs.declared.config.Config.{Config}
use Rattle.flow_law.specs.declared.config.Overflow.TheVariants.{DropOldest}
use Rattle.flow_law.specs.laws.Lagging.{IsSubsequence, emitted_since_entry}
use Rattle.flow_law.specs.flow.SharedFlow.{first_state, capacity, values, cache}
use Rattle.flow_law.specs.flow.SharedHistory.{History, state_after}
use Rattle.flow_law.specs.flow.Mailbox.{delivered, received, began}
use Rattle.flow_law.specs.flow.StateFlow.{StateHistory}
use Rattle.flow_law.specs.laws.Waiting.{from_flow}
use Rattle.flow_law.specs.laws.Conflation.{Beside, beside, follows}

module _ {T : Type 0} where
  -- The subscriber has received all that was delivered to it. If the flow has a buffer and does not drop the oldest, it has
  -- received its own first values, and then each value from the position at which it entered.
  pub record HasAll (u : ℕ) (config : Config) (h : History T) : Type 0 where
    pub delivered : received u h ≡ delivered u config h
    pub emitted : config.overflow ≢ DropOldest → 0 < capacity (state_after config h)
        → received u h ≡ (began u config h).first ++ drop (began u config h).entry (values (state_after config h))

  -- The values that the subscriber has received from the flow are values from the position at which it entered, in order, none
  -- twice. If the flow has a buffer and does not drop the oldest, the subscriber has missed none so far.
  pub record ReadsInOrder (u : ℕ) (config : Config) (h : History T) : Type 0 where
    pub in_order : IsSubsequence (from_flow u (first_state config) h) (emitted_since_entry u config h)
    pub whole : config.overflow ≢ DropOldest → 0 < config.replay + config.extra
        → (rest : List T) × (emitted_since_entry u config h ≡ from_flow u (first_state config) h ++ rest)

  -- the shared flow that follows a state flow, after this history of the state flow
  abbrev pub beside_after : ℕ → Beside T → StateHistory T → Beside T
  beside_after u m [] = m
  beside_after u m (e ∷ es) = beside_after u (follows u m e.what.call e.what.reply) es

  -- a shared flow that keeps only the newest value, and emits each value that was set, has just this value in its replay cache
  abbrev pub IsNewest : T → StateHistory T → T → Type 0
  IsNewest first h v = (u unreached : ℕ) → length h < unreached → cache (beside_after u (beside unreached first) h).shared ≡ v ∷ []
