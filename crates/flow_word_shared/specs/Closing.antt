-- What contracts see of a flow that was closed. Begin with `WordFlowEndsAs`.
use Rattle.std.specs.Prelude.{◌≡◌, ℕ, zero, suc, ◌+◌, ◌-◌, ◌*◌, ◌%◌, List, [], ◌∷◌, length}
use Rattle.flow_law.specs.declared.states.SharedFlowState.{SharedFlowState}
use Rattle.flow_law.specs.history.Growth.{Fits}
use Rattle.flow_law.specs.flow.SharedFlow.{cache}
use Rattle.flow_law.specs.flow.SharedHistory.{History, shared_flow}
use Rattle.flow_law.specs.flow.Standing.{StandsForHistory}
use Rattle.flow_word_shared.specs.Rule.{head, words_from}
use Rattle.flow_word_shared.specs.Tokens.{WordFlowToken}

-- a closed flow: how many values were emitted, how many subscribers it has, and the replay cache
pub record ClosedFlow (T : Type 0) : Type 0 where
  pub emitted : ℕ
  pub subscribers : ℕ
  pub replay_cache : List T

-- the values in the cells of `count` positions, from this one on, each of so many words
abbrev pub in_cells : {T : Type 0} → (List ℕ → T) → (width room : ℕ) → List ℕ → (count position : ℕ) → List T
in_cells value_of width room words zero position = []
in_cells value_of width room words (suc count) position =
    value_of (words_from width words (head + position % room * width)) ∷ in_cells value_of width room words count (position + 1)

-- the closed flow of these words, with the values from this position on as its replay cache
abbrev pub closed_flow : {T : Type 0} → (List ℕ → T) → (width room : ℕ) → List ℕ → (emitted subscribers position : ℕ) → ClosedFlow T
closed_flow value_of width room words emitted subscribers position =
    record { emitted = emitted; subscribers = subscribers; replay_cache = in_cells value_of width room words (emitted - position) position }

-- the closed flow stands for the state: it has what the state has
pub record StandsAsClosed {T : Type 0} (closed : ClosedFlow T) (s : SharedFlowState T) : Type 0 where
  pub emitted : closed.emitted ≡ length s.emitted
  pub subscribers : closed.subscribers ≡ length s.subscribers
  pub replay_cache : closed.replay_cache ≡ cache s

-- The closed flow stands for the state after a history of the flow: what the token had seen, followed by events of other callers, within
-- the token's rule of names.
abbrev pub WordFlowEndsAs : {T : Type 0} → SharedFlowState T → WordFlowToken T → ClosedFlow T → Type 0
WordFlowEndsAs {T} first t closed = (history : History T) × StandsForHistory shared_flow StandsAsClosed first closed history × Fits history t.knows
