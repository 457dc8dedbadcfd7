-- The readings as contracts describe them, and the core that keeps them.
use Rattle.std.specs.Prelude.{◌≡◌, ℕ, ◌-◌, List, [], ◌∷◌, ◌++◌, length, drop}
use Rattle.flow_law.specs.declared.states.SharedFlowState.{SharedFlowState}
use Rattle.flow_law.specs.flow.Standing.{Core, StandsFor}

-- the last readings, the oldest first, and the most that are kept
pub record Latest (T : Type 0) : Type 0 where
  pub most : ℕ
  pub values : List T

module _ {T : Type 0} where
  -- the last n values of a list, or all if it has fewer
  abbrev pub last : ℕ → List T → List T
  last n xs = drop (length xs - n) xs

  -- the readings after x was added: the oldest one is dropped if there are too many
  abbrev pub with_reading : T → Latest T → Latest T
  with_reading x old = record { most = old.most; values = last old.most (old.values ++ x ∷ []) }

  -- the flow has no subscriber and was never reset
  pub record IsUnread (s : SharedFlowState T) : Type 0 where
    pub nobody : s.subscribers ≡ []
    pub whole : s.reset_mark ≡ 0

  -- the core stands for a flow that has no subscriber and was never reset
  abbrev pub KeepsMeasured : Core T → Type 0
  KeepsMeasured core = (s : SharedFlowState T) × StandsFor core s × IsUnread s

  -- the readings of such a core: all values that it holds, which are its replay cache
  abbrev pub latest_of : Core T → Latest T
  latest_of core = record { most = core.config.replay; values = core.held }
