-- What a caller of a state flow knows after it has set a value and then read the current one.
use Rattle.std.specs.Prelude.{◌≡◌, ℕ, true, List, [], ◌∷◌, ◌++◌}
use Rattle.flow_law.specs.declared.history.Knowledge.{Knowledge}
use Rattle.flow_law.specs.declared.history.Said.{Said}
use Rattle.flow_law.specs.declared.call.StateCall.{StateCall}
use Rattle.flow_law.specs.declared.call.StateCall.TheVariants.{GetValue, Set, TryEmit, CompareAndSet}
use Rattle.flow_law.specs.declared.call.StateReply.{StateReply}
use Rattle.flow_law.specs.declared.call.StateReply.TheVariants.{Done, Got, Answered}
use Rattle.flow_law.specs.history.Growth.{event, IsSilent}
use Rattle.flow_law.specs.history.Promise.{said}
use Rattle.flow_law.specs.flow.StateFlow.{StateHistory}

module _ {T : Type 0} where
  -- the value after a call, where v is the value before
  abbrev pub value_by : T → StateCall T → StateReply T → T
  value_by v (Set x) r = x
  value_by v (TryEmit x) r = x
  value_by v (CompareAndSet a b) (Answered true) = b
  value_by v _ _ = v

  -- the value after a history, where v is the value before
  abbrev pub value_after : T → StateHistory T → T
  value_after v [] = v
  value_after v (e ∷ es) = value_after (value_by v e.what.call e.what.reply) es

  -- The history has grown by events of other callers, the caller's `set`, events of other callers, and the caller's `value`.
  -- The value that it read is the one that it set, or the last one that other callers set after that.
  pub record ReadsBack (before : Knowledge (Said (StateCall T) (StateReply T))) (value found : T) (after : Knowledge (Said (StateCall T) (StateReply T))) : Type 0 where
    pub earlier : StateHistory T
    pub between : StateHistory T
    -- when the two calls began
    pub set_began : ℕ
    pub read_began : ℕ
    pub seen : after.seen
        ≡ (((before.seen ++ earlier) ++ event before.name set_began (said (Set value) Done) ∷ []) ++ between) ++ event before.name read_began (said GetValue (Got found)) ∷ []
    pub earlier_by_others : IsSilent before.name earlier
    pub between_by_others : IsSilent before.name between
    pub last_set : found ≡ value_after value between
