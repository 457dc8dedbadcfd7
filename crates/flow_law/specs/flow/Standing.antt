-- What contracts see of a core, which states of the documented flow it stands for, and what a call of it does.
-- Begin with `Conforms`, the word by which a contract of flow_core says what a call of a shared core does.
use Rattle.std.specs.Prelude.{◌≡◌, ℕ, ◌-◌, min, List, [], ◌∷◌, length, drop, Bool}
use Rattle.std.specs.Bool.{OnTrue}
use Rattle.flow_law.specs.declared.config.Config.{Config}
use Rattle.flow_law.specs.declared.history.HistoryEvent.{HistoryEvent}
use Rattle.flow_law.specs.declared.history.Said.{Said}
use Rattle.flow_law.specs.history.History.{Kind, IsHistory, after_all}
use Rattle.flow_law.specs.declared.call.SharedCall.{SharedCall}
use Rattle.flow_law.specs.declared.call.SharedReply.{SharedReply}
use Rattle.flow_law.specs.declared.call.StateCall.{StateCall}
use Rattle.flow_law.specs.declared.call.StateReply.{StateReply}
use Rattle.flow_law.specs.flow.SharedFlow.{Numbered, Subscriber, SharedFlowState, cache_start, values, newest}
use Rattle.flow_law.specs.flow.SharedHistory as shared
use Rattle.flow_law.specs.flow.StateFlow.{StateFlowState}
use Rattle.flow_law.specs.flow.StateFlow as state

-- ---- what a call does, for any kind of flow

-- A core of type K stands for states of type S. In each state that the old core stands for, the documented flow may give this
-- reply, and the new core stands for the state after it. A refused call leaves the core unchanged.
module _ {K S C R : Type 0} (StandsAs : K → S → Type 0) (Replies : S → C → R → Type 0) (after : S → C → R → S) (is_refused : R → Bool) where
  -- a call of a core is a step of the documented flow
  abbrev pub ConformsBy : K → C → R → K → Type 0
  ConformsBy old call reply new = ((s : S) → StandsAs old s → Replies s call reply × StandsAs new (after s call reply)) × OnTrue (is_refused reply) (new ≡ old)

module _ {K T S C R : Type 0} (kind : Kind T S C R) (StandsAs : K → S → Type 0) where
  -- in each state that the old core stands for, the flow may give this reply, and the new core stands for the state after it
  abbrev pub Documents : K → C → R → K → Type 0
  Documents old call reply new = (s : S) → StandsAs old s → kind.Replies s call reply × StandsAs new (kind.after s call reply)

  -- a core stands for a history: a flow that began in this state may have had it, and the core stands for the state that it
  -- leads to
  abbrev pub StandsForHistory : S → K → List (HistoryEvent (Said C R)) → Type 0
  StandsForHistory first core h = IsHistory kind first h × StandsAs core (after_all kind first h)

-- ---- shared flows

-- what contracts see of a core
pub record Core (T : Type 0) : Type 0 where
  pub config : Config
  -- the values that the core still holds
  pub held : List T
  -- how many values were ever emitted
  pub appended : ℕ
  -- the number of the value that was emitted last
  pub newest : ℕ
  pub reset_mark : ℕ
  pub queue : List (Numbered T)
  pub subscribers : List (Subscriber T)
  pub issued : ℕ

-- the least of a bound and all positions
abbrev pub least_position : {T : Type 0} → ℕ → List (Subscriber T) → ℕ
least_position bound [] = bound
least_position bound (u ∷ us) = min u.position (least_position bound us)

-- the position of the first value that a new or old subscriber may still receive
abbrev pub first_needed : {T : Type 0} → SharedFlowState T → ℕ
first_needed s = least_position (cache_start s) s.subscribers

-- the values that a subscriber may still receive
abbrev pub needed : {T : Type 0} → SharedFlowState T → List T
needed s = drop (first_needed s) (values s)

-- how many values a subscriber may still receive
abbrev pub held : {T : Type 0} → SharedFlowState T → ℕ
held s = length s.emitted - first_needed s

-- The core stands for the state: its parts are the state's, and it holds exactly the values that a subscriber may still receive.
pub record StandsFor {T : Type 0} (core : Core T) (s : SharedFlowState T) : Type 0 where
  pub config : core.config ≡ s.config
  pub held : core.held ≡ needed s
  pub appended : core.appended ≡ length s.emitted
  pub newest : core.newest ≡ newest s
  pub reset_mark : core.reset_mark ≡ s.reset_mark
  pub queue : core.queue ≡ s.queue
  pub subscribers : core.subscribers ≡ s.subscribers
  pub issued : core.issued ≡ s.issued

-- a call of a shared core is a step of the documented shared flow
abbrev pub Conforms : {T : Type 0} → Core T → SharedCall T → SharedReply T → Core T → Type 0
Conforms = ConformsBy StandsFor shared.Replies shared.after shared.is_refused

-- ---- state flows

-- a call of a state core is a step of the documented state flow; a state core is seen as the state itself
abbrev pub StateConforms : {T : Type 0} → StateFlowState T → StateCall T → StateReply T → StateFlowState T → Type 0
StateConforms = ConformsBy (λ core s. core ≡ s) state.StateFlowReplies state.state_flow_after state.is_state_refused
