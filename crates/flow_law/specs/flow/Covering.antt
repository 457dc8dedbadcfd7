-- What a core has in the middle of a call, before it drops the values that no subscriber may receive any more.
-- No public clause cites this module. Begin with `Covers`: a core that covers a state and is `tidied` stands for it.
use Rattle.std.specs.Prelude.{◌≡◌, ℕ, ◌+◌, ◌-◌, max, List, ◌++◌, length, drop}
use Rattle.flow_law.specs.flow.SharedFlow.{SharedFlowState, newest}
use Rattle.flow_law.specs.flow.Standing.{Core, least_position, needed}

-- the first list ends with the second one
abbrev pub EndsWith : {X : Type 0} → List X → List X → Type 0
EndsWith {X} xs ys = (front : List X) × (xs ≡ front ++ ys)

-- the core's parts are the state's, and it holds at least the values that a subscriber may still receive
pub record Covers {T : Type 0} (core : Core T) (s : SharedFlowState T) : Type 0 where
  pub config : core.config ≡ s.config
  pub held : EndsWith core.held (needed s)
  pub appended : core.appended ≡ length s.emitted
  pub newest : core.newest ≡ newest s
  pub reset_mark : core.reset_mark ≡ s.reset_mark
  pub queue : core.queue ≡ s.queue
  pub subscribers : core.subscribers ≡ s.subscribers
  pub issued : core.issued ≡ s.issued

module _ {T : Type 0} where
  -- the position at which the replay cache begins, by the core's own numbers
  abbrev pub kept_start : Core T → ℕ
  kept_start core = max core.reset_mark (core.appended - core.config.replay)

  -- the position of the first value that a subscriber may still receive, by the core's own numbers
  abbrev pub kept_need : Core T → ℕ
  kept_need core = least_position (kept_start core) core.subscribers

  -- the core without the first values that no subscriber may receive any more
  abbrev pub tidied : Core T → Core T
  tidied core = record core { held = drop (length core.held + kept_need core - core.appended) core.held }
