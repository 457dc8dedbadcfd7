-- What a policy keeps, and the observations that lead to it. Begin with `Observes`.
use Rattle.std.specs.Prelude.{◌≡◌, ◌≢◌, ℕ, ◌-◌, ◌*◌, ◌≤◌, ◌<◌, Bool, List, ◌∷◌, Option, Some, None, IfSome, Result, Ok, Err}
use Rattle.std.specs.Duration.{as_nanos}
use Rattle.std.specs.declared.time.Duration.{Duration}
use Rattle.flow_law.specs.declared.sharing.Started.{Started}
use Rattle.flow_law.specs.declared.sharing.Started.TheVariants.{Eagerly, Lazily, WhileSubscribed}
use Rattle.flow_law.specs.declared.sharing.Command.{Command}
use Rattle.flow_law.specs.declared.sharing.Command.TheVariants.{Keep}
use Rattle.flow_law.specs.declared.sharing.SharingObservation.{SharingObservation}
use Rattle.flow_law.specs.sharing.Sharing.{never, last_moment, idle_since, is_running, newest_command}
use Rattle.flow_turns.specs.declared.policy.Policy.{Policy}
use Rattle.flow_turns.specs.declared.policy.Backwards.{Backwards}

-- the idle moment; only a policy that stops keeps it
abbrev pub kept_since : Started → List SharingObservation → Option ℕ
kept_since Eagerly seen = None
kept_since Lazily seen = None
kept_since (WhileSubscribed stop expire) seen = idle_since seen

-- The policy is this one, and these observations, the newest one first, lead to what it keeps.
pub record HasSeen (chosen : Started) (policy : Policy) (seen : List SharingObservation) : Type 0 where
  pub chosen_when : policy.started ≡ chosen
  pub last : policy.last ≡ last_moment seen
  pub since : policy.since ≡ kept_since chosen seen
  pub running : policy.running ≡ is_running chosen seen

-- whether the policy runs since the last observation
abbrev pub runs : Policy → Bool
runs policy = policy.running

-- the moment of the last observation, 0 before the first one
abbrev pub last_at : Policy → ℕ
last_at policy = policy.last

-- ---- one observation more, whatever was observed before

-- `since` is the idle moment that the policy keeps after the observation o
abbrev pub GivesSince : Policy → SharingObservation → Option ℕ → Type 0
GivesSince policy o since =
    (started : Started) (seen : List SharingObservation) → HasSeen started policy seen → since ≡ kept_since started (o ∷ seen)

-- `runs` says whether the policy runs after the observation o, if `since` is the idle moment that the policy keeps
abbrev pub GivesRunning : Policy → SharingObservation → Option ℕ → Bool → Type 0
GivesRunning policy o since runs =
    (started : Started) (seen : List SharingObservation) → HasSeen started policy seen → since ≡ kept_since started (o ∷ seen) →
    runs ≡ is_running started (o ∷ seen)

-- The moment of o is not before the last one, and the command is that of all observations; or it is before the last one, which the refusal
-- carries.
abbrev pub ObservesAfter : Started → List SharingObservation → SharingObservation → Result Command Backwards → Policy → Type 0
ObservesAfter started seen o (Ok command) new =
    (last_moment seen ≤ o.moment) × (command ≡ newest_command started (o ∷ seen)) × HasSeen started new (o ∷ seen)
ObservesAfter started seen o (Err backwards) new = (o.moment < last_moment seen) × (backwards.last ≡ last_moment seen)

-- the answer to the observation o, for every list of observations that leads to what the policy keeps
abbrev pub Observes : Policy → SharingObservation → Result Command Backwards → Policy → Type 0
Observes old o result new =
    (started : Started) (seen : List SharingObservation) → HasSeen started old seen → ObservesAfter started seen o result new

-- ---- when the policy acts next

-- the command at a later moment, if the number of subscribers is still that of the last observation o
abbrev pub command_at : Started → ℕ → SharingObservation → List SharingObservation → Command
command_at started now o seen = newest_command started (record { moment = now; count = o.count } ∷ o ∷ seen)

-- `next` is the first moment at which there is a command, if the number of subscribers does not change. Without such a moment there is
-- none.
abbrev pub ActsAt : Started → SharingObservation → List SharingObservation → Option ℕ → Type 0
ActsAt started o seen None = (now : ℕ) → o.moment ≤ now → now ≤ never → command_at started now o seen ≡ Keep
ActsAt started o seen (Some next) =
    (o.moment < next) × (command_at started next o seen ≢ Keep) × ((now : ℕ) → o.moment ≤ now → now < next → command_at started now o seen ≡ Keep)

-- the moment at which the policy acts next, for every list of observations that leads to what it keeps
abbrev pub ActsNext : Policy → Option ℕ → Type 0
ActsNext policy next = (started : Started) (o : SharingObservation) (seen : List SharingObservation) → HasSeen started policy (o ∷ seen) → ActsAt started o seen next

-- the time is at most that from the last moment to the next one, in milliseconds; there is no bound if there is no next one
abbrev pub SleepsTo : ℕ → Option ℕ → Option Duration → Type 0
SleepsTo last None most = most ≡ None
SleepsTo last (Some next) most = IfSome most (λ time. as_nanos time ≤ (next - last) * 1000000) × (most ≢ None)
