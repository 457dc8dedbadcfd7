-- When a sharing runs (`SharingStarted`), by all observations that were accepted, the newest one first.
-- Begin with `idle_since`, `is_running` and `is_expired`. The key fact is `LawIdleSince`: it says which moment `idle_since` is.
use Rattle.std.specs.Prelude.{◌≡◌, ◌↔◌, ℕ, ◌+◌, ◌-◌, ◌<◌, ◌&&◌, ◌||◌, ◌==◌, Bool, true, false, not, nat_lt, nat_le, if◌then◌else◌, List, [], ◌∷◌, ◌++◌, Option, Some, None}
use Rattle.std.specs.List.{AllByRecursion, list_any}
use Rattle.flow_law.specs.declared.sharing.Started.{Started}
use Rattle.flow_law.specs.declared.sharing.Started.TheVariants.{Eagerly, Lazily, WhileSubscribed}
use Rattle.flow_law.specs.declared.sharing.Command.{Command}
use Rattle.flow_law.specs.declared.sharing.Command.TheVariants.{Start, Stop, StopAndReset, Keep}
use Rattle.flow_law.specs.declared.sharing.SharingObservation.{SharingObservation}

-- the `stop` of a sharing that never stops, or the `expire` of one that never resets its flow
abbrev pub never : ℕ
never = 18446744073709551615

-- ---- what the observations say

-- the observation counted at least one subscriber
abbrev pub has_subscribers : SharingObservation → Bool
has_subscribers o = nat_lt 0 o.count

-- the moment of the newest observation, 0 before the first one
abbrev pub last_moment : List SharingObservation → ℕ
last_moment [] = 0
last_moment (o ∷ seen) = o.moment

-- the newest observation had subscribers
abbrev pub is_subscribed : List SharingObservation → Bool
is_subscribed [] = false
is_subscribed (o ∷ seen) = has_subscribers o

-- the moment of the first of the zero counts at the end, if they follow a positive count
abbrev pub idle_since : List SharingObservation → Option ℕ
idle_since [] = None
idle_since (o ∷ seen) = if has_subscribers o then None else (if is_subscribed seen then Some o.moment else idle_since seen)

-- ---- when it runs

-- at the moment `now` the stop is not due yet, by the moment since which the counts are zero
abbrev pub is_before_stop : ℕ → ℕ → Option ℕ → Bool
is_before_stop stop now None = false
is_before_stop stop now (Some since) = (stop == never) || nat_lt (now - since) stop

-- a sharing with this policy runs after these observations
abbrev pub is_running : Started → List SharingObservation → Bool
is_running started [] = false
is_running Eagerly (o ∷ seen) = true
is_running Lazily (o ∷ seen) = list_any has_subscribers (o ∷ seen)
is_running (WhileSubscribed stop expire) (o ∷ seen) = has_subscribers o || is_before_stop stop o.moment (idle_since (o ∷ seen))

-- ---- when the flow is reset

-- at the moment `now` the stop and the expiry after it have passed, by the moment since which the counts are zero
abbrev pub is_past_expiry : Started → ℕ → Option ℕ → Bool
is_past_expiry (WhileSubscribed stop expire) now (Some since) = not (stop == never) && (not (expire == never) && nat_le (stop + expire) (now - since))
is_past_expiry (WhileSubscribed stop expire) now None = false
is_past_expiry Eagerly now since = false
is_past_expiry Lazily now since = false

-- the reset is due after these observations
abbrev pub is_expired : Started → List SharingObservation → Bool
is_expired started seen = is_past_expiry started (last_moment seen) (idle_since seen)

-- ---- the command

-- the command, by whether the sharing ran before and runs now, and whether the reset was due before and is due now
abbrev pub command_of : Bool → Bool → Bool → Bool → Command
command_of false true was_expired expired = Start
command_of ran runs false true = StopAndReset
command_of true false was_expired false = Stop
command_of ran runs was_expired expired = Keep

-- the command of the newest observation
abbrev pub newest_command : Started → List SharingObservation → Command
newest_command started [] = Keep
newest_command started (o ∷ seen) =
    command_of (is_running started seen) (is_running started (o ∷ seen)) (is_expired started seen) (is_expired started (o ∷ seen))

-- whether the sharing runs after a command, by whether it ran before
abbrev pub runs_after : Command → Bool → Bool
runs_after Start ran = true
runs_after Stop ran = false
runs_after StopAndReset ran = false
runs_after Keep ran = ran

-- ---- which moment `idle_since` is

-- The counts at the end are zero, the first of them at this moment, and the count before them is positive.
pub record IsIdleSince (moment : ℕ) (seen : List SharingObservation) : Type 0 where
  pub later : List SharingObservation
  pub first : SharingObservation
  pub positive : SharingObservation
  pub older : List SharingObservation
  pub order : seen ≡ later ++ first ∷ positive ∷ older
  pub later_zero : AllByRecursion (λ (o : SharingObservation). o.count ≡ 0) later
  pub first_zero : first.count ≡ 0
  pub was_positive : 0 < positive.count
  pub at_first : first.moment ≡ moment

-- `idle_since` is the first moment of the zero counts at the end that follow a positive count, and there is none without such counts
abbrev pub LawIdleSince : Type 0
LawIdleSince = (seen : List SharingObservation) (moment : ℕ) → (idle_since seen ≡ Some moment) ↔ IsIdleSince moment seen
