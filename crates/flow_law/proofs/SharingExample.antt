-- A sharing that stops 100 milliseconds after its last subscriber left: one subscriber enters at 0 and leaves, another enters at 149
-- and leaves before 200, a third enters at 301.
use Rattle.std.proofs.Common.{◌≡◌, ℕ, List, [], ◌∷◌, Some, refl}
use Rattle.flow_law.specs.declared.sharing.Started.{Started}
use Rattle.flow_law.specs.declared.sharing.Started.TheVariants.{WhileSubscribed}
use Rattle.flow_law.specs.declared.sharing.Command.{Command}
use Rattle.flow_law.specs.declared.sharing.Command.TheVariants.{Start, Stop, StopAndReset, Keep}
use Rattle.flow_law.specs.declared.sharing.SharingObservation.{SharingObservation}
use Rattle.flow_law.specs.sharing.Sharing.{never, idle_since, newest_command}

-- every command, the newest one first
commands : Started → List SharingObservation → List Command
commands started [] = []
commands started (o ∷ seen) = newest_command started (o ∷ seen) ∷ commands started seen

observed : ℕ → ℕ → SharingObservation
observed moment count = record { moment = moment; count = count }

up_to_200 : List SharingObservation
up_to_200 = observed 200 0 ∷ observed 149 1 ∷ observed 149 0 ∷ observed 50 0 ∷ observed 0 1 ∷ []

all : List SharingObservation
all = observed 301 1 ∷ observed 300 0 ∷ up_to_200

stops_and_starts : commands (WhileSubscribed 100 never) all ≡ Start ∷ Stop ∷ Keep ∷ Keep ∷ Keep ∷ Keep ∷ Start ∷ []
unfolding commands all up_to_200 observed
stops_and_starts = refl

counts_from_the_first_zero : idle_since (observed 149 0 ∷ observed 50 0 ∷ observed 0 1 ∷ []) ≡ Some 50
unfolding observed
counts_from_the_first_zero = refl

-- The flow is reset 50 milliseconds after the stop: the subscriber of 0 has left at 10, and another one enters at 161.
expires : commands (WhileSubscribed 100 50) (observed 161 1 ∷ observed 161 0 ∷ observed 160 0 ∷ observed 159 0 ∷ observed 110 0 ∷ observed 109 0 ∷ observed 10 0 ∷ observed 0 1 ∷ [])
    ≡ Start ∷ Keep ∷ StopAndReset ∷ Keep ∷ Stop ∷ Keep ∷ Keep ∷ Start ∷ []
unfolding commands observed
expires = refl

-- without an observation between, a late subscriber starts the sharing, and the flow is not reset
expires_unseen : commands (WhileSubscribed 100 50) (observed 300 1 ∷ observed 110 0 ∷ observed 10 0 ∷ observed 0 1 ∷ []) ≡ Start ∷ Stop ∷ Keep ∷ Start ∷ []
unfolding commands observed
expires_unseen = refl

-- a stop at once and an expiry at once
expires_at_once : commands (WhileSubscribed 0 0) (observed 1 0 ∷ observed 0 1 ∷ []) ≡ StopAndReset ∷ Start ∷ []
unfolding commands observed
expires_at_once = refl

-- the stop and the expiry are added up without a bound
last_but_one : ℕ
last_but_one = 18446744073709551614

at_the_end : List SharingObservation
at_the_end = observed never 0 ∷ observed 0 0 ∷ observed 0 1 ∷ []

adds_without_bound : (commands (WhileSubscribed last_but_one 1) at_the_end ≡ StopAndReset ∷ Keep ∷ Start ∷ []) × (commands (WhileSubscribed last_but_one 2) at_the_end ≡ Stop ∷ Keep ∷ Start ∷ [])
unfolding commands observed last_but_one at_the_end
adds_without_bound = (refl, refl)
