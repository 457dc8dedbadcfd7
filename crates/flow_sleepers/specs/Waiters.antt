-- What contracts see of a thread that may sleep.
use Rattle.std.specs.Prelude.{◌≡◌, ◌≢◌}
use Rattle.flow_sleepers.specs.declared.waiter.ThreadWaiter.{ThreadWaiter}
use Rattle.flow_sleepers.specs.declared.waiter.Rest.TheVariants as rest

-- the thread has left its waker, or asks again
abbrev pub IsReadyToWait : {A : Type 0} → ThreadWaiter A → Type 0
IsReadyToWait w = w.rest ≢ rest.None

-- the thread asks again
abbrev pub AsksAgain : {A : Type 0} → ThreadWaiter A → Type 0
AsksAgain w = w.rest ≡ rest.Again
