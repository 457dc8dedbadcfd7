-- What a shared core keeps about a subscriber, and how that changes. No public clause cites this module.
use Rattle.std.specs.Prelude.{ℕ, List}
use Rattle.flow_containers.specs.declared.members.enroll.Row.{Row}

module _ {T A : Type 0} where
  -- the subscriber at another position
  abbrev pub moved : ℕ → Row T A → Row T A
  moved position row = record row { position = position }

  -- the subscriber with these own values left
  abbrev pub with_own_left : List T → Row T A → Row T A
  with_own_left own row = record row { own = own }
