-- A sharing that is restarted after a fault of its chain.
use Rattle.flow_law.specs.sharing.SharingTurn.{SharingState, at_rest}

-- the first state of a sharing, with a policy that runs as it did
abbrev pub restarted : {T : Type 0} → SharingState T → SharingState T
restarted s = record at_rest { runs = s.runs }
