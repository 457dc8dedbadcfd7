use Rattle.std.specs.Prelude.{◌<◌}
use Rattle.json_places.proofs.places.Place.at.Given as goal

abbrev pub invariant-loop-byte : goal.invariant-loop-byte
invariant-loop-byte l = (0 < l.place.line) × (0 < l.place.column)
