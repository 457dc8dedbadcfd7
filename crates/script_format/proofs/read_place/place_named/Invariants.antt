use Rattle.std.proofs.Common.{◌≡◌, drop}
use Rattle.std.specs.List.{position_from}
use Rattle.script_format.specs.Actions.{heads_of}
use Rattle.script_format.specs.Checks.{is_named, place_named}
use Rattle.script_format.proofs.read_place.place_named.Given as goal

-- no flow before has the name
abbrev pub invariant-loop-place : goal.invariant-loop-place
invariant-loop-place l = position_from (λ flow. is_named l.name flow) l.place (heads_of (drop l.place l.flows)) ≡ place_named l.name (heads_of l.flows)
