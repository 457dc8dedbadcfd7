use Rattle.std.proofs.Common.{◌≡◌, map}
use Rattle.serde_json.specs.View.{members_view}
use Rattle.script_chain_format.specs.Members.{are_among}
use Rattle.script_chain_format.proofs.reading.members.are_among.Given as goal

-- the members that are left pass if and only if all members do
abbrev pub invariant-loop-name : goal.invariant-loop-name
invariant-loop-name l =
    are_among (map (λ key. key.now) l.keys) (members_view l.name-iterator) ≡ are_among (map (λ key. key.now) l.keys) (members_view l.object.entries)
