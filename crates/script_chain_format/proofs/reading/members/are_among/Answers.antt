use Rattle.std.proofs.Common.{◌≡◌, Bool, true, false, ◌&&◌, List, Bor, ℕ, map, string_bytes, sym, ap, ◌∙◌}
use Rattle.std.specs.List.{list_any}
use Rattle.std.specs.Str.{bytes_eq}
use Rattle.serde_json.specs.View.{members_view}
use Rattle.script_chain_format.specs.Members.{are_among}
use Rattle.script_chain_format.proofs.ListLemmas.{any-map}
use Rattle.script_chain_format.proofs.reading.members.are_among.Goals as goal

pub returns-then-not-is_among : goal.returns-then-not-is_among
returns-then-not-is_among c =
    let keys = map (λ key. key.now) c.args.keys.now in
    let left = members_view c.next.new.self in
    let test = c.if-not-is_among.ensures ∙ any-map (bytes_eq c.as_str.result.now) (λ key. key.now) c.args.keys.now ∙ ap (λ n. list_any (bytes_eq n) keys) c.as_str.ensures.value in
    ap (λ b. b && are_among keys left) test ∙ ap (λ l. are_among keys (members_view l)) (sym c.in-Some.ensures.steps) ∙ c.loop-name.invariant

pub loop-name-preserved : goal.loop-name-preserved
loop-name-preserved c =
    let keys = map (λ key. key.now) c.args.keys.now in
    let left = members_view c.next.new.self in
    let test = c.if-not-is_among.ensures ∙ any-map (bytes_eq c.as_str.result.now) (λ key. key.now) c.args.keys.now ∙ ap (λ n. list_any (bytes_eq n) keys) c.as_str.ensures.value in
    ap (λ b. b && are_among keys left) test ∙ ap (λ l. are_among keys (members_view l)) (sym c.in-Some.ensures.steps) ∙ c.loop-name.invariant
