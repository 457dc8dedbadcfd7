use Rattle.std.proofs.Common.{map, string_bytes, ◌++◌, codes, rules}
use Rattle.record_judging.specs.Verdicts.{name_of}
use Rattle.record_judging.proofs.Telling.{part_added}
use Rattle.record_judging.proofs.order.write_named.Goals as goal

pub returns : goal.returns
returns c =
    let rest = c.args.words.now ++ codes "\n" in
    part_added c.args.number c.name.result.now (name_of (map string_bytes c.args.sheet.now.names.items) c.args.caller) (string_bytes c.args.out.now) (string_bytes c.writeln.new.self) rest c.name.ensures (search rules)
