use Rattle.std.proofs.Common.{string_bytes, ◌++◌, codes, decimal, rules}
use Rattle.record_judging.proofs.Telling.{moment_told}
use Rattle.record_judging.proofs.conflict.Conflict.lines.Goals as goal

pub returns : goal.returns
returns c =
    let conflict = c.args.self.now in
    let rest = decimal conflict.from ++ (codes " on there were:\n" ++ string_bytes c.write_all.new.out) in
    moment_told conflict.moment (string_bytes c.new-lines.result) (string_bytes c.write.new.self) rest c.new-lines.ensures.bytes (search rules)
