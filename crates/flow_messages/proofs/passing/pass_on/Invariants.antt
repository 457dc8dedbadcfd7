use Rattle.std.proofs.Common.{Some}
use Rattle.flow_messages.proofs.passing.pass_on.Given as goal

abbrev pub ghosts-pass_between : goal.ghosts-pass_between
ghosts-pass_between g a = record { id = Some a.reader.flow.table_id; said = Some a.value }
