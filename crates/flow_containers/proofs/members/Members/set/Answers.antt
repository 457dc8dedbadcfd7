use Rattle.std.proofs.Common.{sym}
use Rattle.flow_containers.proofs.MemberLemmas.{with_row_absent}
use Rattle.flow_containers.proofs.members.Members.set.Goals as goal

pub returns-in_default-clause-members : goal.returns-in_default-clause-members
returns-in_default-clause-members g c = sym (with_row_absent c.args.number c.args.row c.args.self.now.members (sym c.in_default.ensures.value))
