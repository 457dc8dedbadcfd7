use Rattle.std.proofs.Common.{subst}
use Rattle.flow_law.specs.laws.Laws.{RisesTo}
use Rattle.flow_containers.specs.Members.{Membership, member_numbers}
use Rattle.flow_containers.proofs.MembershipLemmas.{rises}
use Rattle.flow_containers.proofs.members.Members.len.Goals as goal

pub returns-clause-rising : goal.returns-clause-rising
returns-clause-rising g c = subst (λ (v : Membership _). RisesTo 0 (member_numbers v.members) v.last) c.self.view_is (rises c.self.inside)
