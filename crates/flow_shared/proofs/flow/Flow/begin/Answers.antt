use Rattle.std.proofs.Common.{sym, subst}
use Rattle.flow_shared.proofs.Attending.{begins}
use Rattle.flow_shared.proofs.flow.Flow.begin.Goals as goal

pub new-requires-2 : goal.new-requires-2
new-requires-2 g c =
    let core = g.S.FlowCore in
    begins core.sleeping core.first core.stands_as c.new.result (subst (λ k. core.kind.MayBegin (core.first k)) (sym c.new.ensures.core) c.requires.may)
    (subst (λ k. core.stands_as k (core.first k)) (sym c.new.ensures.core) c.requires.stands) c.new.ensures.alone
