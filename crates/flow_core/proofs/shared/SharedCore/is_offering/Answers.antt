use Rattle.std.proofs.Common.{◌≡◌, ◌∙◌, ◌&&◌, ◌==◌, ◌+◌, true, sym, ap, subst}
use Rattle.flow_law.specs.flow.Covering.{Covers}
use Rattle.flow_containers.specs.Subscribers.{is_full}
use Rattle.flow_core.specs.SharedCore.{fields_of, kept_full}
use Rattle.flow_containers.proofs.QueueLemmas.{equal}
use Rattle.flow_core.proofs.EmissionLemmas.{offering_is}
use Rattle.flow_core.proofs.shared.SharedCore.is_offering.Goals as goal

pub returns-then-capacity-eq0-clause-shown : goal.returns-then-capacity-eq0-clause-shown
returns-then-capacity-eq0-clause-shown g c = λ s stands.
    let i = c.self.inside in
    let within : Covers (fields_of i) s = subst (λ k. Covers k s) (sym c.self.view_is) stands in
    let none : (i.config.replay + i.config.extra == 0) ≡ true =
    equal (i.config.replay + i.config.extra) 0 (ap (λ core. core.config.replay + core.config.extra) c.self.view_is ∙ sym c.capacity.ensures ∙ c.if-capacity-eq0.true) in
    c.is_blocked.ensures ∙ ap (λ w. is_full w i.subscribers.emitted i.subscribers.list) c.self.invariant.window
    ∙ sym (ap (λ t. t && kept_full (fields_of i)) none)
    ∙ offering_is (fields_of i) s i.subscribers.floor within c.self.invariant.within
