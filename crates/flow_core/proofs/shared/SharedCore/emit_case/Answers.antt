use Rattle.std.proofs.Common.{◌≡◌, ◌∙◌, ◌+◌, ◌<◌, ◌≤◌, false, length, sym, ap, arith}
use Rattle.flow_law.specs.flow.SharedFlow.{is_blocked, capacity}
use Rattle.flow_law.specs.flow.EmitRule.{when_blocked}
use Rattle.flow_core.proofs.CallLemmas.{in_open, in_offers, in_blocked}
use Rattle.flow_core.proofs.shared.SharedCore.emit_case.Goals as goal

pub returns-then-capacity-gt0-clause-shown : goal.returns-then-capacity-gt0-clause-shown
returns-then-capacity-gt0-clause-shown g c = λ s stands.
    let free : is_blocked s ≡ false = sym (c.is_blocked.ensures.shown s stands) ∙ c.if-not-is_blocked.true in
    let room : 0 < capacity s = omega (arith, ap (λ config. config.replay + config.extra) stands.config) in
    in_open s free room

pub returns-then-not-is_blocked-clause-shown : goal.returns-then-not-is_blocked-clause-shown
returns-then-not-is_blocked-clause-shown g c = λ s stands.
    let free : is_blocked s ≡ false = sym (c.is_blocked.ensures.shown s stands) ∙ c.if-not-is_blocked.true in
    let count : length c.self.inside.subscribers.list ≡ length s.subscribers = ap (λ core. length core.subscribers) c.self.view_is ∙ ap length stands.subscribers in
    let none : capacity s ≤ 0 = omega (arith, ap (λ config. config.replay + config.extra) stands.config) in
    in_offers s (omega (arith, count)) free none

pub returns-in-Suspend-clause-shown : goal.returns-in-Suspend-clause-shown
returns-in-Suspend-clause-shown g c = λ s stands.
    ap when_blocked (sym c.in-Suspend.is ∙ ap (λ core. core.config.overflow) c.self.view_is ∙ ap (λ config. config.overflow) stands.config) ∙ in_blocked s (sym (c.is_blocked.ensures.shown s stands) ∙ c.if-not-is_blocked.false)

pub returns-in-DropLatest-clause-shown : goal.returns-in-DropLatest-clause-shown
returns-in-DropLatest-clause-shown g c = λ s stands.
    ap when_blocked (sym c.in-DropLatest.is ∙ ap (λ core. core.config.overflow) c.self.view_is ∙ ap (λ config. config.overflow) stands.config) ∙ in_blocked s (sym (c.is_blocked.ensures.shown s stands) ∙ c.if-not-is_blocked.false)

pub returns-in-DropLatest-clause-found : goal.returns-in-DropLatest-clause-found
returns-in-DropLatest-clause-found g c = tt

pub returns-in-DropOldest-clause-shown : goal.returns-in-DropOldest-clause-shown
returns-in-DropOldest-clause-shown g c = λ s stands.
    ap when_blocked (sym c.in-DropOldest.is ∙ ap (λ core. core.config.overflow) c.self.view_is ∙ ap (λ config. config.overflow) stands.config) ∙ in_blocked s (sym (c.is_blocked.ensures.shown s stands) ∙ c.if-not-is_blocked.false)
