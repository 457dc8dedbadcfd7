use Rattle.std.proofs.Common.{◌≡◌, ◌∙◌, ◌+◌, ◌-◌, true, false, if◌then◌else◌, length, sym, ap, arith}
use Rattle.flow_law.specs.flow.SharedFlow.{is_offering, cache_start}
use Rattle.flow_law.specs.flow.Covering.{kept_start}
use Rattle.flow_law.proofs.CoveringLemmas.{least_position_bound}
use Rattle.flow_law.proofs.HoldingLemmas.{start_is}
use Rattle.flow_core.specs.SharedCore.{window_of, fields_of, kept_full}
use Rattle.flow_core.proofs.RingLemmas.{offered_least}
use Rattle.flow_core.proofs.shared.SharedCore.entry.Goals as goal

pub returns-then-is_offering-clause-within : goal.returns-then-is_offering-clause-within
returns-then-is_offering-clause-within g c =
    let i = c.self.inside in
    let own = rw c.if-is_offering.true at c.is_offering.ensures.own in
    let none = ap (λ core. core.config.replay + core.config.extra) c.self.view_is ∙ own.0 in
    let full : kept_full (fields_of i) ≡ true = ap kept_full c.self.view_is ∙ own.1 in
    let least = offered_least i.subscribers.floor i.subscribers.emitted (window_of i.config) (kept_start (fields_of i)) i.subscribers.list c.self.invariant.within (omega (arith, none)) full in
    let need = ap (λ core. Rattle.flow_law.specs.flow.Covering.kept_need core) c.self.view_is in
    let count = ap (λ core. core.appended) c.self.view_is in (
      omega (arith, c.saturating_sub.ensures, c.emitted.ensures, least, need),
      omega (arith, c.saturating_sub.ensures, c.emitted.ensures, count),
    )

pub returns-else-is_offering-clause-within : goal.returns-else-is_offering-clause-within
returns-else-is_offering-clause-within g c = (
  omega (arith, c.cache_start.ensures.start, least_position_bound (kept_start c.args.self.now) c.args.self.now.subscribers),
  c.cache_start.ensures.within.1,
)

pub returns-then-is_offering-clause-shown : goal.returns-then-is_offering-clause-shown
returns-then-is_offering-clause-shown g c = λ s stands.
    let offered : is_offering s ≡ true = sym (c.is_offering.ensures.shown s stands) ∙ c.if-is_offering.true in
    c.saturating_sub.ensures ∙ ap (λ n. n - 1) (c.emitted.ensures ∙ ap (λ core. core.appended) c.self.view_is ∙ stands.appended)
    ∙ sym (ap (λ t. if t then length s.emitted - 1 else cache_start s) offered)

pub returns-else-is_offering-clause-shown : goal.returns-else-is_offering-clause-shown
returns-else-is_offering-clause-shown g c = λ s stands.
    let free : is_offering s ≡ false = sym (c.is_offering.ensures.shown s stands) ∙ c.if-is_offering.false in
    c.cache_start.ensures.start ∙ start_is c.args.self.now s stands ∙ sym (ap (λ t. if t then length s.emitted - 1 else cache_start s) free)
