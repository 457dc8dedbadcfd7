use Rattle.std.proofs.Common.{◌≡◌, ◌+◌, ◌-◌, length, drop, sym, ap, ◌∙◌, subst, arith}
use Rattle.flow_law.specs.flow.Standing.{StandsFor, least_position}
use Rattle.flow_law.specs.flow.Covering.{Covers, kept_start, kept_need}
use Rattle.flow_law.proofs.CoveringLemmas.{least_position_bound}
use Rattle.flow_law.proofs.HoldingLemmas.{tidy}
use Rattle.flow_core.specs.SharedCore.{window_of, fields_of, IsSound}
use Rattle.flow_core.proofs.SoundLemmas.{sound_trimmed}
use Rattle.flow_core.proofs.shared.SharedCore.trim.Goals as goal

pub least-needed-requires-clause-within : goal.least-needed-requires-clause-within
least-needed-requires-clause-within g c =
    let count = ap (λ core. core.appended) c.self.view_is in
    let window = c.self.invariant.window ∙ ap (λ core. window_of core.config) c.self.view_is in (
      omega (arith, c.cache_start.ensures.within, count),
      omega (arith, c.held_from.ensures.near, count, window),
    )

pub overflow_sub-count : goal.overflow_sub-count
overflow_sub-count g c =
    omega (arith, c.least-needed.ensures, least_position_bound c.cache_start.result c.self.inside.subscribers.list, c.cache_start.ensures.within, ap (λ core. core.appended) c.self.view_is)

pub invariant_of-self : goal.invariant_of-self
invariant_of-self g c =
    let i = c.self.inside in
    let need : c.least-needed.result ≡ kept_need (fields_of i) = c.least-needed.ensures ∙ sym (ap (λ core. least_position (kept_start core) i.subscribers.list) c.self.view_is ∙ ap (λ b. least_position b i.subscribers.list) (sym c.cache_start.ensures.start)) in
    subst (λ v. IsSound (record i { values = v })) (sym c.truncate_front.ensures)
    (sound_trimmed i (c.emitted.result - c.least-needed.result) c.self.invariant (ap (λ n. n - c.least-needed.result) c.emitted.ensures ∙ ap (λ n. i.subscribers.emitted - n) need))

pub returns : goal.returns
returns g c = λ s stands.
    let i = c.self.inside in
    let within : Covers (fields_of i) s = subst (λ k. Covers k s) (sym c.self.view_is) stands in
    let need : c.least-needed.result ≡ kept_need (fields_of i) = c.least-needed.ensures ∙ sym (ap (λ core. least_position (kept_start core) i.subscribers.list) c.self.view_is ∙ ap (λ b. least_position b i.subscribers.list) (sym c.cache_start.ensures.start)) in
    let reset_mark = c.self.invariant.reset_mark in
    let long = length i.values.items in
    let count : long + kept_need (fields_of i) - i.subscribers.emitted ≡ long - (c.emitted.result - c.least-needed.result) =
    omega (arith, need, c.emitted.ensures, least_position_bound (kept_start (fields_of i)) i.subscribers.list, reset_mark) in
    subst (λ v. StandsFor (fields_of (record i { values = v })) s) (sym c.truncate_front.ensures)
    (subst (λ k. StandsFor (record (fields_of i) { held = drop k i.values.items }) s) count (tidy (fields_of i) s within reset_mark))
