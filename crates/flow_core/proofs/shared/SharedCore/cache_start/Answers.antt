use Rattle.std.proofs.Common.{length, ap, arith}
use Rattle.flow_law.specs.flow.Covering.{kept_start}
use Rattle.flow_law.proofs.CoveringLemmas.{least_position_bound}
use Rattle.flow_core.specs.SharedCore.{fields_of}
use Rattle.flow_core.proofs.shared.SharedCore.cache_start.Goals as goal

pub returns-clause-within : goal.returns-clause-within
returns-clause-within g c =
    let i = c.self.inside in
    let enough = c.self.invariant.enough in
    let reset_mark = c.self.invariant.reset_mark in
    let bound = least_position_bound (kept_start (fields_of i)) i.subscribers.list in
    let count = ap (λ core. core.appended) c.self.view_is in
    let held = ap (λ core. length core.held) c.self.view_is in (
      omega (arith, c.max.ensures, c.saturating_sub.ensures, c.emitted.ensures, enough, bound, count, held),
      omega (arith, c.max.ensures, c.saturating_sub.ensures, c.emitted.ensures, reset_mark, count),
    )
