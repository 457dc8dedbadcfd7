use Rattle.std.proofs.Common.{◌≡◌, ◌+◌, ◌-◌, ◌<◌, ◌≤◌, ◌∷◌, ◌++◌, [], true, length, sym, ap, ◌∙◌, subst, arith}
use Rattle.circular_buffer.specs.Buffer.{buffer, keep_last}
use Rattle.flow_law.specs.flow.SharedFlow.{raise_to}
use Rattle.flow_law.specs.flow.Covering.{kept_start}
use Rattle.flow_law.proofs.CoveringLemmas.{least_position-raise_to}
use Rattle.flow_core.specs.SharedCore.{window_of, kept_full, fields_of, IsSound}
use Rattle.flow_core.proofs.RingLemmas.{within-raised, full_long}
use Rattle.flow_core.proofs.SoundLemmas.{sound_emitted}
use Rattle.flow_core.proofs.shared.SharedCore.push_dropping.Goals as goal

pub add_dropping-requires-clause-full : goal.add_dropping-requires-clause-full
add_dropping-requires-clause-full g c =
    let i = c.self.inside in
    subst (λ w. w ≤ i.subscribers.emitted) (sym c.self.invariant.window)
    (full_long (window_of i.config) i.subscribers.emitted i.subscribers.list (omega arith) (ap kept_full c.self.view_is ∙ c.requires.full.0))

pub invariant_of-self : goal.invariant_of-self
invariant_of-self g c =
    let i = c.self.inside in
    let window = window_of i.config in
    let full : kept_full (fields_of i) ≡ true = ap kept_full c.self.view_is ∙ c.requires.full.0 in
    let long = full_long window i.subscribers.emitted i.subscribers.list (omega arith) full in
    let floor = i.subscribers.emitted + 1 - window in
    let within = within-raised i.subscribers.floor i.subscribers.emitted window i.subscribers.list c.self.invariant.within (omega arith) long in
    let issued : i.subscribers.emitted + length i.queue < i.issued =
    omega (arith, c.requires.issued, ap (λ core. core.appended) c.self.view_is, ap (λ core. length core.queue) c.self.view_is, ap (λ core. core.issued) c.self.view_is) in
    let sound = sound_emitted i c.args.value c.args.number (raise_to floor i.subscribers.list) floor c.self.invariant within (omega arith)
    (least_position-raise_to (kept_start (fields_of i)) floor i.subscribers.list) issued in
    let standing = c.add_dropping.ensures
    ∙ ap (λ w. record i.subscribers { list = raise_to (i.subscribers.emitted + 1 - w) i.subscribers.list; emitted = i.subscribers.emitted + 1; floor = i.subscribers.emitted + 1 - w }) c.self.invariant.window in
    subst (λ b. IsSound (record i { values = b; newest = c.args.number; subscribers = c.add_dropping.new.self })) (sym c.push_back-oldest.ensures.items)
    (subst (λ u. IsSound (record i { values = buffer (keep_last i.values.capacity (i.values.items ++ c.args.value ∷ [])) i.values.capacity; newest = c.args.number; subscribers = u })) (sym standing) sound)
