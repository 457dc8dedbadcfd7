use Rattle.std.proofs.Common.{◌≡◌, ◌+◌, ◌<◌, ◌∷◌, ◌++◌, [], false, length, sym, ap, ◌∙◌, subst, arith}
use Rattle.circular_buffer.specs.Buffer.{buffer, keep_last}
use Rattle.flow_core.specs.SharedCore.{window_of, kept_full, fields_of, IsSound}
use Rattle.flow_core.proofs.RingLemmas.{within-more}
use Rattle.flow_core.proofs.SoundLemmas.{sound_emitted}
use Rattle.flow_core.proofs.shared.SharedCore.push.Goals as goal

pub invariant_of-self : goal.invariant_of-self
invariant_of-self g c =
    let i = c.self.inside in
    let free : kept_full (fields_of i) ≡ false = ap kept_full c.self.view_is ∙ c.requires.free in
    let within = within-more i.subscribers.floor i.subscribers.emitted (window_of i.config) i.subscribers.list c.self.invariant.within free in
    let issued : i.subscribers.emitted + length i.queue < i.issued =
    omega (arith, c.requires.issued, ap (λ core. core.appended) c.self.view_is, ap (λ core. length core.queue) c.self.view_is, ap (λ core. core.issued) c.self.view_is) in
    let low = c.self.invariant.floor in
    let sound = sound_emitted i c.args.value c.args.number i.subscribers.list i.subscribers.floor c.self.invariant within (omega (arith, low)) (omega arith) issued in
    subst (λ b. IsSound (record i { values = b; newest = c.args.number; subscribers = c.add.new.self })) (sym c.push_back-oldest.ensures.items)
    (subst (λ u. IsSound (record i { values = buffer (keep_last i.values.capacity (i.values.items ++ c.args.value ∷ [])) i.values.capacity; newest = c.args.number; subscribers = u })) (sym c.add.ensures) sound)
