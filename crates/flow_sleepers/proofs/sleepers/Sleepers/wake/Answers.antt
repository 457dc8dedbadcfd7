use Rattle.std.proofs.Common.{◌==◌, not, filter, ap, ◌∙◌, rules}
use Rattle.std.proofs.lemmas.Fn.{filter_same}
use Rattle.flow_sleepers.specs.Sleepers.{numbers_of}
use Rattle.flow_sleepers.proofs.Numbers.{numbers-filter}
use Rattle.flow_sleepers.proofs.sleepers.Sleepers.wake.Goals as goal

pub returns : goal.returns
returns g c =
    let number = c.args.number in
    let kept = filter_same _ (λ s. not (s.number == number)) _ (λ x b q called. search rules) c.self.inside.list.items c.retain.new.self.items c.retain.ensures.filtered in
    ap numbers_of kept ∙ numbers-filter number c.self.inside.list.items ∙ ap (filter (λ k. not (k == number))) c.self.view_is
