use Rattle.std.proofs.Common.{filter, ap, ◌∙◌, rules}
use Rattle.std.specs.Prelude.{nat_le}
use Rattle.std.proofs.lemmas.Fn.{filter_same}
use Rattle.flow_sleepers.specs.Sleepers.{numbers_of}
use Rattle.flow_sleepers.proofs.Numbers.{numbers-at_least}
use Rattle.flow_sleepers.proofs.sleepers.Sleepers.wake_below.Goals as goal

pub returns : goal.returns
returns g c =
    let number = c.args.number in
    let kept = filter_same _ (λ s. nat_le number s.number) _ (λ x b q called. search rules) c.self.inside.list.items c.retain.new.self.items c.retain.ensures.filtered in
    ap numbers_of kept ∙ numbers-at_least number c.self.inside.list.items ∙ ap (filter (λ k. nat_le number k)) c.self.view_is
