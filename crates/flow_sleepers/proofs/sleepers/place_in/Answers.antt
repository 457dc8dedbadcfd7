use Rattle.std.proofs.Common.{inr, ap, sym, subst, arith, ◌∙◌}
use Rattle.std.proofs.lemmas.List.{length-map}
use Rattle.flow_sleepers.specs.Sleepers.{HasNumber, numbers_of}
use Rattle.flow_sleepers.proofs.Numbers.{numbers-insert, inserted}
use Rattle.flow_sleepers.proofs.sleepers.place_in.Goals as goal

pub returns-in-Ok-clause-adds : goal.returns-in-Ok-clause-adds
returns-in-Ok-clause-adds g c = inr (c.place_of-place.result, ap numbers_of c.in-Ok.ensures.items ∙ numbers-insert c.args.list.now.items c.place_of-place.result _)

pub returns-in-Ok-clause-found : goal.returns-in-Ok-clause-found
returns-in-Ok-clause-found g c =
    subst (λ ns. HasNumber ns c.place_of-place.result c.args.number) (sym (ap numbers_of c.in-Ok.ensures.items ∙ numbers-insert c.args.list.now.items c.place_of-place.result _))
    (inserted (numbers_of c.args.list.now.items) c.place_of-place.result c.args.number (omega (arith, length-map c.args.list.now.items (λ s. s.number), c.place_of-place.ensures)))
