use Rattle.std.proofs.Common.{inr, sym, ap, subst}
use Rattle.std.specs.Prelude.{Contains}
use Rattle.std.proofs.Math.Seq.{map-set_same}
use Rattle.flow_sleepers.specs.declared.sleepers.Sleeper.{Sleeper}
use Rattle.flow_sleepers.specs.Sleepers.{AddsSleeper, numbers_of}
use Rattle.flow_sleepers.proofs.sleepers.Sleepers.sleep.Goals as goal

pub returns-clause-adds : goal.returns-clause-adds
returns-clause-adds g c =
    let left : Sleeper g.row.A.Denot = record { number = c.index_mut-sleeper.result.now.number; wakers = c.leave_waker.new.wakers } in
    let same = map-set_same (λ (s : Sleeper g.row.A.Denot). s.number) c.place_in.new.list.items c.in-Some.place left c.index_mut-sleeper.result.now (ap (λ (s : Sleeper g.row.A.Denot). s.number) c.index_mut-sleeper.ensures.value) in
    subst (λ old. AddsSleeper c.args.number old (numbers_of (Rattle.std.specs.Vec.with_item c.place_in.new.list c.in-Some.place left).items)) c.self.view_is
    (subst (AddsSleeper c.args.number (numbers_of c.self.inside.list.items)) (sym same) c.place_in.ensures.adds)

pub returns-clause-listed : goal.returns-clause-listed
returns-clause-listed g c =
    let left : Sleeper g.row.A.Denot = record { number = c.index_mut-sleeper.result.now.number; wakers = c.leave_waker.new.wakers } in
    let same = map-set_same (λ (s : Sleeper g.row.A.Denot). s.number) c.place_in.new.list.items c.in-Some.place left c.index_mut-sleeper.result.now (ap (λ (s : Sleeper g.row.A.Denot). s.number) c.index_mut-sleeper.ensures.value) in
    inr (subst (λ ns. Contains ns c.args.number) (sym same) (c.in-Some.place, c.in-Some.ensures.found.0, c.in-Some.ensures.found.1))
