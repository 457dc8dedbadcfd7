use Rattle.std.proofs.Common.{true}
use Rattle.std.specs.Fn.{FnReturnsAt}
use Rattle.flow_operators.specs.Stopping.{StandsAfterFound}
use Rattle.flow_operators.proofs.StoppingLemmas.{started-item}
use Rattle.flow_operators.proofs.terminal.Terminal.first_where.Goals as goal

pub returns-clause-finds : goal.returns-clause-finds
returns-clause-finds g c = λ m p r d. let finds = rw (c.rewind.ensures.rest m) at (c.find.ensures.finds m p (c.rewind.ensures.reads m r) d) in finds

pub returns-clause-stands : goal.returns-clause-stands
returns-clause-stands g c = started-item (λ m. g.Self.Cold.Reads c.args.self.now m) (λ m. g.Self.Cold.Reads c.rewind.new.self m) (λ m. g.Self.Cold.rest c.rewind.new.self m) (λ m. g.Self.Cold.whole c.args.self.now m) (λ m. g.Self.Cold.rest c.find.new.chain m) c.rewind.ensures.rest c.rewind.ensures.reads c.find.result (StandsAfterFound (λ x b. FnReturnsAt g.F.Fn c.args.test x b) true) c.find.ensures.stands
