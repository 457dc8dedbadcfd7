use Rattle.std.proofs.Common.{true, Ok, Err, Some, None}
use Rattle.std.specs.Fn.{FnReturnsAt}
use Rattle.flow_operators.specs.Stopping.{StandsAfterFound}
use Rattle.flow_operators.proofs.StoppingLemmas.{started-some}
use Rattle.flow_operators.proofs.TerminalLemmas.{any-follows}
use Rattle.flow_operators.proofs.terminal.Terminal.any.Goals as goal

pub returns-in-Ok-Some-clause-tells : goal.returns-in-Ok-Some-clause-tells
returns-in-Ok-Some-clause-tells g c = λ m p r d. any-follows p (g.Self.Cold.whole c.args.self.now m) (g.Self.Cold.rest c.rewind.new.self m) (Ok (Some _)) (c.rewind.ensures.rest m) (rw c.in-Ok-Some.field-0-is at (c.in-Ok-Some.ensures.finds m p (c.rewind.ensures.reads m r) d))

pub returns-in-Ok-None-clause-tells : goal.returns-in-Ok-None-clause-tells
returns-in-Ok-None-clause-tells g c = λ m p r d. any-follows p (g.Self.Cold.whole c.args.self.now m) (g.Self.Cold.rest c.rewind.new.self m) (Ok None) (c.rewind.ensures.rest m) (rw c.in-Ok-None.field-0-is at (c.in-Ok-None.ensures.finds m p (c.rewind.ensures.reads m r) d))

pub returns-clause-tells : goal.returns-clause-tells
returns-clause-tells g c = λ m p r d. any-follows p (g.Self.Cold.whole c.args.self.now m) (g.Self.Cold.rest c.rewind.new.self m) (Err c.in-Err.fault) (c.rewind.ensures.rest m) (c.in-Err.ensures.finds m p (c.rewind.ensures.reads m r) d)

pub returns-in-Ok-Some-clause-stands : goal.returns-in-Ok-Some-clause-stands
returns-in-Ok-Some-clause-stands g c = started-some (λ m. g.Self.Cold.Reads c.args.self.now m) (λ m. g.Self.Cold.Reads c.rewind.new.self m) (λ m. g.Self.Cold.rest c.rewind.new.self m) (λ m. g.Self.Cold.whole c.args.self.now m) (λ m. g.Self.Cold.rest c.find.new.chain m) c.rewind.ensures.rest c.rewind.ensures.reads _ _ (StandsAfterFound (λ x b. FnReturnsAt g.F.Fn c.args.test x b) true) c.in-Ok-Some.field-0-is c.in-Ok-Some.ensures.stands
