use Rattle.flow_law.specs.declared.chain.End.TheVariants.{Failed}
use Rattle.flow_operators.specs.Stopping.{StandsAfterFailed}
use Rattle.flow_operators.proofs.StoppingLemmas.{started-fault}
use Rattle.flow_operators.proofs.terminal.Terminal.fold.Goals as goal

pub returns-clause-folds : goal.returns-clause-folds
returns-clause-folds g c = λ m f r d. let folds = rw (c.rewind.ensures.rest m) at (c.fold_rest.ensures.folds m f (c.rewind.ensures.reads m r) d) in folds

pub returns-clause-stands : goal.returns-clause-stands
returns-clause-stands g c = started-fault (λ m. g.Self.Cold.Reads c.args.self.now m) (λ m. g.Self.Cold.Reads c.rewind.new.self m) (λ m. g.Self.Cold.rest c.rewind.new.self m) (λ m. g.Self.Cold.whole c.args.self.now m) (λ m. g.Self.Cold.rest c.fold_rest.new.chain m) c.rewind.ensures.rest c.rewind.ensures.reads c.fold_rest.result
    (λ fault. g.Self.Cold.IsOver c.fold_rest.new.chain × g.Self.Cold.HasAnswered c.fold_rest.new.chain (Failed fault)) (λ fault before after. StandsAfterFailed (goal.F-post g c.args.closure) fault c.args.initial before after) c.fold_rest.ensures.stands
