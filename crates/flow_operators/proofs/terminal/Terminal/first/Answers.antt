use Rattle.flow_operators.specs.Stopping.{StandsAfterFirst}
use Rattle.flow_operators.proofs.StoppingLemmas.{started-item}
use Rattle.flow_operators.proofs.terminal.Terminal.first.Goals as goal

pub returns-clause-stands : goal.returns-clause-stands
returns-clause-stands g c = started-item (λ m. g.Self.Cold.Reads c.args.self.now m) (λ m. g.Self.Cold.Reads c.rewind.new.self m) (λ m. g.Self.Cold.rest c.rewind.new.self m) (λ m. g.Self.Cold.whole c.args.self.now m) (λ m. g.Self.Cold.rest c.next_item.new.chain m) c.rewind.ensures.rest c.rewind.ensures.reads c.next_item.result StandsAfterFirst c.next_item.ensures.stands
