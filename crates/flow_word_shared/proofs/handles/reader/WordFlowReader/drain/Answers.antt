use Rattle.std.proofs.Common.{subst, Err}
use Rattle.flow_law.specs.declared.fault.FlowFault.{FlowFault}
use Rattle.flow_law.specs.flow.Draining.{DrainsBy}
use Rattle.flow_word_shared.specs.Answers.{WordFlowNexts}
use Rattle.flow_word_shared.specs.Handles.{WordFlowReaderOf}
use Rattle.flow_word_shared.proofs.handles.reader.WordFlowReader.drain.Goals as goal

pub returns-in-Err-clause-drained : goal.returns-in-Err-clause-drained
returns-in-Err-clause-drained g c =
    let drained = subst (λ f. DrainsBy (WordFlowNexts f.first) c.args.most c.self.inside.subscription c.args.values.now.items (Err c.in-Err._fault) c.drain.new.values.items c.drain.new.subscription)
    c.deref.ensures c.in-Err.ensures.drained in
    subst (λ (z : WordFlowReaderOf g.row.T.Denot × FlowFault). DrainsBy (WordFlowNexts z.0.flow.first) c.args.most z.0.subscription c.args.values.now.items (Err z.1) c.drain.new.values.items c.drain.new.subscription)
    (λ i. (c.self.view_is i, c.in-Err.ensures.refused i)) drained
