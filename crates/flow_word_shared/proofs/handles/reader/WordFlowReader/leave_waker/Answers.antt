use Rattle.std.proofs.Common.{sym, ap, ◌∙◌, subst}
use Rattle.std.specs.Arc.{arc_value}
use Rattle.flow_law.specs.history.Handles.{read_by}
use Rattle.flow_law.specs.flow.SharedHistory.{shared_flow}
use Rattle.flow_word.specs.Receiving.{FindsNone}
use Rattle.flow_word_shared.specs.Handles.{WordFlowReaderOf}
use Rattle.flow_word_shared.proofs.handles.reader.WordFlowReader.leave_waker.Goals as goal

pub returns-clause-armed : goal.returns-clause-armed
returns-clause-armed g c now looked =
    let same = ap (λ s. read_by (arc_value c.self.inside.flow) s) c.note_waker-number.ensures ∙ c.self.view_is in
    c.leave_waker.ensures.armed now (subst (λ (r : WordFlowReaderOf g.row.T.Denot). FindsNone shared_flow r.flow.first r.subscription now.subscription) (sym same) looked)
