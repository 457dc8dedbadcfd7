use Rattle.std.proofs.Common.{sym, subst}
use Rattle.flow_law.specs.flow.SharedHistory.{shared_flow}
use Rattle.flow_word.specs.Receiving.{FindsNone}
use Rattle.flow_word_shared.specs.Handles.{WordFlowReaderOf}
use Rattle.flow_word_shared.proofs.handles.reader.WordFlowReader.look_or_sleep.Goals as goal

pub sleep-requires : goal.sleep-requires
sleep-requires g c =
    subst (λ (r : WordFlowReaderOf g.row.T.Denot). FindsNone shared_flow r.flow.first r.subscription c.look.new.self.subscription) (sym c.announce_caller-announced.ensures) c.in-None.ensures.received
