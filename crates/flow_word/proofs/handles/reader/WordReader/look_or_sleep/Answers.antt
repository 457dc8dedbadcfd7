use Rattle.std.proofs.Common.{sym, subst}
use Rattle.flow_law.specs.flow.StateFlow.{state_flow}
use Rattle.flow_word.specs.Handles.{ReaderOfWord}
use Rattle.flow_word.specs.Receiving.{FindsNone}
use Rattle.flow_word.proofs.handles.reader.WordReader.look_or_sleep.Goals as goal

pub sleep-requires : goal.sleep-requires
sleep-requires g c =
    subst (λ (r : ReaderOfWord g.row.T.Denot). FindsNone state_flow r.flow.first r.subscription c.look.new.self.subscription) (sym c.announce_caller-announced.ensures) c.in-None.ensures.received
