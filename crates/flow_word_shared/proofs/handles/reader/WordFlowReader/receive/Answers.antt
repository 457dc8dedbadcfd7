use Rattle.std.proofs.Common.{◌∙◌, ap}
use Rattle.flow_law.specs.flow.SharedHistory.{shared_flow}
use Rattle.flow_word.specs.Receiving.{not_asked}
use Rattle.flow_word.proofs.Waits.{in_vain_all, in_vain_again, receives_then}
use Rattle.flow_word_shared.proofs.handles.reader.WordFlowReader.receive.Goals as goal

pub loop-init : goal.loop-init
loop-init g c = (tt, tt, c.in-None.ensures.flow, in_vain_all shared_flow c.args.self.now.flow.first not_asked c.in-None.ensures.received)

pub loop-preserved : goal.loop-preserved
loop-preserved g c =
    let again = in_vain_again shared_flow c.args.self.now.flow.first (ap (λ f. f.first) c.loop.invariant.2) c.loop.invariant.3 c.in-None-look_or_sleep.ensures.received in
    (tt, tt, c.in-None-look_or_sleep.ensures.flow ∙ c.loop.invariant.2, again)

pub returns-in-Some-look_or_sleep-clause-received : goal.returns-in-Some-look_or_sleep-clause-received
returns-in-Some-look_or_sleep-clause-received g c =
    receives_then shared_flow c.args.self.now.flow.first (ap (λ f. f.first) c.loop.invariant.2) c.loop.invariant.3 c.in-Some-look_or_sleep.ensures.received
