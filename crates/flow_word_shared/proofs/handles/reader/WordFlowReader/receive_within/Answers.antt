use Rattle.std.proofs.Common.{refl, ◌∙◌, ap}
use Rattle.flow_law.specs.flow.SharedHistory.{shared_flow}
use Rattle.flow_word.specs.Receiving.{not_asked}
use Rattle.flow_word.proofs.Waits.{in_vain_again, receives_then, found_then}
use Rattle.flow_word_shared.proofs.handles.reader.WordFlowReader.receive_within.Goals as goal

pub loop-init : goal.loop-init
loop-init g c = (tt, tt, refl, not_asked)

pub loop-preserved : goal.loop-preserved
loop-preserved g c =
    let again = in_vain_again shared_flow c.args.self.now.flow.first (ap (λ f. f.first) c.loop.invariant.2) c.loop.invariant.3 c.in-None-look_or_sleep.ensures.received in
    (tt, tt, c.in-None-look_or_sleep.ensures.flow ∙ c.loop.invariant.2, again)

pub returns-in-Some-look_or_sleep-clause-received : goal.returns-in-Some-look_or_sleep-clause-received
returns-in-Some-look_or_sleep-clause-received g c =
    receives_then shared_flow c.args.self.now.flow.first (ap (λ f. f.first) c.loop.invariant.2) c.loop.invariant.3 c.in-Some-look_or_sleep.ensures.received

pub returns-in-None-left-clause-received : goal.returns-in-None-left-clause-received
returns-in-None-left-clause-received g c =
    found_then shared_flow c.args.self.now.flow.first c.args.self.now.subscription c.loop.self.subscription c.look.new.self.subscription c.look.result
    (ap (λ f. f.first) c.loop.invariant.2) c.loop.invariant.3 c.look.ensures.received
