use Rattle.flow_check.specs.Words.{parts_in_words}
use Rattle.flow_check.proofs.Packing.{parts_begun, parts_more, parts_done}
use Rattle.flow_check.proofs.words.read_parts.Goals as goal

pub loop-init : goal.loop-init
loop-init g c = parts_begun g.P.Part.part g.P.Part.others c.args.count c.args.words.now c.new-parts.result.items c.new-parts.ensures.items

pub loop-preserved : goal.loop-preserved
loop-preserved g c = parts_more g.P.Part.part g.P.Part.others c.args.count c.loop.counter c.loop.rest.now c.others-rest.result.now c.loop.parts.items c.push.new.self.items c.in_ok-read.field-0
    (parts_in_words g.P.Part.part g.P.Part.others c.args.count c.args.words.now) c.loop-test.true c.loop.invariant c.in_ok-push.ensures.items c.in_ok-read.ensures c.others-rest.ensures

pub returns : goal.returns
returns g c = parts_done g.P.Part.part g.P.Part.others c.args.count c.loop.counter c.loop.rest.now c.loop.parts.items (parts_in_words g.P.Part.part g.P.Part.others c.args.count c.args.words.now)
    c.loop-test.false c.loop.invariant
