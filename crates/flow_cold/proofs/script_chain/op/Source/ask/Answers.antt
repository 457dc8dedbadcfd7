use Rattle.std.proofs.Common.{arith}
use Rattle.std.proofs.lemmas.Grind.{common_steps}
use Rattle.flow_cold.proofs.script_chain.op.Source.ask.Goals as goal

pub returns-in-List-clause-whole : goal.returns-in-List-clause-whole
returns-in-List-clause-whole c = let whole = c.ask.ensures.whole tt in grind (arith, common_steps)

pub returns-in-List-clause-gives : goal.returns-in-List-clause-gives
returns-in-List-clause-gives c = let gives = c.ask.ensures.gives tt tt in grind (arith, common_steps)

pub returns-in-Range-clause-whole : goal.returns-in-Range-clause-whole
returns-in-Range-clause-whole c = let whole = c.ask-in-Range.ensures.whole tt in grind (arith, common_steps)

pub returns-in-Range-clause-gives : goal.returns-in-Range-clause-gives
returns-in-Range-clause-gives c = let gives = c.ask-in-Range.ensures.gives tt tt in grind (arith, common_steps)

pub returns-in-Scripted-clause-whole : goal.returns-in-Scripted-clause-whole
returns-in-Scripted-clause-whole c = let whole = c.ask-in-Scripted.ensures.whole tt in grind (arith, common_steps)

pub returns-in-Scripted-clause-gives : goal.returns-in-Scripted-clause-gives
returns-in-Scripted-clause-gives c = let gives = c.ask-in-Scripted.ensures.gives tt tt in grind (arith, common_steps)
