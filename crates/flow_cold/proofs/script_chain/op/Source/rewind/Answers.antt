use Rattle.std.proofs.Common.{arith}
use Rattle.std.proofs.lemmas.Grind.{common_steps}
use Rattle.flow_cold.proofs.script_chain.op.Source.rewind.Goals as goal

pub returns-in-List-clause-whole : goal.returns-in-List-clause-whole
returns-in-List-clause-whole c = let whole = c.rewind.ensures.whole tt in grind (arith, common_steps)

pub returns-in-List-clause-rest : goal.returns-in-List-clause-rest
returns-in-List-clause-rest c = let rest = c.rewind.ensures.rest tt in grind (arith, common_steps)

pub returns-in-Range-clause-whole : goal.returns-in-Range-clause-whole
returns-in-Range-clause-whole c = let whole = c.rewind-in-Range.ensures.whole tt in grind (arith, common_steps)

pub returns-in-Range-clause-rest : goal.returns-in-Range-clause-rest
returns-in-Range-clause-rest c = let rest = c.rewind-in-Range.ensures.rest tt in grind (arith, common_steps)

pub returns-in-Scripted-clause-whole : goal.returns-in-Scripted-clause-whole
returns-in-Scripted-clause-whole c = let whole = c.rewind-in-Scripted.ensures.whole tt in grind (arith, common_steps)

pub returns-in-Scripted-clause-rest : goal.returns-in-Scripted-clause-rest
returns-in-Scripted-clause-rest c = let rest = c.rewind-in-Scripted.ensures.rest tt in grind (arith, common_steps)
