use Rattle.std.proofs.Common.{◌≡◌, ◌++◌, map, string_bytes, take}
use Rattle.flow_script.specs.Lines.{lines_of}
use Rattle.flow_script.specs.Answers.{as_answer}
use Rattle.flow_script.proofs.script_text.add_steps.Given as goal

abbrev pub invariant-loop-answer : goal.invariant-loop-answer
invariant-loop-answer l = string_bytes l.text ≡ string_bytes l.fn.text ++ lines_of (map as_answer (take l.answer-index l.steps))
