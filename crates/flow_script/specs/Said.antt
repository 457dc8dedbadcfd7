-- The answers of a played script, as the definitions have them. Begin with `all_said`.
use Rattle.std.specs.Prelude.{List, map, option_map, string_bytes}
use Rattle.flow_script.specs.Answers.{as_answer}
use Rattle.flow_script.specs.ScriptMeaning.{Answers, NotMade}
use Rattle.flow_script.specs.declared.answer.Answers.{Answers as Kept}
use Rattle.flow_script.specs.declared.answer.NotMade.{NotMade as KeptNotMade}

-- a flow that was refused, as the definitions have it
abbrev pub not_made_of : KeptNotMade → NotMade
not_made_of flow = record { name = option_map string_bytes flow.name; answer = as_answer flow.answer }

-- all flows that were refused
abbrev pub all_not_made : List KeptNotMade → List NotMade
all_not_made flows = map not_made_of flows

-- all answers of a script
abbrev pub all_said : Kept → Answers
all_said answers = record { not_made = all_not_made answers.not_made.items; steps = map as_answer answers.steps.items }
