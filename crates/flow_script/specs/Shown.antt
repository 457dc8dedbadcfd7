-- What the player keeps, and the documented steps that it follows. Begin with `FollowsStep`: the word of each step's contract.
-- No public clause cites this module.
use Rattle.std.specs.Prelude.{◌≡◌, map, option_map}
use Rattle.flow_core.specs.SubId.{number_of}
use Rattle.flow_script.specs.declared.numbers.Numbers.{Numbers as Kept}
use Rattle.flow_script.specs.FlowMeaning.{Turn}
use Rattle.flow_script.specs.Answers.{as_answer}
use Rattle.flow_script.specs.declared.answer.Answer.{Answer as Given}
use Rattle.flow_script.specs.Numbers.{Numbers}

-- the numbers that the player keeps, as the definitions have them
abbrev pub kept_numbers : Kept → Numbers
kept_numbers kept = record { emissions = kept.emissions.items; subscribers = map (option_map number_of) kept.subscribers.items }

-- The step is played. If the old state stands for p, the new one stands for p after the documented step, the names stand for the numbers of
-- that step, and the answer is its answer.
abbrev pub FollowsStep : {K P : Type 0} → (K → P → Type 0) → (P → Numbers → Turn P) → K → K → Kept → Kept → Given → Type 0
FollowsStep {P = P} Shows step old new names names_after answer =
    (p : P) → Shows old p →
    Shows new (step p (kept_numbers names)).after × (kept_numbers names_after ≡ (step p (kept_numbers names)).numbers)
    × (as_answer answer ≡ (step p (kept_numbers names)).answer)
