-- The view of a seat at the table: what the tokens in it know.
use Rattle.std.specs.Prelude.{ℕ, List, [], ◌∷◌, Option, Some, None}
use Rattle.flow_law.specs.declared.history.Knowledge.{Knowledge}
use Rattle.flow_law.specs.declared.history.Said.{Said}
use Rattle.flow_law.specs.declared.call.StateCall.{StateCall}
use Rattle.flow_law.specs.declared.call.StateReply.{StateReply}
use Rattle.flow_law.specs.declared.states.StateFlowState.{StateFlowState}
use Rattle.flow_law.specs.history.Growth.{first_knowledge}
use Rattle.flow_law.specs.flow.StateFlow.{first_state_flow}
use Rattle.flow_word.specs.declared.view.Known.{Known}
use Rattle.flow_word.specs.declared.view.LastGot.{LastGot}
use Rattle.flow_word.specs.declared.view.Start.{Start}

-- what a token of a state flow knows
abbrev pub StateKnowledge : Type 0 → Type 0
StateKnowledge T = Knowledge (Said (StateCall T) (StateReply T))

-- no flow
abbrev pub no_start : Start
no_start = record { word = 0; limit = 0 }

-- a subscriber's number, and the pack of the value that it got last
abbrev pub got_last : ℕ → Option ℕ → LastGot
got_last number last = record { number = number; last = last }

module _ {T : Type 0} where
  -- the state that a flow began with
  abbrev pub begun : (ℕ → T) → Start → StateFlowState T
  begun value_of start = first_state_flow start.limit (value_of start.word)

  -- what a token knows, how its flow began, and what it got as a subscriber; it is in no call of several steps
  abbrev pub known : StateKnowledge T → Start → Option LastGot → Known T
  known knows start subscriber = record { knows = knows; start = start; subscriber = subscriber; began = None }

  -- the token is in a call, which began when the history had this many events
  abbrev pub in_call : ℕ → Known T → Known T
  in_call began x = record { knows = x.knows; start = x.start; subscriber = x.subscriber; began = Some began }

  -- the token, with f applied to what it knows
  abbrev pub with_knows : (StateKnowledge T → StateKnowledge T) → Known T → Known T
  with_knows f x = known (f x.knows) x.start x.subscriber

  -- the view of the first seat
  abbrev pub first_word_view : Start → List (Known T)
  first_word_view start = known first_knowledge start None ∷ []

  -- the token of a view that has one
  abbrev pub only_in_view : List (Known T) → Known T
  only_in_view [] = known first_knowledge no_start None
  only_in_view (x ∷ xs) = x

  -- the first token of a view (a joined view has two tokens)
  abbrev pub first_in_view : List (Known T) → List (Known T)
  first_in_view [] = []
  first_in_view (x ∷ xs) = x ∷ []

  -- the tokens of a joined view without the first
  abbrev pub others_in_view : List (Known T) → List (Known T)
  others_in_view [] = []
  others_in_view (x ∷ xs) = xs
