-- The view of a seat at the table: what the tokens in it know.
use Rattle.std.specs.Prelude.{ℕ, true, List, [], ◌∷◌, Option, None, Some}
use Rattle.std.specs.Option.{option_map}
use Rattle.flow_law.specs.declared.config.Overflow.TheVariants.{DropOldest}
use Rattle.flow_law.specs.declared.history.Knowledge.{Knowledge}
use Rattle.flow_law.specs.declared.history.Said.{Said}
use Rattle.flow_law.specs.declared.call.SharedCall.{SharedCall}
use Rattle.flow_law.specs.declared.call.SharedReply.{SharedReply}
use Rattle.flow_law.specs.declared.states.SharedFlowState.{SharedFlowState}
use Rattle.flow_law.specs.history.Growth.{first_knowledge, knowledge, makes, child}
use Rattle.flow_law.specs.flow.SharedFlow.{first_state}
use Rattle.flow_law.specs.flow.SharedHistory.{History}
use Rattle.flow_word_shared.specs.declared.view.RingKnown.{RingKnown}
use Rattle.flow_word_shared.specs.declared.view.Taken.{Taken}
use Rattle.flow_word_shared.specs.declared.view.Post.{Post}
use Rattle.flow_word_shared.specs.declared.view.Hold.{Hold}
use Rattle.flow_word_shared.specs.declared.view.Reads.{Reads}
use Rattle.flow_word_shared.specs.declared.view.RingStart.{RingStart}

-- what a token of a shared flow knows
abbrev pub SharedKnowledge : Type 0 → Type 0
SharedKnowledge T = Knowledge (Said (SharedCall T) (SharedReply T))

-- no flow
abbrev pub no_ring : RingStart
no_ring = record { config = record { replay = 0; extra = 0; overflow = DropOldest; limit = 0 }; room = 0; width = 0; places = 0 }

-- what a caller knows that has just taken the lock bit, at this number of emitted values
abbrev pub holding : ℕ → Hold
holding length = record { length = length; issued = None; mark = None; ahead = 0; cells = []; low = None; checked = 0; least = length; taken = None }

-- a subscriber with this place, if it has one, at this position, the words of the values that it found in the cells of that position and
-- the next ones, and those of one more value that it has read so far
abbrev pub reading_part : Option Post → ℕ → ℕ → List (List ℕ) → List ℕ → Reads
reading_part post number position words part = record { number = number; position = position; words = words; part = part; post = post }

-- the same, before it reads the cells of one more value
abbrev pub reading_at : Option Post → ℕ → ℕ → List (List ℕ) → Reads
reading_at post number position words = reading_part post number position words []

-- the same, without a place
abbrev pub reading : ℕ → ℕ → List (List ℕ) → Reads
reading = reading_at None

-- the subscriber for which a place was taken, if it has subscribed
abbrev pub reads_of_number : Taken → Option ℕ → Option Reads
reads_of_number t None = None
reads_of_number t (Some number) = Some (reading_at (Some (record { place = t.place; moves = true })) number t.position [])

abbrev pub reads_of_taken : Option Taken → Option Reads
reads_of_taken None = None
reads_of_taken (Some t) = reads_of_number t t.number

abbrev pub reads_of_hold : Option Hold → Option Reads
reads_of_hold None = None
reads_of_hold (Some h) = reads_of_taken h.taken

module _ {T : Type 0} where
  -- the state that a flow began with
  abbrev pub began_as : RingStart → SharedFlowState T
  began_as start = first_state start.config

  abbrev pub ring_known : SharedKnowledge T → RingStart → Option Hold → Option Reads → RingKnown T
  ring_known knows start hold reads = record { knows = knows; start = start; hold = hold; reads = reads }

  -- the token, with f applied to what it knows; it holds no lock
  abbrev pub ring_with_knows : (SharedKnowledge T → SharedKnowledge T) → RingKnown T → RingKnown T
  ring_with_knows f x = ring_known (f x.knows) x.start None x.reads

  -- the token of a seat that is made through this one, which has no place
  abbrev pub child_seat : RingKnown T → RingKnown T
  child_seat x = ring_known (child x.knows) x.start None (option_map (λ (r : Reads). record r { post = None }) x.reads)

  -- the holder after it has made the token of a new subscriber that has a place
  abbrev pub hands_over : RingKnown T → RingKnown T
  hands_over x = ring_known (makes x.knows) x.start (option_map (λ (h : Hold). record h { taken = None }) x.hold) None

  -- the token of that subscriber
  abbrev pub handed_over : RingKnown T → RingKnown T
  handed_over x = ring_known (child x.knows) x.start None (reads_of_hold x.hold)

  -- the token, with this hold
  abbrev pub with_hold : Option Hold → RingKnown T → RingKnown T
  with_hold hold x = ring_known x.knows x.start hold x.reads

  -- what the token knows after it has seen this history
  abbrev pub saw : ℕ → History T → SharedKnowledge T → SharedKnowledge T
  saw lost seen k = knowledge k.name k.made lost seen

  -- the view of the first seat
  abbrev pub first_ring_view : RingStart → List (RingKnown T)
  first_ring_view start = ring_known first_knowledge start None None ∷ []

  -- the first token of a view (a joined view has two tokens)
  abbrev pub first_of_two : List (RingKnown T) → List (RingKnown T)
  first_of_two [] = []
  first_of_two (x ∷ xs) = x ∷ []

  -- the tokens of a joined view without the first
  abbrev pub rest_of_two : List (RingKnown T) → List (RingKnown T)
  rest_of_two [] = []
  rest_of_two (x ∷ xs) = xs

  -- the token of a view that has one
  abbrev pub only : List (RingKnown T) → RingKnown T
  only [] = ring_known first_knowledge no_ring None None
  only (x ∷ xs) = x
