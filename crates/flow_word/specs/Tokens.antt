-- What contracts see of the tokens of a word state.
use Rattle.std.specs.Prelude.{◌≡◌, ℕ, List, [], ◌∷◌, Some, Option}
use Rattle.atomic_table.specs.Seated.{TableId}
use Rattle.atomic_table.specs.declared.shared.Seat.{Seat}
use Rattle.flow_law.specs.declared.history.Said.{Said}
use Rattle.flow_law.specs.declared.call.StateCall.{StateCall}
use Rattle.flow_law.specs.declared.call.StateReply.{StateReply}
use Rattle.flow_law.specs.declared.states.StateFlowState.{StateFlowState}
use Rattle.flow_law.specs.history.Tokens as flows
use Rattle.flow_law.specs.history.Tokens.{token}
use Rattle.flow_law.specs.history.Updates.{StateTokenOf}
use Rattle.flow_word.specs.declared.view.Known.{Known}
use Rattle.flow_word.specs.declared.view.Start.{Start}
use Rattle.flow_word.specs.View.{begun, got_last, only_in_view}
use Rattle.flow_word.specs.Steps.{HasGot}

-- which flow: its table, and how it began
pub record WordId : Type 0 where
  pub table : TableId
  pub start : Start

-- the word state of this table and this start
abbrev pub word_id : TableId → Start → WordId
word_id table start = record { table = table; start = start }

-- a seat: its flow, and what it knows
abbrev pub WordToken : Type 0 → Type 0
WordToken = StateTokenOf WordId

-- a flow: which one it is, and the state that it began with
abbrev pub WordOrigin : Type 0 → Type 0
WordOrigin T = flows.Origin WordId (StateFlowState T)

-- a subscription to a word state
abbrev pub WordNumbered : Type 0 → Type 0
WordNumbered T = flows.NumberedToken WordId (Said (StateCall T) (StateReply T))

module _ {T : Type 0} where
  -- the token of a seat
  abbrev pub token_of : Seat Unit (List (Known T)) → WordToken T
  token_of s = token (word_id s.table_id (only_in_view s.me.0).start) (only_in_view s.me.0).knows

  -- the seat has one token
  abbrev pub HasOneToken : Seat Unit (List (Known T)) → Type 0
  HasOneToken s = s.me ≡ (only_in_view s.me.0 ∷ [], [])

  -- the seat has one token, of a subscriber that got the value of this pack last
  abbrev pub IsWordSubscription : (ℕ → Type 0) → (ℕ → T) → Seat Unit (List (Known T)) → ℕ → Option ℕ → Type 0
  IsWordSubscription packs value_of s number last =
      HasOneToken s × ((only_in_view s.me.0).subscriber ≡ Some (got_last number last)) × HasGot packs value_of (begun value_of (only_in_view s.me.0).start) (only_in_view s.me.0).knows number last
