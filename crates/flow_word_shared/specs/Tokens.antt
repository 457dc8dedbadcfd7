-- What contracts see of the tokens of a word flow.
use Rattle.std.specs.Prelude.{◌≡◌, ℕ, ◌+◌, ◌<◌, ◌≤◌, ◌^◌, Bool, false, List, [], ◌∷◌, length, Some, None, Option}
use Rattle.atomic_table.specs.Seated.{TableId}
use Rattle.atomic_table.specs.declared.shared.Seat.{Seat}
use Rattle.flow_law.specs.declared.history.Said.{Said}
use Rattle.flow_law.specs.declared.call.SharedCall.{SharedCall}
use Rattle.flow_law.specs.declared.call.SharedReply.{SharedReply}
use Rattle.flow_law.specs.declared.states.SharedFlowState.{SharedFlowState}
use Rattle.flow_law.specs.history.Tokens as flows
use Rattle.flow_law.specs.history.Promise.{Token}
use Rattle.flow_law.specs.history.Tokens.{token}
use Rattle.flow_word_shared.specs.declared.view.RingKnown.{RingKnown}
use Rattle.flow_word_shared.specs.declared.place.Place.{Place}
use Rattle.flow_word_shared.specs.declared.view.Post.{Post}
use Rattle.flow_word_shared.specs.declared.view.Hold.{Hold}
use Rattle.flow_word_shared.specs.declared.view.Reads.{Reads}
use Rattle.flow_word_shared.specs.declared.view.RingStart.{RingStart}
use Rattle.flow_word_shared.specs.Rule.{place_at}
use Rattle.flow_word_shared.specs.View.{reading_at, only}
use Rattle.flow_word_shared.specs.Steps.{IsAt, log_after}

-- the place of a subscriber, if it has one
abbrev pub post_of_reads : Option Reads → Option Post
post_of_reads None = None
post_of_reads (Some x) = x.post

-- the position of a subscriber, if it is one
abbrev pub position_of_reads : Option Reads → ℕ
position_of_reads None = 0
position_of_reads (Some x) = x.position

-- which flow: its table, and how it began
pub record WordFlowId : Type 0 where
  pub table : TableId
  pub start : RingStart

abbrev pub word_flow_id : TableId → RingStart → WordFlowId
word_flow_id table start = record { table = table; start = start }

-- a seat: its flow, and what it knows
abbrev pub WordFlowToken : Type 0 → Type 0
WordFlowToken T = Token WordFlowId (Said (SharedCall T) (SharedReply T))

-- a flow: which one it is, and the state that it began with
abbrev pub WordFlowOrigin : Type 0 → Type 0
WordFlowOrigin T = flows.Origin WordFlowId (SharedFlowState T)

-- a subscription to a flow
abbrev pub WordFlowNumbered : Type 0 → Type 0
WordFlowNumbered T = flows.NumberedToken WordFlowId (Said (SharedCall T) (SharedReply T))

module _ {T : Type 0} where
  -- the token of a seat
  abbrev pub ring_token : Seat Unit (List (RingKnown T)) → WordFlowToken T
  ring_token s = token (word_flow_id s.table_id (only s.me.0).start) (only s.me.0).knows

  -- the seat has one token, and this hold
  abbrev pub IsHolding : Option Hold → Seat Unit (List (RingKnown T)) → Type 0
  IsHolding hold s = (s.me ≡ (only s.me.0 ∷ [], [])) × ((only s.me.0).hold ≡ hold)

  -- the seat has one token, which has taken the lock bit at this many emitted values and filled no cell
  abbrev pub IsFilling : Seat Unit (List (RingKnown T)) → ℕ → Type 0
  IsFilling s count = (h : Hold) × IsHolding (Some h) s × (h.length ≡ count) × (h.cells ≡ [])

  -- the place of the subscriber whose seat it is, if it has one
  abbrev pub post_of : Seat Unit (List (RingKnown T)) → Option Post
  post_of s = post_of_reads (only s.me.0).reads

  -- the seat has one token, of a subscriber that reads next at this position; it found these words, and knows of this many emitted values
  abbrev pub IsReading : Seat Unit (List (RingKnown T)) → ℕ → ℕ → List (List ℕ) → ℕ → Type 0
  IsReading s number position words seen =
      IsHolding None s × ((only s.me.0).reads ≡ Some (reading_at (post_of s) number position words)) × IsAt (only s.me.0).start (only s.me.0).knows number position
      × (seen ≤ length (log_after (only s.me.0).start (only s.me.0).knows.seen))

  -- the subscriber whose seat it is has this place, and comes or leaves or does not
  pub record HasPlace (moves : Bool) (s : Seat Unit (List (RingKnown T))) (place : Place) : Type 0 where
    pub at : ℕ
    pub post : post_of s ≡ Some (record { place = at; moves = moves })
    pub word : place.word ≡ place_at (only s.me.0).start at
    pub there : at < (only s.me.0).start.places
    pub known : place.known ≤ length (log_after (only s.me.0).start (only s.me.0).knows.seen)
    pub small : place.known + 1 < 2 ^ 63
    pub few : position_of_reads (only s.me.0).reads + 1 < 2 ^ 63

  -- the subscriber has this place; or none, in a flow without places
  abbrev pub HasPlaceOrNone : Option Place → Seat Unit (List (RingKnown T)) → ℕ → Type 0
  HasPlaceOrNone None s seen = (only s.me.0).start.places ≡ 0
  HasPlaceOrNone (Some place) s seen = HasPlace false s place × (seen ≡ 0)

  -- the seat has one token, of a subscriber that reads next at this position, with its place if it has one
  abbrev pub IsSubscriberAt : Option Place → Seat Unit (List (RingKnown T)) → ℕ → ℕ → ℕ → Type 0
  IsSubscriberAt place s number position seen = IsReading s number position [] seen × HasPlaceOrNone place s seen

  -- the seat has one token, which holds the lock bit, and has seen all of this many emitted values
  abbrev pub HoldsAll : Seat Unit (List (RingKnown T)) → ℕ → Type 0
  HoldsAll s count = (h : Hold) × IsHolding (Some h) s × (h.length ≡ count) × (count ≡ length (log_after (only s.me.0).start (only s.me.0).knows.seen))
