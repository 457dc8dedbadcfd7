-- The rule of the table. Word 0 is twice the number of emitted values, plus 1 while a caller holds the lock bit. Word 1 is the number of
-- subscriptions ever made, word 2 the number of subscribers, word 3 the reset mark. The cells follow: the words of the value at position k
-- are in the cells from (k mod room) times the number of words of a value on. If subscribers have places, a lower bound of the positions
-- in them is next, and then the places: 0, or twice the subscriber's position plus 2, and 1 more while the subscriber comes or leaves.
use Rattle.std.specs.Prelude.{◌≡◌, ◌≢◌, ◌⊎◌, ℕ, zero, suc, ◌+◌, ◌*◌, ◌/◌, ◌%◌, ◌<◌, ◌≤◌, ◌^◌, Bool, true, false, List, [], ◌∷◌, length, slice_index_or, slice_get, Option, Some, None}
use Rattle.std.specs.Option.{option_map}
use Rattle.atomic_table.specs.Table.{State}
use Rattle.flow_law.specs.declared.config.Overflow.{Overflow}
use Rattle.flow_law.specs.declared.config.Overflow.TheVariants.{Suspend, DropOldest, DropLatest}
use Rattle.flow_law.specs.declared.states.SharedFlowState.{SharedFlowState}
use Rattle.flow_law.specs.history.Growth.{Fits}
use Rattle.flow_law.specs.history.RealTime.{IsTimed}
use Rattle.flow_law.specs.history.Seats.{SeatsFit}
use Rattle.flow_law.specs.flow.SharedFlow.{values, position_of}
use Rattle.flow_law.specs.flow.SharedHistory.{History, shared_after_all, IsSharedHistory}
use Rattle.flow_word_shared.specs.declared.view.RingKnown.{RingKnown}
use Rattle.flow_word_shared.specs.declared.view.Taken.{Taken}
use Rattle.flow_word_shared.specs.declared.view.Post.{Post}
use Rattle.flow_word_shared.specs.declared.view.Reads.{Reads}
use Rattle.flow_word_shared.specs.declared.view.Hold.{Hold}
use Rattle.flow_word_shared.specs.declared.view.RingStart.{RingStart}
use Rattle.flow_word_shared.specs.View.{began_as}

-- the words before the cells
abbrev pub head : ℕ
head = 4

-- how many values the buffer may hold
abbrev pub capacity_of : RingStart → ℕ
capacity_of start = start.config.replay + start.config.extra

-- the place of the first cell of this position
abbrev pub cell_at : RingStart → ℕ → ℕ
cell_at start k = head + k % start.room * start.width

-- the words in this many cells from this place on
abbrev pub words_from : ℕ → List ℕ → ℕ → List ℕ
words_from zero words place = []
words_from (suc count) words place = slice_index_or words place 0 ∷ words_from count words (place + 1)

-- the word of the lower bound of the positions in places
abbrev pub low_at : RingStart → ℕ
low_at start = head + start.room * start.width

-- the word of this place
abbrev pub place_at : RingStart → ℕ → ℕ
place_at start place = low_at start + 8 * (place + 1)

-- the number of words from the lower bound on
abbrev pub words_of_places : ℕ → ℕ
words_of_places zero = 0
words_of_places (suc n) = 8 * (n + 2)

-- the number of words
abbrev pub words_in : RingStart → ℕ
words_in start = low_at start + words_of_places start.places

-- how many subscribers have a place, under this strategy
abbrev pub HasPlacesFor : Overflow → ℕ → Type 0
HasPlacesFor Suspend places = ⊥
HasPlacesFor DropOldest places = places ≡ 0
HasPlacesFor DropLatest places = 0 < places

-- a flow of words may start so
pub record IsStart (start : RingStart) : Type 0 where
  pub strategy : HasPlacesFor start.config.overflow start.places
  pub buffer : 0 < capacity_of start
  pub room : capacity_of start < start.room
  pub limit : start.config.limit < 2 ^ 63
  pub width : 0 < start.width

-- the lock bit: the caller of this name holds it, or none
abbrev pub bit : Option (List ℕ) → ℕ
bit None = 0
bit (Some name) = 1

-- these are the words of the value at this position
abbrev pub HasValue : {T : Type 0} → (List ℕ → Type 0) → (List ℕ → T) → List T → ℕ → List ℕ → Type 0
HasValue packs value_of log k word = packs word × (slice_get log k ≡ Some (value_of word))

-- ---- places

-- the owner of a place: the name of the token, and the number of its subscriber
pub record PlaceOwner : Type 0 where
  pub name : List ℕ
  pub number : ℕ

-- the owner of this place, if it has one
abbrev pub owner_at : List (Option PlaceOwner) → ℕ → Option PlaceOwner
owner_at owners place = slice_index_or owners place None

-- the subscriber of this number owns the place
abbrev pub IsOwned : ℕ → Option PlaceOwner → Type 0
IsOwned number None = ⊥
IsOwned number (Some o) = o.number ≡ number

-- The word of a place of a flow with this capacity, after so many emitted values: the place is free, or its position is within the buffer
-- and not below the lower bound.
abbrev pub IsPlaceWord : (c count low : ℕ) → ℕ → Type 0
IsPlaceWord c count low word = (word ≡ 0) ⊎ ((2 ≤ word) × (low + 1 ≤ word / 2) × (count + 1 ≤ word / 2 + c))

-- The places show the subscribers. A subscriber that comes or leaves may be one of the flow or not.
pub record PlacesFit {T : Type 0} (start : RingStart) (s : SharedFlowState T) (owners : List (Option PlaceOwner)) (words : List ℕ) : Type 0 where
  pub owned : length owners ≡ start.places
  pub covers : 0 < start.places → (u p : ℕ) → position_of u s.subscribers ≡ Some p → (i : ℕ) × (i < start.places) × IsOwned u (owner_at owners i) × (slice_index_or words (place_at start i) 0 / 2 ≡ p + 1)
  pub present : (i : ℕ) → i < start.places → slice_index_or words (place_at start i) 0 ≢ 0 → slice_index_or words (place_at start i) 0 % 2 ≡ 0
      → (u : ℕ) × (p : ℕ) × IsOwned u (owner_at owners i) × (position_of u s.subscribers ≡ Some p) × (slice_index_or words (place_at start i) 0 / 2 ≡ p + 1)
  pub free : (i : ℕ) → i < start.places → slice_index_or words (place_at start i) 0 ≡ 0 → owner_at owners i ≡ None
  pub apart : (i j u : ℕ) → i < start.places → j < start.places → IsOwned u (owner_at owners i) → IsOwned u (owner_at owners j) → i ≡ j
  pub issued : (i u : ℕ) → i < start.places → IsOwned u (owner_at owners i) → u ≤ s.issued
  pub each : (i : ℕ) → i < start.places → IsPlaceWord (capacity_of start) (length s.emitted) (slice_index_or words (low_at start) 0) (slice_index_or words (place_at start i) 0)

-- What the words do not show: how much the word of made subscriptions is ahead, which it is only while the caller that holds the lock bit
-- subscribes, and the owner of each place.
pub record Hidden : Type 0 where
  pub ahead : ℕ
  pub owners : List (Option PlaceOwner)

-- the words show the state
pub record WordsFit {T : Type 0} (packs : List ℕ → Type 0) (value_of : List ℕ → T) (start : RingStart) (s : SharedFlowState T) (owner : Option (List ℕ)) (hidden : Hidden) (words : List ℕ) : Type 0 where
  pub count : length words ≡ words_in start
  pub word0 : slice_index_or words 0 0 ≡ length s.emitted * 2 + bit owner
  pub few : s.issued ≤ start.config.limit
  pub made : slice_index_or words 1 0 + length s.emitted ≡ s.issued + hidden.ahead
  pub live : slice_index_or words 2 0 ≡ length s.subscribers
  pub mark : slice_index_or words 3 0 ≡ s.reset_mark
  pub cells : (k : ℕ) → k < length s.emitted → length s.emitted ≤ k + capacity_of start → HasValue packs value_of (values s) k (words_from start.width words (cell_at start k))
  pub rested : owner ≡ None → hidden.ahead ≡ 0
  pub places : PlacesFit start s hidden.owners words

-- the number, if it is known, is this one
abbrev pub IsIfKnown : Option ℕ → ℕ → Type 0
IsIfKnown None n = Unit {0}
IsIfKnown (Some m) n = m ≡ n

-- the place that the holder has taken, if one; once the subscriber has its number, the holder owns the place
abbrev pub IsTaken : RingStart → List (Option PlaceOwner) → List ℕ → List ℕ → Option Taken → Type 0
IsTaken start owners words name None = Unit {0}
IsTaken start owners words name (Some t) = (t.place < start.places) × (owner_at owners t.place ≡ option_map (λ (number : ℕ). record { name = name; number = number }) t.number)
    × (slice_index_or words (place_at start t.place) 0 ≡ 2 * t.position + 3)

-- what the holder of the lock bit knows of the places is so, and it has filled cells of one value
pub record HoldPlaces (start : RingStart) (owners : List (Option PlaceOwner)) (words name : List ℕ) (h : Hold) : Type 0 where
  pub low : IsIfKnown h.low (slice_index_or words (low_at start) 0)
  pub checked : (i : ℕ) → i < h.checked → i < start.places → slice_index_or words (place_at start i) 0 ≢ 0 → h.least + 1 ≤ slice_index_or words (place_at start i) 0 / 2
  pub taken : IsTaken start owners words name h.taken
  pub filled : length h.cells ≤ start.width

-- what a token that may hold the lock bit knows is so
abbrev pub HoldFits : {T : Type 0} → RingStart → SharedFlowState T → Option (List ℕ) → Hidden → List ℕ → List ℕ → Option Hold → Type 0
HoldFits start s owner hidden words name None = Unit {0}
HoldFits start s owner hidden words name (Some h) = (owner ≡ Some name) × (h.length ≡ length s.emitted) × (h.ahead ≡ hidden.ahead)
    × IsIfKnown h.issued s.issued × IsIfKnown h.mark s.reset_mark × (h.cells ≡ words_from (length h.cells) words (cell_at start h.length)) × HoldPlaces start hidden.owners words name h

-- 1, if so
abbrev pub one_if : Bool → ℕ
one_if true = 1
one_if false = 0

-- the subscriber's place, if it has one, has its position
abbrev pub PostFits : RingStart → List (Option PlaceOwner) → List ℕ → List ℕ → (number position : ℕ) → Option Post → Type 0
PostFits start owners words name number position None = Unit {0}
PostFits start owners words name number position (Some post) = (post.place < start.places) × (owner_at owners post.place ≡ Some (record { name = name; number = number }))
    × (slice_index_or words (place_at start post.place) 0 ≡ 2 * position + 2 + one_if post.moves)

-- what a token that may be a subscriber's knows of its place is so
abbrev pub ReadsFit : RingStart → List (Option PlaceOwner) → List ℕ → List ℕ → Option Reads → Type 0
ReadsFit start owners words name None = Unit {0}
ReadsFit start owners words name (Some x) = PostFits start owners words name x.number x.position x.post

-- The history begins with what the token has seen, other callers made the rest, and it keeps the token's rule of names. The token is of
-- the flow with this start, and what it knows as the holder of the lock bit, and of its place, is so.
abbrev pub IsFine : {T : Type 0} → RingStart → History T → Option (List ℕ) → Hidden → List ℕ → RingKnown T → Type 0
IsFine start history owner hidden words x =
    Fits history x.knows × (x.start ≡ start) × HoldFits start (shared_after_all (began_as start) history) owner hidden words x.knows.name x.hold
    × ReadsFit start hidden.owners words x.knows.name x.reads

pub record RingHolds {T : Type 0} (packs : List ℕ → Type 0) (value_of : List ℕ → T) (start : RingStart) (s : State Unit (List (RingKnown T))) : Type 0 where
  pub starts : IsStart start
  -- the one history of the flow
  pub history : History T
  pub is_history : IsSharedHistory start.config history
  -- each call began in time
  pub timed : IsTimed history
  -- the name of the token that holds the lock bit
  pub owner : Option (List ℕ)
  pub hidden : Hidden
  pub words : WordsFit packs value_of start (shared_after_all (began_as start) history) owner hidden s.words
  pub seats : SeatsFit (λ (v : List (RingKnown T)). v) (λ (x : RingKnown T). x.knows) (IsFine start history owner hidden s.words) s.views
