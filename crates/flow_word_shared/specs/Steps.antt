-- What each step proves for its caller. Begin with `StepCalls`: a step that is the one event of a call.
use Rattle.std.specs.Prelude.{◌≡◌, ◌≢◌, ℕ, zero, suc, ◌+◌, ◌-◌, ◌/◌, ◌<◌, ◌≤◌, max, Bool, true, false, List, [], ◌∷◌, ◌++◌, take, drop, map, length, Option, Some, None}
use Rattle.std.specs.List.{AllByRecursion, FoldsTo}
use Rattle.atomic_table.specs.Table.{Me, Step}
use Rattle.flow_law.specs.declared.call.SharedCall.{SharedCall}
use Rattle.flow_law.specs.declared.call.SharedCall.TheVariants.{TryEmit, Emit, TakeNext, Subscribe, Unsubscribe, SubscriptionCount, ResetReplayCache, ReplayCache}
use Rattle.flow_law.specs.declared.call.SharedReply.{SharedReply}
use Rattle.flow_law.specs.declared.call.SharedReply.TheVariants.{Emitted, Received, Refused, Subscribed, Tested, Counted, Reset, Cached}
use Rattle.flow_law.specs.declared.fault.FlowFault.TheVariants.{Exhausted, OutOfMemory}
use Rattle.flow_law.specs.declared.outcome.Emit.TheVariants.{Done}
use Rattle.flow_law.specs.declared.outcome.Next.TheVariants.{Value, Empty}
use Rattle.flow_law.specs.declared.states.SharedFlowState.{SharedFlowState}
use Rattle.flow_law.specs.history.Growth.{Fits, GrowsByOthers, child, loses, sees}
use Rattle.flow_law.specs.history.Tokens.{subscription_name}
use Rattle.flow_law.specs.history.History.{subscriber, IsGiven}
use Rattle.flow_law.specs.history.Promise.{AddsOne}
use Rattle.flow_law.specs.history.RealTime.{IsTimed}
use Rattle.flow_law.specs.flow.SharedFlow.{position_of, own_of, values}
use Rattle.flow_law.specs.flow.SharedHistory.{History, shared_flow, shared_after_all, IsSharedHistory}
use Rattle.flow_word_shared.specs.declared.view.RingKnown.{RingKnown}
use Rattle.flow_word_shared.specs.declared.view.Hold.{Hold}
use Rattle.flow_word_shared.specs.declared.view.Reads.{Reads}
use Rattle.flow_word_shared.specs.declared.view.RingStart.{RingStart}
use Rattle.flow_word_shared.specs.Rule.{capacity_of, cell_at, HasValue}
use Rattle.flow_word_shared.specs.View.{SharedKnowledge, began_as, ring_with_knows, with_hold, holding, reading, reading_at, only}

-- no call: the token may have seen more, all of it by others, and this many of its attempts failed
pub record SeesMore {T : Type 0} (failed : ℕ) (before after : SharedKnowledge T) : Type 0 where
  pub name : after.name ≡ before.name
  pub made : after.made ≡ before.made
  pub lost : after.lost ≡ before.lost + failed
  pub grows : GrowsByOthers before.name before.seen after.seen

-- the values emitted in this history
abbrev pub log_after : {T : Type 0} → RingStart → History T → List T
log_after start h = values (shared_after_all (began_as start) h)

-- A subscriber in a state: its place is where it stood last, unless the buffer has moved on.
pub record Stands {T : Type 0} (number position : ℕ) (c : ℕ) (s : SharedFlowState T) : Type 0 where
  pub place : position_of number s.subscribers ≡ Some (max position (length s.emitted - c))
  pub own : own_of number s.subscribers ≡ []
  pub within : position ≤ length s.emitted

-- the token was given the number, and after what it has seen the subscriber stands there
pub record IsAt {T : Type 0} (start : RingStart) (k : SharedKnowledge T) (number position : ℕ) : Type 0 where
  pub given : IsGiven shared_flow k.name (subscriber number) k.seen
  pub stands : Stands number position (capacity_of start) (shared_after_all (began_as start) k.seen)

-- the flow has no subscriber of this number, and issues it no more
abbrev pub IsGone : {T : Type 0} → ℕ → SharedFlowState T → Type 0
IsGone number s = (position_of number s.subscribers ≡ None) × (number ≤ s.issued)

-- the words of the value at this position begin so
abbrev pub IsBegun : {T : Type 0} → (List ℕ → Type 0) → (List ℕ → T) → List T → ℕ → List ℕ → Type 0
IsBegun packs value_of log position part = (words : List ℕ) → HasValue packs value_of log position words → (rest : List ℕ) × (words ≡ part ++ rest)

module _ {T : Type 0} (packs : List ℕ → Type 0) (value_of : List ℕ → T) (c : ℕ) (log : List T) where
  -- Words that were found in the cells of this position: of a buffer of c values they are those of the value at that position, unless the
  -- buffer has moved on. `log` are the values emitted so far.
  pub record IsFound (position : ℕ) (word : List ℕ) : Type 0 where
    pub there : position < length log
    pub value : length log ≤ position + c → HasValue packs value_of log position word

  -- these words, of one value each, were found in the cells of this position and the next ones
  abbrev pub AreFound : ℕ → List (List ℕ) → Type 0
  AreFound position [] = Unit {0}
  AreFound position (word ∷ words) = IsFound position word × AreFound (position + 1) words

  -- These words were found in the first cells of this position: those of the value there begin so, unless the buffer has moved on.
  abbrev pub IsFoundPart : ℕ → List ℕ → Type 0
  IsFoundPart position part = length log ≤ position + c → IsBegun packs value_of log position part

-- the words of `count` values, each of so many words
abbrev pub values_of : (width count : ℕ) → List ℕ → List (List ℕ)
values_of width zero words = []
values_of width (suc count) words = take width words ∷ values_of width count (drop width words)

-- of the words that were found from this position on, those whose values a buffer of c values still has, of `count` emitted ones
abbrev pub still_kept : (c count position : ℕ) → List (List ℕ) → List (List ℕ)
still_kept c count position words = drop (count - c - position) words

-- the attempt failed: another caller has overwritten all that was found
abbrev pub failed_by : List (List ℕ) → ℕ
failed_by [] = 1
failed_by (word ∷ words) = 0

-- an emission: `try_emit`, or `emit`
abbrev pub emission_of : {T : Type 0} → Bool → T → SharedCall T
emission_of true value = TryEmit value
emission_of false value = Emit value

-- its reply if the value is emitted
abbrev pub emission_done : {T : Type 0} → Bool → SharedReply T
emission_done true = Tested true
emission_done false = Emitted Done

-- a seat's view, and no slot
abbrev pub MeOf : Type 0 → Type 0
MeOf T = Me Unit (List (RingKnown T))

module _ {T : Type 0} where
  -- the step was the event of this call with this reply, the seat still has one token, and no exchange was lost
  abbrev pub StepCalls : MeOf T → SharedCall T → SharedReply T → MeOf T → Type 0
  StepCalls before call reply after =
      AddsOne (IsSharedHistory (only before.0).start.config) (only before.0).knows call reply (only after.0).knows × ((only after.0).start ≡ (only before.0).start) × (after ≡ (only after.0 ∷ [], before.1))
      × ((only after.0).knows.lost ≡ (only before.0).knows.lost)

  -- no event: the seat still has one token, which may have seen more
  abbrev pub StepSees : ℕ → MeOf T → MeOf T → Type 0
  StepSees failed before after = SeesMore failed (only before.0).knows (only after.0).knows × ((only after.0).start ≡ (only before.0).start) × (after ≡ (only after.0 ∷ [], before.1))

  -- no event: only what the token holds has changed
  abbrev pub Holds : MeOf T → Option Hold → MeOf T → Type 0
  Holds before hold after = after ≡ (with_hold hold (only before.0) ∷ [], before.1)

  -- an exchange of word 0, which takes the lock bit if the word found is the expected one; else the attempt failed
  abbrev pub takes : Step Unit → MeOf T → ℕ → MeOf T → Type 0
  takes step before found after = (found ≡ step.first → Holds before (Some (holding (step.first / 2))) after) × (found ≢ step.first → after ≡ (ring_with_knows loses (only before.0) ∷ [], before.1))

  -- a load of the made subscriptions, by the holder: it then knows how many numbers were issued
  abbrev pub counts_issued : Step Unit → MeOf T → ℕ → MeOf T → Type 0
  counts_issued step before found after = (h : Hold) → (only before.0).hold ≡ Some h → h.ahead ≡ 0
      → Holds before (Some (record h { issued = Some (found + h.length) })) after × (found + h.length ≤ (only before.0).start.config.limit)

  -- a store into the next free cell, by the holder
  abbrev pub fills : Step Unit → MeOf T → ℕ → MeOf T → Type 0
  fills step before found after = (h : Hold) → (only before.0).hold ≡ Some h → Holds before (Some (record h { cells = h.cells ++ step.first ∷ [] })) after

  -- what the holder that has filled no cell knows after it has stored these words
  abbrev pub Fills : MeOf T → List ℕ → MeOf T → Type 0
  Fills before words after = (h : Hold) → (only before.0).hold ≡ Some h → Holds before (Some (record h { cells = words })) after

  -- a load of the made subscriptions by the holder that has filled the free cells, if no number is left: a refused emission
  abbrev pub refuses : (List ℕ → T) → Bool → Step Unit → MeOf T → ℕ → MeOf T → Type 0
  refuses value_of tries step before found after = (h : Hold) → (only before.0).hold ≡ Some h →
      StepCalls before (emission_of tries (value_of h.cells)) (Refused Exhausted) after × ((only after.0).hold ≡ Some h)

  -- a store of word 0 by the holder, which gives up the lock bit: no event
  abbrev pub releases : Step Unit → MeOf T → ℕ → MeOf T → Type 0
  releases step before found after = Holds before None after

  -- a store of word 0 by the holder, which gives up the lock bit: the value in the free cells is emitted
  abbrev pub publishes : (List ℕ → T) → Bool → Step Unit → MeOf T → ℕ → MeOf T → Type 0
  publishes value_of tries step before found after = (h : Hold) → (only before.0).hold ≡ Some h →
      StepCalls before (emission_of tries (value_of h.cells)) (emission_done tries) after × ((only after.0).hold ≡ None) × ((only after.0).reads ≡ (only before.0).reads)

  -- a load of the reset mark, by the holder
  abbrev pub counts_mark : Step Unit → MeOf T → ℕ → MeOf T → Type 0
  counts_mark step before found after = (h : Hold) → (only before.0).hold ≡ Some h → Holds before (Some (record h { mark = Some found })) after × (found ≤ h.length)

  -- the same, if no number is left: a refused `subscribe`
  abbrev pub refuses_subscriber : Step Unit → MeOf T → ℕ → MeOf T → Type 0
  refuses_subscriber step before found after =
      StepCalls before (Subscribe (subscription_name (only before.0).knows) []) (Refused Exhausted) after × ((only after.0).hold ≡ (only before.0).hold)

  -- a store of the made subscriptions, by the holder: one ahead
  abbrev pub runs_ahead : Step Unit → MeOf T → ℕ → MeOf T → Type 0
  runs_ahead step before found after = (h : Hold) → (only before.0).hold ≡ Some h → Holds before (Some (record h { ahead = 1 })) after

  -- an increment of the number of subscribers, by the holder: `subscribe`, for the token that is made next
  abbrev pub enrolls : Step Unit → MeOf T → ℕ → MeOf T → Type 0
  enrolls step before found after = (h : Hold) (issued mark : ℕ) → (only before.0).hold ≡ Some h → h.issued ≡ Some issued → h.mark ≡ Some mark →
      StepCalls before (Subscribe (subscription_name (only before.0).knows) []) (Subscribed (issued + 1)) after
      × ((only after.0).hold ≡ Some (holding h.length)) × ((only after.0).reads ≡ Some (reading (issued + 1) (max mark (h.length - (only before.0).start.config.replay)) []))
      × IsAt (only after.0).start (child (only after.0).knows) (issued + 1) (max mark (h.length - (only before.0).start.config.replay))
      × (h.length ≡ length (log_after (only after.0).start (only after.0).knows.seen)) × (mark ≤ h.length)

  -- a store of the reset mark, by the holder: `reset_replay_cache`
  abbrev pub resets : Step Unit → MeOf T → ℕ → MeOf T → Type 0
  resets step before found after = StepCalls before ResetReplayCache Reset after × ((h : Hold) → (only before.0).hold ≡ Some h → (only after.0).hold ≡ Some (holding h.length))

  -- a load of the reset mark, by the holder: `replay_cache`, before the cells are read
  abbrev pub caches : Step Unit → MeOf T → ℕ → MeOf T → Type 0
  caches step before found after = (h : Hold) (mark : ℕ) → (only before.0).hold ≡ Some h → h.mark ≡ Some mark →
      StepCalls before ReplayCache (Cached (drop (max mark (h.length - (only before.0).start.config.replay)) (log_after (only after.0).start (only after.0).knows.seen))) after
      × ((only after.0).hold ≡ Some h) × ((only after.0).reads ≡ (only before.0).reads) × (h.length ≡ length (log_after (only after.0).start (only after.0).knows.seen))

  -- the same, if there is no memory for the values: a refused `replay_cache`
  abbrev pub refuses_cache : Step Unit → MeOf T → ℕ → MeOf T → Type 0
  refuses_cache step before found after = (h : Hold) → (only before.0).hold ≡ Some h →
      StepCalls before ReplayCache (Refused OutOfMemory) after × ((only after.0).hold ≡ Some h) × ((only after.0).reads ≡ (only before.0).reads)

  -- a load of the number of subscribers
  abbrev pub counts_live : Step Unit → MeOf T → ℕ → MeOf T → Type 0
  counts_live step before found after = StepCalls before SubscriptionCount (Counted found) after × ((only after.0).hold ≡ None)

  -- a decrement of the number of subscribers: `unsubscribe` of the subscriber whose seat it is
  abbrev pub leaves : Step Unit → MeOf T → ℕ → MeOf T → Type 0
  leaves step before found after = (x : Reads) → (only before.0).reads ≡ Some x → StepCalls before (Unsubscribe x.number) (Tested true) after × ((only after.0).hold ≡ None)
      × ((only after.0).reads ≡ Some x) × IsGone x.number (shared_after_all (began_as (only after.0).start) (only after.0).knows.seen)

  -- a load of word 0 by a subscriber that has read all it knows of: `next` finds nothing, or there is more
  abbrev pub looks : Step Unit → MeOf T → ℕ → MeOf T → Type 0
  looks step before found after = (x : Reads) → (only before.0).reads ≡ Some x →
      (found / 2 ≤ x.position → StepCalls before (TakeNext x.number) (Received Empty) after)
      × (x.position < found / 2 → StepSees 0 before after)
      × ((only after.0).hold ≡ None) × ((only after.0).reads ≡ Some x) × (found / 2 ≡ length (log_after (only after.0).start (only after.0).knows.seen))
      × IsAt (only after.0).start (only after.0).knows x.number x.position × (found / 2 < (only before.0).start.config.limit)

  -- a load by which each token of the view sees the whole history so far
  abbrev pub observes_all : Step Unit → MeOf T → ℕ → MeOf T → Type 0
  observes_all step before found after =
      (history : History T) × IsSharedHistory (only before.0).start.config history × IsTimed history × AllByRecursion (λ (x : RingKnown T). Fits history x.knows) before.0 × (after ≡ (map (ring_with_knows (sees history)) before.0, before.1))

  -- a load that changes nothing, while some history of the flow fits what the token knows
  abbrev pub looks_back : Step Unit → MeOf T → ℕ → MeOf T → Type 0
  looks_back step before found after = (history : History T) × IsSharedHistory (only before.0).start.config history × IsTimed history × Fits history (only before.0).knows × (after ≡ before)

module _ {T : Type 0} (packs : List ℕ → Type 0) (value_of : List ℕ → T) where
  -- A load of a cell of a position of the buffer, by the holder that has read those before it, if the token has seen all values: no value
  -- was emitted since. After the last cell it has the words of the value.
  abbrev pub reads_held : Step Unit → MeOf T → ℕ → MeOf T → Type 0
  reads_held step before found after = (h : Hold) (k : ℕ) (part : List ℕ) → (only before.0).hold ≡ Some h → step.word ≡ cell_at (only before.0).start k + length part
      → length part < (only before.0).start.width
      → h.length ≡ length (log_after (only before.0).start (only before.0).knows.seen) → k < h.length → h.length ≤ k + capacity_of (only before.0).start
      → IsBegun packs value_of (log_after (only before.0).start (only before.0).knows.seen) k part
      → (after ≡ before) × IsBegun packs value_of (log_after (only before.0).start (only before.0).knows.seen) k (part ++ found ∷ [])
      × (length part + 1 ≡ (only before.0).start.width → HasValue packs value_of (log_after (only before.0).start (only before.0).knows.seen) k (part ++ found ∷ []))

  -- a load of a cell by a subscriber, of the position after those whose cells it has read: not the last cell of that position
  abbrev pub reads_part : Step Unit → MeOf T → ℕ → MeOf T → Type 0
  reads_part step before found after = (x : Reads) → (only before.0).reads ≡ Some x →
      StepSees 0 before after × ((only after.0).hold ≡ None) × ((only after.0).reads ≡ Some (record x { part = x.part ++ found ∷ [] }))
      × IsAt (only after.0).start (only after.0).knows x.number x.position
      × AreFound packs value_of (capacity_of (only after.0).start) (log_after (only after.0).start (only after.0).knows.seen) x.position x.words
      × IsFoundPart packs value_of (capacity_of (only after.0).start) (log_after (only after.0).start (only after.0).knows.seen) (x.position + length x.words) (x.part ++ found ∷ [])

  -- the same: the last cell of that position
  abbrev pub reads_cell : Step Unit → MeOf T → ℕ → MeOf T → Type 0
  reads_cell step before found after = (x : Reads) → (only before.0).reads ≡ Some x →
      StepSees 0 before after × ((only after.0).hold ≡ None) × ((only after.0).reads ≡ Some (reading_at x.post x.number x.position (x.words ++ (x.part ++ found ∷ []) ∷ [])))
      × IsAt (only after.0).start (only after.0).knows x.number x.position
      × AreFound packs value_of (capacity_of (only after.0).start) (log_after (only after.0).start (only after.0).knows.seen) x.position (x.words ++ (x.part ++ found ∷ []) ∷ [])

  -- calls of `next` by this subscriber, each one event, gave the values of these words in order
  abbrev pub StepsGive : ℕ → MeOf T → List (List ℕ) → MeOf T → Type 0
  StepsGive number = FoldsTo (λ before word after. StepCalls before (TakeNext number) (Received (Value (value_of word))) after)

  -- what a subscriber does that takes the values of these words, when `count` values were emitted: the token sees more, and then come the
  -- calls. It then stands after the last of them, but within the buffer.
  pub record Receives (number position count : ℕ) (words : List (List ℕ)) (before after : MeOf T) : Type 0 where
    pub between : MeOf T
    pub sees : StepSees (failed_by words) before between
    pub gives : StepsGive number between words after
    pub packed : AllByRecursion packs words
    pub start : (only after.0).start ≡ (only before.0).start
    pub one : after ≡ (only after.0 ∷ [], before.1)
    pub hold : (only after.0).hold ≡ None
    pub reads : (only after.0).reads ≡ Some (reading number (max position (count - capacity_of (only before.0).start) + length words) [])
    pub stands : IsAt (only after.0).start (only after.0).knows number (max position (count - capacity_of (only before.0).start) + length words)
    pub counted : count ≡ length (log_after (only after.0).start (only after.0).knows.seen)

  -- a load of word 0 by a subscriber that has read cells: it takes `chosen` of the values that the buffer still has
  abbrev pub confirms : (List (List ℕ) → List (List ℕ)) → Step Unit → MeOf T → ℕ → MeOf T → Type 0
  confirms chosen step before found after = (x : Reads) → (only before.0).reads ≡ Some x →
      Receives x.number x.position (found / 2) (chosen (still_kept (capacity_of (only before.0).start) (found / 2) x.position x.words)) before after
