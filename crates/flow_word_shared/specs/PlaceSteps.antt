-- What the steps on places prove for their callers, of a flow whose subscribers have places. Begin with `checks` and `advances`: the steps
-- that may be an emission whose value is dropped, and a `next`.
use Rattle.std.specs.Prelude.{◌≡◌, ◌≢◌, ℕ, ◌+◌, ◌-◌, ◌*◌, ◌/◌, ◌%◌, ◌<◌, ◌≤◌, min, max, Bool, List, [], ◌∷◌, length, Some, None}
use Rattle.atomic_table.specs.Table.{Step}
use Rattle.flow_law.specs.declared.call.SharedCall.TheVariants.{TakeNext, Subscribe}
use Rattle.flow_law.specs.declared.call.SharedReply.TheVariants.{Received, Refused, Subscribed}
use Rattle.flow_law.specs.declared.fault.FlowFault.TheVariants.{OutOfMemory}
use Rattle.flow_law.specs.declared.outcome.Next.TheVariants.{Value}
use Rattle.flow_law.specs.history.Growth.{child, loses}
use Rattle.flow_law.specs.history.Tokens.{subscription_name}
use Rattle.atomic_table.specs.declared.shared.Seat.{Seat}
use Rattle.flow_word_shared.specs.declared.place.Room.{Room}
use Rattle.flow_word_shared.specs.declared.place.Room.TheVariants.{Open, Blocked, Unknown}
use Rattle.flow_word_shared.specs.declared.view.RingKnown.{RingKnown}
use Rattle.flow_word_shared.specs.declared.view.Taken.{Taken}
use Rattle.flow_word_shared.specs.declared.view.Post.{Post}
use Rattle.flow_word_shared.specs.declared.view.Hold.{Hold}
use Rattle.flow_word_shared.specs.declared.view.Reads.{Reads}
use Rattle.flow_word_shared.specs.Rule.{capacity_of, place_at}
use Rattle.flow_word_shared.specs.Steps.{MeOf, StepCalls, Holds, IsAt, log_after, emission_of, emission_done}
use Rattle.flow_word_shared.specs.Tokens.{IsHolding}
use Rattle.flow_word_shared.specs.View.{ring_known, ring_with_knows, holding, reading_at, only}

-- The holder knows that no subscriber is a full buffer behind: the lower bound says so.
abbrev pub HasRoom : Hold → ℕ → Type 0
HasRoom h c = (low : ℕ) × (h.low ≡ Some low) × (h.length < low + c)

module _ {T : Type 0} where
  -- ---- emitters

  -- a load of the lower bound of the positions in places, by the holder
  abbrev pub looks_low : Step Unit → MeOf T → ℕ → MeOf T → Type 0
  looks_low step before found after = (h : Hold) → (only before.0).hold ≡ Some h → Holds before (Some (record h { low = Some found })) after

  -- a store of that bound, by the holder
  abbrev pub sets_low : Step Unit → MeOf T → ℕ → MeOf T → Type 0
  sets_low step before found after = (h : Hold) → (only before.0).hold ≡ Some h → Holds before (Some (record h { low = Some step.first })) after

  -- What a place shows to a holder. It has no subscriber that is a full buffer behind; or it has one, and the holder's emission is dropped;
  -- or it may have one.
  pub record Checks (value_of : List ℕ → T) (tries : Bool) (h : Hold) (before : MeOf T) (word : ℕ) (after : MeOf T) : Type 0 where
    pub free : word ≡ 0 → Holds before (Some (record h { checked = h.checked + 1 })) after
    pub shown : word ≢ 0 → 2 ≤ word
    pub passed : word ≢ 0 → h.length < word / 2 - 1 + capacity_of (only before.0).start → Holds before (Some (record h { checked = h.checked + 1; least = min h.least (word / 2 - 1) })) after
    pub blocked : word ≢ 0 → word / 2 - 1 + capacity_of (only before.0).start ≤ h.length → word % 2 ≡ 0
        → StepCalls before (emission_of tries (value_of h.cells)) (emission_done tries) after × ((only after.0).hold ≡ Some h) × ((only after.0).reads ≡ (only before.0).reads)
    pub unknown : word ≢ 0 → word / 2 - 1 + capacity_of (only before.0).start ≤ h.length → word % 2 ≢ 0 → after ≡ before

  -- a load of the place after those in which the holder has looked, by the holder that has filled the free cells
  abbrev pub checks : (List ℕ → T) → Bool → Step Unit → MeOf T → ℕ → MeOf T → Type 0
  checks value_of tries step before found after = (h : Hold) → (only before.0).hold ≡ Some h → step.word ≡ place_at (only before.0).start h.checked → h.checked < (only before.0).start.places
      → Checks value_of tries h before found after

  -- a store of word 0 by the holder, which gives up the lock bit: its attempt failed
  abbrev pub gives_up : Step Unit → MeOf T → ℕ → MeOf T → Type 0
  gives_up step before found after = after ≡ (ring_with_knows loses (only before.0) ∷ [], before.1)

  -- the seat has one token, which has taken the lock bit at this many emitted values, and has filled the free cells
  abbrev pub IsFilled : Seat Unit (List (RingKnown T)) → ℕ → Type 0
  IsFilled s count = (h : Hold) × IsHolding (Some h) s × (h.length ≡ count) × (h.checked ≡ 0) × (h.least ≡ count)

  -- what a holder that has filled the free cells knows after it has looked for room
  abbrev pub FindsRoom : (List ℕ → T) → Bool → Room → MeOf T → MeOf T → Type 0
  FindsRoom value_of tries Open before after = (h : Hold) → (only before.0).hold ≡ Some h
      → (k : Hold) × Holds before (Some k) after × HasRoom k (capacity_of (only before.0).start) × (k.length ≡ h.length) × (k.ahead ≡ h.ahead) × (k.cells ≡ h.cells)
  FindsRoom value_of tries Blocked before after = (h : Hold) → (only before.0).hold ≡ Some h
      → StepCalls before (emission_of tries (value_of h.cells)) (emission_done tries) after × ((only after.0).reads ≡ (only before.0).reads)
      × ((k : Hold) × ((only after.0).hold ≡ Some k) × (k.length ≡ h.length) × (k.ahead ≡ h.ahead))
  FindsRoom value_of tries Unknown before after = (h : Hold) → (only before.0).hold ≡ Some h
      → (k : Hold) × Holds before (Some k) after × (k.length ≡ h.length) × (k.ahead ≡ h.ahead)

  -- ---- subscribing

  -- the seat has one token, which holds the lock bit, has taken no place, and may take one for a subscriber at this position
  abbrev pub MayTake : Seat Unit (List (RingKnown T)) → ℕ → Type 0
  MayTake s position = (h : Hold) × (low : ℕ) × IsHolding (Some h) s × (h.low ≡ Some low) × (low ≤ position) × (h.length ≤ position + capacity_of (only s.me.0).start) × (h.checked ≡ 0) × (h.taken ≡ None)

  -- the holder has taken this place
  abbrev pub TakesAt : MeOf T → (place position : ℕ) → MeOf T → Type 0
  TakesAt before place position after = (h : Hold) → (only before.0).hold ≡ Some h → Holds before (Some (record h { taken = Some (record { place = place; position = position; number = None }) })) after

  -- an exchange of a place by the holder, which takes it for a subscriber at this position if it is free
  abbrev pub takes_place : Step Unit → MeOf T → ℕ → MeOf T → Type 0
  takes_place step before found after = (place position : ℕ) → step.word ≡ place_at (only before.0).start place → step.second ≡ 2 * position + 3
      → (found ≡ 0 → TakesAt before place position after) × (found ≢ 0 → after ≡ before)

  -- a load of the reset mark by the holder, if no place is free: a refused `subscribe`
  abbrev pub refuses_place : Step Unit → MeOf T → ℕ → MeOf T → Type 0
  refuses_place step before found after =
      StepCalls before (Subscribe (subscription_name (only before.0).knows) []) (Refused OutOfMemory) after × ((only after.0).hold ≡ (only before.0).hold)

  -- an increment of the number of subscribers by the holder that has taken a place: `subscribe`, for the token that is made next
  abbrev pub enrolls_at : Step Unit → MeOf T → ℕ → MeOf T → Type 0
  enrolls_at step before found after = (h : Hold) (issued mark : ℕ) (t : Taken) → (only before.0).hold ≡ Some h → h.issued ≡ Some issued → h.mark ≡ Some mark → h.taken ≡ Some t
      → StepCalls before (Subscribe (subscription_name (only before.0).knows) []) (Subscribed (issued + 1)) after
      × ((only after.0).hold ≡ Some (record (holding h.length) { taken = Some (record t { number = Some (issued + 1) }) }))
      × IsAt (only after.0).start (child (only after.0).knows) (issued + 1) (max mark (h.length - (only before.0).start.config.replay))
      × (h.length ≡ length (log_after (only after.0).start (only after.0).knows.seen)) × (mark ≤ h.length)

  -- ---- subscribers

  -- a store of a subscriber's own place, which only says that it comes or leaves, or does not
  abbrev pub flags : Bool → Step Unit → MeOf T → ℕ → MeOf T → Type 0
  flags moves step before found after = (x : Reads) (post : Post) → (only before.0).reads ≡ Some x → x.post ≡ Some post
      → after ≡ (ring_known (only before.0).knows (only before.0).start None (Some (record x { post = Some (record post { moves = moves }) })) ∷ [], before.1)

  -- a store that frees the place of a subscriber that has left
  abbrev pub frees : Step Unit → MeOf T → ℕ → MeOf T → Type 0
  frees step before found after = after ≡ (ring_known (only before.0).knows (only before.0).start None None ∷ [], before.1)

  -- a store of a subscriber's own place, after it has read the words of the value at its position: `next`
  abbrev pub advances : (List ℕ → Type 0) → (List ℕ → T) → Step Unit → MeOf T → ℕ → MeOf T → Type 0
  advances packs value_of step before found after = (x : Reads) (word : List ℕ) → (only before.0).reads ≡ Some x → x.words ≡ word ∷ []
      → packs word × StepCalls before (TakeNext x.number) (Received (Value (value_of word))) after × ((only after.0).hold ≡ None)
      × ((only after.0).reads ≡ Some (reading_at x.post x.number (x.position + 1) [])) × IsAt (only after.0).start (only after.0).knows x.number (x.position + 1)
      × (length (log_after (only before.0).start (only before.0).knows.seen) ≤ length (log_after (only after.0).start (only after.0).knows.seen))
