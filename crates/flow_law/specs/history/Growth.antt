-- Names of seats, histories that grow, and what a token knows. They are the same for every kind of flow.
-- The first seat's name is empty; the j-th seat made through a seat has that seat's name followed by j.
use Rattle.std.specs.Prelude.{◌≡◌, ◌≢◌, ℕ, ◌+◌, ◌≤◌, List, [], ◌∷◌, ◌++◌, length}
use Rattle.std.specs.List.{AllByRecursion}
use Rattle.flow_law.specs.declared.history.HistoryEvent.{HistoryEvent}
use Rattle.flow_law.specs.declared.history.Knowledge.{Knowledge}

-- ---- names

-- the name of the j-th seat that was made through the seat of this name
abbrev pub child_name : List ℕ → ℕ → List ℕ
child_name name j = name ++ j ∷ []

-- a name that begins with this one followed by j has j from 1 to the number of seats made through its seat
abbrev pub IsMadeBy : List ℕ → ℕ → List ℕ → Type 0
IsMadeBy name made other = (j : ℕ) (rest : List ℕ) → other ≡ name ++ j ∷ rest → (1 ≤ j) × (j ≤ made)

-- ---- histories

module _ {E : Type 0} where
  -- an event of the token of this name, whose call began when the history had this many events
  abbrev pub event : List ℕ → ℕ → E → HistoryEvent E
  event name began what = record { name = name; began = began; what = what }

  -- the history after a token of this name added these events, one after another: each call began when the event before it was added
  abbrev pub after_events : List ℕ → List E → List (HistoryEvent E) → List (HistoryEvent E)
  after_events name [] h = h
  after_events name (what ∷ more) h = after_events name more (h ++ event name (length h) what ∷ [])

  -- no event has this name
  abbrev pub IsSilent : List ℕ → List (HistoryEvent E) → Type 0
  IsSilent name = AllByRecursion (λ (e : HistoryEvent E). e.name ≢ name)

  -- the rule of names, for a token of this name through which `made` seats were made: `IsMadeBy` holds of each event's name
  abbrev pub NamesOnlyMade : List ℕ → ℕ → List (HistoryEvent E) → Type 0
  NamesOnlyMade name made = AllByRecursion (λ (e : HistoryEvent E). IsMadeBy name made e.name)

  -- the later history is the earlier one, then events of others
  abbrev pub GrowsByOthers : List ℕ → List (HistoryEvent E) → List (HistoryEvent E) → Type 0
  GrowsByOthers name earlier later = (between : List (HistoryEvent E)) × (later ≡ earlier ++ between) × IsSilent name between

  -- ---- what a token knows

  -- what a token with these parts knows
  abbrev pub knowledge : List ℕ → ℕ → ℕ → List (HistoryEvent E) → Knowledge E
  knowledge name made lost seen = record { name = name; made = made; lost = lost; seen = seen }

  -- what the first seat knows before any call
  abbrev pub first_knowledge : Knowledge E
  first_knowledge = knowledge [] 0 0 []

  -- the history begins with what the token has seen, the rest is by others, and it keeps the token's rule of names
  abbrev pub Fits : List (HistoryEvent E) → Knowledge E → Type 0
  Fits history k = GrowsByOthers k.name k.seen history × NamesOnlyMade k.name k.made history

  -- the other has another name, which this one's rule of names allows
  abbrev pub IsApartFrom : Knowledge E → Knowledge E → Type 0
  IsApartFrom k other = (k.name ≢ other.name) × IsMadeBy k.name k.made other.name

  -- what the token knows after it has seen this history
  abbrev pub sees : List (HistoryEvent E) → Knowledge E → Knowledge E
  sees history k = knowledge k.name k.made k.lost history

  -- what the token knows after one more failed attempt
  abbrev pub loses : Knowledge E → Knowledge E
  loses k = knowledge k.name k.made (k.lost + 1) k.seen

  -- what the token knows after it has added events of its own, one after another
  abbrev pub adds : List E → Knowledge E → Knowledge E
  adds added k = knowledge k.name k.made k.lost (after_events k.name added k.seen)

  -- what the token knows after a seat was made through it
  abbrev pub makes : Knowledge E → Knowledge E
  makes k = knowledge k.name (k.made + 1) k.lost k.seen

  -- what that seat knows: the history that its maker has seen
  abbrev pub child : Knowledge E → Knowledge E
  child k = knowledge (child_name k.name (k.made + 1)) 0 0 k.seen
