-- Histories of any kind of flow. Begin with `Kind`, which has all that differs between kinds of flow. The other definitions of
-- histories, and all those of tokens, are the same for every kind.
use Rattle.std.specs.Prelude.{◌≡◌, ℕ, Bool, false, List, [], ◌∷◌, if◌then◌else◌, Option, Some, None, Result, Ok, Err, ◌==◌}
use Rattle.flow_law.specs.declared.fault.FlowFault.{FlowFault}
use Rattle.flow_law.specs.declared.fault.Refused.{Refused}
use Rattle.flow_law.specs.declared.history.HistoryEvent.{HistoryEvent}
use Rattle.flow_law.specs.declared.history.Knowledge.{Knowledge}
use Rattle.flow_law.specs.declared.history.Said.{Said}
use Rattle.flow_law.specs.declared.outcome.Next.{Next}

-- a number that a flow issues: a subscriber's, or an emission's
pub data Number : Type 0 where
  subscriber : ℕ → Number
  emission : ℕ → Number

-- two numbers are the same: of one kind, and equal
abbrev pub is_same : Number → Number → Bool
is_same (subscriber m) (subscriber n) = m == n
is_same (emission m) (emission n) = m == n
is_same _ _ = false

-- a number, and the name of the token that owns it
pub record Owner : Type 0 where
  pub number : Number
  pub name : List ℕ

-- the name of the token that owns a number, by a list of owners with the latest first
abbrev pub owner_of : Number → List Owner → Option (List ℕ)
owner_of number [] = None
owner_of number (o ∷ os) = if is_same o.number number then Some o.name else owner_of number os

-- the owners with the one that an event adds
abbrev pub with_owner : Option Owner → List Owner → List Owner
with_owner None owners = owners
with_owner (Some o) owners = o ∷ owners

-- A kind of flow: its values, the states of its documented flow of one thread, its calls and its replies.
pub record Kind (T S C R : Type 0) : Type 1 where
  -- a flow may begin in this state: it is the state before any call
  pub MayBegin : S → Type 0
  -- the flow may give this reply to this call in this state
  pub Replies : S → C → R → Type 0
  -- the state after this call with this reply
  pub after : S → C → R → S
  -- the number that a token is given by this call and this reply, and that token's name, if one is given; the first argument is the
  -- caller's name
  pub gives : List ℕ → C → R → Option Owner
  -- the number that a call names, if it names one
  pub speaks_of : C → Option Number
  -- there is a subscriber of this number in this state
  pub HasSubscriber : ℕ → S → Type 0
  -- the calls that every kind has, and their replies
  pub subscribe : List ℕ → C
  pub take_next : ℕ → C
  pub unsubscribe : ℕ → C
  pub count : C
  pub replay_cache : C
  pub subscribed : ℕ → R
  pub received : Next T → R
  pub tested : Bool → R
  pub counted : ℕ → R
  pub cached : List T → R
  pub refused : FlowFault → R

-- a result without the value that a refusal returns
abbrev pub fault_alone : {X Y : Type 0} → Result X (Refused Y) → Result X FlowFault
fault_alone (Ok x) = Ok x
fault_alone (Err refused) = Err refused.fault

module _ {T S C R : Type 0} (kind : Kind T S C R) where
  -- a result as a reply: `wrap` makes the reply of a call that is not refused
  abbrev pub replied : {X : Type 0} → (X → R) → Result X FlowFault → R
  replied wrap (Ok x) = wrap x
  replied wrap (Err fault) = kind.refused fault

  -- the state that a history leads to
  abbrev pub after_all : S → List (HistoryEvent (Said C R)) → S
  after_all s [] = s
  after_all s (e ∷ es) = after_all (kind.after s e.what.call e.what.reply) es

  -- each reply is one that the flow may give in the state that the events before it lead to
  abbrev pub IsLegal : S → List (HistoryEvent (Said C R)) → Type 0
  IsLegal s [] = Unit {0}
  IsLegal s (e ∷ es) = kind.Replies s e.what.call e.what.reply × IsLegal (kind.after s e.what.call e.what.reply) es

  -- the owners after an event
  abbrev pub owners_after : List Owner → HistoryEvent (Said C R) → List Owner
  owners_after owners e = with_owner (kind.gives e.name e.what.call e.what.reply) owners

  -- the owners that a history leads to, the latest first
  abbrev pub owners_all : List Owner → List (HistoryEvent (Said C R)) → List Owner
  owners_all owners [] = owners
  owners_all owners (e ∷ es) = owners_all (owners_after owners e) es

  -- a token of this name may make a call that names this number: it owns the number, or the call names none
  abbrev pub MaySpeak : Option Number → List Owner → List ℕ → Type 0
  MaySpeak None owners name = Unit {0}
  MaySpeak (Some number) owners name = owner_of number owners ≡ Some name

  -- each event that names a number was made through the token that owns it
  abbrev pub IsOwned : List Owner → List (HistoryEvent (Said C R)) → Type 0
  IsOwned owners [] = Unit {0}
  IsOwned owners (e ∷ es) = MaySpeak (kind.speaks_of e.what.call) owners e.name × IsOwned (owners_after owners e) es

  -- a history that a flow that began in this state may have had: legal and owned
  pub record IsHistory (first : S) (h : List (HistoryEvent (Said C R))) : Type 0 where
    pub begins : kind.MayBegin first
    pub legal : IsLegal first h
    pub owned : IsOwned [] h

  -- the token of this name may make this call after this history
  abbrev pub MayCall : C → List ℕ → List (HistoryEvent (Said C R)) → Type 0
  MayCall call name h = MaySpeak (kind.speaks_of call) (owners_all [] h) name

  -- ---- what a token knows of its number

  -- after the history, the token of this name owns this number
  abbrev pub IsGiven : List ℕ → Number → List (HistoryEvent (Said C R)) → Type 0
  IsGiven name number h = owner_of number (owners_all [] h) ≡ Some name

  -- after the history there is a subscriber of this number, whichever state the flow began in
  abbrev pub IsSubscribed : ℕ → List (HistoryEvent (Said C R)) → Type 0
  IsSubscribed number h = (first : S) → IsLegal first h → kind.HasSubscriber number (after_all first h)

  -- after the history that it has seen, the token owns this subscriber's number, and the subscriber has not unsubscribed
  abbrev pub IsSubscription : Knowledge (Said C R) → ℕ → Type 0
  IsSubscription k number = IsGiven k.name (subscriber number) k.seen × IsSubscribed number k.seen

  -- after the history that it has seen, the token owns this emission's number
  abbrev pub IsEmission : Knowledge (Said C R) → ℕ → Type 0
  IsEmission k number = IsGiven k.name (emission number) k.seen
