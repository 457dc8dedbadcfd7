-- What a subscriber has received and has still to receive, defined without positions.
use Rattle.std.specs.Prelude.{ℕ, ◌-◌, ◌==◌, if◌then◌else◌, List, [], ◌∷◌, ◌++◌, length, drop}
use Rattle.flow_law.specs.declared.config.Config.{Config}
use Rattle.flow_law.specs.declared.outcome.Next.TheVariants.{Value, Gone}
use Rattle.flow_law.specs.declared.call.SharedCall.{SharedCall}
use Rattle.flow_law.specs.declared.call.SharedCall.TheVariants as call
use Rattle.flow_law.specs.declared.call.SharedReply.{SharedReply}
use Rattle.flow_law.specs.declared.call.SharedReply.TheVariants as reply
use Rattle.flow_law.specs.flow.SharedFlow.{SharedFlowState, first_state, values, cache, entry, is_offering, is_offered_as, window}
use Rattle.flow_law.specs.flow.SharedHistory.{History, after}

-- what a subscriber has received and has still to receive
pub record Mailbox (T : Type 0) : Type 0 where
  -- what the subscriber took, in order
  pub taken : List T
  -- what is left of its own first values, which it takes before those in the box
  pub own : List T
  -- what it has still to take of the flow's values
  pub box : List T

-- what a subscriber began with: its own first values, and its first position
pub record Beginning (T : Type 0) : Type 0 where
  pub first : List T
  pub entry : ℕ

module _ {T : Type 0} where
  -- the last `count` entries
  abbrev pub keep_last : ℕ → List T → List T
  keep_last count xs = drop (length xs - count) xs

  -- the box after values arrived: each goes to the end, and at most the last `room` values stay
  abbrev pub arrive : ℕ → List T → List T → List T
  arrive room box [] = box
  arrive room box (v ∷ vs) = arrive room (keep_last room (box ++ v ∷ [])) vs

  -- the mailbox after a `next`, which takes one more value if there is one; the arguments are what was taken, what is left of the own
  -- values, and the box
  abbrev pub take_first : List T → List T → List T → Mailbox T
  take_first taken (v ∷ own) box = record { taken = taken ++ v ∷ []; own = own; box = box }
  take_first taken [] [] = record { taken = taken; own = []; box = [] }
  take_first taken [] (v ∷ vs) = record { taken = taken ++ v ∷ []; own = []; box = vs }

  -- what a new subscriber finds besides its own first values: the cache, or only the offered value
  abbrev pub found_at_entry : SharedFlowState T → List T
  found_at_entry s = if is_offering s then drop (length s.emitted - 1) (values s) else cache s

  -- the mailbox after the event's own effect on it, before any value arrives
  abbrev pub before_arrivals : ℕ → SharedFlowState T → SharedCall T → SharedReply T → Mailbox T → Mailbox T
  before_arrivals u s (call.Subscribe name first) (reply.Subscribed n) m = if n == u then record m { own = first; box = found_at_entry s } else m
  before_arrivals u s (call.TakeNext n) (reply.Received Gone) m = m
  before_arrivals u s (call.TakeNext n) (reply.Received _) m = if n == u then take_first m.taken m.own m.box else m
  before_arrivals u s (call.Cancel e) (reply.Tested _) m = if is_offered_as e s then record m { box = [] } else m
  before_arrivals u s _ _ m = m

  -- the values that an event appends
  abbrev pub arrivals : SharedFlowState T → SharedFlowState T → List T
  arrivals old new = drop (length old.emitted) (values new)

  -- the mailbox after these values arrived
  abbrev pub with_arrivals : ℕ → List T → Mailbox T → Mailbox T
  with_arrivals room vs m = record m { box = arrive room m.box vs }

  -- the mailbox of the subscriber u after one event
  abbrev pub mailbox_by : ℕ → SharedFlowState T → SharedCall T → SharedReply T → Mailbox T → Mailbox T
  mailbox_by u s c r m = with_arrivals (window s) (arrivals s (after s c r)) (before_arrivals u s c r m)

  -- the mailbox of u after these events, which begin in the state s
  abbrev pub mailbox_from : ℕ → SharedFlowState T → History T → Mailbox T → Mailbox T
  mailbox_from u s [] m = m
  mailbox_from u s (e ∷ es) m = mailbox_from u (after s e.what.call e.what.reply) es (mailbox_by u s e.what.call e.what.reply m)

  -- the mailbox of the subscriber u after a history of a flow of this configuration
  abbrev pub mailbox : ℕ → Config → History T → Mailbox T
  mailbox u config h = mailbox_from u (first_state config) h (record { taken = []; own = []; box = [] })

  -- what u has taken after a history
  abbrev pub taken : ℕ → Config → History T → List T
  taken u config h = (mailbox u config h).taken

  -- what is left of u's own first values after a history
  abbrev pub own : ℕ → Config → History T → List T
  own u config h = (mailbox u config h).own

  -- what u has still to take of the flow's values after a history
  abbrev pub box : ℕ → Config → History T → List T
  box u config h = (mailbox u config h).box

  -- all that was delivered to u: what it took, and what it has still to take
  abbrev pub delivered : ℕ → Config → History T → List T
  delivered u config h = taken u config h ++ (own u config h ++ box u config h)

  -- the value that `next` gave to u in an event, if it gave one
  abbrev pub received_by : ℕ → SharedCall T → SharedReply T → List T
  received_by u (call.TakeNext n) (reply.Received (Value v)) = if n == u then v ∷ [] else []
  received_by u _ _ = []

  -- the values that `next` gave to u in a history
  abbrev pub received : ℕ → History T → List T
  received u [] = []
  received u (e ∷ es) = received_by u e.what.call e.what.reply ++ received u es

  -- what u began with, after an event before which it was `b`
  abbrev pub began_by : ℕ → SharedFlowState T → SharedCall T → SharedReply T → Beginning T → Beginning T
  began_by u s (call.Subscribe name first) (reply.Subscribed n) b = if n == u then record { first = first; entry = entry s } else b
  began_by u s _ _ b = b

  -- what u began with after these events, which begin in the state s
  abbrev pub began_from : ℕ → SharedFlowState T → History T → Beginning T → Beginning T
  began_from u s [] b = b
  began_from u s (e ∷ es) b = began_from u (after s e.what.call e.what.reply) es (began_by u s e.what.call e.what.reply b)

  -- what u began with in a history of a flow of this configuration
  abbrev pub began : ℕ → Config → History T → Beginning T
  began u config h = began_from u (first_state config) h (record { first = []; entry = 0 })
