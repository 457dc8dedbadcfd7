-- How a subscriber of a state flow gets the current value (`StateFlow`).
-- Begin with `Converges`: what one `next` gives, by the last value that the subscriber got.
use Rattle.std.specs.Prelude.{◌≡◌, ◌≢◌, ◌⊎◌, ℕ, ◌==◌, if◌then◌else◌, [], ◌∷◌, ◌++◌, Option, Some, None, IsSome}
use Rattle.flow_law.specs.declared.history.HistoryEvent.{HistoryEvent}
use Rattle.flow_law.specs.declared.history.Said.{Said}
use Rattle.flow_law.specs.declared.outcome.Next.{Next}
use Rattle.flow_law.specs.declared.outcome.Next.TheVariants.{Value, Empty}
use Rattle.flow_law.specs.declared.call.StateCall.{StateCall}
use Rattle.flow_law.specs.declared.call.StateCall.TheVariants.{TakeNext}
use Rattle.flow_law.specs.declared.call.StateReply.{StateReply}
use Rattle.flow_law.specs.declared.call.StateReply.TheVariants.{Received}
use Rattle.flow_law.specs.flow.StateFlow.{StateFlowState, StateHistory, first_state_flow, last_got_by, state_flow_after, StateFlowReplies, state_after_all, IsLegalState}

module _ {T : Type 0} where
  -- the last value that u got, after an event before which it was `last`
  abbrev pub got_by : ℕ → StateCall T → StateReply T → Option T → Option T
  got_by u (TakeNext n) (Received (Value v)) last = if n == u then Some v else last
  got_by u _ _ last = last

  -- the last value that u got, after events before which it was `last`
  abbrev pub got_from : ℕ → StateHistory T → Option T → Option T
  got_from u [] last = last
  got_from u (e ∷ es) last = got_from u es (got_by u e.what.call e.what.reply last)

  -- the last value that `next` gave to u in a history
  abbrev pub last_got : ℕ → StateHistory T → Option T
  last_got u h = got_from u h None

  -- no event changes the flow's value
  abbrev pub IsSteady : StateFlowState T → StateHistory T → Type 0
  IsSteady s [] = Unit {0}
  IsSteady s (e ∷ es) =
      ((state_flow_after s e.what.call e.what.reply).value ≡ s.value)
      × IsSteady (state_flow_after s e.what.call e.what.reply) es

  -- `next` gives Empty if the subscriber has the current value, and the current value otherwise
  abbrev pub GivesCurrent : T → Option T → Next T → Type 0
  GivesCurrent current last r =
      ((last ≡ Some current) × (r ≡ Empty)) ⊎ ((last ≢ Some current) × (r ≡ Value current))

  -- the event is a `next` of u that answered r
  abbrev pub IsNext : ℕ → Next T → HistoryEvent (Said (StateCall T) (StateReply T)) → Type 0
  IsNext u r e = (e.what.call ≡ TakeNext u) × (e.what.reply ≡ Received r)

  -- u is a subscriber in this state
  abbrev pub IsThere : ℕ → StateFlowState T → Type 0
  IsThere u s = IsSome (last_got_by u s.subscribers)

  -- how u gets the current value of a flow that had this history
  pub record Converges (u : ℕ) (first : StateFlowState T) (before : StateHistory T) : Type 0 where
    -- `next` gives Empty if the last value that u got is the current one, else the current one
    pub gives : (r : Next T) → IsThere u (state_after_all first before)
        → StateFlowReplies (state_after_all first before) (TakeNext u) (Received r)
        → GivesCurrent (state_after_all first before).value (last_got u before) r
    -- after one `next`, the last value that u got is the current one until an event changes it
    pub settles : (r : Next T) (e : HistoryEvent (Said (StateCall T) (StateReply T)))
        (since : StateHistory T) → IsThere u (state_after_all first before) → IsNext u r e
        → IsLegalState first (before ++ e ∷ since)
        → IsSteady (state_flow_after (state_after_all first before) e.what.call e.what.reply) since
        → last_got u (before ++ e ∷ since)
        ≡ Some (state_after_all first (before ++ e ∷ since)).value

-- the law: after every legal history, each subscriber gets the current value as `Converges` says
abbrev pub LawCurrent : Type 0 → Type 0
LawCurrent T = (limit : ℕ) (first : T) (before : StateHistory T)
    → IsLegalState (first_state_flow limit first) before
    → (u : ℕ) → Converges u (first_state_flow limit first) before
