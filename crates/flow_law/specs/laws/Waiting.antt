-- How long an emission waits, by what subscribers receive meanwhile (`MutableSharedFlow.emit`).
-- Begin with `Waits`: while an emission waits, some subscriber is slow.
use Rattle.std.specs.Prelude.{◌≡◌, ℕ, ◌+◌, ◌≤◌, true, ◌==◌, ◌&&◌, if◌then◌else◌, List, [], ◌∷◌, ◌++◌, length, IsSome}
use Rattle.flow_law.specs.declared.config.Config.{Config}
use Rattle.flow_law.specs.declared.outcome.Next.TheVariants.{Value}
use Rattle.flow_law.specs.declared.call.SharedCall.{SharedCall}
use Rattle.flow_law.specs.declared.call.SharedCall.TheVariants as call
use Rattle.flow_law.specs.declared.call.SharedReply.{SharedReply}
use Rattle.flow_law.specs.declared.call.SharedReply.TheVariants as reply
use Rattle.flow_law.specs.flow.SharedFlow.{Numbered, SharedFlowState, position_of, own_of, is_queued, is_offered_as}
use Rattle.flow_law.specs.flow.SharedHistory.{History, IsLegalShared, after, shared_after_all, state_after}

module _ {T : Type 0} where
  -- the emitted value that an event gave to the subscriber u. Its own first values do not count
  abbrev pub from_flow_by : ℕ → SharedFlowState T → SharedCall T → SharedReply T → List T
  from_flow_by u s (call.TakeNext n) (reply.Received (Value v)) =
      if (n == u) && (length (own_of u s.subscribers) == 0) then v ∷ [] else []
  from_flow_by u s _ _ = []

  -- the emitted values that `next` gave to u in these events, which begin in the state s
  abbrev pub from_flow : ℕ → SharedFlowState T → History T → List T
  from_flow u s [] = []
  from_flow u s (e ∷ es) =
      from_flow_by u s e.what.call e.what.reply ++ from_flow u (after s e.what.call e.what.reply) es

  -- how many values are before this emission's value in the queue
  abbrev pub ahead : ℕ → List (Numbered T) → ℕ
  ahead e [] = 0
  ahead e (q ∷ queue) = if q.number == e then 0 else 1 + ahead e queue

  -- some subscriber after these events received at most `most` emitted values in them
  abbrev pub HasSlowSubscriber : ℕ → SharedFlowState T → History T → Type 0
  HasSlowSubscriber most s h =
      (u : ℕ) × IsSome (position_of u (shared_after_all s h).subscribers)
      × (length (from_flow u s h) ≤ most)

  -- if the emission e waits before these events and after them, some subscriber is slow
  pub record Waits (e : ℕ) (s : SharedFlowState T) (h : History T) : Type 0 where
    -- it is in the queue before and after
    pub in_queue : is_queued e s ≡ true → is_queued e (shared_after_all s h) ≡ true
        → HasSlowSubscriber (ahead e s.queue) s h
    -- without a buffer: it is in the queue before, and offered after
    pub let_in : is_queued e s ≡ true → is_offered_as e (shared_after_all s h) ≡ true
        → HasSlowSubscriber (ahead e s.queue + 1) s h
    -- it is offered before and after
    pub offered : is_offered_as e s ≡ true → is_offered_as e (shared_after_all s h) ≡ true
        → HasSlowSubscriber 0 s h

  -- `Waits` holds of each emission, from each point of the history on
  abbrev pub EachWaits : Config → History T → Type 0
  EachWaits config h = (before since : History T) → h ≡ before ++ since
      → (e : ℕ) → Waits e (state_after config before) since

-- the law: in every legal history, while an emission waits, some subscriber is slow
abbrev pub LawAdmitted : Type 0 → Type 0
LawAdmitted T = (config : Config) (h : History T) → IsLegalShared config h → EachWaits config h
