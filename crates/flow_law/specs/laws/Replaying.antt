-- What a new subscriber receives first (`SharedFlow.replayCache`, `onSubscription`).
-- Begin with `Replays`: what `next` gives to a subscriber that reads while no other call is made.
use Rattle.std.specs.Prelude.{◌≡◌, ℕ, List, [], ◌∷◌, ◌++◌}
use Rattle.flow_law.specs.declared.config.Config.{Config}
use Rattle.flow_law.specs.declared.history.HistoryEvent.{HistoryEvent}
use Rattle.flow_law.specs.declared.history.Said.{Said}
use Rattle.flow_law.specs.declared.outcome.Next.{Next}
use Rattle.flow_law.specs.declared.outcome.Next.TheVariants.{Value, Empty}
use Rattle.flow_law.specs.declared.call.SharedCall.{SharedCall}
use Rattle.flow_law.specs.declared.call.SharedCall.TheVariants.{Subscribe, TakeNext}
use Rattle.flow_law.specs.declared.call.SharedReply.{SharedReply}
use Rattle.flow_law.specs.declared.call.SharedReply.TheVariants.{Subscribed, Received}
use Rattle.flow_law.specs.flow.SharedFlow.{SharedFlowState}
use Rattle.flow_law.specs.flow.SharedHistory.{History, IsLegalShared, Replies, shared_after_all, state_after}
use Rattle.flow_law.specs.flow.Mailbox.{found_at_entry, received}

module _ {T : Type 0} where
  -- each of these events is a `next` of u
  abbrev pub OnlyReads : ℕ → History T → Type 0
  OnlyReads u [] = Unit {0}
  OnlyReads u (e ∷ es) = (e.what.call ≡ TakeNext u) × OnlyReads u es

  -- the event subscribes with these own first values, and the subscriber gets the number u
  abbrev pub IsSubscribe : ℕ → List T → HistoryEvent (Said (SharedCall T) (SharedReply T)) → Type 0
  IsSubscribe u first e =
      (name : List ℕ) × (e.what.call ≡ Subscribe name first) × (e.what.reply ≡ Subscribed u)

  -- what `next` gives if these values are left: the first of them, or Empty
  abbrev pub first_or_empty : List T → Next T
  first_or_empty [] = Empty
  first_or_empty (v ∷ vs) = Value v

  -- u, which enters in the state s by the event e, reads while no other call is made: it receives its own first values,
  -- then the replay cache or the offered value, in order, and then Empty
  pub record Replays (u : ℕ) (first : List T) (s : SharedFlowState T)
      (e : HistoryEvent (Said (SharedCall T) (SharedReply T))) (reads : History T) : Type 0 where
    -- what it has still to receive after these reads
    pub rest : List T
    pub in_order : first ++ found_at_entry s ≡ received u reads ++ rest
    pub next : (r : Next T) → Replies (shared_after_all s (e ∷ reads)) (TakeNext u) (Received r)
        → r ≡ first_or_empty rest

  -- `Replays` holds of each subscriber that entered and then read until the end of the history while no other call was made
  abbrev pub EachReplays : Config → History T → Type 0
  EachReplays config h =
      (before reads : History T) (e : HistoryEvent (Said (SharedCall T) (SharedReply T)))
      (u : ℕ) (first : List T) → h ≡ before ++ e ∷ reads → IsSubscribe u first e
      → OnlyReads u reads → Replays u first (state_after config before) e reads

-- the law: in every legal history, a new subscriber that only reads receives what `Replays` says
abbrev pub LawReplay : Type 0 → Type 0
LawReplay T = (config : Config) (h : History T) → IsLegalShared config h → EachReplays config h
