-- What each call of a sharing does to a `SharedCore`. Begin with `CoreHubDoes`.
use Rattle.std.specs.Prelude.{◌≡◌, ℕ, Bool, true, false, if◌then◌else◌, Option, Some, None, is_some, Ok, Err}
use Rattle.flow_law.specs.declared.call.SharedCall.TheVariants as call
use Rattle.flow_law.specs.declared.call.SharedReply.TheVariants as reply
use Rattle.flow_law.specs.declared.outcome.Emit.TheVariants.{Done, Queued}
use Rattle.flow_law.specs.sharing.SharingCalls.{HubCall, HubAnswer, counts, puts, polls, cancels, resets}
use Rattle.flow_law.specs.flow.Standing.{Core, Conforms}
use Rattle.flow_turns.specs.declared.core_hub.CoreHub.{CoreHub}

-- the emission's number if it still waits, else None
abbrev pub still : Bool → ℕ → Option ℕ
still waits number = if waits then Some number else None

module _ {T A : Type 0} where
  -- the core, as contracts see it
  abbrev pub core_of : CoreHub T A → Core T
  core_of hub = hub.core

  -- the number of the hub's emission, if it waited at the last put or poll
  abbrev pub hub_emission : CoreHub T A → Option ℕ
  hub_emission hub = hub.emission

  -- the hub has an emission that waited at the last put or poll
  abbrev pub is_hub_waiting : CoreHub T A → Bool
  is_hub_waiting hub = is_some hub.emission

  -- a poll of the hub polls the emission that waits, if there is one
  abbrev pub PollDoes : Option ℕ → CoreHub T A → Bool → CoreHub T A → Type 0
  PollDoes None old waits new = (waits ≡ false) × (new ≡ old)
  PollDoes (Some number) old waits new =
      Conforms old.core (call.Poll number) (reply.Tested waits) new.core × (new.emission ≡ still waits number)

  -- a cancel of the hub cancels the emission that waits, if there is one
  abbrev pub CancelDoes : Option ℕ → CoreHub T A → Bool → CoreHub T A → Type 0
  CancelDoes None old waited new = (waited ≡ false) × (new ≡ old)
  CancelDoes (Some number) old waited new =
      Conforms old.core (call.Cancel number) (reply.Tested waited) new.core × (new.emission ≡ None)

  -- A put is an `emit` of the core. If it queues, the hub keeps its number, which polls and cancels then use; without a number they do
  -- nothing. A reset empties the replay cache. Only a put can be refused.
  abbrev pub CoreHubDoes : (c : HubCall T) → CoreHub T A → HubAnswer c → CoreHub T A → Type 0
  CoreHubDoes counts old (Ok count) new = Conforms old.core call.SubscriptionCount (reply.Counted count) new.core × (new.emission ≡ old.emission)
  CoreHubDoes counts old (Err fault) new = ⊥
  CoreHubDoes (puts x) old (Ok false) new = Conforms old.core (call.Emit x) (reply.Emitted Done) new.core × (new.emission ≡ None)
  CoreHubDoes (puts x) old (Ok true) new =
      (number : ℕ) × Conforms old.core (call.Emit x) (reply.Emitted (Queued number)) new.core × (new.emission ≡ Some number)
  CoreHubDoes (puts x) old (Err fault) new = Conforms old.core (call.Emit x) (reply.Refused fault) new.core × (new.emission ≡ None)
  CoreHubDoes polls old (Ok waits) new = PollDoes old.emission old waits new
  CoreHubDoes polls old (Err fault) new = ⊥
  CoreHubDoes cancels old (Ok waited) new = CancelDoes old.emission old waited new
  CoreHubDoes cancels old (Err fault) new = ⊥
  CoreHubDoes resets old (Ok done) new = Conforms old.core call.ResetReplayCache reply.Reset new.core × (new.emission ≡ old.emission)
  CoreHubDoes resets old (Err fault) new = ⊥
