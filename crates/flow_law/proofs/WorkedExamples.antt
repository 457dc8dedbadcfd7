-- The definitions compute what the worked examples say.
use Rattle.std.proofs.Common.{◌≡◌, ℕ, true, false, List, [], ◌∷◌, refl, Some}
use Rattle.flow_law.specs.declared.config.Config.{Config}
use Rattle.flow_law.specs.declared.config.Overflow.TheVariants.{Suspend, DropOldest, DropLatest}
use Rattle.flow_law.specs.declared.outcome.Emit.TheVariants.{Done, Queued}
use Rattle.flow_law.specs.declared.fault.FlowFault.TheVariants.{Exhausted, NeedsBuffer, TooLarge}
use Rattle.flow_law.specs.declared.outcome.Next.TheVariants.{Value, Empty, Gone}
use Rattle.flow_law.specs.declared.call.SharedCall.{SharedCall}
use Rattle.flow_law.specs.declared.call.SharedCall.TheVariants.{TryEmit, Emit, Poll, Cancel, Subscribe, TakeNext, Unsubscribe, ReplayCache, ResetReplayCache}
use Rattle.flow_law.specs.declared.call.SharedReply.{SharedReply}
use Rattle.flow_law.specs.declared.call.SharedReply.TheVariants.{Emitted, Tested, Subscribed, Received, Cached, Reset, Refused}
use Rattle.flow_law.specs.flow.SharedFlow.{SharedFlowState, first_state, config_fault, position_of, values}
use Rattle.flow_law.specs.flow.SharedHistory.{answer_to, History, state_after}
use Rattle.flow_law.specs.flow.Mailbox.{mailbox}

abbrev replies_from : SharedFlowState ℕ → List (SharedCall ℕ) → List (SharedReply ℕ)
replies_from s [] = []
replies_from s (c ∷ cs) = (answer_to c s).reply ∷ replies_from (answer_to c s).after cs

abbrev pub replies : Config → List (SharedCall ℕ) → List (SharedReply ℕ)
replies config cs = replies_from (first_state config) cs

abbrev pub played_from : SharedFlowState ℕ → List (SharedCall ℕ) → History ℕ
played_from s [] = []
played_from s (c ∷ cs) = record { name = []; began = 0; what = record { call = c; reply = (answer_to c s).reply } } ∷ played_from (answer_to c s).after cs

abbrev pub suspending : ℕ → ℕ → Config
suspending replay extra = record { replay = replay; extra = extra; overflow = Suspend; limit = 1000 }

abbrev pub dropping_oldest : ℕ → ℕ → Config
dropping_oldest replay extra = record { replay = replay; extra = extra; overflow = DropOldest; limit = 1000 }

abbrev pub dropping_latest : ℕ → ℕ → Config
dropping_latest replay extra = record { replay = replay; extra = extra; overflow = DropLatest; limit = 1000 }

slow_subscriber : replies (suspending 1 1) (Subscribe [] [] ∷ TryEmit 1 ∷ TryEmit 2 ∷ TryEmit 3 ∷ Emit 3 ∷ Poll 4 ∷ TakeNext 1 ∷ Poll 4 ∷ ReplayCache ∷ TakeNext 1 ∷ TakeNext 1 ∷ TakeNext 1 ∷ [])
    ≡ Subscribed 1 ∷ Tested true ∷ Tested true ∷ Tested false ∷ Emitted (Queued 4) ∷ Tested true ∷ Received (Value 1) ∷ Tested false ∷ Cached (3 ∷ []) ∷ Received (Value 2) ∷ Received (Value 3) ∷ Received Empty ∷ []
slow_subscriber = refl

oldest_go : replies (dropping_oldest 0 2) (Subscribe [] [] ∷ Emit 1 ∷ Emit 2 ∷ Emit 3 ∷ Emit 4 ∷ Emit 5 ∷ TakeNext 1 ∷ TakeNext 1 ∷ TakeNext 1 ∷ ReplayCache ∷ [])
    ≡ Subscribed 1 ∷ Emitted Done ∷ Emitted Done ∷ Emitted Done ∷ Emitted Done ∷ Emitted Done ∷ Received (Value 4) ∷ Received (Value 5) ∷ Received Empty ∷ Cached [] ∷ []
oldest_go = refl

latest_go : replies (dropping_latest 1 1) (Subscribe [] [] ∷ Emit 1 ∷ Emit 2 ∷ Emit 3 ∷ Emit 4 ∷ Emit 5 ∷ TakeNext 1 ∷ TakeNext 1 ∷ TakeNext 1 ∷ ReplayCache ∷ [])
    ≡ Subscribed 1 ∷ Emitted Done ∷ Emitted Done ∷ Emitted Done ∷ Emitted Done ∷ Emitted Done ∷ Received (Value 1) ∷ Received (Value 2) ∷ Received Empty ∷ Cached (2 ∷ []) ∷ []
latest_go = refl

two_readers : replies (dropping_oldest 0 1) (Subscribe [] [] ∷ Subscribe [] [] ∷ Emit 1 ∷ TakeNext 1 ∷ Emit 2 ∷ TakeNext 1 ∷ Emit 3 ∷ TakeNext 2 ∷ TakeNext 2 ∷ TakeNext 1 ∷ TakeNext 1 ∷ [])
    ≡ Subscribed 1 ∷ Subscribed 2 ∷ Emitted Done ∷ Received (Value 1) ∷ Emitted Done ∷ Received (Value 2) ∷ Emitted Done ∷ Received (Value 3) ∷ Received Empty ∷ Received (Value 3) ∷ Received Empty ∷ []
two_readers = refl

offered_to_two : replies (suspending 0 0) (Subscribe [] [] ∷ Subscribe [] [] ∷ TryEmit 7 ∷ Emit 7 ∷ TakeNext 1 ∷ Poll 3 ∷ TakeNext 2 ∷ Poll 3 ∷ [])
    ≡ Subscribed 1 ∷ Subscribed 2 ∷ Tested false ∷ Emitted (Queued 3) ∷ Received (Value 7) ∷ Tested true ∷ Received (Value 7) ∷ Tested false ∷ []
offered_to_two = refl

offer_cancelled : replies (suspending 0 0) (Subscribe [] [] ∷ Subscribe [] [] ∷ TryEmit 7 ∷ Emit 7 ∷ TakeNext 1 ∷ Poll 3 ∷ Cancel 3 ∷ TakeNext 2 ∷ Poll 3 ∷ Cancel 3 ∷ [])
    ≡ Subscribed 1 ∷ Subscribed 2 ∷ Tested false ∷ Emitted (Queued 3) ∷ Received (Value 7) ∷ Tested true ∷ Tested true ∷ Received Empty ∷ Tested false ∷ Tested false ∷ []
offer_cancelled = refl

late_subscriber : replies (suspending 0 0) (Subscribe [] [] ∷ Emit 7 ∷ Subscribe [] [] ∷ TakeNext 3 ∷ Poll 2 ∷ TakeNext 1 ∷ Poll 2 ∷ Subscribe [] [] ∷ TakeNext 4 ∷ [])
    ≡ Subscribed 1 ∷ Emitted (Queued 2) ∷ Subscribed 3 ∷ Received (Value 7) ∷ Tested true ∷ Received (Value 7) ∷ Tested false ∷ Subscribed 4 ∷ Received Empty ∷ []
late_subscriber = refl

two_offers : replies (suspending 0 0) (Subscribe [] [] ∷ Emit 7 ∷ Emit 8 ∷ Poll 2 ∷ Poll 3 ∷ TakeNext 1 ∷ Poll 2 ∷ Poll 3 ∷ TakeNext 1 ∷ Poll 3 ∷ TakeNext 1 ∷ [])
    ≡ Subscribed 1 ∷ Emitted (Queued 2) ∷ Emitted (Queued 3) ∷ Tested true ∷ Tested true ∷ Received (Value 7) ∷ Tested false ∷ Tested true ∷ Received (Value 8) ∷ Tested false ∷ Received Empty ∷ []
two_offers = refl

queue_after_the_last : replies (suspending 1 0) (Subscribe [] [] ∷ Emit 1 ∷ Emit 2 ∷ Emit 3 ∷ Emit 4 ∷ Unsubscribe 1 ∷ Poll 3 ∷ Poll 4 ∷ Poll 5 ∷ ReplayCache ∷ Unsubscribe 1 ∷ TakeNext 1 ∷ [])
    ≡ Subscribed 1 ∷ Emitted Done ∷ Emitted (Queued 3) ∷ Emitted (Queued 4) ∷ Emitted (Queued 5) ∷ Tested true ∷ Tested false ∷ Tested false ∷ Tested false ∷ Cached (4 ∷ []) ∷ Tested false ∷ Received Gone ∷ []
queue_after_the_last = refl

cancelled_is_lost : replies (suspending 1 0) (Subscribe [] [] ∷ Emit 1 ∷ Emit 2 ∷ Emit 3 ∷ Emit 4 ∷ Cancel 5 ∷ Unsubscribe 1 ∷ ReplayCache ∷ [])
    ≡ Subscribed 1 ∷ Emitted Done ∷ Emitted (Queued 3) ∷ Emitted (Queued 4) ∷ Emitted (Queued 5) ∷ Tested true ∷ Tested true ∷ Cached (3 ∷ []) ∷ []
cancelled_is_lost = refl

forgotten : replies (suspending 2 1) (Subscribe [] [] ∷ TryEmit 1 ∷ TryEmit 2 ∷ ReplayCache ∷ ResetReplayCache ∷ ReplayCache ∷ Subscribe [] [] ∷ TakeNext 4 ∷ TakeNext 1 ∷ TakeNext 1 ∷ TakeNext 1 ∷ TryEmit 3 ∷ TakeNext 4 ∷ ReplayCache ∷ [])
    ≡ Subscribed 1 ∷ Tested true ∷ Tested true ∷ Cached (1 ∷ 2 ∷ []) ∷ Reset ∷ Cached [] ∷ Subscribed 4 ∷ Received Empty ∷ Received (Value 1) ∷ Received (Value 2) ∷ Received Empty ∷ Tested true ∷ Received (Value 3) ∷ Cached (3 ∷ []) ∷ []
forgotten = refl

few_numbers : replies (record { replay = 1; extra = 1; overflow = Suspend; limit = 3 }) (Subscribe [] [] ∷ TryEmit 1 ∷ TryEmit 2 ∷ TryEmit 3 ∷ Emit 3 ∷ Subscribe [] [] ∷ TakeNext 1 ∷ TryEmit 3 ∷ Poll 4 ∷ Cancel 4 ∷ TakeNext 5 ∷ [])
    ≡ Subscribed 1 ∷ Tested true ∷ Tested true ∷ Tested false ∷ Refused Exhausted ∷ Refused Exhausted ∷ Received (Value 1) ∷ Refused Exhausted ∷ Tested false ∷ Tested false ∷ Received Gone ∷ []
few_numbers = refl

-- a subscriber receives its own first values before the cache and before what is emitted, and no strategy drops them
own_values_first : replies (dropping_oldest 1 1) (TryEmit 1 ∷ Subscribe [] (8 ∷ 9 ∷ []) ∷ Emit 2 ∷ Emit 3 ∷ Emit 4 ∷ TakeNext 2 ∷ TakeNext 2 ∷ TakeNext 2 ∷ TakeNext 2 ∷ TakeNext 2 ∷ ReplayCache ∷ [])
    ≡ Tested true ∷ Subscribed 2 ∷ Emitted Done ∷ Emitted Done ∷ Emitted Done ∷ Received (Value 8) ∷ Received (Value 9) ∷ Received (Value 3) ∷ Received (Value 4) ∷ Received Empty ∷ Cached (4 ∷ []) ∷ []
own_values_first = refl

own_value_lets_wait : replies (suspending 0 0) (Subscribe [] (8 ∷ []) ∷ Emit 7 ∷ TakeNext 1 ∷ Poll 2 ∷ TakeNext 1 ∷ Poll 2 ∷ [])
    ≡ Subscribed 1 ∷ Emitted (Queued 2) ∷ Received (Value 8) ∷ Tested true ∷ Received (Value 7) ∷ Tested false ∷ []
own_value_lets_wait = refl

own_value_outlives_a_cancel : replies (suspending 0 0) (Subscribe [] (8 ∷ []) ∷ Emit 7 ∷ Cancel 2 ∷ TakeNext 1 ∷ TakeNext 1 ∷ [])
    ≡ Subscribed 1 ∷ Emitted (Queued 2) ∷ Tested true ∷ Received (Value 8) ∷ Received Empty ∷ []
own_value_outlives_a_cancel = refl

-- two own values are no lag: with room for one value the flow is open
own_values_are_no_lag : replies (suspending 1 0) (Subscribe [] (8 ∷ 9 ∷ []) ∷ TryEmit 1 ∷ TryEmit 2 ∷ TakeNext 1 ∷ TryEmit 2 ∷ [])
    ≡ Subscribed 1 ∷ Tested true ∷ Tested false ∷ Received (Value 8) ∷ Tested false ∷ []
own_values_are_no_lag = refl

no_number_for_own_values : replies (record { replay = 0; extra = 1; overflow = Suspend; limit = 0 }) (Subscribe [] (1 ∷ 2 ∷ []) ∷ []) ≡ Refused Exhausted ∷ []
no_number_for_own_values = refl

needs_a_buffer : config_fault (dropping_oldest 0 0) ≡ Some NeedsBuffer
needs_a_buffer = refl

too_large : config_fault (suspending 65536 1) ≡ Some TooLarge
too_large = refl

-- what a subscriber took and has left, by the rules without positions
oldest_left : mailbox 1 (dropping_oldest 0 2) (played_from (first_state (dropping_oldest 0 2)) (Subscribe [] [] ∷ Emit 1 ∷ TakeNext 1 ∷ Emit 2 ∷ Emit 3 ∷ Emit 4 ∷ [])) ≡ record { taken = 1 ∷ []; own = []; box = 3 ∷ 4 ∷ [] }
oldest_left = refl

admitted_left : mailbox 2 (suspending 1 1) (played_from (first_state (suspending 1 1)) (TryEmit 9 ∷ Subscribe [] [] ∷ TryEmit 1 ∷ Emit 2 ∷ Emit 3 ∷ TakeNext 2 ∷ [])) ≡ record { taken = 9 ∷ []; own = []; box = 1 ∷ 2 ∷ [] }
admitted_left = refl

own_left : mailbox 2 (dropping_oldest 1 1) (played_from (first_state (dropping_oldest 1 1)) (TryEmit 1 ∷ Subscribe [] (8 ∷ 9 ∷ []) ∷ Emit 2 ∷ Emit 3 ∷ TakeNext 2 ∷ [])) ≡ record { taken = 8 ∷ []; own = 9 ∷ []; box = 2 ∷ 3 ∷ [] }
own_left = refl

-- why a strategy that drops needs a buffer: without one the box has a value that the log does not give
abbrev bufferless : History ℕ
bufferless = played_from (first_state (dropping_oldest 0 0)) (Subscribe [] [] ∷ Emit 1 ∷ Emit 2 ∷ [])

bufferless_box : mailbox 1 (dropping_oldest 0 0) bufferless ≡ record { taken = []; own = []; box = 2 ∷ [] }
bufferless_box = refl

bufferless_rest : (position_of 1 (state_after (dropping_oldest 0 0) bufferless).subscribers ≡ Some 2) × (values (state_after (dropping_oldest 0 0) bufferless) ≡ 1 ∷ 2 ∷ [])
bufferless_rest = (refl, refl)
