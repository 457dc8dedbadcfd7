-- What the definitions of the laws give in worked examples, and why each bound and each premise is needed.
use Rattle.std.proofs.Common.{◌≡◌, ℕ, true, false, List, [], ◌∷◌, Some, None, refl}
use Rattle.flow_law.specs.declared.config.Config.{Config}
use Rattle.flow_law.specs.declared.outcome.Next.TheVariants.{Value, Empty}
use Rattle.flow_law.specs.declared.call.SharedCall.{SharedCall}
use Rattle.flow_law.specs.declared.call.SharedCall.TheVariants.{TryEmit, Emit, Cancel, Subscribe, TakeNext, Unsubscribe, ResetReplayCache}
use Rattle.flow_law.specs.declared.call.StateCall.TheVariants as state_call
use Rattle.flow_law.specs.declared.call.StateReply.TheVariants as state_reply
use Rattle.flow_law.specs.flow.SharedFlow.{SharedFlowState, first_state, is_queued, is_offered_as}
use Rattle.flow_law.specs.flow.SharedHistory.{History, shared_after_all, state_after}
use Rattle.flow_law.specs.flow.StateFlow.{StateHistory, first_state_flow, state_after_all}
use Rattle.flow_law.specs.flow.Mailbox.{found_at_entry, received, keep_last}
use Rattle.flow_law.specs.laws.Waiting.{ahead, from_flow}
use Rattle.flow_law.specs.laws.Lagging.{delivered_by_flow, emitted_since_entry}
use Rattle.flow_law.specs.laws.Current.{last_got}
use Rattle.flow_law.proofs.WorkedExamples.{played_from, suspending, dropping_oldest, dropping_latest}
use Rattle.flow_law.proofs.StateExample.{event}

abbrev played : Config → List (SharedCall ℕ) → History ℕ
played config calls = played_from (first_state config) calls

abbrev state_of : Config → List (SharedCall ℕ) → SharedFlowState ℕ
state_of config calls = state_after config (played config calls)

-- ---- how long an emission waits

-- subscriber 1 is full, and emissions 3 and 4 are in the queue
abbrev two_queued : SharedFlowState ℕ
two_queued = state_of (suspending 1 0) (Subscribe [] [] ∷ Emit 1 ∷ Emit 2 ∷ Emit 3 ∷ [])

one_ahead : (ahead 3 two_queued.queue ≡ 0) × (ahead 4 two_queued.queue ≡ 1)
one_ahead = (refl, refl)

-- with one value before it, an emission may wait while a subscriber has received one value, ..
waits_after_one : (is_queued 4 (shared_after_all two_queued (played_from two_queued (TakeNext 1 ∷ []))) ≡ true) × (from_flow 1 two_queued (played_from two_queued (TakeNext 1 ∷ [])) ≡ 1 ∷ [])
waits_after_one = (refl, refl)

-- .. and is let in when it has received two
let_in_after_two : (is_queued 4 (shared_after_all two_queued (played_from two_queued (TakeNext 1 ∷ TakeNext 1 ∷ []))) ≡ false)
    × (from_flow 1 two_queued (played_from two_queued (TakeNext 1 ∷ TakeNext 1 ∷ [])) ≡ 1 ∷ 2 ∷ [])
let_in_after_two = (refl, refl)

-- it is also let in when the slow subscriber leaves
let_in_by_unsubscribe : is_queued 4 (shared_after_all two_queued (played_from two_queued (Unsubscribe 1 ∷ []))) ≡ false
let_in_by_unsubscribe = refl

-- a cancelled emission makes room in the queue for the ones after it
nearer_by_cancel : ahead 4 (shared_after_all two_queued (played_from two_queued (Cancel 3 ∷ []))).queue ≡ 0
nearer_by_cancel = refl

-- without a buffer, emission 2 is offered and emission 3 is in the queue
abbrev one_offered : SharedFlowState ℕ
one_offered = state_of (suspending 0 0) (Subscribe [] (8 ∷ []) ∷ Emit 7 ∷ Emit 6 ∷ [])

-- a subscriber's own first value is not one of the flow's, so the offer stays
own_value_ends_no_offer : (is_offered_as 2 (shared_after_all one_offered (played_from one_offered (TakeNext 1 ∷ []))) ≡ true)
    × (from_flow 1 one_offered (played_from one_offered (TakeNext 1 ∷ [])) ≡ [])
own_value_ends_no_offer = (refl, refl)

-- emission 3 had no value before it, and is offered after one value was received
offered_after_one : (is_offered_as 3 (shared_after_all one_offered (played_from one_offered (TakeNext 1 ∷ TakeNext 1 ∷ []))) ≡ true)
    × (from_flow 1 one_offered (played_from one_offered (TakeNext 1 ∷ TakeNext 1 ∷ [])) ≡ 7 ∷ [])
offered_after_one = (refl, refl)

-- ---- what a slow subscriber misses

abbrev slow_and_dropping : List (SharedCall ℕ)
slow_and_dropping = Subscribe [] [] ∷ Emit 1 ∷ TakeNext 1 ∷ Emit 2 ∷ Emit 3 ∷ Emit 4 ∷ []

-- it misses 2, the oldest of three values for which there was room for two
misses_the_oldest : (delivered_by_flow 1 (dropping_oldest 0 2) (played (dropping_oldest 0 2) slow_and_dropping) ≡ 1 ∷ 3 ∷ 4 ∷ [])
    × (emitted_since_entry 1 (dropping_oldest 0 2) (played (dropping_oldest 0 2) slow_and_dropping) ≡ 1 ∷ 2 ∷ 3 ∷ 4 ∷ [])
    × (keep_last 2 (emitted_since_entry 1 (dropping_oldest 0 2) (played (dropping_oldest 0 2) slow_and_dropping)) ≡ 3 ∷ 4 ∷ [])
misses_the_oldest = (refl, refl, refl)

-- a dropped latest value is never emitted, so no subscriber misses it
latest_is_not_emitted : (delivered_by_flow 1 (dropping_latest 1 1) (played (dropping_latest 1 1) slow_and_dropping) ≡ 1 ∷ 2 ∷ 3 ∷ [])
    × (emitted_since_entry 1 (dropping_latest 1 1) (played (dropping_latest 1 1) slow_and_dropping) ≡ 1 ∷ 2 ∷ 3 ∷ [])
latest_is_not_emitted = (refl, refl)

-- why there has to be a buffer: without one a subscriber misses a cancelled offer
cancelled_offer_is_missed : (delivered_by_flow 1 (suspending 0 0) (played (suspending 0 0) (Subscribe [] [] ∷ Emit 7 ∷ Cancel 2 ∷ [])) ≡ [])
    × (emitted_since_entry 1 (suspending 0 0) (played (suspending 0 0) (Subscribe [] [] ∷ Emit 7 ∷ Cancel 2 ∷ [])) ≡ 7 ∷ [])
cancelled_offer_is_missed = (refl, refl)

-- what a new subscriber finds in the cache counts as emitted since it entered
cache_counts : (delivered_by_flow 2 (suspending 1 1) (played (suspending 1 1) (TryEmit 9 ∷ Subscribe [] [] ∷ TryEmit 1 ∷ [])) ≡ 9 ∷ 1 ∷ [])
    × (emitted_since_entry 2 (suspending 1 1) (played (suspending 1 1) (TryEmit 9 ∷ Subscribe [] [] ∷ TryEmit 1 ∷ [])) ≡ 9 ∷ 1 ∷ [])
cache_counts = (refl, refl)

-- ---- what a new subscriber receives first

abbrev enters_and_reads : SharedFlowState ℕ → ℕ → List ℕ → List ℕ
enters_and_reads s u first = received u (played_from s (Subscribe [] first ∷ TakeNext u ∷ TakeNext u ∷ TakeNext u ∷ []))

-- its own first value, and then the cache
own_value_then_cache : (found_at_entry (state_of (suspending 1 1) (TryEmit 1 ∷ TryEmit 2 ∷ [])) ≡ 2 ∷ [])
    × (enters_and_reads (state_of (suspending 1 1) (TryEmit 1 ∷ TryEmit 2 ∷ [])) 3 (8 ∷ []) ≡ 8 ∷ 2 ∷ [])
own_value_then_cache = (refl, refl)

-- the offered value
offer_is_found : (found_at_entry (state_of (suspending 0 0) (Subscribe [] [] ∷ Emit 7 ∷ [])) ≡ 7 ∷ [])
    × (enters_and_reads (state_of (suspending 0 0) (Subscribe [] [] ∷ Emit 7 ∷ [])) 3 [] ≡ 7 ∷ [])
offer_is_found = (refl, refl)

-- its reads let no queued value in: subscriber 1 is still full
queued_stays_out : (found_at_entry two_queued ≡ 1 ∷ []) × (enters_and_reads two_queued 5 [] ≡ 1 ∷ [])
queued_stays_out = (refl, refl)

-- after a reset there is nothing
reset_leaves_nothing : enters_and_reads (state_of (suspending 2 0) (TryEmit 1 ∷ ResetReplayCache ∷ [])) 2 [] ≡ []
reset_leaves_nothing = refl

-- ---- how a subscriber gets the current value

abbrev skips_an_update : StateHistory ℕ
skips_an_update =
    event (state_call.Subscribe []) (state_reply.Subscribed 1) ∷ event (state_call.TakeNext 1) (state_reply.Received (Value 0)) ∷ event (state_call.Set 5) state_reply.Done
    ∷ event (state_call.Set 6) state_reply.Done ∷ event (state_call.TakeNext 1) (state_reply.Received (Value 6)) ∷ event (state_call.TakeNext 1) (state_reply.Received Empty) ∷ []

-- the last value that it got is the current one
last_is_current : (last_got 1 skips_an_update ≡ Some 6) × ((state_after_all (first_state_flow 1000 0) skips_an_update).value ≡ 6)
last_is_current = (refl, refl)

-- why no event may change the value: in the end it is again what it was at the first `next`, but the subscriber got another
-- one since
abbrev comes_back : StateHistory ℕ
comes_back =
    event (state_call.Subscribe []) (state_reply.Subscribed 1) ∷ event (state_call.TakeNext 1) (state_reply.Received (Value 0)) ∷ event (state_call.Set 1) state_reply.Done
    ∷ event (state_call.TakeNext 1) (state_reply.Received (Value 1)) ∷ event (state_call.Set 0) state_reply.Done ∷ []

last_is_not_current : (last_got 1 comes_back ≡ Some 1) × ((state_after_all (first_state_flow 1000 0) comes_back).value ≡ 0)
last_is_not_current = (refl, refl)

-- a subscriber that has not asked has got nothing
nothing_got : last_got 2 skips_an_update ≡ None
nothing_got = refl
