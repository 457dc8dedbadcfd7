-- A number belongs to a token as a subscriber or as an emission, and a call of the other kind does not own it.
use Rattle.std.proofs.Common.{ℕ, true, false, List, [], ◌∷◌, refl}
use Rattle.flow_law.specs.declared.config.Config.{Config}
use Rattle.flow_law.specs.declared.config.Overflow.TheVariants.{Suspend}
use Rattle.flow_law.specs.declared.history.HistoryEvent.{HistoryEvent}
use Rattle.flow_law.specs.declared.history.Said.{Said}
use Rattle.flow_law.specs.declared.outcome.Emit.TheVariants.{Queued}
use Rattle.flow_law.specs.declared.outcome.Next.TheVariants.{Value, Gone}
use Rattle.flow_law.specs.declared.call.SharedCall.{SharedCall}
use Rattle.flow_law.specs.declared.call.SharedCall.TheVariants.{Emit, Poll, Subscribe, TakeNext, Unsubscribe}
use Rattle.flow_law.specs.declared.call.SharedReply.{SharedReply}
use Rattle.flow_law.specs.declared.call.SharedReply.TheVariants.{Emitted, Tested, Subscribed, Received}
use Rattle.flow_law.specs.history.History.{IsOwned}
use Rattle.flow_law.specs.flow.SharedHistory.{History, IsLegalShared, shared_flow}

abbrev bufferless : Config
bufferless = record { replay = 0; extra = 0; overflow = Suspend; limit = 1000 }

abbrev by : List ℕ → SharedCall ℕ → SharedReply ℕ → HistoryEvent (Said (SharedCall ℕ) (SharedReply ℕ))
by name c r = record { name = name; began = 0; what = record { call = c; reply = r } }

-- the first seat subscribes, which gives 1 to the subscription's seat, and emits, which gives 2 to itself
abbrev before : History ℕ → History ℕ
before more = by [] (Subscribe (1 ∷ []) []) (Subscribed 1) ∷ by [] (Emit 7) (Emitted (Queued 2)) ∷ more

abbrev each_its_own : History ℕ
each_its_own = before (by (1 ∷ []) (TakeNext 1) (Received (Value 7)) ∷ by [] (Poll 2) (Tested false) ∷ by (1 ∷ []) (Unsubscribe 1) (Tested true) ∷ [])

-- the emitter asks for what its emission's number would receive, and the subscription whether its own number waits
abbrev crossed : History ℕ
crossed = before (by [] (TakeNext 2) (Received Gone) ∷ by [] (Unsubscribe 2) (Tested false) ∷ by (1 ∷ []) (Poll 1) (Tested false) ∷ [])

owns : IsLegalShared bufferless each_its_own × IsOwned shared_flow [] each_its_own
owns = ((refl, (refl, (refl, (refl, (refl, (refl, tt)))))), (tt, (tt, (refl, (refl, (refl, tt))))))

crossed_is_legal : IsLegalShared bufferless crossed
crossed_is_legal = (refl, (refl, (refl, (refl, (refl, (refl, tt))))))

crossed_is_not_owned : IsOwned shared_flow [] crossed → ⊥
crossed_is_not_owned owned = let given = owned.1.1.0 in (cc)

-- nor is any of its last three calls alone
next_of_an_emission : IsOwned shared_flow [] (before (by [] (TakeNext 2) (Received Gone) ∷ [])) → ⊥
next_of_an_emission owned = let given = owned.1.1.0 in (cc)

unsubscribe_of_an_emission : IsOwned shared_flow [] (before (by [] (Unsubscribe 2) (Tested false) ∷ [])) → ⊥
unsubscribe_of_an_emission owned = let given = owned.1.1.0 in (cc)

poll_of_a_subscriber : IsOwned shared_flow [] (before (by (1 ∷ []) (Poll 1) (Tested false) ∷ [])) → ⊥
poll_of_a_subscriber owned = let given = owned.1.1.0 in (cc)
