-- A worked example of the state flow is a legal history, and a second reply of the same value is not.
use Rattle.std.proofs.Common.{inl, inr, ◌≡◌, ◌≢◌, ◌==◌, arith, ℕ, true, false, [], ◌∷◌, Some, None, refl}
use Rattle.std.proofs.lemmas.Bool.Decides.{nat_tests}
use Rattle.flow_law.specs.declared.history.HistoryEvent.{HistoryEvent}
use Rattle.flow_law.specs.declared.history.Said.{Said}
use Rattle.flow_law.specs.declared.fault.FlowFault.TheVariants.{Unsupported}
use Rattle.flow_law.specs.declared.outcome.Next.TheVariants.{Value, Empty}
use Rattle.flow_law.specs.declared.call.StateCall.{StateCall}
use Rattle.flow_law.specs.declared.call.StateCall.TheVariants.{GetValue, Set, TryEmit, CompareAndSet, Subscribe, TakeNext, SubscriptionCount, ReplayCache, ResetReplayCache}
use Rattle.flow_law.specs.declared.call.StateReply.{StateReply}
use Rattle.flow_law.specs.declared.call.StateReply.TheVariants.{Done, Got, Answered, Subscribed, Received, Counted, Cached, Refused}
use Rattle.flow_law.specs.flow.StateFlow.{StateHistory, first_state_flow, IsLegalState}

abbrev pub event : StateCall ℕ → StateReply ℕ → HistoryEvent (Said (StateCall ℕ) (StateReply ℕ))
event call reply = record { name = []; began = 0; what = record { call = call; reply = reply } }

abbrev state_run : StateHistory ℕ
state_run =
    event (Subscribe []) (Subscribed 1) ∷ event (TakeNext 1) (Received (Value 0)) ∷ event (Set 1) Done ∷ event (Set 0) Done ∷ event (TakeNext 1) (Received Empty)
    ∷ event (CompareAndSet 0 0) (Answered true) ∷ event (CompareAndSet 1 2) (Answered false) ∷ event (Set 5) Done ∷ event (TakeNext 1) (Received (Value 5))
    ∷ event ReplayCache (Cached (5 ∷ [])) ∷ event ResetReplayCache (Refused Unsupported) ∷ event (TryEmit 6) (Answered true) ∷ event GetValue (Got 6) ∷ event SubscriptionCount (Counted 1) ∷ []

differ : (a b : ℕ) → (a == b) ≡ false → a ≢ b
differ a b t e = grind (arith, nat_tests, t, e)

none_yet : (a : ℕ) → None ≢ Some a
none_yet a e = cc

some_differ : (a b : ℕ) → (a == b) ≡ false → Some a ≢ Some b
some_differ a b t e = let same : a ≡ b = cc in differ a b t same

state_run_is_legal : IsLegalState (first_state_flow 1000 0) state_run
state_run_is_legal = (
  refl,
  (
    inr (none_yet 0, refl),
    (
      refl,
      (
        refl,
        (
          inl (refl, refl),
          (
            inl (refl, refl),
            (
              inr (differ 0 1 refl, refl),
              (refl, (inr (some_differ 0 5 refl, refl), (refl, (refl, (refl, (refl, (refl, tt))))))),
            ),
          ),
        ),
      ),
    ),
  ),
)
