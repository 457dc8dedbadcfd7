-- From one poll of a reader to what a whole run of polls gives.
use Rattle.std.proofs.Common.{◌≡◌, ◌≢◌, inl, inr, List, [], ◌∷◌, Option, Some, None, Result, Ok, Err, refl, ◌∙◌, subst}
use Rattle.atomic_table.specs.Seated.{TableId}
use Rattle.futures.specs.declared.task.Poll.TheVariants.{Ready, Pending}
use Rattle.futures.specs.Poll.{OnPending}
use Rattle.flow_law.specs.declared.errors.OutOfMemory.{OutOfMemory as MemoryError}
use Rattle.flow_law.specs.declared.fault.FlowFault.{FlowFault}
use Rattle.flow_law.specs.declared.fault.FlowFault.TheVariants.{OutOfMemory, TooLarge, NeedsBuffer, Exhausted, Unsupported, Busy}
use Rattle.flow_law.specs.declared.history.Said.{Said}
use Rattle.flow_law.specs.declared.outcome.Next.{Next}
use Rattle.flow_law.specs.declared.outcome.Next.TheVariants.{Value, Empty, Gone}
use Rattle.flow_law.specs.history.HandleFaults.{answer_by, memory_fault}
use Rattle.flow_law.specs.history.Handles.{ReaderOf}
use Rattle.flow_law.specs.history.History.{Kind, replied}
use Rattle.flow_law.specs.history.Lawful.{Lawful}
use Rattle.flow_law.specs.history.Tokens.{IsBusy}
use Rattle.flow_law.specs.history.Promise.{CallsIn, CallsAtOnceIn}
use Rattle.flow_law.proofs.TokenLemmas.{next_fault}
use Rattle.flow_gate.specs.Tokens.{GateOrigin}
use Rattle.flow_shared.specs.Calls.{GateNumbered, NextsOf, NextsNow}
use Rattle.flow_shared.specs.Receiving.{NextsAfter, FlowReceives, as_next}
use Rattle.flow_shared.specs.Polling.{NextsAtOnce, PollsNext, Yields, GivesNext, polled_by}
use Rattle.flow_shared.specs.CoreCalls.{IsWait}
use Rattle.flow_shared.proofs.Waits.{called_later}

-- a pending poll has received nothing
pub armed_by : {T : Type 0} → (answer : Result (Next T) FlowFault) (P : Type 0) → answer ≢ Ok Gone → (IsWait answer → P) → OnPending (polled_by answer) P
armed_by (Ok (Value v)) P live h = tt
armed_by (Ok Empty) P live h = h tt
armed_by (Ok Gone) P live h = absurd (live refl)
armed_by (Err OutOfMemory) P live h = tt
armed_by (Err TooLarge) P live h = tt
armed_by (Err NeedsBuffer) P live h = tt
armed_by (Err Exhausted) P live h = tt
armed_by (Err Unsupported) P live h = tt
armed_by (Err Busy) P live h = h tt

module _ {T S C R : Type 0} (kind : Kind T S C R) (law : Lawful kind) (flow : GateOrigin S) (s u : GateNumbered (Said C R)) where
  refused : (fault : FlowFault) → (u.number ≡ s.number) × CallsAtOnceIn kind flow.first s.token (kind.take_next s.number) (kind.refused fault) u.token → NextsAtOnce kind flow s (Err OutOfMemory) u
  refused fault h = (subst (λ (f : FlowFault). NextsOf kind flow s (Err f) u) (next_fault kind law flow.first s.token.knows u.token.knows s.number (Err fault) h.1.0.1) (h.1.0, h.0), h.1.1)

  pub polls_next : (answer : Result (Next T) FlowFault) → NextsNow kind flow s answer u → PollsNext kind flow s (polled_by answer) u
  polls_next (Ok (Value v)) h = ((h.2.0, h.1), h.2.1)
  polls_next (Ok Empty) h = inr ((h.2.0, h.1), h.2.1)
  polls_next (Ok Gone) h = absurd (h.0 refl)
  polls_next (Err OutOfMemory) h = refused OutOfMemory h
  polls_next (Err TooLarge) h = refused TooLarge h
  polls_next (Err NeedsBuffer) h = refused NeedsBuffer h
  polls_next (Err Exhausted) h = refused Exhausted h
  polls_next (Err Unsupported) h = refused Unsupported h
  polls_next (Err Busy) h = inl h

module _ {T S C R : Type 0} (kind : Kind T S C R) (flow : GateOrigin S) where
  nexts_later : (s u w : GateNumbered (Said C R)) (answer : Result (Next T) FlowFault) → (u.number ≡ s.number) × IsBusy s.token u.token → NextsOf kind flow u answer w → NextsOf kind flow s answer w
  nexts_later s u w answer busy h = (
    called_later kind flow s.token u.token w.token (kind.take_next s.number) (replied kind kind.received answer) busy.1
        (subst (λ n. CallsIn kind flow.first u.token (kind.take_next n) (replied kind kind.received answer) w.token) busy.0 h.0),
    h.1 ∙ busy.0,
  )

  after_later : (us : List (GateNumbered (Said C R))) (s u : GateNumbered (Said C R)) (answer : Result (Next T) FlowFault) (new : GateNumbered (Said C R)) → (u.number ≡ s.number) × IsBusy s.token u.token → NextsAfter kind flow us u answer new → NextsAfter kind flow us s answer new
  after_later [] s u answer new busy h = nexts_later s u new answer busy h
  after_later (x ∷ us) s u answer new busy h = (nexts_later s u x (Ok Empty) busy h.0, h.1)

  -- a pending poll and then a run is a run
  pub receives_on : (s u w : GateNumbered (Said C R)) (result : Result T FlowFault) → PollsNext kind flow s Pending u → FlowReceives kind flow u result w → FlowReceives kind flow s result w
  receives_on s u w result (inl busy) h = (h.0, after_later h.0 s u (as_next result) w busy h.1)
  receives_on s u w result (inr called) h = (u ∷ h.0, (called.0, h.1))

  pub receives_at_once : (s u : GateNumbered (Said C R)) (given : Result T MemoryError) → PollsNext kind flow s (Ready given) u → FlowReceives kind flow s (answer_by memory_fault given) u
  receives_at_once s u given h = ([], h.0)

  pub yields_on : (s u : GateNumbered (Said C R)) → PollsNext kind flow s Pending u → (xs : List (Result T MemoryError)) (next : Option (Result T MemoryError)) → Yields kind flow u xs next → Yields kind flow s xs next
  yields_on s u p [] (Some x) h = (h.0, receives_on s u h.0 (answer_by memory_fault x) p h.1)
  yields_on s u p [] None h = absurd h
  yields_on s u p (x ∷ xs) next h = (h.0, receives_on s u h.0 (answer_by memory_fault x) p h.1, h.2)

module _ {T S C R : Type 0} (kind : Kind T S C R) where
  abbrev Bound : Type 0
  Bound = ReaderOf TableId S (Said C R)

  pub yields_first : (r w : Bound) (given : Result T MemoryError) → PollsNext kind r.flow r.subscription (Ready given) w.subscription → Yields kind r.flow r.subscription [] (Some given)
  yields_first r w given p = (w.subscription, receives_at_once kind r.flow r.subscription w.subscription given p)

  pub yields_rest : (r w : Bound) (given : Result T MemoryError) → w.flow ≡ r.flow → PollsNext kind r.flow r.subscription (Ready given) w.subscription
      → (xs : List (Result T MemoryError)) (next : Option (Result T MemoryError)) → Yields kind w.flow w.subscription xs next → Yields kind r.flow r.subscription (given ∷ xs) next
  yields_rest r w given is p xs next rest = (w.subscription, receives_at_once kind r.flow r.subscription w.subscription given p, subst (λ f. Yields kind f w.subscription xs next) is rest)

  pub yields_later : (r w : Bound) → w.flow ≡ r.flow → PollsNext kind r.flow r.subscription Pending w.subscription
      → (xs : List (Result T MemoryError)) (next : Option (Result T MemoryError)) → Yields kind w.flow w.subscription xs next → Yields kind r.flow r.subscription xs next
  yields_later r w is p xs next h = yields_on kind r.flow r.subscription w.subscription p xs next (subst (λ f. Yields kind f w.subscription xs next) is h)

  pub changed_first : (r w : Bound) (given : Result T MemoryError) → w.flow ≡ r.flow → PollsNext kind r.flow r.subscription (Ready given) w.subscription → GivesNext kind (Some r) (w, given)
  changed_first r w given is p = (is, receives_at_once kind r.flow r.subscription w.subscription given p)

  pub changed_later : (r w : Bound) → w.flow ≡ r.flow → PollsNext kind r.flow r.subscription Pending w.subscription
      → (given : Bound × Result T MemoryError) → GivesNext kind (Some w) given → GivesNext kind (Some r) given
  changed_later r w is p given h =
      let result = answer_by memory_fault given.1 in
      let now = subst (λ f. FlowReceives kind f w.subscription result given.0.subscription) is h.1 in
      (h.0 ∙ is, receives_on kind r.flow r.subscription w.subscription given.0.subscription result p now)
