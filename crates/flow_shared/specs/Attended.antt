-- What the gate of a flow guards: a core, and the callers that sleep until it has something for them. Begin with `AttendedAs`.
use Rattle.std.specs.Prelude.{◌≡◌, ◌⊎◌, ⊤, ℕ, nat_le, ◌==◌, true, false, not, List, [], All, filter, Option, Some, Contains}
use Rattle.flow_law.specs.declared.touch.Touch.{Touch}
use Rattle.flow_law.specs.declared.touch.Touch.TheVariants as touch
use Rattle.flow_law.specs.declared.history.HistoryEvent.{HistoryEvent}
use Rattle.flow_law.specs.declared.history.Said.{Said}
use Rattle.flow_law.specs.history.History.{Kind}
use Rattle.flow_law.specs.history.Sleeping.{FindsNothing, Sleeping}
use Rattle.flow_law.specs.flow.Standing.{StandsForHistory}
use Rattle.flow_shared.specs.declared.attended.Attended.{Attended}
use Rattle.flow_shared.specs.declared.core_call.Then.{Then}
use Rattle.flow_shared.specs.declared.core_call.Then.TheVariants.{AwaitValue, AwaitEnd, Watch}
use Rattle.flow_shared.specs.declared.core_call.Watching.TheVariants.{Begins}

-- the state has this number of subscribers
abbrev pub HasSubscribers : {T S C R : Type 0} (kind : Kind T S C R) → ℕ → S → Type 0
HasSubscribers kind count s = kind.Replies s kind.count (kind.counted count)

-- no caller sleeps
abbrev pub IsAlone : {K A T S C R : Type 0} → Attended K A T S C R → Type 0
IsAlone w = (w.readers ≡ []) × (w.emitters ≡ []) × (w.watchers ≡ [])

module _ {K A T S C R : Type 0} {kind : Kind T S C R} (sleeping : Sleeping kind) where
  -- The core stands for the state, and no sleeper is forgotten: a subscriber that sleeps has nothing to receive, an
  -- emission whose owner sleeps still waits, and watchers that sleep have seen the current number of subscribers.
  pub record Attends (StandsAs : K → S → Type 0) (w : Attended K A T S C R) (s : S) : Type 0 where
    pub core : StandsAs w.core s
    pub sound : sleeping.IsSound s
    pub readers : All (λ u. FindsNothing kind u s) w.readers
    pub emitters : All (λ e. sleeping.waits e s ≡ true) w.emitters
    pub watchers : (w.watchers ≡ []) ⊎ HasSubscribers kind w.watched s

  -- `Attends`, and if the flag says that no caller sleeps, none does
  pub record AttendedAs (StandsAs : K → S → Type 0) (w : Attended K A T S C R) (s : S) : Type 0 where
    pub attends : Attends StandsAs w s
    pub alone : w.asleep ≡ false → IsAlone w

  -- a guarded state stands for a history that starts from the state that its gate began with
  abbrev pub attended_stands : (K → S) → (K → S → Type 0) → Attended K A T S C R → Attended K A T S C R → List (HistoryEvent (Said C R)) → Type 0
  attended_stands first StandsAs start w h = StandsForHistory kind (AttendedAs StandsAs) (first start.core) w h

-- the list has the caller if it sleeps, unless it asks again
abbrev pub IsListed : {K A T S C R : Type 0} → Then → Attended K A T S C R → Type 0 → Type 0
IsListed (AwaitValue u) w asks_again = asks_again ⊎ Contains w.readers u
IsListed (AwaitEnd e) w asks_again = asks_again ⊎ Contains w.emitters e
IsListed (Watch (Begins n)) w asks_again = asks_again ⊎ Contains w.watchers n
IsListed _ w asks_again = ⊤

-- the readers that a call did not touch
abbrev pub without_reader : Touch → List ℕ → List ℕ
without_reader (touch.Subscriber u) readers = filter (λ k. not (k == u)) readers
without_reader touch.Subscribers readers = []
without_reader _ readers = readers

-- the emitters that a call did not touch
abbrev pub without_emitter : Touch → List ℕ → List ℕ
without_emitter (touch.Emission e) emitters = filter (λ k. not (k == e)) emitters
without_emitter _ emitters = emitters

-- the watchers but those of this number
abbrev pub without_watcher : ℕ → List ℕ → List ℕ
without_watcher number watchers = filter (λ k. not (k == number)) watchers

module _ {K T S C R : Type 0} {kind : Kind T S C R} (sleeping : Sleeping kind) (StandsAs : K → S → Type 0) where
  -- The readers that sleep after a call: none, or the earlier ones if subscribers have nothing new: the mark is this one
  -- in each state for which the core stands.
  abbrev pub Rests : K → ℕ → List ℕ → List ℕ → Type 0
  Rests core mark old new = (new ≡ []) ⊎ ((new ≡ old) × ((s : S) → StandsAs core s → mark ≡ sleeping.mark s))

  -- The emitters that sleep after a call: none, or the earlier ones if this is still the first emission that waits, or
  -- those whose numbers are not below the first emission that waits now.
  abbrev pub Lasts : K → Option ℕ → List ℕ → List ℕ → Type 0
  Lasts core first old new =
      (new ≡ [])
      ⊎ (((new ≡ old) × ((s : S) → StandsAs core s → first ≡ sleeping.first_waiting s))
      ⊎ ((number : ℕ) × (new ≡ filter (λ k. nat_le number k) old) × ((s : S) → StandsAs core s → Some number ≡ sleeping.first_waiting s)))

  -- The watchers that sleep after a call: none, or some that have seen the current number of subscribers.
  abbrev pub Watches : K → List ℕ → ℕ → Type 0
  Watches core watchers watched = (watchers ≡ []) ⊎ ((s : S) → StandsAs core s → HasSubscribers kind watched s)
