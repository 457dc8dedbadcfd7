-- What a wait for a value does: calls of `next`, each one event of the history. Begin with `WordReceives`. `first` is the state that the
-- flow began with.
use Rattle.std.specs.Prelude.{◌≡◌, ⊤, List, [], ◌∷◌, Option, Some, None, Ok}
use Rattle.futures.specs.declared.task.Poll.{Poll as Polled}
use Rattle.futures.specs.declared.task.Poll.TheVariants.{Ready, Pending}
use Rattle.flow_law.specs.declared.history.Said.{Said}
use Rattle.flow_law.specs.declared.outcome.Next.{Next}
use Rattle.flow_law.specs.declared.outcome.Next.TheVariants.{Value, Empty}
use Rattle.flow_law.specs.history.Handles.{ReaderOf}
use Rattle.flow_law.specs.history.History.{Kind}
use Rattle.flow_law.specs.history.Tokens.{NumberedToken, NextsIn}

module _ {Id T S C R : Type 0} (kind : Kind T S C R) (first : S) where
  -- one call of `next` gave this, and the subscription keeps its number
  abbrev pub WordNextGives : NumberedToken Id (Said C R) → Next T → NumberedToken Id (Said C R) → Type 0
  WordNextGives old next new = NextsIn kind first old (Ok next) new × (new.number ≡ old.number)

  -- calls of `next` that found nothing
  pub data AsksInVain : NumberedToken Id (Said C R) → NumberedToken Id (Said C R) → Type 0 where
    not_asked : {s : NumberedToken Id (Said C R)} → AsksInVain s s
    one_more : {s t u : NumberedToken Id (Said C R)} → AsksInVain s t → WordNextGives t Empty u → AsksInVain s u

  -- calls of `next` that found nothing, and then one that gave this value
  pub record WordReceives (old : NumberedToken Id (Said C R)) (value : T) (new : NumberedToken Id (Said C R)) : Type 0 where
    pub between : NumberedToken Id (Said C R)
    pub in_vain : AsksInVain old between
    pub given : WordNextGives between (Value value) new

  -- one call of `next` or more, and all found nothing
  pub record FindsNone (old new : NumberedToken Id (Said C R)) : Type 0 where
    pub between : NumberedToken Id (Said C R)
    pub in_vain : AsksInVain old between
    pub empty : WordNextGives between Empty new

  -- what a wait with a time limit does: it receives a value, or all its calls of `next` find nothing
  abbrev pub ReceivesInTime : NumberedToken Id (Said C R) → Option T → NumberedToken Id (Said C R) → Type 0
  ReceivesInTime old (Some value) new = WordReceives old value new
  ReceivesInTime old None new = FindsNone old new

  -- One poll of a stream, which does not end: it gives a value that it received, or it is pending, and its calls of `next`, at least one, found
  -- nothing.
  abbrev pub WordPollsItem : NumberedToken Id (Said C R) → Polled (Option T) → NumberedToken Id (Said C R) → Type 0
  WordPollsItem old Pending new = FindsNone old new
  WordPollsItem old (Ready (Some value)) new = WordReceives old value new
  WordPollsItem old (Ready None) new = ⊥

  -- each value of a stream is what one wait may receive, in order, and the stream does not end
  abbrev pub WordYields : NumberedToken Id (Said C R) → List T → Option T → Type 0
  WordYields old [] (Some value) = (new : NumberedToken Id (Said C R)) × WordReceives old value new
  WordYields old [] None = ⊥
  WordYields old (value ∷ values) next = (new : NumberedToken Id (Said C R)) × WordReceives old value new × WordYields new values next

-- what a future of a reader may give: the reader, and the value that it received; nothing more after `Ready`
abbrev pub WordGivesChanged : {Id T S C R : Type 0} → Kind T S C R → Option (ReaderOf Id S (Said C R)) → ReaderOf Id S (Said C R) × T → Type 0
WordGivesChanged kind (Some reader) given = (given.0.flow ≡ reader.flow) × WordReceives kind reader.flow.first reader.subscription given.1 given.0.subscription
WordGivesChanged kind None given = ⊥

-- One poll of a future of a reader, by the reader before it, its answer and the reader after it. If it is pending, its calls of `next`, at
-- least one, found nothing. A poll after `Ready` does nothing.
abbrev pub WordPollsChange : {Id T S C R : Type 0} → Kind T S C R → Option (ReaderOf Id S (Said C R)) → Polled (ReaderOf Id S (Said C R) × T) → Option (ReaderOf Id S (Said C R)) → Type 0
WordPollsChange kind (Some old) Pending (Some new) = (new.flow ≡ old.flow) × FindsNone kind old.flow.first old.subscription new.subscription
WordPollsChange kind (Some old) (Ready given) None = WordGivesChanged kind (Some old) given
WordPollsChange kind None Pending None = ⊤
WordPollsChange kind _ _ _ = ⊥
