-- What the polls of a reader do. Begin with `WordFlowPolls`. A poll makes one attempt or two, each of which may be overrun. A wait of a
-- thread does what `WordReceives` of flow_word says.
use Rattle.std.specs.Prelude.{◌≡◌, ⊤, Option, Some, None}
use Rattle.futures.specs.declared.task.Poll.{Poll as Polled}
use Rattle.futures.specs.declared.task.Poll.TheVariants.{Ready, Pending}
use Rattle.flow_law.specs.declared.states.SharedFlowState.{SharedFlowState}
use Rattle.flow_law.specs.flow.SharedHistory.{shared_flow}
use Rattle.flow_word.specs.Receiving.{WordReceives, AsksInVain}
use Rattle.flow_word_shared.specs.Answers.{HasTried}
use Rattle.flow_word_shared.specs.Handles.{WordFlowReaderOf}
use Rattle.flow_word_shared.specs.Tokens.{WordFlowNumbered}

module _ {T : Type 0} (first : SharedFlowState T) where
  -- The subscription received nothing: its calls of `next` found nothing, and after them it may have tried in vain.
  pub record WordFlowPends (old new : WordFlowNumbered T) : Type 0 where
    pub between : WordFlowNumbered T
    pub in_vain : AsksInVain shared_flow first old between
    pub number : new.number ≡ between.number
    pub tried : HasTried between.token new.token

  -- one poll: it received a value, or nothing
  abbrev pub WordFlowPolls : WordFlowNumbered T → Option T → WordFlowNumbered T → Type 0
  WordFlowPolls old (Some value) new = WordReceives shared_flow first old value new
  WordFlowPolls old None new = WordFlowPends old new

  -- one poll of a stream, which does not end
  abbrev pub WordFlowPollsItem : WordFlowNumbered T → Polled (Option T) → WordFlowNumbered T → Type 0
  WordFlowPollsItem old Pending new = WordFlowPends old new
  WordFlowPollsItem old (Ready (Some value)) new = WordReceives shared_flow first old value new
  WordFlowPollsItem old (Ready None) new = ⊥

-- what a future of a reader may give: the reader, and the value that it received; nothing more after `Ready`
abbrev pub WordFlowGives : {T : Type 0} → Option (WordFlowReaderOf T) → WordFlowReaderOf T × T → Type 0
WordFlowGives (Some reader) given = (given.0.flow ≡ reader.flow) × WordReceives shared_flow reader.flow.first reader.subscription given.1 given.0.subscription
WordFlowGives None given = ⊥

-- One poll of a future of a reader, by the reader before it, its answer and the reader after it. A poll after `Ready` does nothing.
abbrev pub WordFlowPollsOnce : {T : Type 0} → Option (WordFlowReaderOf T) → Polled (WordFlowReaderOf T × T) → Option (WordFlowReaderOf T) → Type 0
WordFlowPollsOnce (Some old) Pending (Some new) = (new.flow ≡ old.flow) × WordFlowPends old.flow.first old.subscription new.subscription
WordFlowPollsOnce (Some old) (Ready given) None = WordFlowGives (Some old) given
WordFlowPollsOnce None Pending None = ⊤
WordFlowPollsOnce _ _ _ = ⊥
