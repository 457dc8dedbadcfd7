-- The rule of the table. Word 0 is the pack of the current value, word 1 has the counts.
use Rattle.std.specs.Prelude.{◌≡◌, ℕ, ◌+◌, ◌*◌, ◌<◌, List, [], ◌∷◌, length}
use Rattle.atomic_table.specs.Table.{State}
use Rattle.flow_law.specs.declared.states.StateFlowState.{StateFlowState}
use Rattle.flow_law.specs.history.Growth.{Fits}
use Rattle.flow_law.specs.history.RealTime.{IsTimed, BeganSince}
use Rattle.flow_law.specs.history.Seats.{SeatsFit}
use Rattle.flow_law.specs.flow.StateFlow.{StateHistory, state_after_all, IsStateHistory}
use Rattle.flow_word.specs.declared.view.Known.{Known}
use Rattle.flow_word.specs.declared.view.Start.{Start}
use Rattle.flow_word.specs.View.{begun}

-- the word of the counts: the number of issued numbers in the upper half, and the number of subscribers in the lower half
abbrev pub counts : {T : Type 0} → StateFlowState T → ℕ
counts s = s.issued * 4294967296 + length s.subscribers

-- The history begins with what the token has seen, other callers made the rest, and it keeps the token's rule of names. The token is of
-- the flow with this start. Its call, if it is in one, began since it had seen all that it has seen.
abbrev pub IsFine : {T : Type 0} → Start → StateHistory T → Known T → Type 0
IsFine start history x = Fits history x.knows × (x.start ≡ start) × BeganSince x.began (length x.knows.seen) (length history)

pub record WordHolds {T : Type 0} (packs : ℕ → Type 0) (value_of : ℕ → T) (start : Start) (s : State Unit (List (Known T))) : Type 0 where
  -- the one history of the flow
  pub history : StateHistory T
  pub is_history : IsStateHistory (begun value_of start) history
  -- each call began in time
  pub timed : IsTimed history
  -- the pack of the value after it
  pub word : ℕ
  pub packed : packs word
  pub value : value_of word ≡ (state_after_all (begun value_of start) history).value
  pub words : s.words ≡ word ∷ counts (state_after_all (begun value_of start) history) ∷ []
  pub limit_fits : start.limit < 4294967296
  pub seats : SeatsFit (λ (v : List (Known T)). v) (λ (x : Known T). x.knows) (IsFine start history) s.views
