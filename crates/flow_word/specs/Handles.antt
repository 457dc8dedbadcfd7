-- What contracts see of the handles of a word state: callers and readers, and the seats that are made through one caller.
use Rattle.std.specs.Prelude.{◌≡◌, ◌<◌, ℕ, List, slice_index_or}
use Rattle.flow_law.specs.declared.call.StateCall.{StateCall}
use Rattle.flow_law.specs.declared.call.StateReply.{StateReply}
use Rattle.flow_law.specs.declared.history.Said.{Said}
use Rattle.flow_law.specs.declared.states.StateFlowState.{StateFlowState}
use Rattle.flow_law.specs.laws.Closed.{makes_many, nth_child}
use Rattle.flow_law.specs.laws.Current.{IsThere}
use Rattle.flow_law.specs.history.Handles.{CallerOf, ReaderOf, called_by}
use Rattle.flow_law.specs.flow.StateFlow.{StateHistory, state_after_all}
use Rattle.flow_law.specs.history.Tokens.{Origin, knowing}
use Rattle.flow_law.specs.history.Promise.{Token}
use Rattle.flow_word.specs.Tokens.{WordId}

-- a seat and its word state
abbrev pub CallerOfWord : Type 0 → Type 0
CallerOfWord T = CallerOf WordId (StateFlowState T) (Said (StateCall T) (StateReply T))

-- a subscription and its word state
abbrev pub ReaderOfWord : Type 0 → Type 0
ReaderOfWord T = ReaderOf WordId (StateFlowState T) (Said (StateCall T) (StateReply T))

-- after this history from the first state, the flow has a subscriber with this number
abbrev pub IsThereAfter : {T : Type 0} → StateFlowState T → StateHistory T → ℕ → Type 0
IsThereAfter first seen number = IsThere number (state_after_all first seen)

-- `count` seats were made through the token
abbrev pub MakesMany : {Id E : Type 0} → ℕ → Token Id E → Token Id E → Type 0
MakesMany count old new = new ≡ knowing old (makes_many count old.knows)

-- the seats of these callers are the next `count` seats that are made through the token, in order
abbrev pub AreNextSeats : {Id S E : Type 0} → Origin Id S → Token Id E → ℕ → List (CallerOf Id S E) → Type 0
AreNextSeats flow token count made =
    (i : ℕ) (d : _) → i < count → slice_index_or made i d ≡ called_by flow (knowing token (nth_child i token.knows))
