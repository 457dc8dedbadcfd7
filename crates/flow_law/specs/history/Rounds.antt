-- Rounds of meetings: one token meets others, one after the other.
-- Begin with `MeetsInTurn`. After two rounds, some history between them has just what each token did (`accounts_all`,
-- proofs/RoundLemmas): the first round leaves nothing out, and by the second one no token has done more.
use Rattle.std.specs.Prelude.{◌≡◌, List, []}
use Rattle.flow_law.specs.declared.history.HistoryEvent.{HistoryEvent}
use Rattle.flow_law.specs.declared.history.Knowledge.{Knowledge}
use Rattle.flow_law.specs.declared.history.Said.{Said}
use Rattle.flow_law.specs.declared.call.StateCall.{StateCall}
use Rattle.flow_law.specs.declared.call.StateReply.{StateReply}
use Rattle.flow_law.specs.declared.states.StateFlowState.{StateFlowState}
use Rattle.flow_law.specs.history.Growth.{NamesOnlyMade}
use Rattle.flow_law.specs.history.History.{Kind, IsHistory}
use Rattle.flow_law.specs.flow.StateFlow.{StateHistory, state_flow, state_after_all}
use Rattle.flow_law.specs.history.Promise.{Token}
use Rattle.flow_law.specs.history.Done.{Extends, Made}
use Rattle.flow_law.specs.laws.Closed.{IsClosed}

-- the token has met others and done nothing else; no seat was made through it
abbrev pub OnlyMeets : {Id E : Type 0} → Token Id E → Token Id E → Type 0
OnlyMeets before after = (after.table_id ≡ before.table_id) × Made [] before.knows after.knows

module _ {Id T S C R : Type 0} (kind : Kind T S C R) (first : S) where
  -- One of the tokens that another met in turn. It has seen a history that begins with all that the other had seen
  -- before the meetings, and the other has seen all of that after them.
  pub record MeetsInTurn (other other_after : Knowledge (Said C R)) (before after : Token Id (Said C R)) : Type 0 where
    pub only_meets : OnlyMeets before after
    pub history : IsHistory kind first after.knows.seen
    pub names : NamesOnlyMade after.knows.name after.knows.made after.knows.seen
    pub since : Extends other.seen after.knows.seen
    pub into : Extends after.knows.seen other_after.seen

module _ {T S C R : Type 0} (kind : Kind T S C R) (first : S) where
  -- some history of the flow has what each of these tokens had done, and nothing else under their names
  abbrev pub HasClosedHistory : List (Knowledge (Said C R)) → Type 0
  HasClosedHistory ks = (h : List (HistoryEvent (Said C R))) × IsHistory kind first h × IsClosed h ks

-- the value after a history that has what each of these tokens had done, and nothing else under their names
abbrev pub IsFinalValue : {T : Type 0} → StateFlowState T → List (Knowledge (Said (StateCall T) (StateReply T))) → T → Type 0
IsFinalValue {T} first ks value =
    (h : StateHistory T) × IsHistory state_flow first h × IsClosed h ks × (value ≡ (state_after_all first h).value)
