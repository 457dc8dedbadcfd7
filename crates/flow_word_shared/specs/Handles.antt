-- What contracts see of the handles of a word flow.
use Rattle.flow_law.specs.declared.call.SharedCall.{SharedCall}
use Rattle.flow_law.specs.declared.call.SharedReply.{SharedReply}
use Rattle.flow_law.specs.declared.history.Said.{Said}
use Rattle.flow_law.specs.declared.states.SharedFlowState.{SharedFlowState}
use Rattle.flow_law.specs.history.Handles.{CallerOf, ReaderOf}
use Rattle.flow_word_shared.specs.Tokens.{WordFlowId}

-- a seat and its flow
abbrev pub WordFlowCallerOf : Type 0 → Type 0
WordFlowCallerOf T = CallerOf WordFlowId (SharedFlowState T) (Said (SharedCall T) (SharedReply T))

-- a subscription and its flow
abbrev pub WordFlowReaderOf : Type 0 → Type 0
WordFlowReaderOf T = ReaderOf WordFlowId (SharedFlowState T) (Said (SharedCall T) (SharedReply T))
