-- Tries that found another caller inside, before the call that ended a subscription or a wait.
use Rattle.std.proofs.Common.{◌≡◌, ◌+◌, Bool, true, ap, subst}
use Rattle.flow_law.specs.declared.history.Said.{Said}
use Rattle.flow_law.specs.declared.call.SharedCall.TheVariants as call
use Rattle.flow_law.specs.declared.call.SharedReply.TheVariants as reply
use Rattle.flow_law.specs.declared.states.SharedFlowState.{SharedFlowState}
use Rattle.flow_law.specs.history.History.{Kind}
use Rattle.flow_law.specs.flow.SharedHistory.{shared_flow}
use Rattle.flow_law.specs.history.Tokens.{IsBusy}
use Rattle.flow_gate.specs.Tokens.{GateToken, GateOrigin}
use Rattle.flow_shared.specs.Calls as flows
use Rattle.flow_shared.specs.Calls.{GateNumbered, Unsubscribes}
use Rattle.flow_shared.specs.Futures.{SharedNumbered}
use Rattle.flow_shared.specs.SharedReplies.{SharedToken, SharedCalls, Cancels}
use Rattle.flow_shared.proofs.Waits.{called_later}

-- a token that lost an exchange is of the same flow
pub same_flow : {E : Type 0} (t u : GateToken E) → IsBusy t u → u.table_id ≡ t.table_id
same_flow t u busy = ap (λ z. z.table_id) busy

pub lost_one : {E : Type 0} (t u : GateToken E) → IsBusy t u → u.knows.lost ≡ t.knows.lost + 1
lost_one t u busy = ap (λ z. z.knows.lost) busy

module _ {T S C R : Type 0} (kind : Kind T S C R) (flow : GateOrigin S) where
  -- after lost tries, an `unsubscribe` of the returned subscription is one of the old subscription
  abbrev pub LeavesOn : GateNumbered (Said C R) → GateNumbered (Said C R) → Type 0
  LeavesOn old now = (after : GateToken (Said C R)) → Unsubscribes kind flow now after → Unsubscribes kind flow old after

  pub leaves_same : (s : GateNumbered (Said C R)) → LeavesOn s s
  leaves_same s after h = h

  pub leaves_busy : (s t u : GateNumbered (Said C R)) → LeavesOn s t → u.number ≡ t.number → IsBusy t.token u.token → LeavesOn s u
  leaves_busy s t u led same busy after h =
      led after (called_later kind flow t.token u.token after (kind.unsubscribe t.number) (kind.tested true) busy
      (subst (λ n. flows.Calls kind flow u.token (kind.unsubscribe n) (kind.tested true) after) same h))

module _ {T : Type 0} (flow : GateOrigin (SharedFlowState T)) where
  -- after lost tries, a cancel of the returned emission is one of the old emission
  abbrev pub CancelsOn : SharedNumbered T → SharedNumbered T → Type 0
  CancelsOn old now = (ended : SharedToken T × Bool) → Cancels flow now ended → Cancels flow old ended

  pub cancels_same : (e : SharedNumbered T) → CancelsOn e e
  cancels_same e ended h = h

  pub cancels_busy : (d e f : SharedNumbered T) → CancelsOn d e → f.number ≡ e.number → IsBusy e.token f.token → CancelsOn d f
  cancels_busy d e f led same busy ended h =
      led ended (called_later shared_flow flow e.token f.token ended.0 (call.Cancel e.number) (reply.Tested ended.1) busy
      (subst (λ n. SharedCalls flow f.token (call.Cancel n) (reply.Tested ended.1) ended.0) same h))
