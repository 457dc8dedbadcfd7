-- What a next future does. Begin with `NextPolls`: one poll, by its answer. `flow` is the flow: which one, and its configuration.
use Rattle.std.specs.Prelude.{◌≡◌, ◌≢◌, ⊤, ◌⊎◌, List, [], ◌∷◌, Option, Some, None, IfSome, Result, Ok, Err, IfErr}
use Rattle.atomic_table.specs.Seated.{TableId}
use Rattle.futures.specs.declared.task.Poll.{Poll as Polled}
use Rattle.futures.specs.declared.task.Poll.TheVariants.{Ready, Pending}
use Rattle.flow_law.specs.declared.fault.FlowFault.{FlowFault}
use Rattle.flow_law.specs.declared.fault.FlowFault.TheVariants.{OutOfMemory, Busy}
use Rattle.flow_law.specs.declared.outcome.Next.{Next}
use Rattle.flow_law.specs.declared.outcome.Next.TheVariants.{Value, Empty}
use Rattle.flow_law.specs.declared.call.SharedCall.{SharedCall}
use Rattle.flow_law.specs.declared.call.SharedCall.TheVariants as call
use Rattle.flow_law.specs.declared.call.SharedReply.{SharedReply}
use Rattle.flow_law.specs.declared.call.SharedReply.TheVariants as reply
use Rattle.flow_law.specs.declared.states.SharedFlowState.{SharedFlowState}
use Rattle.flow_law.specs.history.Tokens.{IsBusy}
use Rattle.flow_gate.specs.Tokens.{GateOrigin}
use Rattle.flow_shared.specs.Futures.{SharedNumbered}
use Rattle.flow_shared.specs.SharedReplies.{SharedToken, SharedCalls, SharedCallsAtOnce}

-- a next future: its flow, and its subscription until it was ready
pub record Receiving (T : Type 0) : Type 0 where
  pub flow : GateOrigin (SharedFlowState T)
  pub subscription : Option (SharedNumbered T)

-- what a next future gives: its subscription, and a value or a refusal
abbrev pub Received : Type 0 → Type 0
Received T = SharedNumbered T × Result T FlowFault

module _ {T : Type 0} where
  -- the future of this flow and this subscription
  abbrev pub receiving : GateOrigin (SharedFlowState T) → Option (SharedNumbered T) → Receiving T
  receiving flow subscription = record { flow = flow; subscription = subscription }

  -- the subscription is to this flow
  abbrev pub IsTo : TableId → Option (SharedNumbered T) → Type 0
  IsTo id subscription = IfSome subscription (λ s. s.token.table_id ≡ id)

  -- what a future gives for this answer of the flow: nothing if it has to ask again
  abbrev pub given_by : Result (Next T) FlowFault → Option (Result T FlowFault)
  given_by (Ok (Value v)) = Some (Ok v)
  given_by (Ok _) = None
  given_by (Err Busy) = None
  given_by (Err fault) = Some (Err fault)

  -- the reply that ends the wait
  abbrev pub SaysReceived : Received T → SharedReply T → Type 0
  SaysReceived (s, Ok v) r = r ≡ reply.Received (Value v)
  SaysReceived (s, Err fault) r = r ≡ reply.Refused fault

  -- if nothing was received, the fault is `OutOfMemory`
  abbrev pub ReceivedRefusedIfDue : Received T → Type 0
  ReceivedRefusedIfDue r = IfErr r.1 (λ fault. fault ≡ OutOfMemory)

  -- the token that the future holds, and the call that it makes through it
  abbrev pub held_by_next : Option (SharedNumbered T) → Option (SharedToken T × SharedCall T)
  held_by_next (Some s) = Some (s.token, call.TakeNext s.number)
  held_by_next None = None

  -- the token after a poll: the answer has it, or the future if the poll is pending
  abbrev pub token_after_next : Polled (Received T) → Option (SharedNumbered T) → Option (SharedToken T)
  token_after_next (Ready r) new = Some r.0.token
  token_after_next Pending (Some s) = Some s.token
  token_after_next Pending None = None

  module _ (flow : GateOrigin (SharedFlowState T)) where
    -- One poll, by the subscription before it, its answer and the subscription after it. A busy poll has lost one exchange; a poll
    -- after the end does nothing; any other poll makes one call, and is ready if that gave a value or was refused.
    abbrev pub NextPolls : Option (SharedNumbered T) → Polled (Received T) → Option (SharedNumbered T) → Type 0
    NextPolls (Some s) Pending (Some u) = (u.number ≡ s.number) × (IsBusy s.token u.token ⊎ SharedCallsAtOnce flow s.token (call.TakeNext s.number) (reply.Received Empty) u.token)
    NextPolls (Some s) (Ready (u, Ok v)) None = (u.number ≡ s.number) × SharedCallsAtOnce flow s.token (call.TakeNext s.number) (reply.Received (Value v)) u.token
    NextPolls (Some s) (Ready (u, Err fault)) None = (u.number ≡ s.number) × (fault ≢ Busy) × SharedCallsAtOnce flow s.token (call.TakeNext s.number) (reply.Refused fault) u.token
    NextPolls None Pending None = ⊤
    NextPolls _ _ _ = ⊥

    -- ---- a whole run

    -- calls of `next` that found nothing, by the tokens after each, and then one with this reply
    abbrev pub FindsAfter : List (SharedToken T) → SharedCall T → SharedReply T → SharedToken T → SharedToken T → Type 0
    FindsAfter [] next r t after = SharedCalls flow t next r after
    FindsAfter (u ∷ us) next r t after = SharedCalls flow t next (reply.Received Empty) u × FindsAfter us next r u after

    -- some calls find nothing, and one has this reply
    abbrev pub FindsInTheEnd : SharedCall T → SharedReply T → SharedToken T → SharedToken T → Type 0
    FindsInTheEnd next r t after = (us : List (SharedToken T)) × FindsAfter us next r t after

    -- what the future may give: after some calls of `next` that found nothing, the value or the refusal of one more
    abbrev pub FutureReceives : Option (SharedNumbered T) → Received T → Type 0
    FutureReceives (Some s) (u, Ok v) = (u.number ≡ s.number) × FindsInTheEnd (call.TakeNext s.number) (reply.Received (Value v)) s.token u.token
    FutureReceives (Some s) (u, Err fault) = (u.number ≡ s.number) × (fault ≡ OutOfMemory) × FindsInTheEnd (call.TakeNext s.number) (reply.Refused fault) s.token u.token
    FutureReceives None r = ⊥

  -- what the future may give; the subscription in it is to the future's flow
  abbrev pub GivesReceived : Receiving T → Received T → Type 0
  GivesReceived f r = (r.0.token.table_id ≡ f.flow.table_id) × FutureReceives f.flow f.subscription r
