-- From one poll of a next future to what its whole run gives.
use Rattle.std.proofs.Common.{◌≡◌, ◌≢◌, ◌⊎◌, inl, inr, List, [], ◌∷◌, Option, Some, None, Result, Ok, Err, refl, ◌∙◌, subst}
use Rattle.futures.specs.declared.task.Poll.{Poll as Polled}
use Rattle.futures.specs.declared.task.Poll.TheVariants.{Ready, Pending}
use Rattle.futures.specs.Poll.{IfReady, OnPending}
use Rattle.flow_law.specs.declared.fault.FlowFault.{FlowFault}
use Rattle.flow_law.specs.declared.fault.FlowFault.TheVariants.{OutOfMemory, TooLarge, NeedsBuffer, Exhausted, Unsupported, Busy}
use Rattle.flow_law.specs.declared.outcome.Next.{Next}
use Rattle.flow_law.specs.declared.outcome.Next.TheVariants.{Value, Empty, Gone}
use Rattle.flow_law.specs.declared.call.SharedCall.{SharedCall}
use Rattle.flow_law.specs.declared.call.SharedCall.TheVariants as call
use Rattle.flow_law.specs.declared.call.SharedReply.{SharedReply}
use Rattle.flow_law.specs.declared.call.SharedReply.TheVariants as reply
use Rattle.flow_law.specs.declared.states.SharedFlowState.{SharedFlowState}
use Rattle.flow_law.specs.history.Tokens.{IsBusy}
use Rattle.flow_gate.specs.Tokens.{GateOrigin}
use Rattle.flow_shared.specs.Futures.{SharedNumbered, OneEach, PollsOnce}
use Rattle.flow_shared.specs.NextFutures.{Receiving, Received, ReceivedRefusedIfDue, NextPolls, FindsAfter, FindsInTheEnd, FutureReceives, GivesReceived, SaysReceived, held_by_next, token_after_next, given_by}
use Rattle.flow_law.specs.flow.SharedHistory.{shared_flow}
use Rattle.flow_shared.specs.Calls.{NextsNow}
use Rattle.flow_shared.specs.CoreCalls.{IsWait}
use Rattle.flow_shared.specs.SharedReplies.{SharedToken, SharedCallsAtOnce}
use Rattle.flow_shared.proofs.EmitRuns.{called_later}
use Rattle.flow_shared.proofs.Refusals.{next_fault}

-- if a future has nothing to give, nothing was received
pub nothing_given : {T : Type 0} (answer : Result (Next T) FlowFault) → answer ≢ Ok Gone → given_by answer ≡ None → IsWait answer
nothing_given (Ok (Value v)) live is = absurd (cc)
nothing_given (Ok Empty) live is = tt
nothing_given (Ok Gone) live is = absurd (live refl)
nothing_given (Err OutOfMemory) live is = absurd (cc)
nothing_given (Err TooLarge) live is = absurd (cc)
nothing_given (Err NeedsBuffer) live is = absurd (cc)
nothing_given (Err Exhausted) live is = absurd (cc)
nothing_given (Err Unsupported) live is = absurd (cc)
nothing_given (Err Busy) live is = tt

module _ {T : Type 0} (flow : GateOrigin (SharedFlowState T)) where
  -- the subscription found nothing, or another caller was inside
  abbrev Waits : SharedNumbered T → SharedNumbered T → Type 0
  Waits s u = IsBusy s.token u.token ⊎ SharedCallsAtOnce flow s.token (call.TakeNext s.number) (reply.Received Empty) u.token

  finds_by : (us : List (SharedToken T)) (c : SharedCall T) (r : SharedReply T) (t u w : SharedToken T) → IsBusy t u → FindsAfter flow us c r u w → FindsAfter flow us c r t w
  finds_by [] c r t u w busy h = called_later flow t u w c r busy h
  finds_by (x ∷ us) c r t u w busy h = (called_later flow t u x c (reply.Received Empty) busy h.0, h.1)

  waits_finds : (s u : SharedNumbered T) (r : SharedReply T) (w : SharedToken T) → Waits s u → FindsInTheEnd flow (call.TakeNext s.number) r u.token w → FindsInTheEnd flow (call.TakeNext s.number) r s.token w
  waits_finds s u r w (inl busy) h = (h.0, finds_by h.0 (call.TakeNext s.number) r s.token u.token w busy h.1)
  waits_finds s u r w (inr called) h = (u.token ∷ h.0, (called.0, h.1))

  waited_same : (s u : SharedNumbered T) → (u.number ≡ s.number) × Waits s u → (x : Received T) → FutureReceives flow (Some u) x → FutureReceives flow (Some s) x
  waited_same s u p (w, Ok v) h = (h.0 ∙ p.0, waits_finds s u (reply.Received (Value v)) w.token p.1 (subst (λ n. FindsInTheEnd flow (call.TakeNext n) (reply.Received (Value v)) u.token w.token) p.0 h.1))
  waited_same s u p (w, Err fault) h = (h.0 ∙ p.0, h.1, waits_finds s u (reply.Refused fault) w.token p.1 (subst (λ n. FindsInTheEnd flow (call.TakeNext n) (reply.Refused fault) u.token w.token) p.0 h.2))

  -- the poll that returns what a call gave
  abbrev pub PollsBy : Option (Result T FlowFault) → SharedNumbered T → SharedNumbered T → Type 0
  PollsBy None s u = NextPolls flow (Some s) Pending (Some u)
  PollsBy (Some given) s u = NextPolls flow (Some s) (Ready (u, given)) None

  pub polls_by : (answer : Result (Next T) FlowFault) (s u : SharedNumbered T) → NextsNow shared_flow flow s answer u → PollsBy (given_by answer) s u
  polls_by (Ok (Value v)) s u h = (h.1, h.2)
  polls_by (Ok Empty) s u h = (h.1, inr h.2)
  polls_by (Ok Gone) s u h = absurd (h.0 refl)
  polls_by (Err OutOfMemory) s u h = (h.0, (λ e. cc), h.1)
  polls_by (Err TooLarge) s u h = (h.0, (λ e. cc), h.1)
  polls_by (Err NeedsBuffer) s u h = (h.0, (λ e. cc), h.1)
  polls_by (Err Exhausted) s u h = (h.0, (λ e. cc), h.1)
  polls_by (Err Unsupported) s u h = (h.0, (λ e. cc), h.1)
  polls_by (Err Busy) s u h = (h.0, inl h.1)

  receives_same : (s s' : Option (SharedNumbered T)) → NextPolls flow s Pending s' → (x : Received T) → FutureReceives flow s' x → FutureReceives flow s x
  receives_same (Some s) (Some u) p = waited_same s u p
  receives_same (Some s) None p = absurd p
  receives_same None None p = λ x h. h
  receives_same None (Some s) p = absurd p

  receives_value : (s : Option (SharedNumbered T)) (p : Polled (Received T)) (s' : Option (SharedNumbered T)) → NextPolls flow s p s' → IfReady p (FutureReceives flow s)
  receives_value s Pending s' h = tt
  receives_value (Some s) (Ready (u, Ok v)) None h = (h.0, ([], h.1.0))
  receives_value (Some s) (Ready (u, Err fault)) None h = (h.0, next_fault flow s.token u.token s.number fault h.2.0, ([], h.2.0))
  receives_value (Some s) (Ready (u, Ok v)) (Some w) h = absurd h
  receives_value (Some s) (Ready (u, Err fault)) (Some w) h = absurd h
  receives_value None (Ready x) s' h = absurd h

  pub is_due : (s : Option (SharedNumbered T)) (p : Polled (Received T)) (s' : Option (SharedNumbered T)) → NextPolls flow s p s' → IfReady p ReceivedRefusedIfDue
  is_due s Pending s' h = tt
  is_due (Some s) (Ready (u, Ok v)) s' h = tt
  is_due (Some s) (Ready (u, Err fault)) None h = next_fault flow s.token u.token s.number fault h.2.0
  is_due (Some s) (Ready (u, Err fault)) (Some w) h = absurd h
  is_due None (Ready x) s' h = absurd h

  waits_once : (s u : SharedNumbered T) → Waits s u → PollsOnce SaysReceived flow s.token (call.TakeNext s.number) Pending u.token
  waits_once s u (inl busy) = inl (busy, refl)
  waits_once s u (inr called) = inr (reply.Received Empty, called, refl)

  pub one_each : (s : Option (SharedNumbered T)) (p : Polled (Received T)) (s' : Option (SharedNumbered T)) → NextPolls flow s p s' → OneEach SaysReceived flow (held_by_next s) p (token_after_next p s')
  one_each (Some s) Pending (Some u) h = (u.token, refl, waits_once s u h.1)
  one_each (Some s) Pending None h = absurd h
  one_each (Some s) (Ready (u, Ok v)) None h = (u.token, refl, inr (reply.Received (Value v), h.1, (refl, refl)))
  one_each (Some s) (Ready (u, Err fault)) None h = (u.token, refl, inr (reply.Refused fault, h.2, (refl, refl)))
  one_each (Some s) (Ready (u, Ok v)) (Some w) h = absurd h
  one_each (Some s) (Ready (u, Err fault)) (Some w) h = absurd h
  one_each None p s' h = tt

module _ {T : Type 0} where
  pub gives_value : (f f' : Receiving T) (p : Polled (Received T)) → NextPolls f.flow f.subscription p f'.subscription → IfReady p (λ r. r.0.token.table_id ≡ f.flow.table_id) → IfReady p (GivesReceived f)
  gives_value f f' Pending h at = tt
  gives_value f f' (Ready x) h at = (at, receives_value f.flow f.subscription (Ready x) f'.subscription h)

  pub gives_same : (f f' : Receiving T) (p : Polled (Received T)) → f'.flow ≡ f.flow → NextPolls f.flow f.subscription p f'.subscription → OnPending p ((x : Received T) → GivesReceived f' x → GivesReceived f x)
  gives_same f f' (Ready x) is h = tt
  gives_same f f' Pending is h = λ x g. let there = subst (λ flow. (x.0.token.table_id ≡ flow.table_id) × FutureReceives flow f'.subscription x) is g in
      (there.0, receives_same f.flow f.subscription f'.subscription h x there.1)
