-- Calls that found nothing, or found an emission waiting, before the call that ends the wait.
use Rattle.std.proofs.Common.{◌≡◌, inr, ℕ, true, false, [], ◌∷◌, Option, None, Result, Ok, Err, subst, arith}
use Rattle.flow_law.specs.declared.fault.FlowFault.{FlowFault}
use Rattle.flow_law.specs.declared.history.Said.{Said}
use Rattle.flow_law.specs.declared.outcome.Next.{Next}
use Rattle.flow_law.specs.declared.outcome.Next.TheVariants.{Empty}
use Rattle.flow_law.specs.declared.call.SharedCall.TheVariants as call
use Rattle.flow_law.specs.declared.call.SharedReply.TheVariants as reply
use Rattle.flow_law.specs.declared.outcome.Emit.TheVariants.{Queued}
use Rattle.flow_law.specs.declared.states.SharedFlowState.{SharedFlowState}
use Rattle.flow_law.specs.history.History.{Kind}
use Rattle.flow_law.specs.history.Handles.{next_of}
use Rattle.flow_law.specs.history.Tokens.{IsBusy}
use Rattle.flow_gate.specs.Tokens.{GateToken, GateOrigin}
use Rattle.flow_shared.specs.Calls as flows
use Rattle.flow_shared.specs.Calls.{GateNumbered, NextsOf}
use Rattle.flow_shared.specs.Receiving.{NextsUntil}
use Rattle.flow_shared.specs.Futures.{SharedNumbered}
use Rattle.flow_shared.specs.SharedReplies.{SharedToken, SharedCalls}
use Rattle.flow_shared.specs.EmitFutures.{EndsAfter, EmitEnds}
use Rattle.flow_shared.specs.declared.shared.sending.SendEnd.{SendEnd}
use Rattle.flow_shared.specs.declared.shared.sending.SendEnd.TheVariants as ended
use Rattle.flow_shared.specs.Sending.{SendEndsBy, LastsTo, EndsInTime, SendsInTime}

module _ {T S C R : Type 0} (kind : Kind T S C R) (flow : GateOrigin S) where
  -- an exchange that was lost before a call is one that the call lost
  pub called_later : (t u w : GateToken (Said C R)) (c : C) (r : R) → IsBusy t u → flows.Calls kind flow u c r w → flows.Calls kind flow t c r w
  called_later t u w c r busy called = let a = subst (λ (z : GateToken (Said C R)). flows.Calls kind flow z c r w) busy called in (
    a.0,
    record { name = a.1.name; made = a.1.made; lost = omega (arith, a.1.lost); history = a.1.history; began = a.1.began; grows = a.1.grows; in_time = a.1.in_time; timed = a.1.timed; names = a.1.names },
  )

  -- so far nothing was found: every run of `next` from here on is the rest of a run from the old subscription
  abbrev pub LeadsOn : GateNumbered (Said C R) → GateNumbered (Said C R) → Type 0
  LeadsOn old now = (answer : Result (Next T) FlowFault) (new : GateNumbered (Said C R)) → NextsUntil kind flow now answer new → NextsUntil kind flow old answer new

  pub leads_same : (s : GateNumbered (Said C R)) → LeadsOn s s
  leads_same s answer new h = h

  pub leads_further : (s t u : GateNumbered (Said C R)) → LeadsOn s t → NextsOf kind flow t (Ok Empty) u → LeadsOn s u
  leads_further s t u led called answer new h = led answer new (u ∷ h.0, (called, h.1))

  pub leads_to : (s t u : GateNumbered (Said C R)) (answer : Result (Next T) FlowFault) → LeadsOn s t → NextsOf kind flow t answer u → NextsUntil kind flow s answer u
  leads_to s t u answer led called = led answer u ([], called)

  -- a call in a loop, at the flow as the loop has it: it ends the wait, or found nothing
  module _ (here : GateOrigin S) (s t u : GateNumbered (Said C R)) (same : here ≡ flow) (led : LeadsOn s t) where
    pub is_refused : (fault : FlowFault) → NextsOf kind here t (Err fault) u → NextsUntil kind flow s (Err fault) u
    is_refused fault called = leads_to s t u (Err fault) led (subst (λ (f : GateOrigin S). NextsOf kind f t (Err fault) u) same called)

    pub has_next : (found next : Option T) → found ≡ next → NextsOf kind here t (Ok (next_of found)) u → NextsUntil kind flow s (Ok (next_of next)) u
    has_next found next is called = leads_to s t u (Ok (next_of next)) led
        (subst (λ (o : Option T). NextsOf kind flow t (Ok (next_of o)) u) is (subst (λ (f : GateOrigin S). NextsOf kind f t (Ok (next_of found)) u) same called))

    pub goes_on : (found : Option T) → found ≡ None → NextsOf kind here t (Ok (next_of found)) u → LeadsOn s u
    goes_on found is called = leads_further s t u led
        (subst (λ (o : Option T). NextsOf kind flow t (Ok (next_of o)) u) is (subst (λ (f : GateOrigin S). NextsOf kind f t (Ok (next_of found)) u) same called))

module _ {T : Type 0} (flow : GateOrigin (SharedFlowState T)) where
  -- so far the emission waits: every end of its wait from here on is an end from the old token
  abbrev pub EndsOn : SharedNumbered T → SharedNumbered T → Type 0
  EndsOn old now = (after : SharedToken T) → EmitEnds flow now.number now.token after → EmitEnds flow old.number old.token after

  pub ends_same : (e : SharedNumbered T) → EndsOn e e
  ends_same e after h = h

  pub ends_further : (d e f : SharedNumbered T) → EndsOn d e → SharedCalls flow e.token (call.Poll e.number) (reply.Tested true) f.token → f.number ≡ e.number → EndsOn d f
  ends_further d e f led called same after h = led after (f.token ∷ h.0, (called, subst (λ n. EndsAfter flow h.0 n f.token after) same h.1))

  pub ends_at : (d e : SharedNumbered T) (after : SharedToken T) → EndsOn d e → SharedCalls flow e.token (call.Poll e.number) (reply.Tested false) after → EmitEnds flow d.number d.token after
  ends_at d e after led called = led after ([], called)

  pub lasts_to : (e : ℕ) (t : SharedToken T) (how : SendEnd) (after : SharedToken T) → SendEndsBy flow e t how after → LastsTo flow e t how after
  lasts_to e t ended.Done after h = inr h
  lasts_to e t ended.Cancelled after h = h

  pub sends_in_time : (v : T) (t : SharedToken T) (e : ℕ) (u : SharedToken T) (how : SendEnd) (after : SharedToken T)
      → SharedCalls flow t (call.Emit v) (reply.Emitted (Queued e)) u → EndsInTime flow e u how after → SendsInTime flow v t (Ok how) after
  sends_in_time v t e u ended.Done after called h = inr (e, u, called, h)
  sends_in_time v t e u ended.Cancelled after called h = (e, u, called, h)
