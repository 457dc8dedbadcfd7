-- A `next` that waits for other callers, or does not.
use Rattle.std.proofs.Common.{◌≡◌, ◌≢◌, ℕ, Result, Ok, Err, IfOk, IfErr, IsOk, refl, sym, subst}
use Rattle.std.specs.Prelude.{MatchResult}
use Rattle.std.specs.Result.{result_unwrap_or}
use Rattle.flow_law.specs.declared.fault.FlowFault.{FlowFault}
use Rattle.flow_law.specs.declared.fault.FlowFault.TheVariants.{OutOfMemory, TooLarge, NeedsBuffer, Exhausted, Unsupported, Busy}
use Rattle.flow_law.specs.declared.history.Said.{Said}
use Rattle.flow_law.specs.declared.outcome.Next.{Next}
use Rattle.flow_law.specs.declared.outcome.Next.TheVariants.{Value, Empty, Gone}
use Rattle.flow_law.specs.history.History.{Kind, IsSubscription, replied}
use Rattle.flow_law.specs.history.Lawful.{Lawful}
use Rattle.flow_law.specs.history.Tokens.{numbered_token, IsBusy}
use Rattle.flow_law.proofs.TokenLemmas.{subscription_after_next, busy_is_no_event, never_gone, next_fault}
use Rattle.flow_gate.specs.Tokens.{GateToken, GateOrigin}
use Rattle.flow_shared.specs.Calls.{GateNumbered, Calls, CallsBy, Nexts, NextsBy, NextsNow}
use Rattle.flow_shared.specs.CoreCalls.{IsSleep, IsWait, after_next}

module _ {T S C R : Type 0} (kind : Kind T S C R) (law : Lawful kind) (flow : GateOrigin S) (old new : GateNumbered (Said C R)) where
  pub nexts_by : (at_once : Type 0) → IsSubscription kind old.token.knows old.number → new.number ≡ old.number
      → (answer : Result (Next T) FlowFault) → CallsBy kind flow at_once old.token (kind.take_next old.number) (replied kind kind.received answer) new.token → NextsBy kind flow at_once old answer new
  nexts_by at_once subscribed number (Ok next) called =
      ((λ e. never_gone kind law flow.first old.token.knows new.token.knows old.number (subst (λ (z : Next T). CallsBy kind flow at_once old.token (kind.take_next old.number) (kind.received z) new.token) e called).0.1 subscribed), number, called)
  nexts_by at_once subscribed number (Err OutOfMemory) called = (number, called)
  nexts_by at_once subscribed number (Err TooLarge) called = (number, called)
  nexts_by at_once subscribed number (Err NeedsBuffer) called = (number, called)
  nexts_by at_once subscribed number (Err Exhausted) called = (number, called)
  nexts_by at_once subscribed number (Err Unsupported) called = (number, called)
  nexts_by at_once subscribed number (Err Busy) called = absurd (busy_is_no_event kind law flow.first old.token.knows new.token.knows (kind.take_next old.number) called.0.1)

  -- a call that waits is never Busy
  pub nexts_waiting : (answer : Result (Next T) FlowFault) → NextsBy kind flow ⊥ old answer new → Nexts kind flow old answer new
  nexts_waiting (Ok next) by = by.2.0
  nexts_waiting (Err OutOfMemory) by = by.1.0
  nexts_waiting (Err TooLarge) by = by.1.0
  nexts_waiting (Err NeedsBuffer) by = by.1.0
  nexts_waiting (Err Exhausted) by = by.1.0
  nexts_waiting (Err Unsupported) by = by.1.0
  nexts_waiting (Err Busy) by = absurd (by.1.0)

  pub nexts_at_once : (answer : Result (Next T) FlowFault) → NextsBy kind flow (Unit {0}) old answer new → NextsNow kind flow old answer new
  nexts_at_once (Ok next) by = (by.0, by.1, (by.2.0, by.2.1 tt))
  nexts_at_once (Err OutOfMemory) by = (by.0, (by.1.0, by.1.1 tt))
  nexts_at_once (Err TooLarge) by = (by.0, (by.1.0, by.1.1 tt))
  nexts_at_once (Err NeedsBuffer) by = (by.0, (by.1.0, by.1.1 tt))
  nexts_at_once (Err Exhausted) by = (by.0, (by.1.0, by.1.1 tt))
  nexts_at_once (Err Unsupported) by = (by.0, (by.1.0, by.1.1 tt))
  nexts_at_once (Err Busy) by = (by.0, by.1.1)

  pub same_number : (at_once : Type 0) (answer : Result (Next T) FlowFault) → NextsBy kind flow at_once old answer new → new.number ≡ old.number
  same_number at_once (Ok next) by = by.1
  same_number at_once (Err OutOfMemory) by = by.0
  same_number at_once (Err TooLarge) by = by.0
  same_number at_once (Err NeedsBuffer) by = by.0
  same_number at_once (Err Exhausted) by = by.0
  same_number at_once (Err Unsupported) by = by.0
  same_number at_once (Err Busy) by = by.0

  -- a subscriber never finds itself gone
  pub finds_itself : (at_once : Type 0) (answer : Result (Next T) FlowFault) → NextsBy kind flow at_once old answer new → answer ≢ Ok Gone
  finds_itself at_once answer by gone = (subst (λ (a : Result (Next T) FlowFault). NextsBy kind flow at_once old a new) gone by).0 refl

  -- its only refusal is that of memory
  pub refused_memory : (answer : Result (Next T) FlowFault) → NextsBy kind flow ⊥ old answer new → IfErr answer (λ fault. fault ≡ OutOfMemory)
  refused_memory answer by = next_fault kind law flow.first old.token.knows new.token.knows old.number answer (nexts_waiting answer by).1

-- the subscriber n calls through its seat: the answer of the call, or Busy if another caller was inside
module _ {T S C R X : Type 0} (kind : Kind T S C R) (law : Lawful kind) (flow : GateOrigin S) (at_once : Type 0) (n : ℕ) (old new : GateToken (Said C R)) (subscribed : IsSubscription kind old.knows n)
    (Same : X → Type 0) (tried : Result (Result (Next T) FlowFault) X)
    (called : IfOk tried (λ answer. Calls kind flow old (kind.take_next n) (replied kind kind.received answer) new))
    (kept : IfOk tried (λ _. at_once → new.knows.lost ≡ old.knows.lost))
    (busy : IfErr tried (λ back. at_once × IsBusy old new × Same back)) where
  still_there : (t : Result (Result (Next T) FlowFault) X) → IfOk t (λ answer. Calls kind flow old (kind.take_next n) (replied kind kind.received answer) new)
      → IfErr t (λ back. at_once × IsBusy old new × Same back) → IsSubscription kind new.knows n
  still_there (Ok answer) c b = subscription_after_next kind law flow.first old.knows new.knows n (replied kind kind.received answer) c.1 subscribed
  still_there (Err back) c b = subst (λ (t : GateToken (Said C R)). IsSubscription kind t.knows n) (sym b.1) subscribed

  pub still_subscribed : IsSubscription kind new.knows n
  still_subscribed = still_there tried called busy

  said : (t : Result (Result (Next T) FlowFault) X) → IfOk t (λ answer. Calls kind flow old (kind.take_next n) (replied kind kind.received answer) new)
      → IfOk t (λ _. at_once → new.knows.lost ≡ old.knows.lost) → IfErr t (λ back. at_once × IsBusy old new × Same back)
      → NextsBy kind flow at_once (numbered_token old n) (result_unwrap_or t (Err Busy)) (numbered_token new n)
  said (Ok answer) c k b = nexts_by kind law flow (numbered_token old n) (numbered_token new n) at_once subscribed refl answer (c, k)
  said (Err back) c k b = (refl, (b.0, b.1))

  pub next_tried : (before : GateNumbered (Said C R)) (result : Result (Next T) FlowFault) → numbered_token old n ≡ before → result ≡ result_unwrap_or tried (Err Busy) → NextsBy kind flow at_once before result (numbered_token new n)
  next_tried before result is gives = subst (λ (z : GateNumbered (Said C R)). NextsBy kind flow at_once z result (numbered_token new n)) is
      (subst (λ (r : Result (Next T) FlowFault). NextsBy kind flow at_once (numbered_token old n) r (numbered_token new n)) (sym gives) (said tried called kept busy))

  -- a caller that got nothing sleeps, or asks again
  armed_if : (Armed : Type 0) (t : Result (Result (Next T) FlowFault) X) → IfOk t (λ answer. Calls kind flow old (kind.take_next n) (replied kind kind.received answer) new)
      → MatchResult t (λ answer. IsSleep (after_next n answer) → Armed) (λ _. Armed) → IsWait (result_unwrap_or t (Err Busy)) → Armed
  armed_if Armed (Ok (Ok (Value v))) c armed waits = absurd waits
  armed_if Armed (Ok (Ok Empty)) c armed waits = armed tt
  armed_if Armed (Ok (Ok Gone)) c armed waits = absurd waits
  armed_if Armed (Ok (Err OutOfMemory)) c armed waits = absurd waits
  armed_if Armed (Ok (Err TooLarge)) c armed waits = absurd waits
  armed_if Armed (Ok (Err NeedsBuffer)) c armed waits = absurd waits
  armed_if Armed (Ok (Err Exhausted)) c armed waits = absurd waits
  armed_if Armed (Ok (Err Unsupported)) c armed waits = absurd waits
  armed_if Armed (Ok (Err Busy)) c armed waits = absurd (busy_is_no_event kind law flow.first old.knows new.knows (kind.take_next n) c.1)
  armed_if Armed (Err back) c armed waits = armed

  pub next_armed : (Armed : Type 0) (result : Result (Next T) FlowFault) → result ≡ result_unwrap_or tried (Err Busy) → MatchResult tried (λ answer. IsSleep (after_next n answer) → Armed) (λ _. Armed) → IsWait result → Armed
  next_armed Armed result gives armed waits = armed_if Armed tried called armed (subst IsWait gives waits)

-- if copies are never refused, a call that waits is never refused
pub always_given : {T : Type 0} (answer : Result (Next T) FlowFault) → IfErr answer (λ fault. ⊥ × (fault ≡ Busy)) → IsOk answer
always_given (Ok next) given = refl
always_given (Err fault) given = absurd (given.0)
