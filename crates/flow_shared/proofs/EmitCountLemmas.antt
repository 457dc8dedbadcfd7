-- What one call, and one poll of an emit future, adds to the `emit`s of a token.
use Rattle.std.proofs.Common.{rules, ◌≡◌, ◌≢◌, ℕ, ◌+◌, ◌⊎◌, inl, inr, Bool, true, false, List, [], ◌∷◌, ◌++◌, refl, sym, ap, ◌∙◌}
use Rattle.futures.specs.declared.task.Poll.{Poll as Polled}
use Rattle.futures.specs.declared.task.Poll.TheVariants.{Ready, Pending}
use Rattle.flow_law.specs.declared.outcome.Emit.TheVariants.{Done, Queued}
use Rattle.flow_law.specs.declared.call.SharedCall.{SharedCall}
use Rattle.flow_law.specs.declared.call.SharedCall.TheVariants as call
use Rattle.flow_law.specs.declared.call.SharedReply.{SharedReply}
use Rattle.flow_law.specs.declared.call.SharedReply.TheVariants as reply
use Rattle.flow_law.specs.declared.states.SharedFlowState.{SharedFlowState}
use Rattle.flow_law.specs.history.Done.{is_same_name}
use Rattle.flow_law.specs.history.Growth.{event, IsSilent}
use Rattle.flow_law.specs.history.Promise.{said}
use Rattle.flow_law.specs.flow.SharedHistory.{History}
use Rattle.flow_law.specs.history.Tokens.{IsBusy}
use Rattle.flow_law.specs.flow.Values.{numbers_exact}
use Rattle.flow_gate.specs.Tokens.{GateOrigin}
use Rattle.flow_shared.specs.declared.emit_future.EmitStage.{EmitStage}
use Rattle.flow_shared.specs.declared.emit_future.EmitStage.TheVariants.{Fresh, Waiting, Ended}
use Rattle.flow_shared.specs.declared.emit_future.Sent.{Sent}
use Rattle.flow_shared.specs.declared.emit_future.Sent.TheVariants as sent
use Rattle.flow_shared.specs.SharedReplies.{SharedToken, SharedCalls, SharedCallsAtOnce}
use Rattle.flow_shared.specs.EmitCounts.{emit_of, emits}
use Rattle.flow_shared.specs.EmitFutures.{EmitPolls, KeepsCount, SaysSent, held_by_emit, token_after_emit}
use Rattle.flow_shared.specs.Futures.{SharedNumbered, OneEach, PollsOnce}

is_not : (b : Bool) → (b ≡ true → ⊥) → b ≡ false
is_not true = λ no. absurd (no refl)
is_not false = λ _. refl

apart : (name other : List ℕ) → other ≢ name → is_same_name name other ≡ false
apart name other ne = is_not (is_same_name name other) (λ yes. ne (sym ((numbers_exact name other).0 yes)))

plus_assoc : (a b c : ℕ) → a + (b + c) ≡ (a + b) + c
plus_assoc a b c = search rules

pub plus_zero : (a : ℕ) → a + 0 ≡ a
plus_zero a = search rules

zero_plus : (a : ℕ) → 0 + a ≡ a
zero_plus a = search rules

module _ {T : Type 0} where
  emits_append : (k : List ℕ) (g h : History T) → emits k (g ++ h) ≡ emits k g + emits k h
  emits_append k [] h = sym (zero_plus (emits k h))
  emits_append k (e ∷ es) h = ap (λ z. emit_of (is_same_name k e.name) e.what.call + z) (emits_append k es h) ∙ plus_assoc (emit_of (is_same_name k e.name) e.what.call) (emits k es) (emits k h)

  emits_others : (k : List ℕ) (h : History T) → IsSilent k h → emits k h ≡ 0
  emits_others k [] a = refl
  emits_others k (e ∷ es) a = ap (λ z. emit_of z e.what.call + emits k es) (apart k e.name a.0) ∙ (zero_plus (emits k es) ∙ emits_others k es a.1)

  emits_last : (k : List ℕ) (began : ℕ) (c : SharedCall T) (r : SharedReply T) → emits k (event k began (said c r) ∷ []) ≡ emit_of true c
  emits_last k began c r = ap (λ z. emit_of z c + 0) ((numbers_exact k k).1 refl) ∙ plus_zero (emit_of true c)

  -- the `emit`s of the token
  abbrev pub count : SharedToken T → ℕ
  count t = emits t.knows.name t.knows.seen

  pub count_called : (flow : GateOrigin (SharedFlowState T)) (t u : SharedToken T) (c : SharedCall T) (r : SharedReply T) → SharedCalls flow t c r u → count u ≡ count t + emit_of true c
  count_called flow t u c r called =
      let g = called.1.grows in let k = t.knows.name in let e = event k called.1.began (said c r) in
      let quiet : emits k (t.knows.seen ++ g.0) ≡ count t = emits_append k t.knows.seen g.0 ∙ (ap (λ z. count t + z) (emits_others k g.0 g.2) ∙ plus_zero (count t)) in
      ap (λ z. emits z u.knows.seen) called.1.name ∙ (ap (emits k) g.1 ∙ (emits_append k (t.knows.seen ++ g.0) (e ∷ [])
      ∙ (ap (λ z. z + emits k (e ∷ [])) quiet ∙ ap (λ z. count t + z) (emits_last k called.1.began c r))))

  count_busy : (t u : SharedToken T) → IsBusy t u → count u ≡ count t
  count_busy t u busy = ap count busy

module _ {T : Type 0} (flow : GateOrigin (SharedFlowState T)) where
  more_one : (t u : SharedToken T) (v : T) (r : SharedReply T) → SharedCalls flow t (call.Emit v) r u → count u + 0 ≡ count t + 1
  more_one t u v r called = plus_zero (count u) ∙ count_called flow t u (call.Emit v) r called

  more_none : (t u : SharedToken T) (n : ℕ) (r : SharedReply T) → SharedCalls flow t (call.Poll n) r u → count u + 0 ≡ count t + 0
  more_none t u n r called = plus_zero (count u) ∙ count_called flow t u (call.Poll n) r called

  abbrev Waits : SharedNumbered T → SharedNumbered T → Type 0
  Waits e f = IsBusy e.token f.token ⊎ SharedCallsAtOnce flow e.token (call.Poll e.number) (reply.Tested true) f.token

  waits_none : (e f : SharedNumbered T) → Waits e f → count f.token + 0 ≡ count e.token + 0
  waits_none e f (inl busy) = ap (λ n. n + 0) (count_busy e.token f.token busy)
  waits_none e f (inr called) = more_none e.token f.token e.number (reply.Tested true) called.0

module _ {T A : Type 0} (flow : GateOrigin (SharedFlowState T)) where
  pub keeps_count : (s : EmitStage T A) (p : Polled (Sent T A)) (s' : EmitStage T A) → EmitPolls flow s p s' → KeepsCount s p s'
  keeps_count (Fresh t v) Pending (Fresh u w) h = ap (λ n. n + 1) (count_busy t u h.1)
  keeps_count (Fresh t v) Pending (Waiting e) h = more_one flow t e.token v (reply.Emitted (Queued e.number)) h.0
  keeps_count (Fresh t v) Pending Ended h = absurd h
  keeps_count (Fresh t v) (Ready (sent.Done u)) Ended h = more_one flow t u v (reply.Emitted Done) h.0
  keeps_count (Fresh t v) (Ready (sent.Done u)) (Fresh x w) h = absurd h
  keeps_count (Fresh t v) (Ready (sent.Done u)) (Waiting e) h = absurd h
  keeps_count (Fresh t v) (Ready (sent.Refused u w fault)) Ended h = more_one flow t u v (reply.Refused fault) h.2.0
  keeps_count (Fresh t v) (Ready (sent.Refused u w fault)) (Fresh x y) h = absurd h
  keeps_count (Fresh t v) (Ready (sent.Refused u w fault)) (Waiting e) h = absurd h
  keeps_count (Waiting e) Pending (Waiting f) h = waits_none flow e f h.1
  keeps_count (Waiting e) Pending (Fresh t v) h = absurd h
  keeps_count (Waiting e) Pending Ended h = absurd h
  keeps_count (Waiting e) (Ready (sent.Done u)) Ended h = more_none flow e.token u e.number (reply.Tested false) h.0
  keeps_count (Waiting e) (Ready (sent.Done u)) (Fresh t w) h = absurd h
  keeps_count (Waiting e) (Ready (sent.Done u)) (Waiting f) h = absurd h
  keeps_count (Waiting e) (Ready (sent.Refused u w fault)) s' h = absurd h
  keeps_count Ended Pending Ended h = refl
  keeps_count Ended Pending (Fresh t v) h = absurd h
  keeps_count Ended Pending (Waiting e) h = absurd h
  keeps_count Ended (Ready x) s' h = absurd h

  waits_once : (e f : SharedNumbered T) → Waits flow e f → PollsOnce (SaysSent {T = T} {A = A}) flow e.token (call.Poll e.number) Pending f.token
  waits_once e f (inl busy) = inl (busy, refl)
  waits_once e f (inr called) = inr (reply.Tested true, called, refl)

  pub one_each : (s : EmitStage T A) (p : Polled (Sent T A)) (s' : EmitStage T A) → EmitPolls flow s p s' → OneEach SaysSent flow (held_by_emit s) p (token_after_emit p s')
  one_each (Fresh t v) Pending (Fresh u w) h = (u, refl, inl (h.1, refl))
  one_each (Fresh t v) Pending (Waiting e) h = (e.token, refl, inr (reply.Emitted (Queued e.number), h, refl))
  one_each (Fresh t v) Pending Ended h = absurd h
  one_each (Fresh t v) (Ready (sent.Done u)) Ended h = (u, refl, inr (reply.Emitted Done, h, (refl, tt)))
  one_each (Fresh t v) (Ready (sent.Done u)) (Fresh x w) h = absurd h
  one_each (Fresh t v) (Ready (sent.Done u)) (Waiting e) h = absurd h
  one_each (Fresh t v) (Ready (sent.Refused u w fault)) Ended h = (u, refl, inr (reply.Refused fault, h.2, (refl, refl)))
  one_each (Fresh t v) (Ready (sent.Refused u w fault)) (Fresh x y) h = absurd h
  one_each (Fresh t v) (Ready (sent.Refused u w fault)) (Waiting e) h = absurd h
  one_each (Waiting e) Pending (Waiting f) h = (f.token, refl, waits_once e f h.1)
  one_each (Waiting e) Pending (Fresh t v) h = absurd h
  one_each (Waiting e) Pending Ended h = absurd h
  one_each (Waiting e) (Ready (sent.Done u)) Ended h = (u, refl, inr (reply.Tested false, h, (refl, tt)))
  one_each (Waiting e) (Ready (sent.Done u)) (Fresh t w) h = absurd h
  one_each (Waiting e) (Ready (sent.Done u)) (Waiting f) h = absurd h
  one_each (Waiting e) (Ready (sent.Refused u w fault)) s' h = absurd h
  one_each Ended p s' h = tt
