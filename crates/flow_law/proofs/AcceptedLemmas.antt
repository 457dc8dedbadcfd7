-- What a flow that suspends accepted is what it emitted and what is queued, in order.
use Rattle.std.proofs.Common.{inl, inr, ◌≡◌, ℕ, ◌+◌, Bool, true, false, cond, List, [], ◌∷◌, ◌++◌, map, Option, Some, None, refl, sym, ap, ◌∙◌, subst, append_assoc, append-nil}
use Rattle.std.specs.Prelude.{Err}
use Rattle.std.specs.List.{slice_get}
use Rattle.std.specs.Option.{option_map_or}
use Rattle.std.proofs.lemmas.Bool.{cond_both}
use Rattle.std.proofs.lemmas.List.{map-append}
use Rattle.flow_law.specs.declared.config.Config.{Config}
use Rattle.flow_law.specs.declared.config.Overflow.{Overflow}
use Rattle.flow_law.specs.declared.config.Overflow.TheVariants.{Suspend}
use Rattle.flow_law.specs.declared.fault.FlowFault.TheVariants.{Exhausted}
use Rattle.flow_law.specs.declared.outcome.Emit.{Emit}
use Rattle.flow_law.specs.declared.outcome.Emit.TheVariants.{Done, Queued}
use Rattle.flow_law.specs.declared.outcome.Next.TheVariants.{Value, Empty, Gone}
use Rattle.flow_law.specs.declared.call.SharedCall.{SharedCall}
use Rattle.flow_law.specs.declared.call.SharedCall.TheVariants as call
use Rattle.flow_law.specs.declared.call.SharedReply.{SharedReply}
use Rattle.flow_law.specs.declared.call.SharedReply.TheVariants as reply
use Rattle.flow_law.specs.flow.SharedFlow.{Numbered, SharedFlowState, Replied, answer, issuing, first_state, is_blocked, is_exhausted, position_of, own_of, values}
use Rattle.flow_law.specs.flow.EmitRule.{appends, offers, when_blocked, is_open, emit_case, numbered, append, suspend, emit_in, try_emit_in}
use Rattle.flow_law.specs.flow.SharedStep.{admit, settle, advance, leave, enroll, next_from, read, next}
use Rattle.flow_law.specs.flow.SharedHistory.{History, IsLegalShared, IsLegalFrom, Replies, is_refused, reply_by, answer_to, after, shared_after_all, state_after}
use Rattle.flow_law.specs.laws.Laws.{NoIdleQueue}
use Rattle.flow_law.specs.laws.Accepted.{accepted_by, accepted, is_cancel, NoneCancelled, emitted_and_queued}
use Rattle.flow_law.proofs.Moves.{open_not_blocked, event_keeps}
use Rattle.flow_law.proofs.Queue.{Calm, calm_keeps, opened_fits}
use Rattle.flow_law.proofs.ReplyLemmas.{replies_cases}
use Rattle.flow_law.proofs.Growing.{event_grown}

module _ {T : Type 0} where
  abbrev value_of : Numbered T → T
  value_of e = e.value

  -- ---- what a flow that suspends does with an emission

  issued_or_full : {R : Type 0} (Q : Replied R T → Type 0) (s : SharedFlowState T) (a : Replied R T) → Q (record { reply = Err Exhausted; after = s }) → Q a → Q (issuing s a)
  issued_or_full Q s a full q = cond_both (is_exhausted s) (record { reply = Err Exhausted; after = s }) a Q (λ _. full) (λ _. q)

  emit_cases : (Q : Replied Emit T → Type 0) (s : SharedFlowState T) (v : T) → s.config.overflow ≡ Suspend → Q (record { reply = Err Exhausted; after = s })
      → ((r : Emit) → is_blocked s ≡ false → Q (answer r (append v s))) → Q (answer (Queued (s.issued + 1)) (suspend v s)) → Q (emit_in (emit_case s) v s)
  emit_cases Q s v o full a b = cond_both (is_open s) appends (cond (is_blocked s) (when_blocked s.config.overflow) offers) (λ m. Q (emit_in m v s))
      (λ e. issued_or_full Q s (answer Done (append v s)) full (a Done (open_not_blocked s e)))
      (λ _. cond_both (is_blocked s) (when_blocked s.config.overflow) offers (λ m. Q (emit_in m v s))
      (λ _. subst (λ (p : Overflow). Q (emit_in (when_blocked p) v s)) (sym o) (issued_or_full Q s (answer (Queued (s.issued + 1)) (suspend v s)) full b))
      (λ e. issued_or_full Q s (answer (Queued (s.issued + 1)) (append v s)) full (a (Queued (s.issued + 1)) e)))

  try_emit_cases : (Q : Replied Bool T → Type 0) (s : SharedFlowState T) (v : T) → s.config.overflow ≡ Suspend → Q (record { reply = Err Exhausted; after = s })
      → (is_blocked s ≡ false → Q (answer true (append v s))) → Q (answer false s) → Q (try_emit_in (emit_case s) v s)
  try_emit_cases Q s v o full a b = cond_both (is_open s) appends (cond (is_blocked s) (when_blocked s.config.overflow) offers) (λ m. Q (try_emit_in m v s))
      (λ e. issued_or_full Q s (answer true (append v s)) full (a (open_not_blocked s e)))
      (λ _. cond_both (is_blocked s) (when_blocked s.config.overflow) offers (λ m. Q (try_emit_in m v s)) (λ _. subst (λ (p : Overflow). Q (try_emit_in (when_blocked p) v s)) (sym o) b) (λ _. b))

  -- ---- the emitted values and the queued ones

  line_is : (es q : List (Numbered T)) (e : Numbered T) → q ≡ [] → map value_of ((es ++ e ∷ []) ++ q) ≡ map value_of (es ++ q) ++ e.value ∷ []
  line_is es q e none =
      ap (λ l. map value_of ((es ++ e ∷ []) ++ l)) none ∙ ap (map value_of) (append-nil (es ++ e ∷ [])) ∙ map-append value_of es (e ∷ [])
      ∙ ap (λ l. map value_of l ++ e.value ∷ []) (sym (append-nil es) ∙ ap (λ l. es ++ l) (sym none))

  line-append : (v : T) (s : SharedFlowState T) → NoIdleQueue s → is_blocked s ≡ false → emitted_and_queued (append v s) ≡ emitted_and_queued s ++ v ∷ []
  line-append v s idle free = line_is s.emitted s.queue (numbered v s) (idle free)

  line-suspend : (v : T) (s : SharedFlowState T) → emitted_and_queued (suspend v s) ≡ emitted_and_queued s ++ v ∷ []
  line-suspend v s = ap (map value_of) (sym (append_assoc s.emitted s.queue (numbered v s ∷ []))) ∙ map-append value_of (s.emitted ++ s.queue) (numbered v s ∷ [])

  line-admit : (s : SharedFlowState T) (q : List (Numbered T)) → emitted_and_queued (admit s q) ≡ map value_of (s.emitted ++ q)
  line-admit s [] = refl
  line-admit s (e ∷ q) = cond_both (is_blocked s) (record s { queue = e ∷ q }) (admit (record s { emitted = s.emitted ++ e ∷ [] }) q) (λ t. emitted_and_queued t ≡ map value_of (s.emitted ++ e ∷ q))
      (λ _. refl)
      (λ _. line-admit (record s { emitted = s.emitted ++ e ∷ [] }) q ∙ ap (map value_of) (append_assoc s.emitted (e ∷ []) q))

  -- ---- each event

  -- the event adds what its call gave to the flow
  abbrev Adds : SharedFlowState T → SharedCall T → SharedReply T → Type 0
  Adds s c r = emitted_and_queued (after s c r) ≡ emitted_and_queued s ++ accepted_by c r

  same_line : (s : SharedFlowState T) → emitted_and_queued s ≡ emitted_and_queued s ++ []
  same_line s = sym (append-nil (emitted_and_queued s))

  kept_line : (s : SharedFlowState T) (c : SharedCall T) (r : SharedReply T) → emitted_and_queued (answer_to c s).after ≡ emitted_and_queued s → emitted_and_queued (after s c r) ≡ emitted_and_queued s ++ []
  kept_line s c r same = cond_both (is_refused r) s (answer_to c s).after (λ t. emitted_and_queued t ≡ emitted_and_queued s ++ []) (λ _. same_line s) (λ _. same ∙ same_line s)

  next_line : (u : ℕ) (s : SharedFlowState T) → emitted_and_queued (next u s).after ≡ emitted_and_queued s
  next_line u s = from (own_of u s.subscribers)
    where
      here : (p : ℕ) (o : Option T) → emitted_and_queued (option_map_or (λ value. answer (Value value) (settle (advance u (p + 1) s))) o (answer Empty s)).after ≡ emitted_and_queued s
      here p None = refl
      here p (Some v) = line-admit (advance u (p + 1) s) s.queue

      at : (o : Option ℕ) → emitted_and_queued (option_map_or (λ position. read u position s) o (answer Gone s)).after ≡ emitted_and_queued s
      at None = refl
      at (Some p) = here p (slice_get (values s) p)

      from : (own : List T) → emitted_and_queued (next_from u own s).after ≡ emitted_and_queued s
      from [] = at (position_of u s.subscribers)
      from (v ∷ own) = refl

  pub event_adds : (s : SharedFlowState T) → s.config.overflow ≡ Suspend → NoIdleQueue s → (c : SharedCall T) (r : SharedReply T) → Replies s c r → is_cancel c ≡ false → Adds s c r
  event_adds s o idle (call.TryEmit v) r legal kept = elim (replies_cases s (call.TryEmit v) r legal) as (λ _. Adds s (call.TryEmit v) r) [
    | inl e ↦ subst (Adds s (call.TryEmit v)) (sym e) (try_emit_cases
        (λ a. emitted_and_queued (cond (is_refused {T = T} (reply_by reply.Tested a.reply)) s a.after) ≡ emitted_and_queued s ++ accepted_by (call.TryEmit v) (reply_by reply.Tested a.reply))
        s v o (same_line s) (λ free. line-append v s idle free) (same_line s))
    | inr e ↦ subst (Adds s (call.TryEmit v)) (sym e.0) (same_line s)
  ]
  event_adds s o idle (call.Emit v) r legal kept = elim (replies_cases s (call.Emit v) r legal) as (λ _. Adds s (call.Emit v) r) [
    | inl e ↦ subst (Adds s (call.Emit v)) (sym e) (emit_cases
        (λ a. emitted_and_queued (cond (is_refused {T = T} (reply_by reply.Emitted a.reply)) s a.after) ≡ emitted_and_queued s ++ accepted_by (call.Emit v) (reply_by reply.Emitted a.reply))
        s v o (same_line s) (λ _ free. line-append v s idle free) (line-suspend v s))
    | inr e ↦ subst (Adds s (call.Emit v)) (sym e.0) (same_line s)
  ]
  event_adds s o idle (call.Poll e) r legal kept = kept_line s (call.Poll e) r refl
  event_adds s o idle (call.Cancel e) r legal kept = absurd (cc)
  event_adds s o idle (call.Subscribe name first) r legal kept = kept_line s (call.Subscribe name first) r
      (cond_both (is_exhausted s) (record { reply = Err Exhausted; after = s }) (answer (s.issued + 1) (enroll first s)) (λ a. emitted_and_queued a.after ≡ emitted_and_queued s) (λ _. refl) (λ _. refl))
  event_adds s o idle (call.TakeNext u) r legal kept = kept_line s (call.TakeNext u) r (next_line u s)
  event_adds s o idle (call.Unsubscribe u) r legal kept = kept_line s (call.Unsubscribe u) r (line-admit (leave u s) s.queue)
  event_adds s o idle call.ReplayCache r legal kept = kept_line s call.ReplayCache r refl
  event_adds s o idle call.ResetReplayCache r legal kept = kept_line s call.ResetReplayCache r refl
  event_adds s o idle call.SubscriptionCount r legal kept = kept_line s call.SubscriptionCount r refl

  all_add : (s : SharedFlowState T) (h : History T) → s.config.overflow ≡ Suspend → Calm s → IsLegalFrom s h → NoneCancelled h → emitted_and_queued (shared_after_all s h) ≡ emitted_and_queued s ++ accepted (map (λ e. e.what) h)
  all_add s [] o calm legal kept = same_line s
  all_add s (e ∷ es) o calm legal kept =
      let c = e.what.call in let r = e.what.reply in let t = after s c r in
      all_add t es (ap (λ (g : Config). g.overflow) (event_grown s c r).config ∙ o) (event_keeps Calm s calm (calm_keeps s calm) c r) legal.1 kept.1
      ∙ ap (λ l. l ++ accepted (map (λ e. e.what) es)) (event_adds s o calm.idle c r legal.0 kept.0)
      ∙ append_assoc (emitted_and_queued s) (accepted_by c r) (accepted (map (λ e. e.what) es))

  pub accepts : (config : Config) (h : History T) → IsLegalShared config h → config.overflow ≡ Suspend → NoneCancelled h → emitted_and_queued (state_after config h) ≡ accepted (map (λ e. e.what) h)
  accepts config h legal o kept = all_add (first_state config) h o (record { fits = opened_fits (Numbered T) config.overflow; idle = λ _. refl }) legal.1 kept
