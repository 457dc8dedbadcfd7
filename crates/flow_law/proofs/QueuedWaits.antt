-- An emission that was queued, or that a poll found waiting, waits.
use Rattle.std.proofs.Common.{◌≡◌, ℕ, ◌+◌, ◌≤◌, Bool, true, false, ◌==◌, ◌&&◌, ◌||◌, cond, List, [], ◌∷◌, ◌++◌, length, not, Ok, Err, refl, sym, ap, ◌∙◌, subst, arith, eq-eqb, length-append}
use Rattle.std.specs.Prelude.{nat_le, nat_lt}
use Rattle.std.specs.List.{list_any, AllByRecursion}
use Rattle.std.proofs.lemmas.Bool.{cond_both}
use Rattle.std.proofs.lemmas.Bool.Decides.{Decides-eqb, nat_tests}
use Rattle.std.proofs.lemmas.List.Folds.{list_any-append}
use Rattle.flow_law.specs.declared.config.Overflow.{Overflow}
use Rattle.flow_law.specs.declared.config.Overflow.TheVariants.{Suspend, DropOldest, DropLatest}
use Rattle.flow_law.specs.declared.fault.FlowFault.TheVariants.{Exhausted}
use Rattle.flow_law.specs.declared.outcome.Emit.{Emit}
use Rattle.flow_law.specs.declared.outcome.Emit.TheVariants.{Done, Queued}
use Rattle.flow_law.specs.declared.call.SharedReply.{SharedReply}
use Rattle.flow_law.specs.declared.call.SharedReply.TheVariants as reply
use Rattle.flow_law.specs.declared.call.SharedCall.TheVariants as call
use Rattle.flow_law.specs.flow.SharedFlow.{Subscriber, SharedFlowState, Replied, answer, issuing, capacity, window, lag, is_blocked, is_offering, is_exhausted, newest}
use Rattle.flow_law.specs.flow.EmitRule.{EmitCase, appends, offers, when_blocked, is_open, emit_case, emit_in, numbered, append, suspend, drop_oldest}
use Rattle.flow_law.specs.flow.SharedStep.{is_waiting}
use Rattle.flow_law.specs.flow.SharedHistory.{reply_by, after, Replies}
use Rattle.flow_law.proofs.CoveringLemmas.{slice_get_last}
use Rattle.flow_law.proofs.Sound.{Sound}

either : (a b : Bool) → (a || b) ≡ false → (a ≡ false) × (b ≡ false)
either true b e = absurd (cc)
either false b e = (refl, e)

or_second : (a b : Bool) → b ≡ true → (a || b) ≡ true
or_second true b e = refl
or_second false b e = e

module _ {T : Type 0} where
  -- the answer says that the emission of this number waits, and so it does
  abbrev Waits : ℕ → Replied Emit T → Type 0
  Waits e a = ◌≡◌ {A = SharedReply T} (reply.Emitted (Queued e)) (reply_by reply.Emitted a.reply) → is_waiting e a.after ≡ true

  issued : (e : ℕ) (s : SharedFlowState T) (x : Replied Emit T) → Waits e x → Waits e (issuing s x)
  issued e s x q = cond_both (is_exhausted s) (record { reply = Err Exhausted; after = s }) x (Waits e) (λ _ f. absurd (cc)) (λ _. q)

  number_is : (n e : ℕ) → ◌≡◌ {A = SharedReply T} (reply.Emitted (Queued e)) (reply.Emitted (Queued n)) → n ≡ e
  number_is n e f = cc

  in_queue : (e : ℕ) (v : T) (s : SharedFlowState T) → s.issued + 1 ≡ e → is_waiting e (suspend v s) ≡ true
  in_queue e v s same =
      let last : list_any (λ q. q.number == e) (numbered v s ∷ []) ≡ true = ap (λ b. b || false) (eq-eqb (s.issued + 1) e same) in
      let there : list_any (λ q. q.number == e) (s.queue ++ numbered v s ∷ []) ≡ true = list_any-append (λ q. q.number == e) s.queue (numbered v s ∷ []) ∙ or_second (list_any (λ q. q.number == e) s.queue) (list_any (λ q. q.number == e) (numbered v s ∷ [])) last in
      ap (λ b. b || (is_offering (suspend v s) && (newest (suspend v s) == e))) there

  -- without a buffer, each subscriber of a flow that is not blocked has one more value to receive after an emission
  one_behind : (v : T) (s : SharedFlowState T) (us : List (Subscriber T)) → capacity s ≡ 0 → AllByRecursion (λ u. u.position ≤ length s.emitted) us
      → list_any (λ u. nat_le (window s) (lag s u)) us ≡ false → (length us == 0) ≡ false → list_any (λ u. lag (append v s) u == 1) us ≡ true
  one_behind v s [] none within free some = absurd (cc)
  one_behind v s (u ∷ us) none within free some =
      let none_left = either (nat_le (window s) (lag s u)) (list_any (λ x. nat_le (window s) (lag s x)) us) free in
      let all : length s.emitted ≤ u.position = grind (arith, nat_tests, none, none_left.0) in
      let more : length (append v s).emitted ≡ length s.emitted + 1 = length-append s.emitted (numbered v s ∷ []) in
      let here : lag (append v s) u ≡ 1 = omega (arith, all, within.0, more) in
      ap (λ b. b || list_any (λ x. lag (append v s) x == 1) us) (eq-eqb (lag (append v s) u) 1 here)

  offered : (e : ℕ) (v : T) (s : SharedFlowState T) → Sound s → is_open s ≡ false → is_blocked s ≡ false → s.issued + 1 ≡ e → is_waiting e (append v s) ≡ true
  offered e v s h closed free same =
      let parts = either (length s.subscribers == 0) (not (is_blocked s) && nat_lt 0 (capacity s)) closed in
      let small : nat_lt 0 (capacity s) ≡ false = subst (λ b. (not b && nat_lt 0 (capacity s)) ≡ false) free parts.1 in
      let none : capacity s ≡ 0 = grind (arith, nat_tests, small) in
      let behind = one_behind v s s.subscribers none h.placed.within free parts.0 in
      let new : newest (append v s) ≡ e = ap (λ o. Rattle.std.specs.Option.option_map_or (λ x. x.number) o 0) (slice_get_last s.emitted (numbered v s)) ∙ same in
      or_second (list_any (λ q. q.number == e) s.queue) (((capacity s == 0) && list_any (λ u. lag (append v s) u == 1) s.subscribers) && (newest (append v s) == e))
      (subst (λ (b : Bool × Bool × Bool). ((b.0 && b.1) && b.2) ≡ true) (λ i. (sym (eq-eqb (capacity s) 0 none) i, sym behind i, sym (eq-eqb (newest (append v s)) e new) i)) refl)

  emission_waits : (e : ℕ) (v : T) (s : SharedFlowState T) → Sound s → Waits e (emit_in (emit_case s) v s)
  emission_waits e v s h = cond_both (is_open s) appends (cond (is_blocked s) (when_blocked s.config.overflow) offers) (λ m. Waits e (emit_in m v s))
      (λ _. issued e s (answer Done (append v s)) (λ f. absurd (cc)))
      (λ closed. cond_both (is_blocked s) (when_blocked s.config.overflow) offers (λ m. Waits e (emit_in m v s))
      (λ _. blocked s.config.overflow)
      (λ free. issued e s (answer (Queued (s.issued + 1)) (append v s)) (λ f. offered e v s h closed free (number_is (s.issued + 1) e f))))
    where
      blocked : (o : Overflow) → Waits e (emit_in (when_blocked o) v s)
      blocked Suspend = issued e s (answer (Queued (s.issued + 1)) (suspend v s)) (λ f. in_queue e v s (number_is (s.issued + 1) e f))
      blocked DropOldest = issued e s (answer Done (drop_oldest (append v s))) (λ f. absurd (cc))
      blocked DropLatest = λ f. absurd (cc)

  -- an emission that was queued waits
  pub queued_waits : (s : SharedFlowState T) (v : T) (e : ℕ) → Sound s → Replies s (call.Emit v) (reply.Emitted (Queued e)) → is_waiting e (after s (call.Emit v) (reply.Emitted (Queued e))) ≡ true
  queued_waits s v e h told = emission_waits e v s h told

  -- so does one that a poll found waiting
  pub polled_waits : (s : SharedFlowState T) (e : ℕ) → Replies s (call.Poll e) (reply.Tested true) → is_waiting e (after s (call.Poll e) (reply.Tested true)) ≡ true
  polled_waits s e told = let same : true ≡ is_waiting e s = cc in sym same
