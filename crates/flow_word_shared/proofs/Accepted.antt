-- What emissions do to the documented shared flow that drops values and has a buffer. Begin with `emission_is` and `emission_dropped`.
use Rattle.std.proofs.Common.{◌≡◌, ◌≢◌, ℕ, Bool, suc, ◌+◌, ◌≤◌, ◌<◌, true, false, not, ◌==◌, ◌&&◌, cond, List, [], ◌∷◌, ◌++◌, length, Some, refl, sym, ap, ◌∙◌, subst, arith, eq-eqb, ne_eqb}
use Rattle.std.specs.Prelude.{◌||◌, nat_lt, nat_le, Err}
use Rattle.std.specs.List.{list_any}
use Rattle.std.proofs.lemmas.Bool.{cond_both, or_parts, cond-true, cond-false, leb-true}
use Rattle.std.proofs.lemmas.Bool.Decides.{nat_tests}
use Rattle.std.proofs.lemmas.List.{length-map}
use Rattle.flow_law.specs.declared.config.Config.{Config}
use Rattle.flow_law.specs.declared.config.Overflow.{Overflow}
use Rattle.flow_law.specs.declared.config.Overflow.TheVariants.{Suspend, DropOldest, DropLatest}
use Rattle.flow_law.specs.declared.fault.FlowFault.TheVariants.{Exhausted}
use Rattle.flow_law.specs.declared.outcome.Emit.TheVariants.{Done}
use Rattle.flow_law.specs.declared.call.SharedReply.TheVariants as reply
use Rattle.flow_law.specs.history.History.{MayCall}
use Rattle.flow_law.specs.declared.states.Subscriber.{Subscriber}
use Rattle.flow_law.specs.declared.states.SharedFlowState.{SharedFlowState}
use Rattle.flow_law.specs.flow.SharedFlow.{Replied, capacity, window, lag, is_blocked, is_exhausted, answer, issuing, position_of}
use Rattle.flow_law.specs.flow.EmitRule.{EmitCase, appends, offers, drops_oldest, when_blocked, is_open, emit_case, emit_in, try_emit_in, drops_latest, numbered, append, drop_oldest}
use Rattle.flow_law.specs.laws.Laws.{RisesTo}
use Rattle.flow_law.specs.flow.SharedHistory.{History, SharedOutcome, outcome_of, Replies, answer_to, after, shared_flow}
use Rattle.flow_law.proofs.RowOrder.{numbers_of, found_by_number}
use Rattle.flow_law.proofs.Rows.{lag_below}
use Rattle.flow_word_shared.specs.Steps.{emission_of, emission_done}
use Rattle.flow_word_shared.proofs.Oldest.{Usual, overflow_is, suspends_not, capacity_is}

-- an emission into a blocked flow drops the oldest value, unless it drops the latest
oldest_or : (P : EmitCase → Type 0) (o : Overflow) → o ≢ Suspend → o ≢ DropLatest → P drops_oldest → P (when_blocked o)
oldest_or P Suspend ne other d = absurd (ne refl)
oldest_or P DropOldest ne other d = d
oldest_or P DropLatest ne other d = absurd (other refl)

module _ (T : Type 0) (config : Config) (drops : config.overflow ≢ Suspend) (buffer : 0 < config.replay + config.extra) where
  abbrev c : ℕ
  c = config.replay + config.extra

  can_issue : {R : Type 0} (s : SharedFlowState T) (x : Replied R T) → is_exhausted s ≡ false → issuing s x ≡ x
  can_issue s x e = cond-false (is_exhausted s) (record { reply = Err Exhausted; after = s }) x e

  cannot_issue : {R : Type 0} (s : SharedFlowState T) (x : Replied R T) → is_exhausted s ≡ true → issuing s x ≡ record { reply = Err Exhausted; after = s }
  cannot_issue s x e = cond-true (is_exhausted s) (record { reply = Err Exhausted; after = s }) x e

  -- an emission drops no value that is emitted: the flow drops the oldest values, or is not blocked
  abbrev pub Accepts : SharedFlowState T → Type 0
  Accepts s = config.overflow ≡ DropLatest → is_blocked s ≡ false

  -- an accepted emission appends, or drops the oldest too, but the latter not in a flow that drops the latest
  case_by : (P : EmitCase → Type 0) (s : SharedFlowState T) → Usual T config drops buffer s → Accepts s → P appends → (config.overflow ≢ DropLatest → P drops_oldest) → P (emit_case s)
  case_by P s h clear a d = cond_both (is_open s) appends (cond (is_blocked s) (when_blocked s.config.overflow) offers) P
      (λ _. a)
      (λ shut. cond_both (is_blocked s) (when_blocked s.config.overflow) offers P
      (λ blocked. let other : config.overflow ≢ DropLatest = λ e. let no : true ≡ false = sym blocked ∙ clear e in absurd (cc) in
      oldest_or P s.config.overflow (suspends_not T config drops buffer s h) (λ e. other (sym (overflow_is T config drops buffer s h) ∙ e)) (d other))
      (λ free. let parts = or_parts (length s.subscribers == 0) (not (is_blocked s) && nat_lt 0 (capacity s)) shut in
      let none : nat_lt 0 (capacity s) ≡ false = subst (λ b. (not b && nat_lt 0 (capacity s)) ≡ false) free parts.1 in
      let is = capacity_is T config drops buffer s h in absurd (grind (arith, nat_tests, none, is, buffer))))

  -- what an accepted value does
  pub record Added (tries : Bool) (v : T) (s : SharedFlowState T) (o : SharedOutcome T) : Type 0 where
    pub reply_is : o.reply ≡ emission_done tries
    pub emitted : o.after.emitted ≡ s.emitted ++ numbered v s ∷ []
    pub issued : o.after.issued ≡ s.issued + 1
    pub mark : o.after.reset_mark ≡ s.reset_mark
    pub live : length o.after.subscribers ≡ length s.subscribers
    pub rows : config.overflow ≡ DropLatest → o.after.subscribers ≡ s.subscribers

  pub emission_is : (tries : Bool) (s : SharedFlowState T) (v : T) → Usual T config drops buffer s → Accepts s → s.issued ≢ s.config.limit → Added tries v s (answer_to (emission_of tries v) s)
  emission_is true s v h clear room = let free : is_exhausted s ≡ false = ne_eqb s.issued s.config.limit room in
      case_by (λ m. Added true v s (outcome_of reply.Tested (try_emit_in m v s))) s h clear
      (subst (λ a. Added true v s (outcome_of reply.Tested a)) (sym (can_issue s (answer true (append v s)) free)) (record { reply_is = refl; emitted = refl; issued = refl; mark = refl; live = refl; rows = λ _. refl }))
      (λ other. subst (λ a. Added true v s (outcome_of reply.Tested a)) (sym (can_issue s (answer true (drop_oldest (append v s))) free)) (record { reply_is = refl; emitted = refl; issued = refl; mark = refl; live = length-map s.subscribers _; rows = λ e. absurd (other e) }))
  emission_is false s v h clear room = let free : is_exhausted s ≡ false = ne_eqb s.issued s.config.limit room in
      case_by (λ m. Added false v s (outcome_of reply.Emitted (emit_in m v s))) s h clear
      (subst (λ a. Added false v s (outcome_of reply.Emitted a)) (sym (can_issue s (answer Done (append v s)) free)) (record { reply_is = refl; emitted = refl; issued = refl; mark = refl; live = refl; rows = λ _. refl }))
      (λ other. subst (λ a. Added false v s (outcome_of reply.Emitted a)) (sym (can_issue s (answer Done (drop_oldest (append v s))) free)) (record { reply_is = refl; emitted = refl; issued = refl; mark = refl; live = length-map s.subscribers _; rows = λ e. absurd (other e) }))

  pub emission_full : (tries : Bool) (s : SharedFlowState T) (v : T) → Usual T config drops buffer s → Accepts s → s.issued ≡ s.config.limit → (answer_to (emission_of tries v) s).reply ≡ reply.Refused Exhausted
  emission_full true s v h clear full = let none : is_exhausted s ≡ true = eq-eqb s.issued s.config.limit full in
      case_by (λ m. (outcome_of reply.Tested (try_emit_in m v s)).reply ≡ reply.Refused Exhausted) s h clear
      (ap (λ a. (outcome_of reply.Tested a).reply) (cannot_issue s (answer true (append v s)) none))
      (λ _. ap (λ a. (outcome_of reply.Tested a).reply) (cannot_issue s (answer true (drop_oldest (append v s))) none))
  emission_full false s v h clear full = let none : is_exhausted s ≡ true = eq-eqb s.issued s.config.limit full in
      case_by (λ m. (outcome_of reply.Emitted (emit_in m v s)).reply ≡ reply.Refused Exhausted) s h clear
      (ap (λ a. (outcome_of reply.Emitted a).reply) (cannot_issue s (answer Done (append v s)) none))
      (λ _. ap (λ a. (outcome_of reply.Emitted a).reply) (cannot_issue s (answer Done (drop_oldest (append v s))) none))

  -- a blocked flow that drops the latest values is closed to emissions
  closed_to : (s : SharedFlowState T) → is_blocked s ≡ true → is_open s ≡ false
  closed_to s blocked = some s.subscribers blocked
    where
      some : (us : List (Subscriber T)) → list_any (λ u. nat_le (window s) (lag s u)) us ≡ true → ((length us == 0) || (not (is_blocked s) && nat_lt 0 (capacity s))) ≡ false
      some [] e = absurd (cc)
      some (u ∷ us) e = ap (λ b. b || (not (is_blocked s) && nat_lt 0 (capacity s))) (ne_eqb (suc (length us)) 0 (λ z. absurd (omega (arith, z)))) ∙ ap (λ b. not b && nat_lt 0 (capacity s)) blocked

  pub case_dropped : (s : SharedFlowState T) → Usual T config drops buffer s → config.overflow ≡ DropLatest → is_blocked s ≡ true → emit_case s ≡ drops_latest
  case_dropped s h latest blocked =
      cond-false (is_open s) appends (cond (is_blocked s) (when_blocked s.config.overflow) offers) (closed_to s blocked)
      ∙ cond-true (is_blocked s) (when_blocked s.config.overflow) offers blocked ∙ ap when_blocked (overflow_is T config drops buffer s h ∙ latest)

  -- an emission whose value is dropped: its reply, and the same state
  pub emission_dropped : (tries : Bool) (s : SharedFlowState T) (v : T) → Usual T config drops buffer s → config.overflow ≡ DropLatest → is_blocked s ≡ true
      → (emission_done tries ≡ (answer_to (emission_of tries v) s).reply) × ((answer_to (emission_of tries v) s).after ≡ s)
  emission_dropped true s v h latest blocked = let is = case_dropped s h latest blocked in
      (sym (ap (λ m. (outcome_of reply.Tested (try_emit_in m v s)).reply) is), ap (λ m. (outcome_of reply.Tested (try_emit_in m v s)).after) is)
  emission_dropped false s v h latest blocked = let is = case_dropped s h latest blocked in
      (sym (ap (λ m. (outcome_of reply.Emitted (emit_in m v s)).reply) is), ap (λ m. (outcome_of reply.Emitted (emit_in m v s)).after) is)

  -- one subscriber is a window behind
  pub blocked_by : (s : SharedFlowState T) (u p : ℕ) → position_of u s.subscribers ≡ Some p → p + window s ≤ length s.emitted → is_blocked s ≡ true
  blocked_by s u p place lags = by (is_blocked s) refl
    where
      by : (b : Bool) → is_blocked s ≡ b → is_blocked s ≡ true
      by true e = e
      by false e = let less = lag_below (window s) (length s.emitted) u p s.subscribers e place in absurd (omega (arith, less, lags))

  -- no subscriber is a window behind
  pub not_blocked : (s : SharedFlowState T) → Usual T config drops buffer s → RisesTo 0 (numbers_of s.subscribers) s.issued → ((u p : ℕ) → position_of u s.subscribers ≡ Some p → length s.emitted < p + c) → is_blocked s ≡ false
  not_blocked s h order all = by (is_blocked s) refl
    where
      by : (b : Bool) → is_blocked s ≡ b → is_blocked s ≡ false
      by false e = e
      by true e =
          let one = found_by_number (λ (u : Subscriber T). nat_le (window s) (lag s u)) 0 s.issued s.subscribers order e in let near = all one.0.number one.0.position one.2 in
          let far : window s ≤ lag s one.0 = leb-true (window s) (lag s one.0) one.3 in let is = capacity_is T config drops buffer s h in absurd (omega (arith, near, far, is))

  pub emission_replies : (tries : Bool) (s : SharedFlowState T) (v : T) → emission_done tries ≡ (answer_to (emission_of tries v) s).reply → Replies s (emission_of tries v) (emission_done tries)
  emission_replies true s v is = is
  emission_replies false s v is = is

  pub emission_after : (tries : Bool) (s : SharedFlowState T) (v : T) → after s (emission_of tries v) (emission_done tries) ≡ (answer_to (emission_of tries v) s).after
  emission_after true s v = refl
  emission_after false s v = refl

  pub emission_may : (tries : Bool) (v : T) (name : List ℕ) (h : History T) → MayCall shared_flow (emission_of tries v) name h
  emission_may true v name h = tt
  emission_may false v name h = tt
