-- How many subscribers a state flow has and how many numbers it has issued, after any legal history. Begin with `is_counted`.
use Rattle.std.proofs.Common.{◌≡◌, ◌≢◌, ℕ, suc, ◌+◌, ◌≤◌, ◌<◌, true, false, not, ◌==◌, cond, List, [], ◌∷◌, ◌++◌, length, Some, None, refl, sym, ap, ◌∙◌, subst, arith, le_refl, length-append, ne_eqb}
use Rattle.std.proofs.lemmas.Bool.{cond_both, cond-false}
use Rattle.std.proofs.lemmas.Bool.Decides.{Decides-eqb}
use Rattle.std.specs.List.{AllByRecursion}
use Rattle.flow_law.specs.declared.fault.FlowFault.TheVariants.{Exhausted}
use Rattle.flow_law.specs.declared.outcome.Next.TheVariants.{Value}
use Rattle.flow_law.specs.declared.call.StateCall.{StateCall}
use Rattle.flow_law.specs.declared.call.StateCall.TheVariants as call
use Rattle.flow_law.specs.declared.call.StateReply.{StateReply}
use Rattle.flow_law.specs.declared.call.StateReply.TheVariants as reply
use Rattle.flow_law.specs.flow.StateFlow.{StateSubscriber, StateFlowState, StateHistory, first_state_flow, last_got_by, with_last, without_subscriber, is_state_exhausted, state_flow_after, StateFlowReplies, state_after_all, IsLegalState}
use Rattle.flow_law.proofs.Rows.{split}
use Rattle.flow_law.proofs.StateLawful.{enrolls, some-with_last}
use Rattle.flow_law.proofs.StateSubscriberLemmas.{last-snoc_other, last-without, last-without_other}
use Rattle.std.specs.Prelude.{is_some}

module _ {T : Type 0} where
  -- each number is in the list once
  abbrev pub Once : List (StateSubscriber T) → Type 0
  Once [] = Unit {0}
  Once (u ∷ us) = (is_some (last_got_by u.number us) ≡ false) × Once us

  abbrev pub UpTo : ℕ → List (StateSubscriber T) → Type 0
  UpTo n = AllByRecursion (λ (u : StateSubscriber T). u.number ≤ n)

  -- what holds after any legal history
  pub record IsCounted (limit : ℕ) (s : StateFlowState T) : Type 0 where
    pub limit_is : s.limit ≡ limit
    pub issued : s.issued ≤ limit
    pub numbers : UpTo s.issued s.subscribers
    pub once : Once s.subscribers
    pub live : length s.subscribers ≤ s.issued

  -- ---- a new one

  up_to_more : (m n : ℕ) (us : List (StateSubscriber T)) → m ≤ n → UpTo m us → UpTo n us
  up_to_more m n [] l h = tt
  up_to_more m n (u ∷ us) l h = (let a = h.0 in omega arith, up_to_more m n us l h.1)

  up_to-snoc : (n : ℕ) (us : List (StateSubscriber T)) (v : StateSubscriber T) → v.number ≤ n → UpTo n us → UpTo n (us ++ v ∷ [])
  up_to-snoc n [] v l h = (l, tt)
  up_to-snoc n (u ∷ us) v l h = (h.0, up_to-snoc n us v l h.1)

  once-snoc : (n : ℕ) (us : List (StateSubscriber T)) (v : StateSubscriber T) → v.number ≡ n + 1 → UpTo n us → Once us → Once (us ++ v ∷ [])
  once-snoc n [] v e h o = (refl, tt)
  once-snoc n (u ∷ us) v e h o =
      let small = h.0 in let other : v.number ≢ u.number = λ q. absurd (omega arith) in
      (ap is_some (last-snoc_other u.number us v (ne_eqb v.number u.number other)) ∙ o.0, once-snoc n us v e h.1 o.1)

  -- no subscriber has a number that was not issued
  pub none_above : (m n : ℕ) (us : List (StateSubscriber T)) → UpTo m us → m < n → last_got_by n us ≡ None
  none_above m n [] h l = refl
  none_above m n (u ∷ us) h l = let small = h.0 in let other : u.number ≢ n = λ q. absurd (omega arith) in
      cond-false (u.number == n) (Some u.last) (last_got_by n us) (ne_eqb u.number n other) ∙ none_above m n us h.1 l

  -- ---- one that gets a value

  up_to-with : (n other : ℕ) (x : T) (us : List (StateSubscriber T)) → UpTo n us → UpTo n (with_last other x us)
  up_to-with n other x [] h = tt
  up_to-with n other x (u ∷ us) h = cond_both (u.number == other) (record u { last = Some x } ∷ us) (u ∷ with_last other x us) (UpTo n) (λ _. h) (λ _. (h.0, up_to-with n other x us h.1))

  once-with : (other : ℕ) (x : T) (us : List (StateSubscriber T)) → Once us → Once (with_last other x us)
  once-with other x [] o = tt
  once-with other x (u ∷ us) o = cond_both (u.number == other) (record u { last = Some x } ∷ us) (u ∷ with_last other x us) Once (λ _. o)
      (λ _. (some-with_last u.number other x us ∙ o.0, once-with other x us o.1))

  pub length-with : (other : ℕ) (x : T) (us : List (StateSubscriber T)) → length (with_last other x us) ≡ length us
  length-with other x [] = refl
  length-with other x (u ∷ us) = cond_both (u.number == other) (record u { last = Some x } ∷ us) (u ∷ with_last other x us) (λ vs. length vs ≡ suc (length us)) (λ _. refl) (λ _. ap suc (length-with other x us))

  -- ---- one that leaves

  up_to-without : (m n : ℕ) (us : List (StateSubscriber T)) → UpTo m us → UpTo m (without_subscriber n us)
  up_to-without m n [] h = tt
  up_to-without m n (u ∷ us) h = split (u.number == n) (λ t. UpTo m (cond (not t) (u ∷ without_subscriber n us) (without_subscriber n us))) (λ _. up_to-without m n us h.1) (λ _. (h.0, up_to-without m n us h.1))

  none-without : (m n : ℕ) (us : List (StateSubscriber T)) → is_some (last_got_by m us) ≡ false → is_some (last_got_by m (without_subscriber n us)) ≡ false
  none-without m n us h = split (n == m) (λ t. (n == m) ≡ t → is_some (last_got_by m (without_subscriber n us)) ≡ false)
      (λ _ e. ap is_some (subst (λ k. last_got_by k (without_subscriber n us) ≡ None) ((Decides-eqb n m).0 e) (last-without n us)))
      (λ _ e. ap is_some (last-without_other m n us e) ∙ h) refl

  once-without : (n : ℕ) (us : List (StateSubscriber T)) → Once us → Once (without_subscriber n us)
  once-without n [] o = tt
  once-without n (u ∷ us) o = split (u.number == n) (λ t. Once (cond (not t) (u ∷ without_subscriber n us) (without_subscriber n us)))
      (λ _. once-without n us o.1) (λ _. (none-without u.number n us o.0, once-without n us o.1))

  length-without : (n : ℕ) (us : List (StateSubscriber T)) → length (without_subscriber n us) ≤ length us
  length-without n [] = omega arith
  length-without n (u ∷ us) = let l = length-without n us in
      split (u.number == n) (λ t. length (cond (not t) (u ∷ without_subscriber n us) (without_subscriber n us)) ≤ suc (length us)) (λ _. omega arith) (λ _. omega arith)

  without_none : (n : ℕ) (us : List (StateSubscriber T)) → is_some (last_got_by n us) ≡ false → without_subscriber n us ≡ us
  without_none n [] h = refl
  without_none n (u ∷ us) h = split (u.number == n) (λ t. is_some (cond t (Some u.last) (last_got_by n us)) ≡ false → cond (not t) (u ∷ without_subscriber n us) (without_subscriber n us) ≡ u ∷ us)
      (λ _ q. absurd (cc)) (λ _ q. ap (λ l. u ∷ l) (without_none n us q)) h

  -- without one that was subscribed there is one subscriber fewer
  pub one_fewer : (n : ℕ) (us : List (StateSubscriber T)) → Once us → is_some (last_got_by n us) ≡ true → suc (length (without_subscriber n us)) ≡ length us
  one_fewer n [] o h = absurd (cc)
  one_fewer n (u ∷ us) o h = split (u.number == n) (λ t. (u.number == n) ≡ t → is_some (cond t (Some u.last) (last_got_by n us)) ≡ true → suc (length (cond (not t) (u ∷ without_subscriber n us) (without_subscriber n us))) ≡ suc (length us))
      (λ _ e _. ap (λ l. suc (length l)) (without_none n us (subst (λ k. is_some (last_got_by k us) ≡ false) ((Decides-eqb u.number n).0 e) o.0)))
      (λ _ _ q. ap suc (one_fewer n us o.1 q)) refl h

  -- ---- histories

  room : (s : StateFlowState T) (given : List ℕ) (u : ℕ) → StateFlowReplies s (call.Subscribe given) (reply.Subscribed u) → s.issued ≢ s.limit
  room s given u l e = cond_both (is_state_exhausted s) (reply.Refused Exhausted) (reply.Subscribed (s.issued + 1)) (λ (r : StateReply T). ◌≡◌ {A = StateReply T} (reply.Subscribed u) r → ⊥)
      (λ _ q. absurd (cc)) (λ f _. let t : is_state_exhausted s ≡ true = (Decides-eqb s.issued s.limit).1 e in absurd (cc)) l

  counted_after : (limit : ℕ) (s : StateFlowState T) (c : StateCall T) (r : StateReply T) → StateFlowReplies s c r → IsCounted limit s → IsCounted limit (state_flow_after s c r)
  counted_after limit s (call.Set x) r l h = record { limit_is = h.limit_is; issued = h.issued; numbers = h.numbers; once = h.once; live = h.live }
  counted_after limit s (call.TryEmit x) r l h = record { limit_is = h.limit_is; issued = h.issued; numbers = h.numbers; once = h.once; live = h.live }
  counted_after limit s (call.CompareAndSet a b) (reply.Answered true) l h = record { limit_is = h.limit_is; issued = h.issued; numbers = h.numbers; once = h.once; live = h.live }
  counted_after limit s (call.Subscribe given) (reply.Subscribed u) l h =
      let new = enrolls s given u l in let free = room s given u l in let is = h.limit_is in let few = h.issued in let some = h.live in
      let v : StateSubscriber T = record { number = u; last = None } in
      let more : length (s.subscribers ++ v ∷ []) ≡ length s.subscribers + 1 = length-append s.subscribers (v ∷ []) in record {
        limit_is = h.limit_is;
        issued = below few is new free;
        numbers = up_to-snoc u s.subscribers v (le_refl u) (up_to_more s.issued u s.subscribers (omega arith) h.numbers);
        once = once-snoc s.issued s.subscribers v new h.numbers h.once;
        live = omega arith;
      }
    where
      below : s.issued ≤ limit → s.limit ≡ limit → u ≡ s.issued + 1 → s.issued ≢ s.limit → u ≤ limit
      below few is new free = let apart : s.issued ≢ limit = λ e. free (e ∙ sym is) in omega arith
  counted_after limit s (call.TakeNext u) (reply.Received (Value x)) l h = let same = length-with u x s.subscribers in let live = h.live in record {
    limit_is = h.limit_is;
    issued = h.issued;
    numbers = up_to-with s.issued u x s.subscribers h.numbers;
    once = once-with u x s.subscribers h.once;
    live = omega arith;
  }
  counted_after limit s (call.Unsubscribe u) (reply.Answered b) l h = let fewer = length-without u s.subscribers in let live = h.live in record {
    limit_is = h.limit_is;
    issued = h.issued;
    numbers = up_to-without s.issued u s.subscribers h.numbers;
    once = once-without u s.subscribers h.once;
    live = omega arith;
  }
  counted_after limit s c r l h = h

  counted_all : (limit : ℕ) (s : StateFlowState T) (h : StateHistory T) → IsLegalState s h → IsCounted limit s → IsCounted limit (state_after_all s h)
  counted_all limit s [] l c = c
  counted_all limit s (e ∷ es) l c = counted_all limit (state_flow_after s e.what.call e.what.reply) es l.1 (counted_after limit s e.what.call e.what.reply l.0 c)

  pub is_counted : (limit : ℕ) (x : T) (h : StateHistory T) → IsLegalState (first_state_flow limit x) h → IsCounted limit (state_after_all (first_state_flow limit x) h)
  is_counted limit x h l = counted_all limit (first_state_flow limit x) h l (record { limit_is = refl; issued = omega arith; numbers = tt; once = tt; live = omega arith })
