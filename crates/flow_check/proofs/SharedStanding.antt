-- The state of a checker of shared flows, and that of the documented flow for which it stands. Begin with `StandsAs`.
use Rattle.std.proofs.Common.{◌≡◌, ◌≢◌, ℕ, ◌+◌, ◌-◌, ◌<◌, ◌≤◌, Bool, true, false, not, ◌==◌, ◌||◌, cond, List, [], ◌∷◌, ◌++◌, length, get_or, map, Some, None, refl, sym, ap, ◌∙◌, subst, inl, inr, arith, eq-eqb, ne_eqb}
use Rattle.std.specs.Prelude.{max, filter}
use Rattle.std.specs.List.{list_any}
use Rattle.std.proofs.lemmas.Bool.{false≢true, or_cases, or_left}
use Rattle.std.proofs.lemmas.Bool.Decides.{Decides-eqb, eqb_tells}
use Rattle.std.proofs.lemmas.Option.{same_Some}
use Rattle.flow_law.specs.declared.config.Config.{Config}
use Rattle.flow_law.specs.declared.config.Overflow.TheVariants.{Suspend}
use Rattle.flow_law.specs.history.History.{emission, Owner, owner_of}
use Rattle.flow_law.specs.declared.states.Numbered.{Numbered}
use Rattle.flow_law.specs.declared.states.Subscriber.{Subscriber}
use Rattle.flow_law.specs.declared.states.SharedFlowState.{SharedFlowState}
use Rattle.flow_law.specs.flow.SharedFlow.{position_of}
use Rattle.flow_law.specs.flow.SharedFlow as law
use Rattle.flow_law.specs.flow.SharedStep as flow
use Rattle.flow_law.proofs.Owners.{UpTo, owned_up_to, owner_of_older}
use Rattle.flow_law.proofs.Rows.{split}
use Rattle.flow_check.specs.declared.shared_machine.Held.{Held}
use Rattle.flow_check.specs.StateRecords.{caller_name}
use Rattle.flow_check.specs.SharedMachine.{Kept, most_lag, kept_capacity, is_in_queue}
use Rattle.flow_check.proofs.SharedSeats.{SeatsAs}

abbrev pub IsEmitter : ℕ → ℕ → List Owner → Type 0
IsEmitter caller e owners = owner_of (emission e) owners ≡ Some (caller_name caller)

-- the last values that were emitted, how many of them are replayed, and the most that a subscriber has still to receive
pub record ValuesAs (mine : Config) (last : List ℕ) (cached most : ℕ) (config : Config) (emitted : List (Numbered ℕ)) (mark : ℕ) : Type 0 where
  pub replay : mine.replay ≡ config.replay
  pub extra : mine.extra ≡ config.extra
  pub overflow : mine.overflow ≡ config.overflow
  -- only a flow that suspends its emitters does without a buffer, and it keeps one value then
  pub suspends : mine.replay + mine.extra ≡ 0 → mine.overflow ≡ Suspend
  pub one : mine.replay + mine.extra ≡ 0 → most ≤ 1
  pub front : List ℕ
  pub tail : map (λ e. e.value) emitted ≡ front ++ last
  pub most_kept : most ≤ length last
  pub cache_kept : cached ≤ length last
  pub cache : cached + max mark (length emitted - config.replay) ≡ length emitted
  pub marked : mark ≤ length emitted

-- the values whose emitters wait, one by one
abbrev pub Queued : List Owner → List Held → List (Numbered ℕ) → Type 0
Queued owners [] [] = Unit {0}
Queued owners (h ∷ hs) (q ∷ qs) = (q.value ≡ h.value) × IsEmitter h.caller q.number owners × Queued owners hs qs
Queued owners _ _ = ⊥

-- a caller waits with one emission at most
abbrev pub OnceWaits : List Owner → SharedFlowState ℕ → Type 0
OnceWaits owners s = (caller e f : ℕ) → IsEmitter caller e owners → IsEmitter caller f owners → flow.is_waiting e s ≡ true → flow.is_waiting f s ≡ true → e ≡ f

pub record WaitsAs (m : Kept) (s : SharedFlowState ℕ) (owners : List Owner) : Type 0 where
  pub queue : Queued owners m.queue s.queue
  -- without a buffer, a value that some subscriber has not received is the newest, and offered
  pub offered : kept_capacity m ≡ 0 → 0 < most_lag m.lags → (caller : ℕ) × (m.offered ≡ Some caller) × IsEmitter caller (law.newest s) owners
  pub unoffered : kept_capacity m ≢ 0 → m.offered ≡ None
  pub once : OnceWaits owners s

abbrev pub SeatsOf : ℕ → Kept → SharedFlowState ℕ → List Owner → Type 0
SeatsOf size m s owners = SeatsAs size m.lags m.owns s.subscribers (length s.emitted) owners

abbrev pub ValuesOf : Kept → SharedFlowState ℕ → Type 0
ValuesOf m s = ValuesAs m.config m.values m.cached (most_lag m.lags) s.config s.emitted s.reset_mark

-- the state m of a checker stands for the state s that k turns led to, after which the numbers have these owners
pub record StandsAs (size : ℕ) (m : Kept) (k : ℕ) (s : SharedFlowState ℕ) (owners : List Owner) : Type 0 where
  pub seats : SeatsOf size m s owners
  pub values : ValuesOf m s
  pub waits : WaitsAs m s owners
  pub issued : s.issued ≤ k
  pub owned : UpTo s.issued owners

-- ---- tests

pub or_right : (x y : Bool) → y ≡ true → (x || y) ≡ true
or_right true y e = refl
or_right false y e = e

-- a test that a subscriber at this position passes
pub any_at : (test : Subscriber ℕ → Bool) (us : List (Subscriber ℕ)) (n p : ℕ) → position_of n us ≡ Some p → ((u : Subscriber ℕ) → u.position ≡ p → test u ≡ true) → list_any test us ≡ true
any_at test [] n p e h = absurd (cc)
any_at test (u ∷ us) n p e h = split (u.number == n) (λ t. cond t (Some u.position) (position_of n us) ≡ Some p → (test u || list_any test us) ≡ true)
    (λ _ e. or_left (test u) (list_any test us) (h u (same_Some u.position p e))) (λ _ e. or_right (test u) (list_any test us) (any_at test us n p e h)) e

-- ---- queues

-- a number is one caller's
pub emitter_same : (i j e : ℕ) (owners : List Owner) → IsEmitter i e owners → IsEmitter j e owners → i ≡ j
emitter_same i j e owners a b = ap (λ (name : List ℕ). get_or name 0 0) (same_Some (caller_name i) (caller_name j) (sym a ∙ b))

abbrev HasNumber : ℕ → List (Numbered ℕ) → Type 0
HasNumber e qs = list_any (λ q. q.number == e) qs ≡ true

module _ (owners : List Owner) where
  pub queue_mine : (hs : List Held) (qs : List (Numbered ℕ)) (caller e : ℕ) → Queued owners hs qs → IsEmitter caller e owners → HasNumber e qs → is_in_queue caller hs ≡ true
  queue_mine [] [] caller e queued own h = absurd (false≢true h)
  queue_mine [] (q ∷ qs) caller e queued own h = absurd queued
  queue_mine (k ∷ hs) [] caller e queued own h = absurd queued
  queue_mine (k ∷ hs) (q ∷ qs) caller e queued own h = elim (or_cases (q.number == e) (list_any (λ q. q.number == e) qs) h) [
    | inl t ↦
        let is = (Decides-eqb q.number e).0 t in
        let same = emitter_same k.caller caller e owners (subst (λ (n : ℕ). IsEmitter k.caller n owners) is queued.1) own in
        or_left (k.caller == caller) (is_in_queue caller hs) (eq-eqb k.caller caller same)
    | inr t ↦ or_right (k.caller == caller) (is_in_queue caller hs) (queue_mine hs qs caller e queued.2 own t)
  ]

  pub queue_theirs : (hs : List Held) (qs : List (Numbered ℕ)) (caller : ℕ) → Queued owners hs qs → is_in_queue caller hs ≡ true → (e : ℕ) × IsEmitter caller e owners × HasNumber e qs
  queue_theirs [] qs caller queued h = absurd (false≢true h)
  queue_theirs (k ∷ hs) [] caller queued h = absurd queued
  queue_theirs (k ∷ hs) (q ∷ qs) caller queued h = elim (or_cases (k.caller == caller) (is_in_queue caller hs) h) [
    | inl t ↦
        let is = (Decides-eqb k.caller caller).0 t in
        (q.number, subst (λ (i : ℕ). IsEmitter i q.number owners) is queued.1, or_left (q.number == q.number) (list_any (λ p. p.number == q.number) qs) (eq-eqb q.number q.number refl))
    | inr t ↦
        let found = queue_theirs hs qs caller queued.2 t in
        (found.0, found.1, or_right (q.number == found.0) (list_any (λ p. p.number == found.0) qs) found.2)
  ]

  -- one more value waits
  pub queue_snoc : (hs : List Held) (qs : List (Numbered ℕ)) (h : Held) (q : Numbered ℕ) → Queued owners hs qs → q.value ≡ h.value → IsEmitter h.caller q.number owners → Queued owners (hs ++ h ∷ []) (qs ++ q ∷ [])
  queue_snoc [] [] h q queued e own = (e, own, tt)
  queue_snoc [] (p ∷ qs) h q queued e own = absurd queued
  queue_snoc (k ∷ hs) [] h q queued e own = absurd queued
  queue_snoc (k ∷ hs) (p ∷ qs) h q queued e own = (queued.0, queued.1, queue_snoc hs qs h q queued.2 e own)

  -- a new owner of a greater number
  pub queue_older : (o : Owner) (n : ℕ) (hs : List Held) (qs : List (Numbered ℕ)) → UpTo n owners → n < Rattle.flow_law.specs.history.Lawful.number_in o.number → Queued owners hs qs → Queued (o ∷ owners) hs qs
  queue_older o n [] [] owned l queued = tt
  queue_older o n [] (q ∷ qs) owned l queued = absurd queued
  queue_older o n (k ∷ hs) [] owned l queued = absurd queued
  queue_older o n (k ∷ hs) (q ∷ qs) owned l queued =
      let old = owned_up_to n (emission q.number) (caller_name k.caller) owners owned queued.1 in
      (queued.0, owner_of_older (emission q.number) (caller_name k.caller) o owners (omega arith) queued.1, queue_older o n hs qs owned l queued.2)

  -- the first values of two queues are left out, if the tests say so
  abbrev Left : Held → List Held → Numbered ℕ → List (Numbered ℕ) → Bool → Bool → Type 0
  Left h hs q qs x y = Queued owners (cond (not x) (h ∷ hs) hs) (cond (not y) (q ∷ qs) qs)

  kept_both : (h : Held) (hs : List Held) (q : Numbered ℕ) (qs : List (Numbered ℕ)) (x y a b : Bool) → x ≡ a → y ≡ b → Left h hs q qs a b → Left h hs q qs x y
  kept_both h hs q qs x y a b e f left = subst (λ (t : Bool). Left h hs q qs t y) (sym e) (subst (λ (t : Bool). Left h hs q qs a t) (sym f) left)

  -- the values of one caller are withdrawn, which is one emission
  pub queue_without : (caller e : ℕ) (hs : List Held) (qs : List (Numbered ℕ)) → IsEmitter caller e owners → ((f : ℕ) → IsEmitter caller f owners → HasNumber f qs → f ≡ e)
      → Queued owners hs qs → Queued owners (filter (λ h. not (h.caller == caller)) hs) (filter (λ q. not (q.number == e)) qs)
  queue_without caller e [] [] own only queued = tt
  queue_without caller e [] (q ∷ qs) own only queued = absurd queued
  queue_without caller e (k ∷ hs) [] own only queued = absurd queued
  queue_without caller e (k ∷ hs) (q ∷ qs) own only queued =
      let rest = queue_without caller e hs qs own (λ f its h. only f its (or_right (q.number == f) (list_any (λ p. p.number == f) qs) h)) queued.2 in
      elim (eqb_tells k.caller caller) [
        | inl c ↦
            let its = subst (λ (i : ℕ). IsEmitter i q.number owners) c.1 queued.1 in
            let is = only q.number its (or_left (q.number == q.number) (list_any (λ p. p.number == q.number) qs) (eq-eqb q.number q.number refl)) in
            kept_both k (filter (λ h. not (h.caller == caller)) hs) q (filter (λ p. not (p.number == e)) qs) (k.caller == caller) (q.number == e) true true c.0 (eq-eqb q.number e is) rest
        | inr c ↦
            let apart : q.number ≢ e = λ z. c.1 (emitter_same k.caller caller e owners (subst (λ (n : ℕ). IsEmitter k.caller n owners) z queued.1) own) in
            kept_both k (filter (λ h. not (h.caller == caller)) hs) q (filter (λ p. not (p.number == e)) qs) (k.caller == caller) (q.number == e) false false c.0 (ne_eqb q.number e apart) (queued.0, queued.1, rest)
      ]
