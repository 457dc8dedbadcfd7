-- The value after updates with one function, and how many they are.
use Rattle.std.proofs.Common.{◌≡◌, ℕ, zero, suc, ◌+◌, ⊎_elim, true, false, List, [], ◌∷◌, ◌++◌, refl, sym, ap, ◌∙◌, subst, arith}
use Rattle.std.specs.List.{AllByRecursion}
use Rattle.flow_law.specs.declared.history.HistoryEvent.{HistoryEvent}
use Rattle.flow_law.specs.declared.history.Knowledge.{Knowledge}
use Rattle.flow_law.specs.declared.history.Said.{Said}
use Rattle.flow_law.specs.declared.call.StateCall.{StateCall}
use Rattle.flow_law.specs.declared.call.StateCall.TheVariants as call
use Rattle.flow_law.specs.declared.call.StateReply.{StateReply}
use Rattle.flow_law.specs.declared.call.StateReply.TheVariants as reply
use Rattle.flow_law.specs.declared.outcome.Next.TheVariants.{Value, Empty, Gone}
use Rattle.flow_law.specs.history.Promise.{said}
use Rattle.flow_law.specs.history.History.{IsHistory}
use Rattle.flow_law.specs.declared.states.StateFlowState.{StateFlowState}
use Rattle.flow_law.specs.flow.StateFlow.{StateHistory, state_flow, state_after_all, IsLegalState, state_flow_after, StateFlowReplies}
use Rattle.flow_law.specs.history.Updates.{StateTokenOf, IsRound, LosesRounds, none_lost, one_lost, Updates}
use Rattle.flow_law.specs.history.Done.{total, done_by}
use Rattle.flow_law.specs.laws.Closed.{AreAll, IsClosed}
use Rattle.flow_law.specs.laws.UpdateCounts.{iterate, update_by, updates, UpdatesBy, OnlyUpdates, UpdatesTimes}
use Rattle.flow_law.proofs.DoneLemmas.{total-append, every_append, made_nothing, made_more, made_one}
use Rattle.flow_law.proofs.ClosedLemmas.{all_done, every_done}

abbrev Says : Type 0 → Type 0
Says T = Said (StateCall T) (StateReply T)

module _ {T : Type 0} (g : T → T) where
  pub iterate_plus : (m n : ℕ) (v : T) → iterate g (m + n) v ≡ iterate g n (iterate g m v)
  iterate_plus zero n v = let e : zero + n ≡ n = omega arith in ap (λ x. iterate g x v) e
  iterate_plus (suc m) n v = let e : suc m + n ≡ suc (m + n) = omega arith in ap (λ x. iterate g x v) e ∙ iterate_plus m n (g v)

  step : (s : StateFlowState T) (c : StateCall T) (r : StateReply T) → StateFlowReplies s c r → UpdatesBy g c r → (state_flow_after s c r).value ≡ iterate g (update_by c r) s.value
  step s call.GetValue r p u = refl
  step s (call.Set x) r p u = absurd u
  step s (call.TryEmit x) r p u = absurd u
  step s (call.CompareAndSet a b) (reply.Answered true) p u = ⊎_elim
      (λ (h : (s.value ≡ a) × (reply.Answered true ≡ reply.Answered true)). u ∙ ap g (sym h.0))
      (λ (h : (s.value ≡ a → ⊥) × (reply.Answered true ≡ reply.Answered false)). absurd (cc)) p
  step s (call.CompareAndSet a b) (reply.Answered false) p u = refl
  step s (call.CompareAndSet a b) reply.Done p u = refl
  step s (call.CompareAndSet a b) (reply.Got x) p u = refl
  step s (call.CompareAndSet a b) (reply.Subscribed n) p u = refl
  step s (call.CompareAndSet a b) (reply.Received n) p u = refl
  step s (call.CompareAndSet a b) (reply.Counted n) p u = refl
  step s (call.CompareAndSet a b) (reply.Cached n) p u = refl
  step s (call.CompareAndSet a b) (reply.Refused n) p u = refl
  step s (call.Subscribe name) (reply.Subscribed n) p u = refl
  step s (call.Subscribe name) (reply.Answered n) p u = refl
  step s (call.Subscribe name) reply.Done p u = refl
  step s (call.Subscribe name) (reply.Got x) p u = refl
  step s (call.Subscribe name) (reply.Received n) p u = refl
  step s (call.Subscribe name) (reply.Counted n) p u = refl
  step s (call.Subscribe name) (reply.Cached n) p u = refl
  step s (call.Subscribe name) (reply.Refused n) p u = refl
  step s (call.TakeNext x) (reply.Received (Value y)) p u = refl
  step s (call.TakeNext x) (reply.Received Empty) p u = refl
  step s (call.TakeNext x) (reply.Received Gone) p u = refl
  step s (call.TakeNext x) (reply.Subscribed n) p u = refl
  step s (call.TakeNext x) (reply.Answered n) p u = refl
  step s (call.TakeNext x) reply.Done p u = refl
  step s (call.TakeNext x) (reply.Got y) p u = refl
  step s (call.TakeNext x) (reply.Counted n) p u = refl
  step s (call.TakeNext x) (reply.Cached n) p u = refl
  step s (call.TakeNext x) (reply.Refused n) p u = refl
  step s (call.Unsubscribe x) (reply.Answered b) p u = refl
  step s (call.Unsubscribe x) (reply.Subscribed n) p u = refl
  step s (call.Unsubscribe x) reply.Done p u = refl
  step s (call.Unsubscribe x) (reply.Got y) p u = refl
  step s (call.Unsubscribe x) (reply.Received n) p u = refl
  step s (call.Unsubscribe x) (reply.Counted n) p u = refl
  step s (call.Unsubscribe x) (reply.Cached n) p u = refl
  step s (call.Unsubscribe x) (reply.Refused n) p u = refl
  step s call.SubscriptionCount r p u = refl
  step s call.ReplayCache r p u = refl
  step s call.ResetReplayCache r p u = refl

  pub value_updated : (s : StateFlowState T) (h : StateHistory T) → IsLegalState s h → AllByRecursion (λ (e : HistoryEvent (Says T)). UpdatesBy g e.what.call e.what.reply) h
      → (state_after_all s h).value ≡ iterate g (total (λ (e : HistoryEvent (Says T)). update_by e.what.call e.what.reply) h) s.value
  value_updated s [] legal all = refl
  value_updated s (e ∷ es) legal all =
      let c = e.what.call in let r = e.what.reply in let n = total (λ (e : HistoryEvent (Says T)). update_by e.what.call e.what.reply) es in
      value_updated (state_flow_after s c r) es legal.1 all.1 ∙ ap (iterate g n) (step s c r legal.0 all.0) ∙ sym (iterate_plus (update_by c r) n s.value)

  pub all_updated : (first : StateFlowState T) (ks : List (Knowledge (Says T))) (h : StateHistory T) → IsLegalState first h → AreAll ks → IsClosed h ks
      → AllByRecursion (λ (k : Knowledge (Says T)). OnlyUpdates g (done_by k)) ks
      → (state_after_all first h).value ≡ iterate g (total (λ (k : Knowledge (Says T)). updates (done_by k)) ks) first.value
  all_updated first ks h legal all closed did =
      let t = all_done ks h all closed in
      value_updated first h legal (every_done (λ (e : Says T). UpdatesBy g e.call e.reply) ks h all closed did) ∙ ap (λ n. iterate g n first.value) (t.sums (λ (e : Says T). update_by e.call e.reply))

  -- ---- what a token has counted

  pub times_none : (k : Knowledge (Says T)) → UpdatesTimes g 0 k k
  times_none k = ([], made_nothing k, tt, refl)

  pub times_more : (m n : ℕ) (a b c : Knowledge (Says T)) → UpdatesTimes g m a b → UpdatesTimes g n b c → UpdatesTimes g (m + n) a c
  times_more m n a b c x y = (
    x.0 ++ y.0,
    made_more x.0 y.0 a b c x.1 y.1,
    every_append (λ (e : Says T). UpdatesBy g e.call e.reply) x.0 y.0 x.2 y.2,
    (let e : updates (x.0 ++ y.0) ≡ updates x.0 + updates y.0 = total-append (λ (e : Says T). update_by e.call e.reply) x.0 y.0 in let p : updates x.0 ≡ m = x.3 in let q : updates y.0 ≡ n = y.3 in omega arith),
  )

  -- what a token had done before, and has counted since
  pub times_all : (n : ℕ) (a b : Knowledge (Says T)) → done_by a ≡ [] → UpdatesTimes g n a b → OnlyUpdates g (done_by b) × (updates (done_by b) ≡ n)
  times_all n a b none x =
      let e : done_by b ≡ x.0 = x.1.done ∙ ap (λ l. l ++ x.0) none in
      (subst (OnlyUpdates g) (sym e) x.2, ap updates e ∙ x.3)

  module _ {Id : Type 0} (first : StateFlowState T) (Gives : T → T → Type 0) (gives : (x y : T) → Gives x y → y ≡ g x) where
    times_lost : (t u : StateTokenOf Id T) (x y : T) → IsRound first Gives false t x y u → UpdatesTimes g 0 t.knows u.knows
    times_lost t u x y r = (
      said call.GetValue (reply.Got x) ∷ said (call.CompareAndSet x y) (reply.Answered false) ∷ [],
      made_more (said call.GetValue (reply.Got x) ∷ []) (said (call.CompareAndSet x y) (reply.Answered false) ∷ []) t.knows r.between.knows u.knows
          (made_one (IsHistory state_flow first) t.knows r.between.knows call.GetValue (reply.Got x) r.read.1)
          (made_one (IsHistory state_flow first) r.between.knows u.knows (call.CompareAndSet x y) (reply.Answered false) r.exchanged.1),
      (tt, (tt, tt)),
      refl,
    )

    times_won : (t u : StateTokenOf Id T) (x y : T) → IsRound first Gives true t x y u → UpdatesTimes g 1 t.knows u.knows
    times_won t u x y r = (
      said call.GetValue (reply.Got x) ∷ said (call.CompareAndSet x y) (reply.Answered true) ∷ [],
      made_more (said call.GetValue (reply.Got x) ∷ []) (said (call.CompareAndSet x y) (reply.Answered true) ∷ []) t.knows r.between.knows u.knows
          (made_one (IsHistory state_flow first) t.knows r.between.knows call.GetValue (reply.Got x) r.read.1)
          (made_one (IsHistory state_flow first) r.between.knows u.knows (call.CompareAndSet x y) (reply.Answered true) r.exchanged.1),
      (tt, (gives x y r.answered, tt)),
      refl,
    )

    times_rounds : (t u : StateTokenOf Id T) → LosesRounds first Gives t u → UpdatesTimes g 0 t.knows u.knows
    times_rounds t u (none_lost {t = s}) = times_none s.knows
    times_rounds t u (one_lost {s = s} {t = w} {u = v} {x = x} {y = y} l r) = times_more 0 0 s.knows w.knows v.knows (times_rounds s w l) (times_lost w v x y r)

    -- an update is one
    pub times_one : (t u : StateTokenOf Id T) (x y : T) → Updates first Gives t x y u → UpdatesTimes g 1 t.knows u.knows
    times_one t u x y p = times_more 0 1 t.knows p.between.knows u.knows (times_rounds t p.between p.lost) (times_won p.between u x y p.won)
