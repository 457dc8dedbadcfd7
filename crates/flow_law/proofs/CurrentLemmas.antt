-- What a subscriber of a state flow got last.
use Rattle.std.proofs.Common.{inl, inr, ◌≡◌, ℕ, ◌+◌, ◌≤◌, ◌<◌, Bool, true, false, ◌==◌, cond, List, [], ◌∷◌, ◌++◌, Option, Some, None, refl, sym, ap, ◌∙◌, subst, arith, eq-eqb}
use Rattle.std.specs.Prelude.{IsSome, is_some}
use Rattle.std.specs.List.{AllByRecursion}
use Rattle.std.proofs.lemmas.Bool.{cond_both, cond-true}
use Rattle.std.proofs.lemmas.Bool.Decides.{Decides-eqb}
use Rattle.flow_law.specs.declared.fault.FlowFault.TheVariants.{Exhausted, OutOfMemory}
use Rattle.flow_law.specs.declared.history.HistoryEvent.{HistoryEvent}
use Rattle.flow_law.specs.declared.history.Said.{Said}
use Rattle.flow_law.specs.declared.outcome.Next.{Next}
use Rattle.flow_law.specs.declared.outcome.Next.TheVariants.{Value, Empty}
use Rattle.flow_law.specs.declared.call.StateCall.{StateCall}
use Rattle.flow_law.specs.declared.call.StateCall.TheVariants.{GetValue, Set, TryEmit, CompareAndSet, Subscribe, TakeNext, Unsubscribe, SubscriptionCount, ReplayCache, ResetReplayCache}
use Rattle.flow_law.specs.declared.call.StateReply.{StateReply}
use Rattle.flow_law.specs.declared.call.StateReply.TheVariants.{Answered, Subscribed, Received, Refused}
use Rattle.flow_law.specs.flow.StateFlow.{StateSubscriber, StateFlowState, StateHistory, first_state_flow, state_flow, state_flow_after, IsReply, Receives, MayNeedMemory, StateFlowReplies, is_state_exhausted, last_got_by, with_last, without_subscriber, state_after_all, IsLegalState}
use Rattle.flow_law.specs.laws.Current.{got_by, got_from, last_got, IsSteady, GivesCurrent, IsNext, IsThere, Converges}
use Rattle.flow_law.proofs.Owners.{after_all-append, legal_right}
use Rattle.flow_law.proofs.ReplyLemmas.{state_replies_cases}
use Rattle.flow_law.proofs.Rows.{split, every_weaker, every_snoc, every_filter}
use Rattle.flow_law.proofs.StateSubscriberLemmas.{last-snoc, last-snoc_other, last-with, last-with_other, last-without, last-without_other}

none_or_some : {A : Type 0} (a : A) → None ≡ Some a → ⊥
none_or_some a e = cc

same_some : {A : Type 0} (a b : A) → Some a ≡ Some b → a ≡ b
same_some a b e = cc

module _ {T : Type 0} where
  -- a number that was not issued is no subscriber's
  no_last : (n u : ℕ) (rs : List (StateSubscriber T)) → AllByRecursion (λ r. r.number ≤ n) rs → n < u → last_got_by u rs ≡ None
  no_last n u [] h l = refl
  no_last n u (r ∷ rs) h l = cond_both (r.number == u) (Some r.last) (last_got_by u rs) (λ o. o ≡ None)
      (λ e. absurd (omega (arith, h.0, l, (Decides-eqb r.number u).0 e))) (λ _. no_last n u rs h.1 l)

  every_with_last : (n u : ℕ) (v : T) (rs : List (StateSubscriber T)) → AllByRecursion (λ r. r.number ≤ n) rs → AllByRecursion (λ r. r.number ≤ n) (with_last u v rs)
  every_with_last n u v [] h = tt
  every_with_last n u v (r ∷ rs) h = cond_both (r.number == u) (record r { last = Some v } ∷ rs) (r ∷ with_last u v rs) (AllByRecursion (λ r. r.number ≤ n))
      (λ _. (h.0, h.1)) (λ _. (h.0, every_with_last n u v rs h.1))

  -- what the flow keeps of u is the last value that it got
  pub record Tracks (u : ℕ) (s : StateFlowState T) (last : Option T) : Type 0 where
    pub issued : AllByRecursion (λ r. r.number ≤ s.issued) s.subscribers
    pub fresh : s.issued < u → last ≡ None
    pub kept : (o : Option T) → last_got_by u s.subscribers ≡ Some o → o ≡ last

  abbrev Tracked : ℕ → StateFlowState T → Option T → StateCall T → StateReply T → Type 0
  Tracked u s last c r = Tracks u (state_flow_after s c r) (got_by u c r last)

  tracks_came : (u : ℕ) (s : StateFlowState T) (last : Option T) (name : List ℕ) → Tracks u s last → Tracked u s last (Subscribe name) (Subscribed (s.issued + 1))
  tracks_came u s last name h = record {
    issued = every_snoc (λ r. r.number ≤ s.issued + 1) s.subscribers (record { number = s.issued + 1; last = None }) (every_weaker (λ r. r.number ≤ s.issued) (λ r. r.number ≤ s.issued + 1) (λ r k. omega (arith, k)) s.subscribers h.issued) (omega arith);
    fresh = λ l. h.fresh (omega (arith, l));
    kept = λ o at. split (s.issued + 1 == u) (λ t. (s.issued + 1 == u) ≡ t → o ≡ last)
        (λ e _. let is : s.issued + 1 ≡ u = (Decides-eqb (s.issued + 1) u).0 e in
        let young : s.issued < u = omega (arith, is) in
        same_some o None (sym at ∙ last-snoc u s.subscribers (record { number = s.issued + 1; last = None }) (no_last s.issued u s.subscribers h.issued young) is) ∙ sym (h.fresh young))
        (λ e _. h.kept o (sym (last-snoc_other u s.subscribers (record { number = s.issued + 1; last = None }) e) ∙ at)) refl;
  }

  tracks_left : (u n : ℕ) (s : StateFlowState T) (last : Option T) (b : Bool) → Tracks u s last → Tracked u s last (Unsubscribe n) (Answered b)
  tracks_left u n s last b h = record {
    issued = every_filter (λ r. r.number ≤ s.issued) _ s.subscribers h.issued;
    fresh = h.fresh;
    kept = λ o at. split (n == u) (λ t. (n == u) ≡ t → o ≡ last)
        (λ e _. absurd (none_or_some o (sym (last-without u s.subscribers) ∙ subst (λ k. last_got_by u (without_subscriber k s.subscribers) ≡ Some o) ((Decides-eqb n u).0 e) at)))
        (λ e _. h.kept o (sym (last-without_other u n s.subscribers e) ∙ at)) refl;
  }

  tracks_got : (u n : ℕ) (s : StateFlowState T) (last old : Option T) → last_got_by n s.subscribers ≡ Some old → Tracks u s last → Tracked u s last (TakeNext n) (Received (Value s.value))
  tracks_got u n s last old there h = split (n == u) (λ t. (n == u) ≡ t → Tracks u (record s { subscribers = with_last n s.value s.subscribers }) (cond t (Some s.value) last))
      (λ e _. let is : n ≡ u = (Decides-eqb n u).0 e in
      let mine : last_got_by u s.subscribers ≡ Some old = subst (λ k. last_got_by k s.subscribers ≡ Some old) is there in
      let now : last_got_by u (with_last n s.value s.subscribers) ≡ Some (Some s.value) = subst (λ k. last_got_by u (with_last k s.value s.subscribers) ≡ Some (Some s.value)) (sym is) (last-with u s.value old s.subscribers mine) in
      record {
        issued = every_with_last s.issued n s.value s.subscribers h.issued;
        fresh = λ l. absurd (none_or_some old (sym (no_last s.issued u s.subscribers h.issued l) ∙ mine));
        kept = λ o at. same_some o (Some s.value) (sym at ∙ now);
      })
      (λ e _. record {
        issued = every_with_last s.issued n s.value s.subscribers h.issued;
        fresh = h.fresh;
        kept = λ o at. h.kept o (sym (last-with_other u n s.value s.subscribers e) ∙ at);
      }) refl

  tracks_next : (u n : ℕ) (s : StateFlowState T) (last : Option T) (r : StateReply T) → Tracks u s last → (o : Option (Option T)) → last_got_by n s.subscribers ≡ o → Receives s.value o r → Tracked u s last (TakeNext n) r
  tracks_next u n s last r h None at is = subst (Tracked u s last (TakeNext n)) (sym is) h
  tracks_next u n s last r h (Some old) at is = elim is as (λ _. Tracked u s last (TakeNext n) r) [
    | inl e ↦ subst (Tracked u s last (TakeNext n)) (sym e.1) h
    | inr e ↦ subst (Tracked u s last (TakeNext n)) (sym e.1) (tracks_got u n s last old at h)
  ]

  -- another value
  revalued : (u : ℕ) (s : StateFlowState T) (last : Option T) (x : T) → Tracks u s last → Tracks u (record s { value = x }) last
  revalued u s last x h = record { issued = h.issued; fresh = h.fresh; kept = h.kept }

  tracks_reply : (u : ℕ) (s : StateFlowState T) (last : Option T) (c : StateCall T) (r : StateReply T) → Tracks u s last → IsReply s c r → Tracked u s last c r
  tracks_reply u s last GetValue r h is = subst (Tracked u s last GetValue) (sym is) h
  tracks_reply u s last (Set x) r h is = revalued u s last x h
  tracks_reply u s last (TryEmit x) r h is = revalued u s last x h
  tracks_reply u s last (CompareAndSet x y) r h is = elim is as (λ _. Tracked u s last (CompareAndSet x y) r) [
    | inl e ↦ subst (Tracked u s last (CompareAndSet x y)) (sym e.1) (revalued u s last y h)
    | inr e ↦ subst (Tracked u s last (CompareAndSet x y)) (sym e.1) h
  ]
  tracks_reply u s last (Subscribe name) r h is = subst (Tracked u s last (Subscribe name)) (sym is)
      (cond_both (is_state_exhausted s) (Refused Exhausted) (Subscribed (s.issued + 1)) (Tracked u s last (Subscribe name)) (λ _. h) (λ _. tracks_came u s last name h))
  tracks_reply u s last (TakeNext n) r h is = tracks_next u n s last r h (last_got_by n s.subscribers) refl is
  tracks_reply u s last (Unsubscribe n) r h is = subst (Tracked u s last (Unsubscribe n)) (sym is) (tracks_left u n s last (is_some (last_got_by n s.subscribers)) h)
  tracks_reply u s last SubscriptionCount r h is = h
  tracks_reply u s last ReplayCache r h is = subst (Tracked u s last ReplayCache) (sym is) h
  tracks_reply u s last ResetReplayCache r h is = h

  tracks_short : (u : ℕ) (s : StateFlowState T) (last : Option T) (c : StateCall T) → Tracks u s last → MayNeedMemory s c → Tracked u s last c (Refused OutOfMemory)
  tracks_short u s last GetValue h may = h
  tracks_short u s last (Set x) h may = absurd may
  tracks_short u s last (TryEmit x) h may = absurd may
  tracks_short u s last (CompareAndSet x y) h may = absurd may
  tracks_short u s last (Subscribe name) h may = h
  tracks_short u s last (TakeNext n) h may = h
  tracks_short u s last (Unsubscribe n) h may = absurd may
  tracks_short u s last SubscriptionCount h may = absurd may
  tracks_short u s last ReplayCache h may = h
  tracks_short u s last ResetReplayCache h may = absurd may

  tracks_event : (u : ℕ) (s : StateFlowState T) (last : Option T) (c : StateCall T) (r : StateReply T) → Tracks u s last → StateFlowReplies s c r → Tracked u s last c r
  tracks_event u s last c r h legal = elim (state_replies_cases s c r legal) as (λ _. Tracked u s last c r) [
    | inl is ↦ tracks_reply u s last c r h is
    | inr is ↦ subst (Tracked u s last c) (sym is.0) (tracks_short u s last c h is.1)
  ]

  pub tracks_all : (u : ℕ) (s : StateFlowState T) (last : Option T) (h : StateHistory T) → Tracks u s last → IsLegalState s h → Tracks u (state_after_all s h) (got_from u h last)
  tracks_all u s last [] t legal = t
  tracks_all u s last (e ∷ es) t legal = tracks_all u (state_flow_after s e.what.call e.what.reply) (got_by u e.what.call e.what.reply last) es (tracks_event u s last e.what.call e.what.reply t legal.0) legal.1

  got_from-append : (u : ℕ) (h more : StateHistory T) (last : Option T) → got_from u (h ++ more) last ≡ got_from u more (got_from u h last)
  got_from-append u [] more last = refl
  got_from-append u (e ∷ es) more last = got_from-append u es more (got_by u e.what.call e.what.reply last)

  -- what `next` of a subscriber may answer
  current : (u : ℕ) (s : StateFlowState T) (last : Option T) (r : Next T) → Tracks u s last → IsThere u s → StateFlowReplies s (TakeNext u) (Received r) → GivesCurrent s.value last r
  current u s last r h there legal = at (last_got_by u s.subscribers) refl there legal
    where
      received : (a b : Next T) → Received a ≡ Received b → a ≡ b
      received a b e = cc

      at : (o : Option (Option T)) → last_got_by u s.subscribers ≡ o → IsSome o → Receives s.value o (Received r) → GivesCurrent s.value last r
      at None e k is = absurd (let wrong : false ≡ true = k in cc)
      at (Some old) e k is = let same : old ≡ last = h.kept old e in elim is as (λ _. GivesCurrent s.value last r) [
        | inl b ↦ inl (sym same ∙ b.0, received r Empty b.1)
        | inr b ↦ inr (λ z. b.0 (same ∙ z), received r (Value s.value) b.1)
      ]

  received_value : (s : StateFlowState T) (v : T) (o : Option (Option T)) → Receives s.value o (Received (Value v)) → v ≡ s.value
  received_value s v None is = absurd (cc)
  received_value s v (Some old) is = elim is as (λ _. v ≡ s.value) [ inl b ↦ absurd (let wrong = b.1 in cc) | inr b ↦ (let same = b.1 in cc) ]

  -- a subscriber that has the current value gets no other one
  got_same : (u : ℕ) (s : StateFlowState T) (last : Option T) (c : StateCall T) (r : StateReply T) → last ≡ Some s.value → StateFlowReplies s c r → got_by u c r last ≡ Some s.value
  got_same u s last (TakeNext n) (Received (Value v)) is legal = cond_both (n == u) (Some v) last (λ o. o ≡ Some s.value) (λ _. ap Some (received_value s v (last_got_by n s.subscribers) legal)) (λ _. is)
  got_same u s last c r is legal = is

  -- a subscriber that asks has the current value then
  asked : (u : ℕ) (s : StateFlowState T) (last : Option T) (r : Next T) → GivesCurrent s.value last r → got_by u (TakeNext u) (Received r) last ≡ Some (state_flow_after s (TakeNext u) (Received r)).value
  asked u s last r given = elim given as (λ _. got_by u (TakeNext u) (Received r) last ≡ Some (state_flow_after s (TakeNext u) (Received r)).value) [
    | inl b ↦ subst (λ k. got_by u (TakeNext u) (Received k) last ≡ Some (state_flow_after s (TakeNext u) (Received k)).value) (sym b.1) b.0
    | inr b ↦ subst (λ k. got_by u (TakeNext u) (Received k) last ≡ Some (state_flow_after s (TakeNext u) (Received k)).value) (sym b.1) (cond-true (u == u) (Some s.value) last (eq-eqb u u refl))
  ]

  -- while nothing changes the value, and the last value that u got is it
  steady : (u : ℕ) (s : StateFlowState T) (last : Option T) (h : StateHistory T) → Tracks u s last → IsLegalState s h → IsSteady s h → last ≡ Some s.value → got_from u h last ≡ Some (state_after_all s h).value
  steady u s last [] t legal calm is = is
  steady u s last (e ∷ es) t legal calm is = steady u (state_flow_after s e.what.call e.what.reply) (got_by u e.what.call e.what.reply last) es (tracks_event u s last e.what.call e.what.reply t legal.0) legal.1 calm.1
      (got_same u s last e.what.call e.what.reply is legal.0 ∙ ap Some (sym calm.0))

  opened_tracks : (u limit : ℕ) (first : T) → Tracks u (first_state_flow limit first) None
  opened_tracks u limit first = record { issued = tt; fresh = λ _. refl; kept = λ o e. absurd (none_or_some o e) }

  pub currents : (limit : ℕ) (first : T) (before : StateHistory T) → IsLegalState (first_state_flow limit first) before → (u : ℕ) → Converges u (first_state_flow limit first) before
  currents limit first before legal u = record {
    gives = λ r there may. current u (state_after_all (first_state_flow limit first) before) (last_got u before) r tracks there may;
    settles = settles;
  }
    where
      tracks : Tracks u (state_after_all (first_state_flow limit first) before) (last_got u before)
      tracks = tracks_all u (first_state_flow limit first) None before (opened_tracks u limit first) legal

      settles : (r : Next T) (e : HistoryEvent (Said (StateCall T) (StateReply T))) (since : StateHistory T) → IsThere u (state_after_all (first_state_flow limit first) before) → IsNext u r e
          → IsLegalState (first_state_flow limit first) (before ++ e ∷ since) → IsSteady (state_flow_after (state_after_all (first_state_flow limit first) before) e.what.call e.what.reply) since
          → last_got u (before ++ e ∷ since) ≡ Some (state_after_all (first_state_flow limit first) (before ++ e ∷ since)).value
      settles r e since there asks all calm =
          let s : StateFlowState T = state_after_all (first_state_flow limit first) before in
          let last : Option T = last_got u before in
          let t : StateFlowState T = state_flow_after s e.what.call e.what.reply in
          let legal_then : StateFlowReplies s e.what.call e.what.reply × IsLegalState t since = legal_right state_flow (first_state_flow limit first) before (e ∷ since) all in
          let may : StateFlowReplies s (TakeNext u) (Received r) = subst (λ c. StateFlowReplies s c (Received r)) asks.0 (subst (λ k. StateFlowReplies s e.what.call k) asks.1 legal_then.0) in
          let given : GivesCurrent s.value last r = current u s last r tracks there may in
          let now : got_by u e.what.call e.what.reply last ≡ Some t.value = subst (λ c. got_by u c e.what.reply last ≡ Some (state_flow_after s c e.what.reply).value) (sym asks.0)
          (subst (λ k. got_by u (TakeNext u) k last ≡ Some (state_flow_after s (TakeNext u) k).value) (sym asks.1) (asked u s last r given)) in
          got_from-append u before (e ∷ since) None
          ∙ steady u t (got_by u e.what.call e.what.reply last) since (tracks_event u s last e.what.call e.what.reply tracks legal_then.0) legal_then.1 calm now
          ∙ ap (λ (x : StateFlowState T). Some x.value) (sym (after_all-append state_flow (first_state_flow limit first) before (e ∷ since)))
