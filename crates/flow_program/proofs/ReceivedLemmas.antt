-- In a history of a flow that suspends and has a buffer, in which no emission and no subscription was ended and no subscriber had first
-- values of its own, a subscriber that received as many values as the flow accepted received exactly these, in order.
use Rattle.std.proofs.Common.{inl, inr, ◌≡◌, ◌≢◌, ◌⊎◌, ⊎_elim, ℕ, zero, suc, ◌+◌, ◌-◌, ◌<◌, ◌≤◌, false, ◌==◌, cond, List, [], ◌∷◌, ◌++◌, length, map, drop, Option, Some, None, refl, sym, ap, ◌∙◌, subst, arith, append-nil, length-append}
use Rattle.std.specs.Prelude.{IsSome}
use Rattle.std.specs.List.{AllByRecursion}
use Rattle.std.proofs.lemmas.List.{map-append, length-drop, drop_all}
use Rattle.std.proofs.lemmas.Bool.{cond_both, cond-false}
use Rattle.flow_law.specs.declared.config.Config.{Config}
use Rattle.flow_law.specs.declared.config.Overflow.{Overflow}
use Rattle.flow_law.specs.declared.config.Overflow.TheVariants.{Suspend, DropOldest}
use Rattle.flow_law.specs.declared.history.HistoryEvent.{HistoryEvent}
use Rattle.flow_law.specs.declared.outcome.Next.TheVariants.{Value, Empty, Gone}
use Rattle.flow_law.specs.declared.call.SharedCall.{SharedCall}
use Rattle.flow_law.specs.declared.call.SharedCall.TheVariants as call
use Rattle.flow_law.specs.declared.call.SharedReply.{SharedReply}
use Rattle.flow_law.specs.declared.call.SharedReply.TheVariants as reply
use Rattle.flow_law.specs.history.History.{Owner, owner_of, subscriber, owners_all, owners_after, IsHistory, IsOwned, IsGiven, MaySpeak}
use Rattle.flow_law.specs.history.Growth.{event}
use Rattle.flow_law.specs.history.Promise.{said}
use Rattle.flow_law.specs.declared.states.SharedFlowState.{SharedFlowState}
use Rattle.flow_law.specs.flow.SharedFlow.{first_state, entry, values, position_of}
use Rattle.flow_law.specs.flow.SharedHistory.{History, IsLegalFrom, shared_flow, after, shared_after_all, state_after}
use Rattle.flow_law.specs.flow.Mailbox.{Beginning, began, began_by, began_from, own, box, received_by, received}
use Rattle.flow_law.specs.laws.Accepted.{accepted, is_cancel, NoneCancelled}
use Rattle.flow_law.specs.history.Done.{is_same_name, said_by}
use Rattle.flow_law.proofs.AcceptedLemmas.{accepts}
use Rattle.flow_law.proofs.DoneLemmas.{split, same_is, flat_alone}
use Rattle.flow_law.proofs.Growing.{history_grown}
use Rattle.flow_law.proofs.Owners.{UpTo, owners_up_to, owner_stays, given_stays, last_given, legal_right, after_all-append}
use Rattle.flow_law.proofs.SeenLemmas.{legal_of, history_delivers}
use Rattle.flow_law.proofs.SharedLawful.{event_has, shared_lawful, shared_subscribing}
use Rattle.flow_law.proofs.Names.{every_weaker, every_right}
use Rattle.flow_program.specs.Callers.{Says, taken_by, HasSubscribed}

-- ---- lists

nothing : {A : Type 0} (xs : List A) → length xs ≡ 0 → xs ≡ []
nothing [] e = refl
nothing (x ∷ xs) e = absurd (omega arith)

-- if what a subscriber received begins the emitted values from k on, and is at least as many values as were accepted (the emitted ones and
-- the queued ones), it is exactly the accepted values
whole_list : {T : Type 0} (got rest vs qs xs : List T) (k : ℕ) → got ++ rest ≡ drop k vs → vs ++ qs ≡ xs → length xs ≤ length got → got ≡ xs
whole_list got rest vs qs xs k e f l =
    let a : length got + length rest ≡ length vs - k = sym (length-append got rest) ∙ ap length e ∙ length-drop k vs in
    let b : length vs + length qs ≡ length xs = sym (length-append vs qs) ∙ ap length f in
    let no_rest : rest ≡ [] = nothing rest (omega arith) in
    let no_queue : qs ≡ [] = nothing qs (omega arith) in
    let all : drop k vs ≡ vs = dropped k (omega arith) in
    sym (append-nil got) ∙ ap (λ r. got ++ r) (sym no_rest) ∙ e ∙ all ∙ sym (append-nil vs) ∙ ap (λ q. vs ++ q) (sym no_queue) ∙ f
  where
    dropped : (k : ℕ) → length vs ≤ length vs - k → drop k vs ≡ vs
    dropped zero h = refl
    dropped (suc k) h = let e : vs ≡ [] = nothing vs (omega arith) in drop_all (suc k) vs (omega arith) ∙ sym e

same_owner : (a b : List ℕ) → Some a ≡ Some b → a ≡ b
same_owner a b e = cc

not_oldest : (o : Overflow) → o ≡ Suspend → o ≢ DropOldest
not_oldest o is e = let bad : Suspend ≡ DropOldest = sym is ∙ e in cc

module _ {T : Type 0} where
  -- ---- calls that end nothing, of subscribers without values of their own

  abbrev pub EndsNothing : SharedCall T → Type 0
  EndsNothing (call.Cancel e) = ⊥
  EndsNothing (call.Unsubscribe u) = ⊥
  EndsNothing (call.Subscribe name first) = first ≡ []
  EndsNothing _ = Unit {0}

  abbrev pub NothingEnded : History T → Type 0
  NothingEnded = AllByRecursion (λ (e : HistoryEvent (Says T)). EndsNothing e.what.call)

  no_cancel : (c : SharedCall T) → EndsNothing c → is_cancel c ≡ false
  no_cancel (call.TryEmit v) e = refl
  no_cancel (call.Emit v) e = refl
  no_cancel (call.Poll n) e = refl
  no_cancel (call.Cancel n) e = absurd e
  no_cancel (call.Subscribe name first) e = refl
  no_cancel (call.TakeNext u) e = refl
  no_cancel (call.Unsubscribe u) e = absurd e
  no_cancel call.ReplayCache e = refl
  no_cancel call.ResetReplayCache e = refl
  no_cancel call.SubscriptionCount e = refl

  none_cancelled : (h : History T) → NothingEnded h → NoneCancelled h
  none_cancelled = every_weaker (λ (e : HistoryEvent (Says T)). EndsNothing e.what.call) (λ (e : HistoryEvent (Says T)). is_cancel e.what.call ≡ false) (λ e. no_cancel e.what.call)

  -- ---- a subscriber has no first values of its own

  began_step : (u : ℕ) (s : SharedFlowState T) (c : SharedCall T) (r : SharedReply T) (b : Beginning T) → EndsNothing c → b.first ≡ [] → (began_by u s c r b).first ≡ []
  began_step u s (call.TryEmit v) r b e is = is
  began_step u s (call.Emit v) r b e is = is
  began_step u s (call.Poll n) r b e is = is
  began_step u s (call.Cancel n) r b e is = is
  began_step u s (call.Subscribe name first) (reply.Subscribed n) b e is = cond_both (n == u) (record { first = first; entry = entry s }) b (λ (x : Beginning T). x.first ≡ []) (λ _. e) (λ _. is)
  began_step u s (call.Subscribe name first) (reply.Tested n) b e is = is
  began_step u s (call.Subscribe name first) (reply.Emitted n) b e is = is
  began_step u s (call.Subscribe name first) (reply.Received n) b e is = is
  began_step u s (call.Subscribe name first) (reply.Cached n) b e is = is
  began_step u s (call.Subscribe name first) reply.Reset b e is = is
  began_step u s (call.Subscribe name first) (reply.Counted n) b e is = is
  began_step u s (call.Subscribe name first) (reply.Refused n) b e is = is
  began_step u s (call.TakeNext n) r b e is = is
  began_step u s (call.Unsubscribe n) r b e is = is
  began_step u s call.ReplayCache r b e is = is
  began_step u s call.ResetReplayCache r b e is = is
  began_step u s call.SubscriptionCount r b e is = is

  began_empty : (u : ℕ) (s : SharedFlowState T) (h : History T) (b : Beginning T) → NothingEnded h → b.first ≡ [] → (began_from u s h b).first ≡ []
  began_empty u s [] b ended is = is
  began_empty u s (e ∷ es) b ended is = began_empty u (after s e.what.call e.what.reply) es (began_by u s e.what.call e.what.reply b) ended.1 (began_step u s e.what.call e.what.reply b ended.0 is)

  -- ---- a subscriber stays subscribed

  abbrev Has : ℕ → SharedFlowState T → Type 0
  Has u s = IsSome (position_of u s.subscribers)

  stays : (u : ℕ) (s : SharedFlowState T) (h : History T) → NothingEnded h → Has u s → Has u (shared_after_all s h)
  stays u s [] ended has = has
  stays u s (e ∷ es) ended has = stays u (after s e.what.call e.what.reply) es ended.1 (event_has u s e.what.call e.what.reply (λ is. subst EndsNothing is ended.0) has)

  -- ---- which token subscribed, and which one calls `next`

  abbrev Found : List ℕ → List ℕ → ℕ → History T → Type 0
  Found k name u h = (before : History T) × (more : History T) × (began : ℕ) × (h ≡ (before ++ event k began (said (call.Subscribe name []) (reply.Subscribed u)) ∷ []) ++ more)

  -- a `subscribe` of a token is an event of the history
  found : (k name : List ℕ) (u : ℕ) (h : History T) → HasSubscribed name u (said_by k h) → Found k name u h
  found k name u [] has = absurd has
  found k name u (e ∷ es) has = split (is_same_name k e.name) (λ b. HasSubscribed name u (cond b (e.what ∷ said_by k es) (said_by k es)) → Found k name u (e ∷ es))
      (λ same has. ⊎_elim (λ (is : e.what ≡ said (call.Subscribe name []) (reply.Subscribed u)). ([], es, e.began, (let p : k ≡ e.name = same_is k e.name same in λ i. event (sym p i) e.began (is i) ∷ es))) (λ h. later (found k name u es h)) has)
      (λ _ has. later (found k name u es has)) has
    where
      later : Found k name u es → Found k name u (e ∷ es)
      later f = (e ∷ f.0, f.1, f.2, ap (λ l. e ∷ l) f.3)

  module _ (first : SharedFlowState T) (h : History T) (is : IsHistory shared_flow first h) (ended : NothingEnded h) (k name : List ℕ) (u : ℕ) (has : HasSubscribed name u (said_by k h)) where
    abbrev Whole : History T → Type 0
    Whole l = IsGiven shared_flow name (subscriber u) l × Has u (shared_after_all first l)

    pub subscribed : Whole h
    subscribed =
        let f = found k name u h has in
        let e : HistoryEvent (Says T) = event k f.2 (said (call.Subscribe name []) (reply.Subscribed u)) in
        let begun = f.0 ++ e ∷ [] in
        let legal : IsLegalFrom first (begun ++ f.1) = subst (IsLegalFrom first) f.3 is.legal in
        let left : IsLegalFrom first begun = Rattle.flow_law.proofs.Owners.legal_left shared_flow first begun f.1 legal in
        let told = (legal_right shared_flow first f.0 (e ∷ []) left).0 in
        let there : Has u (shared_after_all first begun) = subst (Has u) (sym (after_all-append shared_flow first f.0 (e ∷ []))) ((shared_subscribing []).has (shared_after_all first f.0) name u told) in
        let rest : NothingEnded f.1 = every_right (λ (e : HistoryEvent (Says T)). EndsNothing e.what.call) begun f.1 (subst NothingEnded f.3 ended) in
        subst Whole (sym f.3) (
          given_stays shared_flow shared_lawful first begun f.1 (subscriber u) name legal (last_given shared_flow f.0 e (record { number = subscriber u; name = name }) refl),
          subst (Has u) (sym (after_all-append shared_flow first begun f.1)) (stays u (shared_after_all first begun) f.1 rest there),
        )

  -- the token that calls `next` of a subscriber owns the subscriber's number
  speakers : (u : ℕ) (s : SharedFlowState T) (owners : List Owner) (h : History T) → UpTo ((shared_lawful {T = T}).issued s) owners → IsLegalFrom s h → IsOwned shared_flow owners h
      → AllByRecursion (λ (e : HistoryEvent (Says T)). e.what.call ≡ call.TakeNext u → owner_of (subscriber u) (owners_all shared_flow owners h) ≡ Some e.name) h
  speakers u s owners [] up legal owned = tt
  speakers u s owners (e ∷ es) up legal owned = (
    (λ next. owner_stays shared_flow shared_lawful s owners (e ∷ es) (subscriber u) e.name up legal (subst (λ (c : SharedCall T). MaySpeak (shared_flow {T = T}) ((shared_flow {T = T}).speaks_of c) owners e.name) next owned.0)),
    speakers u (after s e.what.call e.what.reply) (owners_after shared_flow owners e) es (owners_up_to shared_flow shared_lawful s owners (e ∷ []) up (legal.0, tt)) legal.1 owned.1,
  )

  none_received : (u n : ℕ) (r : SharedReply T) → (n == u) ≡ false → received_by u (call.TakeNext n) r ≡ []
  none_received u n (reply.Received (Value v)) e = cond-false (n == u) (v ∷ []) [] e
  none_received u n (reply.Received Empty) e = refl
  none_received u n (reply.Received Gone) e = refl
  none_received u n (reply.Tested b) e = refl
  none_received u n (reply.Emitted b) e = refl
  none_received u n (reply.Subscribed b) e = refl
  none_received u n (reply.Cached b) e = refl
  none_received u n reply.Reset e = refl
  none_received u n (reply.Counted b) e = refl
  none_received u n (reply.Refused b) e = refl

  own_or_none : (u : ℕ) (c : SharedCall T) (r : SharedReply T) (n name : List ℕ) → (c ≡ call.TakeNext u → n ≡ name) → (n ≡ name) ⊎ (received_by u c r ≡ [])
  own_or_none u (call.TakeNext m) r n name f = split (m == u) (λ b. (m == u) ≡ b → (n ≡ name) ⊎ (received_by u (call.TakeNext m) r ≡ []))
      (λ t _. inl (f (ap call.TakeNext ((Rattle.std.proofs.lemmas.Bool.Decides.Decides-eqb m u).0 t))))
      (λ t _. inr (none_received u m r t)) refl
  own_or_none u (call.TryEmit v) r n name f = inr refl
  own_or_none u (call.Emit v) r n name f = inr refl
  own_or_none u (call.Poll e) r n name f = inr refl
  own_or_none u (call.Cancel e) r n name f = inr refl
  own_or_none u (call.Subscribe by first) r n name f = inr refl
  own_or_none u (call.Unsubscribe m) r n name f = inr refl
  own_or_none u call.ReplayCache r n name f = inr refl
  own_or_none u call.ResetReplayCache r n name f = inr refl
  own_or_none u call.SubscriptionCount r n name f = inr refl

  all_received : (u : ℕ) (h : History T) → received u h ≡ taken_by u (map (λ e. e.what) h)
  all_received u [] = refl
  all_received u (e ∷ es) = ap (λ l. received_by u e.what.call e.what.reply ++ l) (all_received u es)

  -- ---- all that the flow accepted

  abbrev pub line : History T → List T
  line h = accepted (map (λ e. e.what) h)

  -- a subscriber that received as many values as the flow accepted received exactly these
  module _ (first : SharedFlowState T) (h : History T) (is : IsHistory shared_flow first h) (suspends : first.config.overflow ≡ Suspend) (room : 0 < first.config.replay + first.config.extra) (ended : NothingEnded h) where
    pub received_all : (k name : List ℕ) (u : ℕ) → HasSubscribed name u (said_by k h) → length (line h) ≤ length (taken_by u (said_by name h)) → taken_by u (said_by name h) ≡ line h
    received_all k name u has enough =
        let config = first.config in let s = state_after config h in
        let there = subscribed first h is ended k name u has in
        let mine : AllByRecursion (λ (e : HistoryEvent (Says T)). (e.name ≡ name) ⊎ (received_by u e.what.call e.what.reply ≡ [])) h =
        every_weaker (λ (e : HistoryEvent (Says T)). e.what.call ≡ call.TakeNext u → owner_of (subscriber u) (owners_all shared_flow [] h) ≡ Some e.name) (λ (e : HistoryEvent (Says T)). (e.name ≡ name) ⊎ (received_by u e.what.call e.what.reply ≡ []))
        (λ e f. own_or_none u e.what.call e.what.reply e.name name (λ next. same_owner e.name name (sym (f next) ∙ there.0))) h (speakers u first [] h tt is.legal is.owned) in
        let got : received u h ≡ taken_by u (said_by name h) = all_received u h ∙ flat_alone (λ (e : Says T). received_by u e.call e.reply) name h mine in
        let has : IsSome (position_of u s.subscribers) = subst (λ (t : SharedFlowState T). Has u (shared_after_all t h)) is.begins.0 there.1 in
        let d = history_delivers first h is u in
        let same : s.config ≡ config = (history_grown (first_state config) h).config in
        at (position_of u s.subscribers) refl has (λ p placed.
        let whole = d.whole (not_oldest config.overflow suspends) (subst (λ (c : Config). 0 < c.replay + c.extra) (sym same) room) p placed in
        let start = (began u config h).entry in let rest = own u config h ++ box u config h in
        whole_list (taken_by u (said_by name h)) rest (values s) (map (λ e. e.value) s.queue) (line h) start
        (ap (λ l. l ++ rest) (sym got ∙ sym d.replies) ∙ whole ∙ ap (λ l. l ++ drop start (values s)) (began_empty u (first_state config) h (record { first = []; entry = 0 }) ended refl))
        (sym (map-append (λ e. e.value) s.emitted s.queue) ∙ accepts config h (legal_of first h is) suspends (none_cancelled h ended)) enough)
      where
        at : {A : Type 0} (o : Option ℕ) → position_of u (state_after first.config h).subscribers ≡ o → IsSome o → ((p : ℕ) → position_of u (state_after first.config h).subscribers ≡ Some p → A) → A
        at None e some f = absurd (cc)
        at (Some p) e some f = f p e
