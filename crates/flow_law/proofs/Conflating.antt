-- A legal history of a state flow, beside the shared flow that keeps only the last value.
use Rattle.std.proofs.Common.{inl, inr, ◌≡◌, ◌≢◌, ◌⊎◌, ℕ, suc, ◌+◌, ◌-◌, ◌≤◌, ◌<◌, Bool, true, false, ◌==◌, cond, List, [], ◌∷◌, ◌++◌, length, map, Option, Some, None, refl, sym, ap, ◌∙◌, subst, arith}
use Rattle.std.specs.Prelude.{IsTrue, is_some, max}
use Rattle.std.specs.List.{slice_get}
use Rattle.std.specs.Option.{option_map_or}
use Rattle.std.proofs.lemmas.Bool.{cond_both}
use Rattle.std.proofs.lemmas.Bool.Decides.{Decides-eqb}
use Rattle.std.proofs.lemmas.List.{length-map, length_push, map-append}
use Rattle.flow_law.specs.declared.fault.FlowFault.TheVariants.{Exhausted, OutOfMemory}
use Rattle.flow_law.specs.declared.outcome.Next.{Next}
use Rattle.flow_law.specs.declared.outcome.Next.TheVariants.{Value, Empty, Gone}
use Rattle.flow_law.specs.declared.call.StateCall.{StateCall}
use Rattle.flow_law.specs.declared.call.StateCall.TheVariants.{GetValue, Set, TryEmit, CompareAndSet, Subscribe, TakeNext, Unsubscribe, SubscriptionCount, ReplayCache, ResetReplayCache}
use Rattle.flow_law.specs.declared.call.StateReply.{StateReply}
use Rattle.flow_law.specs.declared.call.StateReply.TheVariants.{Answered, Subscribed, Received, Refused}
use Rattle.flow_law.specs.flow.SharedFlow.{Numbered, Subscriber, SharedFlowState, cache}
use Rattle.flow_law.specs.flow.SharedStep as flow
use Rattle.flow_law.specs.flow.StateFlow.{StateFlowState, StateHistory, first_state_flow, state_flow_after, IsReply, Receives, MayNeedMemory, is_state_exhausted, last_got_by, with_last, without_subscriber, IsLegalState}
use Rattle.flow_law.specs.laws.Conflation.{Beside, beside, newest_only, emitting, subscribing, reading, leaving, follows, Conflated, Agrees, AgreeAll, passed_on}
use Rattle.flow_law.proofs.ReplyLemmas.{state_replies_cases}
use Rattle.flow_law.proofs.Rows.{split}
use Rattle.flow_law.proofs.StateSubscriberLemmas.{last-snoc, last-snoc_other, last-with, last-with_other, last-without, last-without_other}
use Rattle.flow_law.proofs.Newest.{sole, built, entry_of, newest_at, emit_alone, emit_one, subscribe_alone, next_behind, next_newest, leave_sole, cache_newest}

none_or_some : {A : Type 0} (a : A) → None ≡ Some a → ⊥
none_or_some a e = cc

same_some : {A : Type 0} (a b : A) → Some a ≡ Some b → a ≡ b
same_some a b e = cc

untrue : IsTrue false → ⊥
untrue h = let both : false ≡ true = subst (λ b. IsTrue b) refl h in cc

module _ {T : Type 0} where
  -- u is in neither flow
  abbrev Away : ℕ → StateFlowState T → List (Subscriber T) → Type 0
  Away u s us = (us ≡ []) × (last_got_by u s.subscribers ≡ None)

  -- u is in both. It has the newest value still to receive, or that is what it got last
  pub record Here (u : ℕ) (s : StateFlowState T) (m : Beside T) (n : ℕ) (us : List (Subscriber T)) : Type 0 where
    pub k : ℕ
    pub p : ℕ
    pub number : m.number ≡ Some k
    pub row : us ≡ sole k p
    pub last : last_got_by u s.subscribers ≡ Some m.last
    pub old : u ≤ s.issued
    pub place : ((p ≡ n) × (m.last ≡ Some s.value)) ⊎ (p + 1 ≡ n)

  pub record Along (u limit room : ℕ) (s : StateFlowState T) (m : Beside T) : Type 0 where
    pub emitted : List (Numbered T)
    pub us : List (Subscriber T)
    pub issued : ℕ
    pub front : List T
    pub is : m.shared ≡ built limit emitted us issued
    pub newest : map (λ e. e.value) emitted ≡ front ++ s.value ∷ []
    pub seat : Away u s us ⊎ Here u s m (length emitted) us
    pub room_left : issued + room ≤ limit

  less : (u limit room : ℕ) (s : StateFlowState T) (m : Beside T) → Along u limit (suc room) s m → Along u limit room s m
  less u limit room s m a = record { emitted = a.emitted; us = a.us; issued = a.issued; front = a.front; is = a.is; newest = a.newest; seat = a.seat; room_left = omega (arith, a.room_left) }

  cached : (u limit room : ℕ) (s : StateFlowState T) (m : Beside T) → Along u limit room s m → cache m.shared ≡ s.value ∷ []
  cached u limit room s m a = ap cache a.is ∙ cache_newest limit a.issued a.emitted a.us a.front s.value a.newest

  log_length : (emitted : List (Numbered T)) (front : List T) (v : T) → map (λ e. e.value) emitted ≡ front ++ v ∷ [] → length emitted ≡ length front + 1
  log_length emitted front v e = let count : length (map (λ (e : Numbered T). e.value) emitted) ≡ length front + 1 = ap length e ∙ length_push front v in omega (arith, count, length-map emitted (λ (e : Numbered T). e.value))

  emitted : (u limit room : ℕ) (s : StateFlowState T) (m : Beside T) (x : T) → Along u limit (suc room) s m → Along u limit room (record s { value = x }) (emitting x m)
  emitted u limit room s m x a =
      let l : a.issued < limit = omega (arith, a.room_left) in
      let joined : map (λ (e : Numbered T). e.value) (a.emitted ++ entry_of x a.issued ∷ []) ≡ map (λ (e : Numbered T). e.value) a.emitted ++ x ∷ [] = map-append (λ (e : Numbered T). e.value) a.emitted (entry_of x a.issued ∷ []) in
      elim a.seat as (λ _. Along u limit room (record s { value = x }) (emitting x m)) [
        | inl away ↦ record {
          emitted = a.emitted ++ entry_of x a.issued ∷ [];
          us = [];
          issued = a.issued + 1;
          front = map (λ (e : Numbered T). e.value) a.emitted;
          is = ap (λ (t : SharedFlowState T). (flow.emit x t).after) (a.is ∙ ap (λ r. built limit a.emitted r a.issued) away.0) ∙ emit_alone x limit a.emitted a.issued l;
          newest = joined;
          seat = inl (refl, away.1);
          room_left = omega (arith, a.room_left);
        }
        | inr here ↦
            let place : (here.p ≡ length a.emitted) ⊎ (here.p + 1 ≡ length a.emitted) = elim here.place as (λ _. (here.p ≡ length a.emitted) ⊎ (here.p + 1 ≡ length a.emitted)) [ inl e ↦ inl e.0 | inr e ↦ inr e ] in
            record {
              emitted = a.emitted ++ entry_of x a.issued ∷ [];
              us = sole here.k (length a.emitted);
              issued = a.issued + 1;
              front = map (λ (e : Numbered T). e.value) a.emitted;
              is = ap (λ (t : SharedFlowState T). (flow.emit x t).after) (a.is ∙ ap (λ r. built limit a.emitted r a.issued) here.row) ∙ emit_one x limit a.emitted here.k here.p a.issued l place;
              newest = joined;
              seat = inr (record { k = here.k; p = length a.emitted; number = here.number; row = refl; last = here.last; old = here.old; place = inr (sym (length_push a.emitted (entry_of x a.issued))) });
              room_left = omega (arith, a.room_left);
            }
      ]

  -- after a call that u did not make, which lets u's last value stay
  others : (u limit room : ℕ) (s s2 : StateFlowState T) (m : Beside T) → s2.value ≡ s.value → s.issued ≤ s2.issued → last_got_by u s2.subscribers ≡ last_got_by u s.subscribers → Along u limit (suc room) s m → Along u limit room s2 m
  others u limit room s s2 m value more same a = record {
    emitted = a.emitted;
    us = a.us;
    issued = a.issued;
    front = a.front;
    is = a.is;
    newest = a.newest ∙ ap (λ v. a.front ++ v ∷ []) (sym value);
    seat = elim a.seat as (λ _. Away u s2 a.us ⊎ Here u s2 m (length a.emitted) a.us) [
      | inl away ↦ inl (away.0, same ∙ away.1)
      | inr here ↦ inr (record {
        k = here.k;
        p = here.p;
        number = here.number;
        row = here.row;
        last = same ∙ here.last;
        old = omega (arith, here.old, more);
        place = elim here.place as (λ _. ((here.p ≡ length a.emitted) × (m.last ≡ Some s2.value)) ⊎ (here.p + 1 ≡ length a.emitted)) [ inl e ↦ inl (e.0, e.1 ∙ ap Some (sym value)) | inr e ↦ inr e ];
      })
    ];
    room_left = omega (arith, a.room_left);
  }

  abbrev pub Kept : ℕ → ℕ → ℕ → StateFlowState T → Beside T → StateCall T → StateReply T → Type 0
  Kept u limit room s m c r = Agrees u m c r × Along u limit room (state_flow_after s c r) (follows u m c r)

  enlisted : (u limit room : ℕ) (s : StateFlowState T) (m : Beside T) (name : List ℕ) → Along u limit (suc room) s m → Kept u limit room s m (Subscribe name) (Subscribed (s.issued + 1))
  enlisted u limit room s m name a = (
    tt,
    split (s.issued + 1 == u)
        (λ t. Along u limit room (record s { subscribers = s.subscribers ++ record { number = s.issued + 1; last = None } ∷ []; issued = s.issued + 1 }) (cond t (subscribing m) m))
        (λ e. let is : s.issued + 1 ≡ u = (Decides-eqb (s.issued + 1) u).0 e in
        elim a.seat as (λ _. Along u limit room (record s { subscribers = s.subscribers ++ record { number = s.issued + 1; last = None } ∷ []; issued = s.issued + 1 }) (subscribing m)) [
          | inl away ↦
              let done = ap (flow.subscribe []) (a.is ∙ ap (λ r. built limit a.emitted r a.issued) away.0) ∙ subscribe_alone limit a.emitted a.issued (omega (arith, a.room_left)) in
              record {
                emitted = a.emitted;
                us = sole (a.issued + 1) (max 0 (length a.emitted - 1));
                issued = a.issued + 1;
                front = a.front;
                is = ap (λ (t : flow.Replied ℕ T). t.after) done;
                newest = a.newest;
                seat = inr (record {
                  k = a.issued + 1;
                  p = max 0 (length a.emitted - 1);
                  number = ap (λ (t : flow.Replied ℕ T). Rattle.flow_law.specs.laws.Conflation.given_number t.reply) done;
                  row = refl;
                  last = last-snoc u s.subscribers (record { number = s.issued + 1; last = None }) away.1 is;
                  old = omega (arith, is);
                  place = inr (omega (arith, log_length a.emitted a.front s.value a.newest));
                });
                room_left = omega (arith, a.room_left);
              }
          | inr here ↦ absurd (omega (arith, here.old, is))
        ])
        (λ e. others u limit room s (record s { subscribers = s.subscribers ++ record { number = s.issued + 1; last = None } ∷ []; issued = s.issued + 1 }) m refl (omega arith)
        (last-snoc_other u s.subscribers (record { number = s.issued + 1; last = None }) e) a),
  )

  -- u's own reads
  read_away : (u limit room : ℕ) (s : StateFlowState T) (m : Beside T) (k : ℕ) → Along u limit (suc room) s m → last_got_by u s.subscribers ≡ None → (flow.next k m.shared ≡ flow.answer Gone m.shared)
  read_away u limit room s m k a none = elim a.seat as (λ _. flow.next k m.shared ≡ flow.answer Gone m.shared) [
    | inl away ↦ let is : m.shared ≡ built limit a.emitted [] a.issued = a.is ∙ ap (λ r. built limit a.emitted r a.issued) away.0 in
        subst (λ t. flow.next k t ≡ flow.answer Gone t) (sym is) refl
    | inr here ↦ absurd (none_or_some m.last (sym none ∙ here.last))
  ]

  got_gone : (u limit room n : ℕ) (s : StateFlowState T) (m : Beside T) → Along u limit (suc room) s m → last_got_by n s.subscribers ≡ None → Kept u limit room s m (TakeNext n) (Received Gone)
  got_gone u limit room n s m a none = split (n == u)
      (λ t. (n == u) ≡ t → (n ≡ u → (k : ℕ) → m.number ≡ Some k → Conflated m.last (flow.next k m.shared).reply Gone) × Along u limit room s (cond t (option_map_or (λ k. reading k m) m.number m) m))
      (λ e _. let is : n ≡ u = (Decides-eqb n u).0 e in
      let gone : last_got_by u s.subscribers ≡ None = subst (λ j. last_got_by j s.subscribers ≡ None) is none in (
        λ _ k _. subst (λ (x : flow.Replied _ T). Conflated m.last x.reply Gone) (sym (read_away u limit room s m k a gone)) refl,
        stays m.number (λ k. read_away u limit room s m k a gone),
      ))
      (λ e _. (λ is k _. subst (λ (x : flow.Replied _ T). Conflated m.last x.reply Gone) (sym (read_away u limit room s m k a (subst (λ j. last_got_by j s.subscribers ≡ None) is none))) refl, less u limit room s m a)) refl
    where
      stays : (o : Option ℕ) → ((k : ℕ) → flow.next k m.shared ≡ flow.answer Gone m.shared) → Along u limit room s (option_map_or (λ k. reading k m) o m)
      stays None f = less u limit room s m a
      stays (Some k) f = subst (λ x. Along u limit room s (record m { shared = x.after; last = passed_on x.reply m.last })) (sym (f k)) (less u limit room s m a)

  abbrev OwnRead : ℕ → ℕ → ℕ → StateFlowState T → Beside T → Next T → Type 0
  OwnRead u limit room s m r =
      ((k : ℕ) → m.number ≡ Some k → Conflated m.last (flow.next k m.shared).reply r)
      × Along u limit room (state_flow_after s (TakeNext u) (Received r)) (option_map_or (λ k. reading k m) m.number m)

  own_read : (u limit room k : ℕ) (s : StateFlowState T) (m : Beside T) (r : Next T) (x : flow.Replied (Next T) T) → m.number ≡ Some k → flow.next k m.shared ≡ x → Conflated m.last x.reply r
      → Along u limit room (state_flow_after s (TakeNext u) (Received r)) (record m { shared = x.after; last = passed_on x.reply m.last }) → OwnRead u limit room s m r
  own_read u limit room k s m r x number reads c a = (
    λ j e. subst (λ i. Conflated m.last (flow.next i m.shared).reply r) (same_some k j (sym number ∙ e)) (subst (λ (y : flow.Replied (Next T) T). Conflated m.last y.reply r) (sym reads) c),
    subst (λ o. Along u limit room (state_flow_after s (TakeNext u) (Received r)) (option_map_or (λ k. reading k m) o m)) (sym number)
        (subst (λ (y : flow.Replied (Next T) T). Along u limit room (state_flow_after s (TakeNext u) (Received r)) (record m { shared = y.after; last = passed_on y.reply m.last })) (sym reads) a),
  )

  reads_behind : (u limit room : ℕ) (s : StateFlowState T) (m : Beside T) (a : Along u limit (suc room) s m) (here : Here u s m (length a.emitted) a.us) → here.p ≡ length a.emitted → flow.next here.k m.shared ≡ flow.answer Empty m.shared
  reads_behind u limit room s m a here e =
      let is : m.shared ≡ built limit a.emitted (sole here.k here.p) a.issued = a.is ∙ ap (λ r. built limit a.emitted r a.issued) here.row in
      subst (λ t. flow.next here.k t ≡ flow.answer Empty t) (sym is) (next_behind here.k here.p limit a.issued a.emitted e)

  reads_newest : (u limit room : ℕ) (s : StateFlowState T) (m : Beside T) (a : Along u limit (suc room) s m) (here : Here u s m (length a.emitted) a.us) → here.p + 1 ≡ length a.emitted
      → flow.next here.k m.shared ≡ flow.answer (Value s.value) (built limit a.emitted (sole here.k (here.p + 1)) a.issued)
  reads_newest u limit room s m a here e =
      let is : m.shared ≡ built limit a.emitted (sole here.k here.p) a.issued = a.is ∙ ap (λ r. built limit a.emitted r a.issued) here.row in
      ap (flow.next here.k) is ∙ next_newest here.k here.p limit a.issued a.emitted s.value
      (ap (λ l. slice_get l here.p) a.newest ∙ newest_at a.front s.value here.p (omega (arith, e, log_length a.emitted a.front s.value a.newest)))

  -- the one subscriber has now passed the newest value
  caught_up : (u limit room : ℕ) (s s2 : StateFlowState T) (m : Beside T) (a : Along u limit (suc room) s m) (here : Here u s m (length a.emitted) a.us) → here.p + 1 ≡ length a.emitted
      → s2.value ≡ s.value → s2.issued ≡ s.issued → last_got_by u s2.subscribers ≡ Some (Some s.value)
      → Along u limit room s2 (record m { shared = built limit a.emitted (sole here.k (here.p + 1)) a.issued; last = Some s.value })
  caught_up u limit room s s2 m a here e value issued got = record {
    emitted = a.emitted;
    us = sole here.k (here.p + 1);
    issued = a.issued;
    front = a.front;
    is = refl;
    newest = a.newest ∙ ap (λ v. a.front ++ v ∷ []) (sym value);
    seat = inr (record { k = here.k; p = here.p + 1; number = here.number; row = refl; last = got; old = omega (arith, here.old, issued); place = inl (e, ap Some (sym value)) });
    room_left = omega (arith, a.room_left);
  }

  own_empty : (u limit room : ℕ) (s : StateFlowState T) (m : Beside T) (a : Along u limit (suc room) s m) (here : Here u s m (length a.emitted) a.us) → m.last ≡ Some s.value → OwnRead u limit room s m Empty
  own_empty u limit room s m a here same = elim here.place as (λ _. OwnRead u limit room s m Empty) [
    | inl e ↦ own_read u limit room here.k s m Empty (flow.answer Empty m.shared) here.number (reads_behind u limit room s m a here e.0) refl (less u limit room s m a)
    | inr e ↦ own_read u limit room here.k s m Empty (flow.answer (Value s.value) (built limit a.emitted (sole here.k (here.p + 1)) a.issued)) here.number (reads_newest u limit room s m a here e) (inl (same, refl))
        (caught_up u limit room s s m a here e refl refl (here.last ∙ ap Some same))
  ]

  own_value : (u limit room : ℕ) (s : StateFlowState T) (m : Beside T) (a : Along u limit (suc room) s m) (here : Here u s m (length a.emitted) a.us) → m.last ≢ Some s.value → OwnRead u limit room s m (Value s.value)
  own_value u limit room s m a here other = elim here.place as (λ _. OwnRead u limit room s m (Value s.value)) [
    | inl e ↦ absurd (other e.1)
    | inr e ↦ own_read u limit room here.k s m (Value s.value) (flow.answer (Value s.value) (built limit a.emitted (sole here.k (here.p + 1)) a.issued)) here.number (reads_newest u limit room s m a here e) (inr (other, refl))
        (caught_up u limit room s (record s { subscribers = with_last u s.value s.subscribers }) m a here e refl refl (last-with u s.value m.last s.subscribers here.last))
  ]

  here_from : (u limit room : ℕ) (s : StateFlowState T) (m : Beside T) (a : Along u limit (suc room) s m) (last : Option T) → last_got_by u s.subscribers ≡ Some last → Here u s m (length a.emitted) a.us
  here_from u limit room s m a last at = elim a.seat as (λ _. Here u s m (length a.emitted) a.us) [
    | inl away ↦ absurd (none_or_some last (sym away.1 ∙ at))
    | inr here ↦ here
  ]

  got_empty : (u limit room n : ℕ) (s : StateFlowState T) (m : Beside T) (last : Option T) → Along u limit (suc room) s m → last_got_by n s.subscribers ≡ Some last → last ≡ Some s.value → Kept u limit room s m (TakeNext n) (Received Empty)
  got_empty u limit room n s m last a at same = split (n == u)
      (λ t. (n == u) ≡ t → (n ≡ u → (k : ℕ) → m.number ≡ Some k → Conflated m.last (flow.next k m.shared).reply Empty) × Along u limit room s (cond t (option_map_or (λ k. reading k m) m.number m) m))
      (λ e _. let is : n ≡ u = (Decides-eqb n u).0 e in (λ _. (own is).0, (own is).1))
      (λ e _. (λ is. (own is).0, less u limit room s m a)) refl
    where
      own : n ≡ u → OwnRead u limit room s m Empty
      own is =
          let here = here_from u limit room s m a last (subst (λ j. last_got_by j s.subscribers ≡ Some last) is at) in
          own_empty u limit room s m a here (same_some m.last last (sym here.last ∙ subst (λ j. last_got_by j s.subscribers ≡ Some last) is at) ∙ same)

  got_value : (u limit room n : ℕ) (s : StateFlowState T) (m : Beside T) (last : Option T) → Along u limit (suc room) s m → last_got_by n s.subscribers ≡ Some last → last ≢ Some s.value → Kept u limit room s m (TakeNext n) (Received (Value s.value))
  got_value u limit room n s m last a at other = split (n == u)
      (λ t. (n == u) ≡ t → (n ≡ u → (k : ℕ) → m.number ≡ Some k → Conflated m.last (flow.next k m.shared).reply (Value s.value))
      × Along u limit room (record s { subscribers = with_last n s.value s.subscribers }) (cond t (option_map_or (λ k. reading k m) m.number m) m))
      (λ e _. let is : n ≡ u = (Decides-eqb n u).0 e in (
        λ _. (own is).0,
        subst (λ j. Along u limit room (record s { subscribers = with_last j s.value s.subscribers }) (option_map_or (λ k. reading k m) m.number m)) (sym is) (own is).1,
      ))
      (λ e _. (λ is. (own is).0, others u limit room s (record s { subscribers = with_last n s.value s.subscribers }) m refl (omega arith) (last-with_other u n s.value s.subscribers e) a)) refl
    where
      own : n ≡ u → OwnRead u limit room s m (Value s.value)
      own is =
          let here = here_from u limit room s m a last (subst (λ j. last_got_by j s.subscribers ≡ Some last) is at) in
          own_value u limit room s m a here (λ k. other (sym (same_some m.last last (sym here.last ∙ subst (λ j. last_got_by j s.subscribers ≡ Some last) is at)) ∙ k))

  left_both : (u limit room k : ℕ) (s : StateFlowState T) (m : Beside T) (a : Along u limit (suc room) s m) → (o : Option ℕ) → m.number ≡ o → Along u limit room (record s { subscribers = without_subscriber u s.subscribers }) (option_map_or (λ k. leaving k m) o m)
  left_both u limit room k s m a o e = elim a.seat as (λ _. Along u limit room (record s { subscribers = without_subscriber u s.subscribers }) (option_map_or (λ k. leaving k m) o m)) [
    | inl away ↦ let is : m.shared ≡ built limit a.emitted [] a.issued = a.is ∙ ap (λ r. built limit a.emitted r a.issued) away.0 in gone is o
    | inr here ↦
        let is : m.shared ≡ built limit a.emitted (sole here.k here.p) a.issued = a.is ∙ ap (λ r. built limit a.emitted r a.issued) here.row in
        subst (λ q. Along u limit room (record s { subscribers = without_subscriber u s.subscribers }) (option_map_or (λ k. leaving k m) q m)) (sym here.number ∙ e)
        (away_after (leaving here.k m) (ap (λ t. (flow.unsubscribe here.k t).after) is ∙ leave_sole here.k here.p limit a.issued a.emitted))
  ]
    where
      away_after : (m2 : Beside T) → m2.shared ≡ built limit a.emitted [] a.issued → Along u limit room (record s { subscribers = without_subscriber u s.subscribers }) m2
      away_after m2 is = record {
        emitted = a.emitted;
        us = [];
        issued = a.issued;
        front = a.front;
        is = is;
        newest = a.newest;
        seat = inl (refl, last-without u s.subscribers);
        room_left = omega (arith, a.room_left);
      }

      gone : m.shared ≡ built limit a.emitted [] a.issued → (o : Option ℕ) → Along u limit room (record s { subscribers = without_subscriber u s.subscribers }) (option_map_or (λ k. leaving k m) o m)
      gone is None = away_after m is
      gone is (Some k) = away_after (leaving k m) (ap (λ t. (flow.unsubscribe k t).after) is)

  departed : (u limit room n : ℕ) (b : Bool) (s : StateFlowState T) (m : Beside T) → Along u limit (suc room) s m → Kept u limit room s m (Unsubscribe n) (Answered b)
  departed u limit room n b s m a = (
    tt,
    split (n == u)
        (λ t. Along u limit room (record s { subscribers = without_subscriber n s.subscribers }) (cond t (option_map_or (λ k. leaving k m) m.number m) m))
        (λ e. subst (λ j. Along u limit room (record s { subscribers = without_subscriber j s.subscribers }) (option_map_or (λ k. leaving k m) m.number m)) (sym ((Decides-eqb n u).0 e)) (left_both u limit room 0 s m a m.number refl))
        (λ e. others u limit room s (record s { subscribers = without_subscriber n s.subscribers }) m refl (omega arith) (last-without_other u n s.subscribers e) a),
  )

  received_kept : (u limit room n : ℕ) (s : StateFlowState T) (m : Beside T) (r : StateReply T) → Along u limit (suc room) s m → (o : Option (Option T)) → last_got_by n s.subscribers ≡ o → Receives s.value o r → Kept u limit room s m (TakeNext n) r
  received_kept u limit room n s m r a None at is = subst (λ k. Kept u limit room s m (TakeNext n) k) (sym is) (got_gone u limit room n s m a at)
  received_kept u limit room n s m r a (Some last) at is = elim is as (λ _. Kept u limit room s m (TakeNext n) r) [
    | inl e ↦ subst (λ k. Kept u limit room s m (TakeNext n) k) (sym e.1) (got_empty u limit room n s m last a at e.0)
    | inr e ↦ subst (λ k. Kept u limit room s m (TakeNext n) k) (sym e.1) (got_value u limit room n s m last a at e.0)
  ]

  -- each answer
  answered : (u limit room : ℕ) (s : StateFlowState T) (m : Beside T) (c : StateCall T) (r : StateReply T) → Along u limit (suc room) s m → IsReply s c r → Kept u limit room s m c r
  answered u limit room s m GetValue r a is = subst (λ k. Kept u limit room s m GetValue k) (sym is) (cached u limit (suc room) s m a, less u limit room s m a)
  answered u limit room s m (Set x) r a is = (tt, emitted u limit room s m x a)
  answered u limit room s m (TryEmit x) r a is = (tt, emitted u limit room s m x a)
  answered u limit room s m (CompareAndSet x y) r a is = elim is as (λ _. Kept u limit room s m (CompareAndSet x y) r) [
    | inl e ↦ subst (λ k. Kept u limit room s m (CompareAndSet x y) k) (sym e.1) (tt, emitted u limit room s m y a)
    | inr e ↦ subst (λ k. Kept u limit room s m (CompareAndSet x y) k) (sym e.1) (tt, less u limit room s m a)
  ]
  answered u limit room s m (Subscribe name) r a is = subst (λ k. Kept u limit room s m (Subscribe name) k) (sym is)
      (cond_both (is_state_exhausted s) (Refused Exhausted) (Subscribed (s.issued + 1)) (λ k. Kept u limit room s m (Subscribe name) k) (λ _. (tt, less u limit room s m a)) (λ _. enlisted u limit room s m name a))
  answered u limit room s m (TakeNext n) r a is = received_kept u limit room n s m r a (last_got_by n s.subscribers) refl is
  answered u limit room s m (Unsubscribe n) r a is = subst (λ k. Kept u limit room s m (Unsubscribe n) k) (sym is) (departed u limit room n (is_some (last_got_by n s.subscribers)) s m a)
  answered u limit room s m SubscriptionCount r a is = (tt, less u limit room s m a)
  answered u limit room s m ReplayCache r a is = subst (λ k. Kept u limit room s m ReplayCache k) (sym is) (cached u limit (suc room) s m a, less u limit room s m a)
  answered u limit room s m ResetReplayCache r a is = (tt, less u limit room s m a)

  -- out of memory
  short : (u limit room : ℕ) (s : StateFlowState T) (m : Beside T) (c : StateCall T) → Along u limit (suc room) s m → MayNeedMemory s c → Kept u limit room s m c (Refused OutOfMemory)
  short u limit room s m GetValue a h = (tt, less u limit room s m a)
  short u limit room s m (Set x) a h = absurd h
  short u limit room s m (TryEmit x) a h = absurd h
  short u limit room s m (CompareAndSet x y) a h = absurd h
  short u limit room s m (Subscribe name) a h = (tt, less u limit room s m a)
  short u limit room s m (TakeNext n) a h = (tt, less u limit room s m a)
  short u limit room s m (Unsubscribe n) a h = absurd h
  short u limit room s m SubscriptionCount a h = absurd h
  short u limit room s m ReplayCache a h = (tt, less u limit room s m a)
  short u limit room s m ResetReplayCache a h = absurd h

  pub agree : (u limit : ℕ) (s : StateFlowState T) (m : Beside T) (h : StateHistory T) → Along u limit (length h) s m → IsLegalState s h → AgreeAll u m h
  agree u limit s m [] a legal = tt
  agree u limit s m (e ∷ es) a legal =
      let step : Kept u limit (length es) s m e.what.call e.what.reply = elim (state_replies_cases s e.what.call e.what.reply legal.0) as (λ _. Kept u limit (length es) s m e.what.call e.what.reply) [
        | inl is ↦ answered u limit (length es) s m e.what.call e.what.reply a is
        | inr is ↦ subst (λ k. Kept u limit (length es) s m e.what.call k) (sym is.0) (short u limit (length es) s m e.what.call a is.1)
      ] in
      (step.0, agree u limit (state_flow_after s e.what.call e.what.reply) (follows u m e.what.call e.what.reply) es step.1 legal.1)

  pub conflates : (limit : ℕ) (first : T) (h : StateHistory T) → IsLegalState (first_state_flow limit first) h → (u unreached : ℕ) → length h < unreached → AgreeAll u (beside unreached first) h
  conflates limit first h legal u unreached l = agree u unreached (first_state_flow limit first) (beside unreached first) h (record {
    emitted = entry_of first 0 ∷ [];
    us = [];
    issued = 1;
    front = [];
    is = emit_alone first unreached [] 0 (omega (arith, l));
    newest = refl;
    seat = inl (refl, refl);
    room_left = omega (arith, l);
  }) legal
