-- One step of a checker's state and one event of the documented state flow: each leads to the other. Begin with `leads` and `only`.
use Rattle.std.proofs.Common.{◌≡◌, ◌≢◌, ℕ, ◌+◌, ◌<◌, Bool, true, false, ◌==◌, cond, List, [], ◌∷◌, length, Option, Some, None, refl, sym, ap, ◌∙◌, subst, inl, inr, arith, ne_eqb}
use Rattle.std.specs.Prelude.{◌⊎◌, is_some}
use Rattle.std.proofs.lemmas.Bool.{cond-false}
use Rattle.std.proofs.lemmas.Bool.Decides.{eqb_tells}
use Rattle.std.proofs.lemmas.Option.{same_Some}
use Rattle.flow_law.specs.declared.fault.FlowFault.TheVariants.{Exhausted}
use Rattle.flow_law.specs.declared.outcome.Next.TheVariants as next
use Rattle.flow_law.specs.declared.call.StateCall.TheVariants as call
use Rattle.flow_law.specs.declared.call.StateReply.{StateReply}
use Rattle.flow_law.specs.declared.call.StateReply.TheVariants as reply
use Rattle.flow_law.specs.declared.states.StateFlowState.{StateFlowState}
use Rattle.flow_law.specs.history.History.{Owner, with_owner, MaySpeak}
use Rattle.flow_law.specs.flow.StateFlow.{last_got_by, with_last, is_state_exhausted, state_flow_after, Receives, StateFlowReplies, state_flow_gives, state_flow_speaks_of, state_flow}
use Rattle.flow_law.proofs.Rows.{split}
use Rattle.flow_law.proofs.StateLawful.{enrolls}
use Rattle.flow_check.specs.declared.state_calls.StateOperation.{StateOperation}
use Rattle.flow_check.specs.declared.state_calls.StateOperation.TheVariants as operation
use Rattle.flow_check.specs.declared.state_calls.StateAnswer.{StateAnswer}
use Rattle.flow_check.specs.declared.state_calls.StateAnswer.TheVariants as answer
use Rattle.flow_check.specs.StateRecords.{caller_name, state_call_of, reply_of, HasNoStateSubscription, MayMakeState}
use Rattle.flow_check.specs.Subscribed.{present}
use Rattle.flow_check.specs.StateMachine.{StateKept, reader_of, subscribe_answer, state_next_answer, unsubscribe_answer, state_own_answer, with_reader, state_moved}
use Rattle.flow_check.proofs.StateSeats.{Seat, StandsAs, IsSound, IsOwn, is_its, later, received, had, left, subscribed}

abbrev tested : Bool → StateReply ℕ
tested t = reply.Answered t

-- ---- what is next

next_value : (v w : ℕ) (o : Option (Option ℕ)) → state_next_answer v o ≡ Some (answer.Value w) → (last : Option ℕ) × (o ≡ Some last) × (v ≡ w)
next_value v w None h = absurd (cc)
next_value v w (Some None) h = let e = same_Some (answer.Value v) (answer.Value w) h in (None, refl, cc)
next_value v w (Some (Some x)) h = (
  Some x,
  refl,
  split (x == v) (λ b. Some (cond b answer.Empty (answer.Value v)) ≡ Some (answer.Value w) → v ≡ w)
      (λ _ q. let e = same_Some answer.Empty (answer.Value w) q in absurd (cc)) (λ _ q. let e = same_Some (answer.Value v) (answer.Value w) q in cc) h,
)

next_empty : (v : ℕ) (o : Option (Option ℕ)) → state_next_answer v o ≡ Some answer.Empty → o ≡ Some (Some v)
next_empty v None h = absurd (cc)
next_empty v (Some None) h = let e = same_Some (answer.Value v) answer.Empty h in absurd (cc)
next_empty v (Some (Some x)) h = elim (eqb_tells x v) [
  | inl e ↦ ap (λ (n : ℕ). Some (Some n)) e.1
  | inr e ↦ let q = same_Some (answer.Value v) answer.Empty (subst (λ (b : Bool). Some (cond b answer.Empty (answer.Value v)) ≡ Some answer.Empty) e.0 h) in absurd (cc)
]

abbrev NextGiven : StateFlowState ℕ → ℕ → StateAnswer → Type 0
NextGiven s u a = (r : StateReply ℕ) × (reply_of u operation.Next a ≡ Some r) × StateFlowReplies s (call.TakeNext u) r

receives_here : (s : StateFlowState ℕ) (u v : ℕ) (last : Option ℕ) (r : StateReply ℕ) → s.value ≡ v → last_got_by u s.subscribers ≡ Some last → Receives v (Some last) r → Receives s.value (last_got_by u s.subscribers) r
receives_here s u v last r is there x = subst (λ (o : Option (Option ℕ)). Receives s.value o r) (sym there) (subst (λ (w : ℕ). Receives w (Some last) r) (sym is) x)

next_replies : (s : StateFlowState ℕ) (u v : ℕ) (last : Option ℕ) (own : StateAnswer) → s.value ≡ v → last_got_by u s.subscribers ≡ Some last → state_next_answer v (Some last) ≡ Some own → NextGiven s u own
next_replies s u v None own is there h = subst (NextGiven s u) (same_Some (answer.Value v) own h)
    (reply.Received (next.Value v), refl, receives_here s u v None (reply.Received (next.Value v)) is there (inr (λ q. absurd (cc), refl)))
next_replies s u v (Some x) own is there h = elim (eqb_tells x v) [
  | inl q ↦ subst (NextGiven s u) (same_Some answer.Empty own (subst (λ (b : Bool). Some (cond b answer.Empty (answer.Value v)) ≡ Some own) q.0 h))
      (reply.Received next.Empty, refl, receives_here s u v (Some x) (reply.Received next.Empty) is there (inl (ap Some q.1, refl)))
  | inr q ↦ subst (NextGiven s u) (same_Some (answer.Value v) own (subst (λ (b : Bool). Some (cond b answer.Empty (answer.Value v)) ≡ Some own) q.0 h))
      (reply.Received (next.Value v), refl, receives_here s u v (Some x) (reply.Received (next.Value v)) is there (inr (λ p. q.1 (same_Some x v p), refl)))
]

next_only_value : (v w : ℕ) (last : Option ℕ) → Receives v (Some last) (reply.Received (next.Value w)) → state_next_answer v (Some last) ≡ Some (answer.Value w)
next_only_value v w None h = elim h [ inl q ↦ let e = q.1 in absurd (cc) | inr q ↦ let e = q.1 in let is : v ≡ w = cc in ap (λ (n : ℕ). Some (answer.Value n)) is ]
next_only_value v w (Some x) h = elim h [
  | inl q ↦ let e = q.1 in absurd (cc)
  | inr q ↦ let e = q.1 in let is : v ≡ w = cc in
      ap (λ (b : Bool). Some (cond b answer.Empty (answer.Value v))) (ne_eqb x v (λ p. q.0 (ap Some p))) ∙ ap (λ (n : ℕ). Some (answer.Value n)) is
]

next_only_empty : (v : ℕ) (last : Option ℕ) → Receives v (Some last) (reply.Received next.Empty) → state_next_answer v (Some last) ≡ Some answer.Empty
next_only_empty v None h = elim h [ inl q ↦ let e = q.0 in absurd (cc) | inr q ↦ let e = q.1 in absurd (cc) ]
next_only_empty v (Some x) h = elim h [
  | inl q ↦ elim (eqb_tells x v) [
    | inl e ↦ ap (λ (b : Bool). Some (cond b answer.Empty (answer.Value v))) e.0
    | inr e ↦ absurd (e.1 (same_Some x v q.0))
  ]
  | inr q ↦ let e = q.1 in absurd (cc)
]

-- a number that has no subscriber receives nothing
value_there : (v w : ℕ) (o : Option (Option ℕ)) → Receives v o (reply.Received (next.Value w)) → o ≡ None → ⊥
value_there v w None h e = absurd (cc)
value_there v w (Some last) h e = absurd (cc)

empty_there : (v : ℕ) (o : Option (Option ℕ)) → Receives v o (reply.Received next.Empty) → o ≡ None → ⊥
empty_there v None h e = absurd (cc)
empty_there v (Some last) h e = absurd (cc)

left_there : (o : Option (Option ℕ)) → tested true ≡ tested (is_some o) → o ≡ None → ⊥
left_there None h e = absurd (cc)
left_there (Some last) h e = absurd (cc)

was_subscribed : (o : Option (Option ℕ)) → unsubscribe_answer o ≡ Some answer.Done → (last : Option ℕ) × (o ≡ Some last)
was_subscribed None h = absurd (cc)
was_subscribed (Some last) h = (last, refl)

was_not_subscribed : (o : Option (Option ℕ)) → subscribe_answer o ≡ Some answer.Done → o ≡ None
was_not_subscribed None h = refl
was_not_subscribed (Some last) h = absurd (cc)

module _ (size : ℕ) (m : StateKept) (k : ℕ) (s : StateFlowState ℕ) (owners : List Owner) (st : StandsAs size m k s owners) (sound : IsSound s) (caller : ℕ) (near : caller < size) where
  -- ---- the state after

  -- after this call and this reply the moved state stands for what follows
  abbrev pub Moved : StateOperation → ℕ → StateReply ℕ → Type 0
  Moved op u r = StandsAs size (state_moved caller op m) (k + 1) (state_flow_after s (state_call_of caller u op) r) (with_owner (state_flow_gives (caller_name caller) (state_call_of caller u op) r) owners)

  abbrev pub Speaks : StateOperation → ℕ → Type 0
  Speaks op u = MaySpeak {T = ℕ} state_flow (state_flow_speaks_of (state_call_of caller u op)) owners (caller_name caller)

  sets : (v : ℕ) → StandsAs size (record m { value = v }) (k + 1) (record s { value = v }) owners
  sets v = let upto = st.issued in record { value = refl; readers = st.readers; count = st.count; seats = st.seats; issued = omega arith; owned = st.owned }

  exchanges : (a b u : ℕ) (t : Bool) → StandsAs size (cond t (record m { value = b }) m) (k + 1) (state_flow_after s (call.CompareAndSet a b) (reply.Answered t)) owners
  exchanges a b u true = sets b
  exchanges a b u false = later size m k s owners st

  pub moves : (op : StateOperation) (own : StateAnswer) (u : ℕ) (r : StateReply ℕ) → state_own_answer caller op m ≡ Some own → reply_of u op own ≡ Some r
      → StateFlowReplies s (state_call_of caller u op) r → Speaks op u → Moved op u r
  moves operation.Value own u r a h rep sp = later size m k s owners st
  moves (operation.Set v) own u r a h rep sp = sets v
  moves (operation.TryEmit v) own u r a h rep sp = sets v
  moves (operation.CompareAndSet x y) (answer.Truth t) u r a h rep sp =
      let e = same_Some (answer.Truth (m.value == x)) (answer.Truth t) a in
      let is : t ≡ (m.value == x) = cc in
      subst (Moved (operation.CompareAndSet x y) u) (same_Some (tested t) r h)
      (subst (λ (b : Bool). StandsAs size (cond b (record m { value = y }) m) (k + 1) (state_flow_after s (call.CompareAndSet x y) (tested t)) owners) is (exchanges x y u t))
  moves (operation.CompareAndSet x y) _ u r a h rep sp = absurd (cc)
  moves operation.Subscribe answer.Done u r a h rep sp =
      let is = same_Some (reply.Subscribed u) r h in
      let new = enrolls s (caller_name caller) u (subst (StateFlowReplies s (call.Subscribe (caller_name caller))) (sym is) rep) in
      subst (Moved operation.Subscribe u) is (subscribed size m k s owners st caller near u sound new (was_not_subscribed (reader_of caller m.readers) a))
  moves operation.Subscribe _ u r a h rep sp = absurd (cc)
  moves operation.Next (answer.Value v) u r a h rep sp =
      let is = same_Some (reply.Received (next.Value v)) r h in
      let there = value_there s.value v (last_got_by u s.subscribers) (subst (StateFlowReplies s (call.TakeNext u)) (sym is) rep) in
      let was = next_value m.value v (reader_of caller m.readers) a in
      subst (Moved operation.Next u) is
      (subst (λ (x : ℕ). StandsAs size (with_reader caller (Some (Some x)) m) (k + 1) (record s { subscribers = with_last u v s.subscribers }) owners) (sym was.2)
      (received size m k s owners st caller near u v was.0 was.1 sp there))
  moves operation.Next answer.Empty u r a h rep sp =
      subst (Moved operation.Next u) (same_Some (reply.Received next.Empty) r h)
      (had size m k s owners st caller near m.value (next_empty m.value (reader_of caller m.readers) a))
  moves operation.Next _ u r a h rep sp = absurd (cc)
  moves operation.Unsubscribe answer.Done u r a h rep sp =
      let is = same_Some (tested true) r h in
      let there = left_there (last_got_by u s.subscribers) (subst (StateFlowReplies s (call.Unsubscribe u)) (sym is) rep) in
      let was = was_subscribed (reader_of caller m.readers) a in
      subst (Moved operation.Unsubscribe u) is (left size m k s owners st caller near u was.0 sound was.1 sp there)
  moves operation.Unsubscribe _ u r a h rep sp = absurd (cc)
  moves operation.SubscriptionCount own u r a h rep sp = later size m k s owners st
  moves operation.ReplayCache own u r a h rep sp = later size m k s owners st

  -- ---- a step is an event

  abbrev pub Led : StateOperation → StateAnswer → Type 0
  Led op own = (u : ℕ) × ((r : StateReply ℕ) × (reply_of u op own ≡ Some r) × StateFlowReplies s (state_call_of caller u op) r × Speaks op u × MayMakeState s owners caller op)

  leads_next : (own : StateAnswer) (reader : Option (Option ℕ)) → reader_of caller m.readers ≡ reader → state_next_answer m.value reader ≡ Some own → Led operation.Next own
  leads_next own None is h = absurd (cc)
  leads_next own (Some last) is h =
      let seat = subst (Seat owners s.subscribers caller) is (st.seats caller near) in
      let found = next_replies s seat.0 m.value last own st.value seat.2 h in
      (seat.0, (found.0, found.1, found.2, seat.1, tt))

  leads_unsubscribe : (own : StateAnswer) (reader : Option (Option ℕ)) → reader_of caller m.readers ≡ reader → unsubscribe_answer reader ≡ Some own → Led operation.Unsubscribe own
  leads_unsubscribe own None is h = absurd (cc)
  leads_unsubscribe own (Some last) is h =
      let seat = subst (Seat owners s.subscribers caller) is (st.seats caller near) in
      subst (Led operation.Unsubscribe) (same_Some answer.Done own h)
      (seat.0, (tested true, refl, ap (λ (o : Option (Option ℕ)). tested (is_some o)) (sym seat.2), seat.1, tt))

  leads_subscribe : (own : StateAnswer) (reader : Option (Option ℕ)) → reader_of caller m.readers ≡ reader → subscribe_answer reader ≡ Some own → s.issued ≢ s.limit → Led operation.Subscribe own
  leads_subscribe own (Some last) is h room = absurd (cc)
  leads_subscribe own None is h room =
      subst (Led operation.Subscribe) (same_Some answer.Done own h) (
        s.issued + 1,
        (
          reply.Subscribed (s.issued + 1),
          refl,
          sym (cond-false (is_state_exhausted s) (reply.Refused Exhausted) (reply.Subscribed (s.issued + 1)) (ne_eqb s.issued s.limit room)),
          tt,
          subst (Seat owners s.subscribers caller) is (st.seats caller near),
        ),
      )

  pub leads : (op : StateOperation) (own : StateAnswer) → state_own_answer caller op m ≡ Some own → s.issued ≢ s.limit → Led op own
  leads operation.Value own a room = subst (Led operation.Value) (same_Some (answer.Value m.value) own a) (0, (reply.Got m.value, refl, ap reply.Got (sym st.value), tt, tt))
  leads (operation.Set v) own a room = subst (Led (operation.Set v)) (same_Some answer.Done own a) (0, (reply.Done, refl, refl, tt, tt))
  leads (operation.TryEmit v) own a room = subst (Led (operation.TryEmit v)) (same_Some (answer.Truth true) own a) (0, (tested true, refl, refl, tt, tt))
  leads (operation.CompareAndSet x y) own a room = subst (Led (operation.CompareAndSet x y)) (same_Some (answer.Truth (m.value == x)) own a) (
    0,
    (
      tested (m.value == x),
      refl,
      elim (eqb_tells m.value x) [
        | inl e ↦ inl (st.value ∙ e.1, ap tested e.0)
        | inr e ↦ inr (λ q. e.1 (sym st.value ∙ q), ap tested e.0)
      ],
      tt,
      tt,
    ),
  )
  leads operation.Subscribe own a room = leads_subscribe own (reader_of caller m.readers) refl a room
  leads operation.Next own a room = leads_next own (reader_of caller m.readers) refl a
  leads operation.Unsubscribe own a room = leads_unsubscribe own (reader_of caller m.readers) refl a
  leads operation.SubscriptionCount own a room = subst (Led operation.SubscriptionCount) (same_Some (answer.Number (present m.readers)) own a)
      (0, (reply.Counted (present m.readers), refl, ap reply.Counted (sym st.count), tt, tt))
  leads operation.ReplayCache own a room = subst (Led operation.ReplayCache) (same_Some (answer.Value m.value) own a)
      (0, (reply.Cached (m.value ∷ []), refl, ap (λ (v : ℕ). reply.Cached (v ∷ [])) (sym st.value), tt, tt))

  -- ---- an event is a step

  only_exchange : (x : ℕ) (t : Bool) → ((s.value ≡ x) × (tested t ≡ tested true)) ⊎ ((s.value ≢ x) × (tested t ≡ tested false)) → (m.value == x) ≡ t
  only_exchange x t h = elim (eqb_tells m.value x) [
    | inl e ↦ elim h [ inl w ↦ let r = w.1 in let is : t ≡ true = cc in e.0 ∙ sym is | inr w ↦ absurd (w.0 (st.value ∙ e.1)) ]
    | inr e ↦ elim h [ inl w ↦ absurd (e.1 (sym st.value ∙ w.0)) | inr w ↦ let r = w.1 in let is : t ≡ false = cc in e.0 ∙ sym is ]
  ]

  only_subscribe : (reader : Option (Option ℕ)) → Seat owners s.subscribers caller reader → HasNoStateSubscription s owners caller → subscribe_answer reader ≡ Some answer.Done
  only_subscribe None seat none = refl
  only_subscribe (Some last) seat none = let e = none seat.0 seat.1 in let f = seat.2 in absurd (cc)

  only_value : (u v : ℕ) (reader : Option (Option ℕ)) → Seat owners s.subscribers caller reader → IsOwn caller u owners → Receives s.value (last_got_by u s.subscribers) (reply.Received (next.Value v))
      → state_next_answer m.value reader ≡ Some (answer.Value v)
  only_value u v None seat own h = absurd (value_there s.value v (last_got_by u s.subscribers) h (seat u own))
  only_value u v (Some last) seat own h =
      let is = is_its size m k s owners st caller u last seat own (value_there s.value v (last_got_by u s.subscribers) h) in
      next_only_value m.value v last (subst (λ (n : ℕ). Receives n (Some last) (reply.Received (next.Value v))) st.value
      (subst (λ (o : Option (Option ℕ)). Receives s.value o (reply.Received (next.Value v))) is h))

  only_empty : (u : ℕ) (reader : Option (Option ℕ)) → Seat owners s.subscribers caller reader → IsOwn caller u owners → Receives s.value (last_got_by u s.subscribers) (reply.Received next.Empty)
      → state_next_answer m.value reader ≡ Some answer.Empty
  only_empty u None seat own h = absurd (empty_there s.value (last_got_by u s.subscribers) h (seat u own))
  only_empty u (Some last) seat own h =
      let is = is_its size m k s owners st caller u last seat own (empty_there s.value (last_got_by u s.subscribers) h) in
      next_only_empty m.value last (subst (λ (n : ℕ). Receives n (Some last) (reply.Received next.Empty)) st.value
      (subst (λ (o : Option (Option ℕ)). Receives s.value o (reply.Received next.Empty)) is h))

  only_unsubscribe : (u : ℕ) (reader : Option (Option ℕ)) → Seat owners s.subscribers caller reader → IsOwn caller u owners → tested true ≡ tested (is_some (last_got_by u s.subscribers))
      → unsubscribe_answer reader ≡ Some answer.Done
  only_unsubscribe u None seat own h = absurd (left_there (last_got_by u s.subscribers) h (seat u own))
  only_unsubscribe u (Some last) seat own h = refl

  pub only : (op : StateOperation) (own : StateAnswer) (u : ℕ) (r : StateReply ℕ) → reply_of u op own ≡ Some r → StateFlowReplies s (state_call_of caller u op) r → Speaks op u → MayMakeState s owners caller op
      → state_own_answer caller op m ≡ Some own
  only operation.Value (answer.Value v) u r h rep sp may =
      let e = subst (StateFlowReplies s call.GetValue) (sym (same_Some (reply.Got v) r h)) rep in
      let is : v ≡ s.value = cc in ap (λ (x : ℕ). Some (answer.Value x)) (sym st.value ∙ sym is)
  only operation.Value _ u r h rep sp may = absurd (cc)
  only (operation.Set v) answer.Done u r h rep sp may = refl
  only (operation.Set v) _ u r h rep sp may = absurd (cc)
  only (operation.TryEmit v) (answer.Truth t) u r h rep sp may =
      let e = subst (StateFlowReplies s (call.TryEmit v)) (sym (same_Some (tested t) r h)) rep in
      let is : t ≡ true = cc in ap (λ (b : Bool). Some (answer.Truth b)) (sym is)
  only (operation.TryEmit v) _ u r h rep sp may = absurd (cc)
  only (operation.CompareAndSet x y) (answer.Truth t) u r h rep sp may =
      ap (λ (b : Bool). Some (answer.Truth b)) (only_exchange x t (subst (StateFlowReplies s (call.CompareAndSet x y)) (sym (same_Some (tested t) r h)) rep))
  only (operation.CompareAndSet x y) _ u r h rep sp may = absurd (cc)
  only operation.Subscribe answer.Done u r h rep sp may = only_subscribe (reader_of caller m.readers) (st.seats caller near) may
  only operation.Subscribe _ u r h rep sp may = absurd (cc)
  only operation.Next (answer.Value v) u r h rep sp may =
      only_value u v (reader_of caller m.readers) (st.seats caller near) sp (subst (StateFlowReplies s (call.TakeNext u)) (sym (same_Some (reply.Received (next.Value v)) r h)) rep)
  only operation.Next answer.Empty u r h rep sp may =
      only_empty u (reader_of caller m.readers) (st.seats caller near) sp (subst (StateFlowReplies s (call.TakeNext u)) (sym (same_Some (reply.Received next.Empty) r h)) rep)
  only operation.Next _ u r h rep sp may = absurd (cc)
  only operation.Unsubscribe answer.Done u r h rep sp may =
      only_unsubscribe u (reader_of caller m.readers) (st.seats caller near) sp (subst (StateFlowReplies s (call.Unsubscribe u)) (sym (same_Some (tested true) r h)) rep)
  only operation.Unsubscribe _ u r h rep sp may = absurd (cc)
  only operation.SubscriptionCount (answer.Number n) u r h rep sp may =
      let e = subst (StateFlowReplies s call.SubscriptionCount) (sym (same_Some (reply.Counted n) r h)) rep in
      let is : n ≡ length s.subscribers = cc in ap (λ (x : ℕ). Some (answer.Number x)) (sym st.count ∙ sym is)
  only operation.SubscriptionCount _ u r h rep sp may = absurd (cc)
  only operation.ReplayCache (answer.Value v) u r h rep sp may =
      let e = subst (StateFlowReplies s call.ReplayCache) (sym (same_Some (reply.Cached (v ∷ [])) r h)) rep in
      let is : v ≡ s.value = cc in ap (λ (x : ℕ). Some (answer.Value x)) (sym st.value ∙ sym is)
  only operation.ReplayCache _ u r h rep sp may = absurd (cc)
