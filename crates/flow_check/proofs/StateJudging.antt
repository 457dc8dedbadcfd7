-- Steps of a checker of state flows go through a record in an order exactly if a history of a state flow explains it in that order.
use Rattle.std.proofs.Common.{◌≡◌, ◌≢◌, ◌⊎◌, ℕ, ◌+◌, Bool, true, false, ◌==◌, cond, List, [], ◌∷◌, ◌++◌, length, Option, Some, None, refl, sym, ap, ◌∙◌, subst, inl, inr, arith}
use Rattle.std.proofs.lemmas.List.{length-map}
use Rattle.std.proofs.lemmas.Bool.{false≢true}
use Rattle.std.proofs.lemmas.Bool.Decides.{eqb_tells}
use Rattle.std.proofs.lemmas.Option.{cond_some}
use Rattle.flow_law.specs.declared.history.HistoryEvent.{HistoryEvent}
use Rattle.flow_law.specs.declared.history.Said.{Said}
use Rattle.flow_law.specs.declared.call.StateCall.{StateCall}
use Rattle.flow_law.specs.declared.call.StateReply.{StateReply}
use Rattle.flow_law.specs.declared.states.StateFlowState.{StateFlowState}
use Rattle.flow_law.specs.history.Growth.{event}
use Rattle.flow_law.specs.history.Promise.{said}
use Rattle.flow_law.specs.history.History.{Owner, with_owner, owners_all, IsHistory}
use Rattle.flow_law.specs.flow.StateFlow.{StateHistory, state_flow, first_state_flow, state_after_all, state_flow_after, state_flow_gives}
use Rattle.flow_law.proofs.HistoryLemmas.{after_all-snoc, IsHistory-snoc}
use Rattle.flow_law.proofs.Owners.{history_left, legal_right, owned_right, owners_all-append}
use Rattle.flow_law.proofs.StateCounts.{is_counted}
use Rattle.flow_check.specs.declared.verdict.Verdict.{Verdict}
use Rattle.flow_check.specs.declared.verdict.Verdict.TheVariants.{Legal, Illegal, GaveUp}
use Rattle.flow_check.specs.declared.state_calls.StateAnswer.{StateAnswer}
use Rattle.flow_check.specs.declared.state_calls.StateAnswer.TheVariants as answer
use Rattle.flow_check.specs.declared.state_calls.StateEntry.{StateEntry}
use Rattle.flow_check.specs.Records.{CallsByCaller, IsWellTimed}
use Rattle.flow_check.specs.Remaining.{none_placed, GoesThroughAll}
use Rattle.flow_check.specs.Verdicts.{Judges}
use Rattle.flow_check.specs.StateRecords.{caller_name, state_call_of, IsStateRecorded, AddsStateEntry, ExplainsState}
use Rattle.flow_check.specs.Subscribed.{none_subscribed}
use Rattle.flow_check.specs.StateMachine.{StateKept, state_own_answer, state_moved, state_same_answer, state_agrees, state_stepped, state_may_skip}
use Rattle.flow_check.specs.Moments.{IsCutOff}
use Rattle.flow_check.proofs.KeptLemmas.{present-none, kept-none}
use Rattle.flow_check.proofs.Places.{counts_none}
use Rattle.flow_check.proofs.Ordering.{goes_explains, explains_goes}
use Rattle.flow_check.proofs.KnownOrders.{known_explains}
use Rattle.flow_check.proofs.Bridging.{Leads, Follows, steps_go, goes_steps}
use Rattle.flow_check.proofs.StateSeats.{Seat, StandsAs, IsSound}
use Rattle.flow_check.proofs.StateSteps.{moves, leads, only}

-- ---- answers that agree

same_exact : (a b : StateAnswer) → state_same_answer a b ≡ true → a ≡ b
same_exact answer.Done answer.Done h = refl
same_exact (answer.Value v) (answer.Value w) h = elim (eqb_tells v w) [ inl e ↦ ap answer.Value e.1 | inr e ↦ absurd (false≢true (sym e.0 ∙ h)) ]
same_exact (answer.Truth true) (answer.Truth true) h = refl
same_exact (answer.Truth false) (answer.Truth false) h = refl
same_exact (answer.Truth true) (answer.Truth false) h = absurd (false≢true h)
same_exact (answer.Truth false) (answer.Truth true) h = absurd (false≢true h)
same_exact answer.Empty answer.Empty h = refl
same_exact (answer.Number m) (answer.Number n) h = elim (eqb_tells m n) [ inl e ↦ ap answer.Number e.1 | inr e ↦ absurd (false≢true (sym e.0 ∙ h)) ]
same_exact _ _ h = absurd (false≢true h)

eqb_same : (n : ℕ) → (n == n) ≡ true
eqb_same n = elim (eqb_tells n n) [ inl e ↦ e.0 | inr e ↦ absurd (e.1 refl) ]

same_itself : (a : StateAnswer) → state_same_answer a a ≡ true
same_itself answer.Done = refl
same_itself (answer.Value v) = eqb_same v
same_itself (answer.Truth true) = refl
same_itself (answer.Truth false) = refl
same_itself answer.Empty = refl
same_itself (answer.Number n) = eqb_same n

own_of : (own written : Option StateAnswer) → state_agrees own written ≡ true → (a : StateAnswer) × (own ≡ Some a) × IsStateRecorded written a
own_of None written h = absurd (false≢true h)
own_of (Some a) None h = (a, refl, inl refl)
own_of (Some a) (Some b) h = (a, refl, inr (ap Some (sym (same_exact a b h))))

own_agrees : (a : StateAnswer) (own written : Option StateAnswer) → own ≡ Some a → IsStateRecorded written a → state_agrees own written ≡ true
own_agrees a own written e r = subst (λ (o : Option StateAnswer). state_agrees o written ≡ true) (sym e) (
    elim r [
      | inl none ↦ subst (λ (o : Option StateAnswer). state_agrees (Some a) o ≡ true) (sym none) refl
      | inr some ↦ subst (λ (o : Option StateAnswer). state_agrees (Some a) o ≡ true) (sym some) (same_itself a)
    ])

-- ---- before any call

module _ (callers : CallsByCaller StateEntry) (initial limit : ℕ) where
  abbrev first : StateFlowState ℕ
  first = first_state_flow limit initial

  abbrev begun : StateKept
  begun = record { value = initial; readers = none_subscribed callers }

  abbrev Stands : StateKept → ℕ → StateHistory ℕ → Type 0
  Stands m k h = StandsAs (length callers) m k (state_after_all first h) (owners_all state_flow [] h)

  stands_first : Stands begun 0 []
  stands_first = record {
    value = refl;
    readers = length-map callers (λ _. None);
    count = sym (present-none (Option ℕ) callers);
    seats = λ caller l. subst (Seat [] [] caller) (sym (kept-none (Option ℕ) callers caller)) (λ u own. refl);
    issued = omega arith;
    owned = tt;
  }

  history_first : IsHistory state_flow first []
  history_first = record { begins = refl; legal = tt; owned = tt }

  sound : (h : StateHistory ℕ) → IsHistory state_flow first h → IsSound (state_after_all first h)
  sound h is = let counted = is_counted limit initial h is.legal in record { numbers = counted.numbers; once = counted.once }

  stands_more : (m : StateKept) (k : ℕ) (h : StateHistory ℕ) (e : HistoryEvent (Said (StateCall ℕ) (StateReply ℕ)))
      → StandsAs (length callers) m (k + 1) (state_flow_after (state_after_all first h) e.what.call e.what.reply) (with_owner (state_flow_gives e.name e.what.call e.what.reply) (owners_all state_flow [] h))
      → Stands m (k + 1) (h ++ e ∷ [])
  stands_more m k h e st =
      subst (λ (s : StateFlowState ℕ). StandsAs (length callers) m (k + 1) s (owners_all state_flow [] (h ++ e ∷ []))) (sym (after_all-snoc state_flow first h e))
      (subst (λ (owners : List Owner). StandsAs (length callers) m (k + 1) (state_flow_after (state_after_all first h) e.what.call e.what.reply) owners) (sym (owners_all-append state_flow [] h (e ∷ []))) st)

  made : {A B : Type 0} → A ⊎ ((false ≡ true) × B) → A
  made x = elim x [ inl e ↦ e | inr e ↦ absurd (false≢true e.0) ]

  leads_history : Leads state_stepped state_may_skip state_flow (AddsStateEntry first) callers first Stands limit
  leads_history m next k h caller entry st is few near step =
      let op = entry.operation in
      let w = cond_some (state_agrees (state_own_answer caller op m) entry.answer) (state_moved caller op m) next (made step) in
      let own = own_of (state_own_answer caller op m) entry.answer w.0 in
      let counted = is_counted limit initial h is.legal in
      let limit_is = counted.limit_is in
      let upto = st.issued in
      let s = state_after_all first h in
      let owners = owners_all state_flow [] h in
      let room : s.issued ≢ s.limit = λ e. absurd (omega arith) in
      let led = leads (length callers) m k s owners st (sound h is) caller near op own.0 own.1 room in
      let e = event (caller_name caller) 0 (said (state_call_of caller led.0 op) led.1.0) in (
        e ∷ [],
        record { number = led.0; given = own.0; replied = led.1.0; is_recorded = own.2; is_reply = led.1.1; is_event = refl {a = e ∷ []}; may_make = led.1.4 },
        IsHistory-snoc state_flow first h e is led.1.2 led.1.3,
        stands_more next k h e (subst (λ (x : StateKept). StandsAs (length callers) x (k + 1) (state_flow_after s e.what.call e.what.reply) (with_owner (state_flow_gives e.name e.what.call e.what.reply) owners)) w.1
            (moves (length callers) m k s owners st (sound h is) caller near op own.0 led.0 led.1.0 own.1 led.1.1 led.1.2 led.1.3)),
      )

  follows_history : Follows state_stepped state_may_skip state_flow (AddsStateEntry first) callers first Stands
  follows_history m k h caller entry part st near x is =
      let op = entry.operation in
      let s = state_after_all first h in
      let owners = owners_all state_flow [] h in
      let e = event (caller_name caller) 0 (said (state_call_of caller x.number op) x.replied) in
      let all = subst (λ (p : StateHistory ℕ). IsHistory state_flow first (h ++ p)) x.is_event is in
      let before = history_left state_flow first h (e ∷ []) all in
      let replies = (legal_right state_flow first h (e ∷ []) all.legal).0 in
      let speaks = (owned_right state_flow [] h (e ∷ []) all.owned).0 in
      let own = only (length callers) m k s owners st (sound h before) caller near op x.given x.number x.replied x.is_reply replies speaks x.may_make in
      let agreed = own_agrees x.given (state_own_answer caller op m) entry.answer own x.is_recorded in (
        state_moved caller op m,
        inl (subst (λ (b : Bool). cond b (Some (state_moved caller op m)) None ≡ Some (state_moved caller op m)) (sym agreed) refl),
        subst (λ (p : StateHistory ℕ). Stands (state_moved caller op m) (k + 1) (h ++ p)) (sym x.is_event)
            (stands_more (state_moved caller op m) k h e (moves (length callers) m k s owners st (sound h before) caller near op x.given x.number x.replied own x.is_reply replies speaks)),
      )

-- what is judged of steps is judged of histories
pub judged : (callers : CallsByCaller StateEntry) (initial : ℕ) (verdict : Verdict) → IsWellTimed callers
    → Judges (GoesThroughAll state_stepped state_may_skip callers (record { value = initial; readers = none_subscribed callers })) verdict → Judges (ExplainsState callers initial) verdict
judged callers initial (Legal order) well through =
    let limit = length order.items in
    let start = first_state_flow limit initial in (
      limit,
      goes_explains state_flow (AddsStateEntry start) callers start well order.items
          (steps_go state_stepped state_may_skip state_flow (AddsStateEntry start) callers start (Stands callers initial limit) limit (leads_history callers initial limit) order.items [] (none_placed callers) 0
          (begun callers initial limit) [] (counts_none callers) (omega arith) (stands_first callers initial limit) (history_first callers initial limit) through),
    )
judged callers initial Illegal well refuted = λ order x.
    let start = first_state_flow x.0 initial in
    refuted order (goes_steps state_stepped state_may_skip state_flow (AddsStateEntry start) callers start (Stands callers initial x.0) (follows_history callers initial x.0) order [] (none_placed callers) 0
    (begun callers initial x.0) [] (counts_none callers) (stands_first callers initial x.0) (explains_goes state_flow (AddsStateEntry start) callers start well order x.1))
judged callers initial GaveUp well given_up = tt

-- what explains calls explains in part what was known of them
pub cut_off : (initial : ℕ) → IsCutOff (λ known. ExplainsState known initial)
cut_off initial cut callers known well is order x =
    let start = first_state_flow x.0 initial in
    let part = known_explains state_flow (AddsStateEntry start) start cut callers known well is order x.1 in
    (part.0, (x.0, part.1))
