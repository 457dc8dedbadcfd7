-- The steps of subscribers keep the rule of the table. Begin with `has_grown`: what a subscription knows still holds after events of
-- other callers.
use Rattle.std.proofs.Common.{◌≡◌, ◌≢◌, ℕ, Bool, true, false, eqb, eq-eqb, ne_eqb, suc, ◌+◌, ◌-◌, ◌*◌, ◌/◌, ◌%◌, ◌^◌, ◌<◌, ◌==◌, List, [], ◌∷◌, ◌++◌, length, get_or, set, Option, Some, None, refl, sym, ap, ◌∙◌, subst, inl, inr, length-append, arith}
use Rattle.std.specs.Prelude.{is_some}
use Rattle.std.proofs.lemmas.Bool.{cond-true, cond-false}
use mathlib.Core.Logic.{dite}
use mathlib.Core.Option.{none, some}
use native.Mathlib.Decide.{ℕ_discrete, dec_le}
use lib.ListN.{get_elem?}
use lib.Seq.{set-get_or}
use prog.Atomic.{either}
use Rattle.atomic_table.specs.Table.{State, Me, step, Act, keeps, carried_after, Valid, stepped, Allows}
use Rattle.flow_law.specs.declared.fault.FlowFault.TheVariants.{Exhausted}
use Rattle.flow_law.specs.declared.outcome.Next.{Next}
use Rattle.flow_law.specs.declared.outcome.Next.TheVariants.{Value, Empty}
use Rattle.flow_law.specs.declared.call.StateCall.{StateCall}
use Rattle.flow_law.specs.declared.call.StateCall.TheVariants as call
use Rattle.flow_law.specs.declared.call.StateReply.{StateReply}
use Rattle.flow_law.specs.declared.call.StateReply.TheVariants as reply
use Rattle.flow_law.specs.declared.states.StateFlowState.{StateFlowState}
use Rattle.flow_law.specs.declared.states.StateSubscriber.{StateSubscriber}
use Rattle.flow_law.specs.history.Growth.{Fits, sees, child}
use Rattle.flow_law.specs.history.History.{subscriber, IsGiven}
use Rattle.flow_law.specs.history.RealTime.{began_at}
use Rattle.flow_law.specs.flow.StateFlow.{StateHistory, last_got_by, is_state_exhausted, state_flow_after, Receives, StateFlowReplies, state_flow, state_after_all, IsStateHistory}
use Rattle.flow_law.specs.history.Tokens.{subscription_name}
use Rattle.flow_law.proofs.HistoryLemmas.{after_all-snoc, IsHistory-snoc}
use Rattle.flow_law.proofs.Owners.{given_stays, last_given}
use Rattle.flow_law.proofs.StateCounts.{IsCounted, length-with, one_fewer, none_above}
use Rattle.flow_law.proofs.StateLawful.{state_lawful}
use Rattle.flow_law.proofs.StateSilence.{last_in_silence}
use Rattle.flow_law.proofs.StateSubscriberLemmas.{last-snoc, last-with}
use Rattle.flow_law.proofs.Subscriptions.{given_grows}
use Rattle.flow_word.specs.declared.view.Known.{Known}
use Rattle.flow_word.specs.declared.view.LastGot.{LastGot}
use Rattle.flow_word.specs.declared.view.Start.{Start}
use Rattle.flow_word.specs.View.{StateKnowledge, begun, got_last, in_call, only_in_view}
use Rattle.flow_word.specs.Rule.{counts, WordHolds}
use Rattle.flow_word.specs.Steps.{word_received, value_in, IsPack, HasGot, StepMakes, reads_by, receives, leaves, finds_room, enters}
use Rattle.flow_word.proofs.Keeps.{event_by, after_call, started, fits_at, makes_event, names_event, found_is, still, goes_on, counted}

-- what a subscription knows holds of a history that fits its token
pub has_grown : {T : Type 0} (packs : ℕ → Type 0) (value_of : ℕ → T) (first : StateFlowState T) (k : StateKnowledge T) (number : ℕ) (last : Option ℕ) (h : StateHistory T) → IsStateHistory first h → Fits h k
    → HasGot packs value_of first k number last → HasGot packs value_of first (sees h k) number last
has_grown {T} packs value_of first k number last h is fits old = record {
  given = given_grows state_flow state_lawful first k.name (subscriber number) k.seen h is fits.0 old.given;
  got = ap (λ (z : StateHistory T). last_got_by number (state_after_all first z).subscribers) fits.0.1
      ∙ last_in_silence first number (value_in value_of last) k.name k.seen fits.0.0 (subst (IsStateHistory first) fits.0.1 is) fits.0.2 old.given old.got;
  packed = old.packed;
}

module _ (T : Type 0) (packs : ℕ → Type 0) (value_of : ℕ → T) (start : Start) where
  abbrev V : Type 0
  V = List (Known T)

  abbrev St : Type 0
  St = State Unit V

  abbrev Rule : St → Type 0
  Rule = WordHolds packs value_of start

  abbrev current : StateHistory T → StateFlowState T
  current h = state_after_all (begun value_of start) h

  -- what a subscription knows holds of the history of the rule
  has_now : (s : St) (r : Rule s) (id : ℕ) (v : V) (x : LastGot) → v ≡ only_in_view v ∷ [] → get_elem? s.views id ≡ some v → HasGot packs value_of (begun value_of (only_in_view v).start) (only_in_view v).knows x.number x.last
      → HasGot packs value_of (begun value_of start) (sees r.history (only_in_view v).knows) x.number x.last
  has_now s r id v x is at old = has_grown packs value_of (begun value_of start) (only_in_view v).knows x.number x.last r.history r.is_history (fits_at T packs value_of start s r id v is at)
      (subst (λ (z : Start). HasGot packs value_of (begun value_of z) (only_in_view v).knows x.number x.last) (started T packs value_of start s r id v is at) old)

  -- what holds of the flow with this start holds of the seat's flow
  as_started : (s : St) (r : Rule s) (id : ℕ) (v : V) (k : StateKnowledge T) (number : ℕ) (last : Option ℕ) → v ≡ only_in_view v ∷ [] → get_elem? s.views id ≡ some v → HasGot packs value_of (begun value_of start) k number last
      → HasGot packs value_of (begun value_of (only_in_view v).start) k number last
  as_started s r id v k number last is at new = subst (λ (z : Start). HasGot packs value_of (begun value_of z) k number last) (sym (started T packs value_of start s r id v is at)) new

  -- what the subscription knows after its call of `next`
  got_then : (s : St) (r : Rule s) (v : V) (x : LastGot) (found : ℕ) (y : StateReply T) → IsStateHistory (begun value_of start) (r.history ++ event_by T packs value_of start (only_in_view v) r.history (call.TakeNext x.number) y ∷ [])
      → IsGiven state_flow (only_in_view v).knows.name (subscriber x.number) r.history → last_got_by x.number (state_flow_after (current r.history) (call.TakeNext x.number) y).subscribers ≡ Some (Some (value_of found)) → packs found
      → HasGot packs value_of (begun value_of start) (after_call T packs value_of start (only_in_view v) r.history (call.TakeNext x.number) y (Some (got_last x.number (Some found)))).knows x.number (Some found)
  got_then s r v x found y is given got packed = let e = event_by T packs value_of start (only_in_view v) r.history (call.TakeNext x.number) y in record {
    given = given_stays state_flow state_lawful (begun value_of start) r.history (e ∷ []) (subscriber x.number) (only_in_view v).knows.name is.legal given;
    got = ap (λ (z : StateFlowState T). last_got_by x.number z.subscribers) (after_all-snoc state_flow (begun value_of start) r.history e) ∙ got;
    packed = packed;
  }

  -- what the step of a `next` has to prove
  abbrev NextOwes : St → ℕ → Me Unit V → LastGot → ℕ → Next T → Type 0
  NextOwes s id me x found y = (w : V) × (a : Act Unit) × Valid s.homes me.1 a × Rule (stepped s 0 found id me.1 w a) × packs found × StepMakes value_of me (call.TakeNext x.number) (reply.Received y) (w, carried_after me.1 a)
      × ((only_in_view w).subscriber ≡ Some (got_last x.number (Some found))) × HasGot packs value_of (begun value_of (only_in_view me.0).start) (only_in_view w).knows x.number (Some found)

  -- the step proves it if the documented flow may give the reply, and the subscriber has then got the value found
  next_is : (s : St) (r : Rule s) (id : ℕ) (me : Me Unit V) (x : LastGot) (y : Next T) → me.0 ≡ only_in_view me.0 ∷ [] → get_elem? s.views id ≡ some me.0 → IsGiven state_flow (only_in_view me.0).knows.name (subscriber x.number) r.history
      → StateFlowReplies (current r.history) (call.TakeNext x.number) (reply.Received y)
      → last_got_by x.number (state_flow_after (current r.history) (call.TakeNext x.number) (reply.Received y)).subscribers ≡ Some (Some (value_of (get_or s.words 0 0)))
      → counts (state_flow_after (current r.history) (call.TakeNext x.number) (reply.Received y)) ≡ counts (current r.history) → (state_flow_after (current r.history) (call.TakeNext x.number) (reply.Received y)).value ≡ (current r.history).value
      → NextOwes s id me x (get_or s.words 0 0) y
  next_is s r id me x y is at given replies got same value =
      let found : ℕ = get_or s.words 0 0 in let c : StateCall T = call.TakeNext x.number in let v : V = me.0 in let sub : Option LastGot = Some (got_last x.number (Some found)) in
      let packed : packs found = subst packs (sym (found_is T packs value_of start s r)) r.packed in let e = event_by T packs value_of start (only_in_view v) r.history c (reply.Received y) in
      let is_history : IsStateHistory (begun value_of start) (r.history ++ e ∷ []) = IsHistory-snoc state_flow (begun value_of start) r.history e r.is_history replies given in (
        after_call T packs value_of start (only_in_view v) r.history c (reply.Received y) sub ∷ [],
        keeps,
        tt,
        makes_event T packs value_of start s r id v c (reply.Received y) sub (set s.words 0 found) r.word is at replies given
            (set-get_or s.words 0 0 ∙ (r.words ∙ ap (λ (z : ℕ). r.word ∷ z ∷ []) (sym same))) r.packed (r.value ∙ sym value),
        packed,
        names_event T packs value_of start s r id v me.1 c (reply.Received y) sub is at replies given,
        refl,
        as_started s r id v _ x.number (Some found) is at (got_then s r v x found (reply.Received y) is_history given got packed),
      )

  next_empty : (s : St) (r : Rule s) (id : ℕ) (me : Me Unit V) (x : LastGot) (last : ℕ) → me.0 ≡ only_in_view me.0 ∷ [] → get_elem? s.views id ≡ some me.0 → HasGot packs value_of (begun value_of start) (sees r.history (only_in_view me.0).knows) x.number x.last
      → x.last ≡ Some last → last ≡ get_or s.words 0 0 → NextOwes s id me x (get_or s.words 0 0) Empty
  next_empty s r id me x last is at old has same = let f = current r.history in
      let got : last_got_by x.number f.subscribers ≡ Some (Some (value_of last)) = old.got ∙ ap (λ (o : Option ℕ). Some (value_in value_of o)) has in
      let value : Some (value_of last) ≡ Some f.value = ap (λ (z : ℕ). Some (value_of z)) (same ∙ found_is T packs value_of start s r) ∙ ap (λ (z : T). Some z) r.value in
      next_is s r id me x Empty is at old.given (subst (λ (o : Option (Option T)). Receives f.value o (reply.Received Empty)) (sym got) (inl (value, refl)))
      (got ∙ ap (λ (z : ℕ). Some (Some (value_of z))) same) refl refl

  next_value : (s : St) (r : Rule s) (id : ℕ) (me : Me Unit V) (x : LastGot) → me.0 ≡ only_in_view me.0 ∷ [] → get_elem? s.views id ≡ some me.0 → HasGot packs value_of (begun value_of start) (sees r.history (only_in_view me.0).knows) x.number x.last
      → value_in value_of x.last ≢ Some (value_of (get_or s.words 0 0)) → NextOwes s id me x (get_or s.words 0 0) (Value (value_of (get_or s.words 0 0)))
  next_value s r id me x is at old fresh = let f = current r.history in let found : ℕ = get_or s.words 0 0 in
      let value : value_of found ≡ f.value = ap value_of (found_is T packs value_of start s r) ∙ r.value in
      let replies : Receives f.value (last_got_by x.number f.subscribers) (reply.Received (Value (value_of found))) = subst (λ (o : Option (Option T)). Receives f.value o (reply.Received (Value (value_of found)))) (sym old.got)
      (inr ((λ e. fresh (e ∙ ap (λ (z : T). Some z) (sym value))), ap (λ (z : T). reply.Received (Value z)) value)) in
      next_is s r id me x (Value (value_of found)) is at old.given replies
      (last-with x.number (value_of found) (value_in value_of x.last) f.subscribers old.got)
      (ap (λ (z : ℕ). f.issued * 4294967296 + z) (length-with x.number (value_of found) f.subscribers)) refl

  next_owed : ((v w : ℕ) → packs v → packs w → value_of v ≡ value_of w → v ≡ w) → (s : St) (r : Rule s) (id : ℕ) (me : Me Unit V) (x : LastGot) → me.0 ≡ only_in_view me.0 ∷ [] → get_elem? s.views id ≡ some me.0
      → HasGot packs value_of (begun value_of start) (sees r.history (only_in_view me.0).knows) x.number x.last → (o : Option ℕ) → x.last ≡ o → NextOwes s id me x (get_or s.words 0 0) (word_received value_of x.last (get_or s.words 0 0))
  next_owed once s r id me x is at old None e = let found : ℕ = get_or s.words 0 0 in
      subst (λ (o : Option ℕ). NextOwes s id me x found (word_received value_of o found)) (sym e)
      (next_value s r id me x is at old (λ q. let p : None ≡ Some (value_of found) = sym (ap (value_in value_of) e) ∙ q in absurd (cc)))
  next_owed once s r id me x is at old (Some last) e = let found : ℕ = get_or s.words 0 0 in let G : Next T → Type 0 = NextOwes s id me x found in
      subst (λ (o : Option ℕ). G (word_received value_of o found)) (sym e) (dite (ℕ_discrete last found)
      (λ hit. subst G (sym (cond-true (last == found) Empty (Value (value_of found)) (eq-eqb last found hit))) (next_empty s r id me x last is at old e hit))
      (λ miss. subst G (sym (cond-false (last == found) Empty (Value (value_of found)) (ne_eqb last found miss))) (next_value s r id me x is at old
      (λ q. let p : Some (value_of last) ≡ Some (value_of found) = sym (ap (value_in value_of) e) ∙ q in let p' : value_of last ≡ value_of found = cc in
      miss (once last found (subst (IsPack packs) e old.packed) (subst packs (sym (found_is T packs value_of start s r)) r.packed) p')))))

  -- a load of word 0 by a subscription
  pub receiving : ((v w : ℕ) → packs v → packs w → value_of v ≡ value_of w → v ≡ w) → (slots id : ℕ) (me : Me Unit V) (x : LastGot) → me.0 ≡ only_in_view me.0 ∷ [] → (only_in_view me.0).subscriber ≡ Some x
      → HasGot packs value_of (begun value_of (only_in_view me.0).start) (only_in_view me.0).knows x.number x.last → Allows Rule slots id me 0 (λ n. n) (receives packs value_of (step slots 0 0 0 none) me)
  receiving once slots id me x is has old s r n at small =
      let found : ℕ = get_or s.words 0 0 in let g : NextOwes s id me x found (word_received value_of x.last found) = next_owed once s r id me x is at (has_now s r id me.0 x is at old) x.last refl in (
        g.0,
        g.1,
        g.2,
        g.3,
        λ x' has'. let same : Some x ≡ Some x' = sym has ∙ has' in let e : x ≡ x' = cc in
            subst (λ (z : LastGot). packs found × StepMakes value_of me (call.TakeNext z.number) (reply.Received (word_received value_of z.last found)) (g.0, carried_after me.1 g.1)
            × ((only_in_view g.0).subscriber ≡ Some (got_last z.number (Some found))) × HasGot packs value_of (begun value_of (only_in_view me.0).start) (only_in_view g.0).knows z.number (Some found)) e (g.4, g.5, g.6, g.7),
      )

  -- what the subscription knows after its call of `value`
  got_still : (s : St) (r : Rule s) (v : V) (x : LastGot) (y : StateReply T) → IsStateHistory (begun value_of start) (r.history ++ event_by T packs value_of start (only_in_view v) r.history call.GetValue y ∷ [])
      → HasGot packs value_of (begun value_of start) (sees r.history (only_in_view v).knows) x.number x.last
      → HasGot packs value_of (begun value_of start) (after_call T packs value_of start (only_in_view v) r.history call.GetValue y (only_in_view v).subscriber).knows x.number x.last
  got_still s r v x y is old = let e = event_by T packs value_of start (only_in_view v) r.history call.GetValue y in record {
    given = given_stays state_flow state_lawful (begun value_of start) r.history (e ∷ []) (subscriber x.number) (only_in_view v).knows.name is.legal old.given;
    got = ap (λ (z : StateFlowState T). last_got_by x.number z.subscribers) (after_all-snoc state_flow (begun value_of start) r.history e) ∙ old.got;
    packed = old.packed;
  }

  -- a load of word 0 by a subscription, for `value`
  pub reading_by : (slots id : ℕ) (me : Me Unit V) (x : LastGot) → me.0 ≡ only_in_view me.0 ∷ [] → (only_in_view me.0).subscriber ≡ Some x
      → HasGot packs value_of (begun value_of (only_in_view me.0).start) (only_in_view me.0).knows x.number x.last → Allows Rule slots id me 0 (λ n. n) (reads_by packs value_of (step slots 0 0 0 none) me)
  reading_by slots id me x is has old s r n at small =
      let found : ℕ = get_or s.words 0 0 in let c : StateCall T = call.GetValue in let y : StateReply T = reply.Got (value_of found) in let v : V = me.0 in
      let same = found_is T packs value_of start s r in let e = event_by T packs value_of start (only_in_view v) r.history c y in
      let replies : StateFlowReplies (current r.history) c y = ap (λ (z : T). reply.Got z) (ap value_of same ∙ r.value) in
      let is_history : IsStateHistory (begun value_of start) (r.history ++ e ∷ []) = IsHistory-snoc state_flow (begun value_of start) r.history e r.is_history replies tt in (
        after_call T packs value_of start (only_in_view v) r.history c y (only_in_view v).subscriber ∷ [],
        keeps,
        tt,
        makes_event T packs value_of start s r id v c y (only_in_view v).subscriber (set s.words 0 found) r.word is at replies tt (set-get_or s.words 0 0 ∙ r.words) r.packed r.value,
        λ x' has'. let both : Some x ≡ Some x' = sym has ∙ has' in let e : x ≡ x' = cc in (
          subst packs (sym same) r.packed,
          names_event T packs value_of start s r id v me.1 c y (only_in_view v).subscriber is at replies tt,
          has',
          subst (λ (z : LastGot). HasGot packs value_of (begun value_of (only_in_view v).start) (after_call T packs value_of start (only_in_view v) r.history c y (only_in_view v).subscriber).knows z.number z.last) e
              (as_started s r id v _ x.number x.last is at (got_still s r v x y is_history (has_now s r id v x is at old))),
        ),
      )

  -- a word 1 from which 1 is taken
  one_less : (f g : StateFlowState T) → IsCounted start.limit f → start.limit < 4294967296 → g.issued ≡ f.issued → suc (length g.subscribers) ≡ length f.subscribers → (counts f + (2 ^ 64 - 1)) % 2 ^ 64 ≡ counts g
  one_less f g h fits same less = let a = h.live in let b = h.issued in omega arith

  -- a subtraction of 1 from word 1
  pub leaving : (slots id : ℕ) (me : Me Unit V) (x : LastGot) → me.0 ≡ only_in_view me.0 ∷ [] → (only_in_view me.0).subscriber ≡ Some x → HasGot packs value_of (begun value_of (only_in_view me.0).start) (only_in_view me.0).knows x.number x.last
      → Allows Rule slots id me 1 (λ n. (n + (2 ^ 64 - 1)) % 2 ^ 64) (leaves value_of (step slots 1 1 0 none) me)
  leaving slots id me x is has old s r n at small =
      let f = current r.history in let c : StateCall T = call.Unsubscribe x.number in let y : StateReply T = reply.Answered true in let now_has = has_now s r id me.0 x is at old in
      let there : is_some (last_got_by x.number f.subscribers) ≡ true = ap (λ (o : Option (Option T)). is_some o) now_has.got in
      let replies : StateFlowReplies f c y = ap (λ (b : Bool). reply.Answered b) (sym there) in
      let word1 : (counts f + (2 ^ 64 - 1)) % 2 ^ 64 ≡ counts (state_flow_after f c y) = one_less f (state_flow_after f c y) (counted T packs value_of start s r) r.limit_fits refl (one_fewer x.number f.subscribers (counted T packs value_of start s r).once there) in (
        after_call T packs value_of start (only_in_view me.0) r.history c y (Some x) ∷ [],
        keeps,
        tt,
        makes_event T packs value_of start s r id me.0 c y (Some x) (set s.words 1 ((get_or s.words 1 0 + (2 ^ 64 - 1)) % 2 ^ 64)) r.word is at replies now_has.given
            (ap (λ (z : List ℕ). set z 1 ((get_or z 1 0 + (2 ^ 64 - 1)) % 2 ^ 64)) r.words ∙ ap (λ (m : ℕ). r.word ∷ m ∷ []) word1) r.packed r.value,
        λ x' has'. let same : Some x ≡ Some x' = sym has ∙ has' in let e : x ≡ x' = cc in
            subst (λ (z : LastGot). StepMakes value_of me (call.Unsubscribe z.number) y (after_call T packs value_of start (only_in_view me.0) r.history c y (Some x) ∷ [], me.1)) e
            (names_event T packs value_of start s r id me.0 me.1 c y (Some x) is at replies now_has.given),
      )

  issued_is : (f : StateFlowState T) → IsCounted start.limit f → start.limit < 4294967296 → counts f / 4294967296 ≡ f.issued
  issued_is f h fits = let a = h.live in let b = h.issued in omega arith

  -- a load of word 1 before a subscription
  pub finding : (slots id : ℕ) (me : Me Unit V) → me.0 ≡ only_in_view me.0 ∷ [] → Allows Rule slots id me 1 (λ n. n) (finds_room value_of (step slots 1 0 0 none) me)
  finding slots id me is s r n at small =
      let found : ℕ = get_or s.words 1 0 in let f = current r.history in let got = (only_in_view me.0).subscriber in let h = counted T packs value_of start s r in
      let same : found ≡ counts f = ap (λ (z : List ℕ). get_or z 1 0) r.words in
      let issued : found / 4294967296 ≡ f.issued = ap (λ (z : ℕ). z / 4294967296) same ∙ issued_is f h r.limit_fits in
      let limit : (only_in_view me.0).start.limit ≡ start.limit = ap (λ (z : Start). z.limit) (started T packs value_of start s r id me.0 is at) in
      let live = h.live in let most = h.issued in let flow = h.limit_is in let fits = r.limit_fits in
      dite (dec_le (only_in_view me.0).start.limit (found / 4294967296))
      (λ full. let c : StateCall T = call.Subscribe (subscription_name (only_in_view me.0).knows) in let y : StateReply T = reply.Refused Exhausted in
      let replies : StateFlowReplies f c y = sym (cond-true (is_state_exhausted f) (reply.Refused Exhausted) (reply.Subscribed (f.issued + 1)) (eq-eqb f.issued f.limit (omega arith))) in (
        after_call T packs value_of start (only_in_view me.0) r.history c y got ∷ [],
        keeps,
        tt,
        makes_event T packs value_of start s r id me.0 c y got (set s.words 1 found) r.word is at replies tt (set-get_or s.words 1 0 ∙ r.words) r.packed r.value,
        ((λ _. names_event T packs value_of start s r id me.0 me.1 c y got is at replies tt), λ less. absurd (omega arith)),
      ))
      (λ room. (in_call (began_at (only_in_view me.0).began (length r.history)) (only_in_view me.0) ∷ [], keeps, tt, goes_on T packs value_of start s r 1 id me.0 is at, ((λ full. absurd (room full)), λ _. (began_at (only_in_view me.0).began (length r.history), refl, omega arith))))

  entered : (f g : StateFlowState T) (old new : ℕ) → IsCounted start.limit f → start.limit < 4294967296 → old ≡ counts f → new ≡ old + 4294967297 → g.issued ≡ f.issued + 1 → length g.subscribers ≡ length f.subscribers + 1 → new ≡ counts g
  entered f g old new h fits is more a b = let d : (f.issued + 1) * 4294967296 ≡ f.issued * 4294967296 + 4294967296 = omega arith in
      let e : counts g ≡ (f.issued + 1) * 4294967296 + (length f.subscribers + 1) = λ i. a i * 4294967296 + b i in omega arith

  -- an exchange on word 1
  pub entering : (slots id : ℕ) (me : Me Unit V) (old new : ℕ) → me.0 ≡ only_in_view me.0 ∷ [] → new ≡ old + 4294967297 → old / 4294967296 < (only_in_view me.0).start.limit
      → Allows Rule slots id me 1 (λ n. either (eqb n old) new n) (enters packs value_of (step slots 1 old new none) me)
  entering slots id me old new is more room s r n at small =
      let found : ℕ = get_or s.words 1 0 in let f = current r.history in let h = counted T packs value_of start s r in let k = (only_in_view me.0).knows in let name : List ℕ = subscription_name k in
      let same : found ≡ counts f = ap (λ (z : List ℕ). get_or z 1 0) r.words in let c : StateCall T = call.Subscribe name in
      let limit : (only_in_view me.0).start.limit ≡ start.limit = ap (λ (z : Start). z.limit) (started T packs value_of start s r id me.0 is at) in
      let G : ℕ → Type 0 = λ m. (w : V) × (a : Act Unit) × Valid s.homes me.1 a × Rule (stepped s 1 m id me.1 w a) × enters packs value_of (step slots 1 old new none) me found (w, carried_after me.1 a) in
      let flat : G (either (eqb found old) new found) = dite (ℕ_discrete found old)
      (λ hit. let issued : old / 4294967296 ≡ f.issued = ap (λ (z : ℕ). z / 4294967296) (sym hit ∙ same) ∙ issued_is f h r.limit_fits in
      let m : ℕ = old / 4294967296 + 1 in let y : StateReply T = reply.Subscribed m in let sub : Option LastGot = Some (got_last m None) in let flow = h.limit_is in
      let free : is_state_exhausted f ≡ false = ne_eqb f.issued f.limit (λ q. absurd (omega arith)) in
      let replies : StateFlowReplies f c y = ap (λ (z : ℕ). reply.Subscribed (z + 1)) issued ∙ sym (cond-false (is_state_exhausted f) (reply.Refused Exhausted) (reply.Subscribed (f.issued + 1)) free) in
      let u : StateSubscriber T = record { number = m; last = None } in let e = event_by T packs value_of start (only_in_view me.0) r.history c y in
      let word1 : new ≡ counts (state_flow_after f c y) = entered f (state_flow_after f c y) old new h r.limit_fits (sym hit ∙ same) more (ap (λ (z : ℕ). z + 1) issued) (length-append f.subscribers (u ∷ [])) in
      let w : V = after_call T packs value_of start (only_in_view me.0) r.history c y sub ∷ [] in
      let has : HasGot packs value_of (begun value_of start) (child (only_in_view w).knows) m None = record {
        given = last_given state_flow r.history e (record { number = subscriber m; name = name }) refl;
        got = ap (λ (z : StateFlowState T). last_got_by m z.subscribers) (after_all-snoc state_flow (begun value_of start) r.history e)
            ∙ last-snoc m f.subscribers u (none_above f.issued m f.subscribers h.numbers (omega arith)) refl;
        packed = tt;
      } in
      let rule : Rule (stepped s 1 new id me.1 w keeps) = makes_event T packs value_of start s r id me.0 c y sub (set s.words 1 new) r.word is at replies tt
      (ap (λ (z : List ℕ). set z 1 new) r.words ∙ ap (λ (z : ℕ). r.word ∷ z ∷ []) word1) r.packed r.value in
      subst G (sym (ap (λ b. either b new found) (eq-eqb found old hit)))
      (w, keeps, tt, rule, ((λ _. (names_event T packs value_of start s r id me.0 me.1 c y sub is at replies tt, refl, as_started s r id me.0 _ m None is at has)), λ miss. absurd (miss hit))))
      (λ miss. subst G (sym (ap (λ b. either b new found) (ne_eqb found old miss))) (me.0, keeps, tt, still T packs value_of start s r 1 id me.0 at, ((λ hit. absurd (miss hit)), λ _. refl))) in
      (flat.0, flat.1, flat.2, flat.3, flat.4)
