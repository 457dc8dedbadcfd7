-- A subscriber of a shared flow with nothing to receive has nothing to receive until a value is emitted.
use Rattle.std.proofs.Common.{◌≡◌, ◌≢◌, ℕ, ◌+◌, ◌≤◌, false, ◌==◌, cond, List, [], ◌∷◌, ◌++◌, length, map, filter, not, Option, Some, None, refl, sym, ap, ◌∙◌, subst, arith, length-append}
use Rattle.std.specs.Prelude.{IsSome, slice_get, ◌<◌}
use Rattle.std.specs.Option.{option_map_or}
use Rattle.std.proofs.lemmas.Bool.{cond_both}
use Rattle.std.proofs.Math.ListN.{length-map}
use Rattle.std.proofs.lemmas.Option.{slice_get_past, slice_get_within}
use Rattle.std.proofs.lemmas.Bool.Decides.{Decides-eqb}
use Rattle.flow_law.specs.declared.outcome.Next.{Next}
use Rattle.flow_law.specs.declared.outcome.Next.TheVariants.{Value, Empty, Gone}
use Rattle.flow_law.specs.declared.call.SharedCall.{SharedCall}
use Rattle.flow_law.specs.declared.call.SharedCall.TheVariants as call
use Rattle.flow_law.specs.declared.call.SharedReply.{SharedReply}
use Rattle.flow_law.specs.declared.call.SharedReply.TheVariants as reply
use Rattle.flow_law.specs.flow.SharedFlow.{Numbered, Subscriber, SharedFlowState, Replied, answer, values, is_offered_as, entry, position_of, own_of, stand_at}
use Rattle.flow_law.specs.flow.EmitRule.{numbered}
use Rattle.flow_law.specs.flow.SharedStep.{is_waiting, settle, withdraw, advance, leave, enroll, read, keep_own, next_from, next}
use Rattle.flow_law.specs.flow.SharedHistory.{reply_by, after, shared_flow}
use Rattle.flow_law.specs.declared.touch.Touch.TheVariants as touch
use Rattle.flow_law.specs.history.Sleeping.{FindsNothing, Sleeping, first_waiting}
use Rattle.flow_law.proofs.Boxes.{admit_subscribers}
use Rattle.flow_law.proofs.Moves.{Keeps, event_keeps}
use Rattle.flow_law.proofs.Rows.{split, position-move_to_other, position-without, position-without_other, position-with_own, position-map, own-with_own_other, own-move_to, own-map, own-without_other}
use Rattle.flow_law.proofs.SharedLawful.{event_has}
use Rattle.flow_law.proofs.SharedWaiting.{Lasting, touches, lasting_begins, lasting_keeps, event_goes, first_first}
use Rattle.flow_law.proofs.MailboxSteps.{past_here}

-- a new subscriber does not change the position of one that is subscribed
position-snoc_some : {T : Type 0} (number : ℕ) (us : List (Subscriber T)) (v : Subscriber T) → IsSome (position_of number us) → position_of number (us ++ v ∷ []) ≡ position_of number us
position-snoc_some number [] v h = absurd (cc)
position-snoc_some number (u ∷ us) v h = split (u.number == number)
    (λ t. IsSome (cond t (Some u.position) (position_of number us)) → cond t (Some u.position) (position_of number (us ++ v ∷ [])) ≡ cond t (Some u.position) (position_of number us))
    (λ _ _. refl) (λ _ k. position-snoc_some number us v k) h

own-snoc_some : {T : Type 0} (number : ℕ) (us : List (Subscriber T)) (v : Subscriber T) → IsSome (position_of number us) → own_of number (us ++ v ∷ []) ≡ own_of number us
own-snoc_some number [] v h = absurd (cc)
own-snoc_some number (u ∷ us) v h = split (u.number == number)
    (λ t. IsSome (cond t (Some u.position) (position_of number us)) → cond t u.own (own_of number (us ++ v ∷ [])) ≡ cond t u.own (own_of number us))
    (λ _ _. refl) (λ _ k. own-snoc_some number us v k) h

module _ {T : Type 0} where
  -- nothing is left for the subscriber: neither of its own first values nor of the emitted ones
  record HasAll (u : ℕ) (s : SharedFlowState T) : Type 0 where
    own : own_of u s.subscribers ≡ []
    emitted : (p : ℕ) → position_of u s.subscribers ≡ Some p → length s.emitted ≤ p

  -- what an answer to `next` replies
  abbrev replies : Replied (Next T) T → SharedReply T
  replies a = reply_by reply.Received a.reply

  -- ---- a subscriber has nothing to receive exactly if it has all

  found_here : (u p : ℕ) (s : SharedFlowState T) (o : Option T) → slice_get (values s) p ≡ o
      → ◌≡◌ {A = SharedReply T} (reply.Received Empty) (replies (option_map_or (λ value. answer (Value value) (settle (advance u (p + 1) s))) o (answer Empty s))) → length s.emitted ≤ p
  found_here u p s None at f = let l : length (values s) ≤ p = past_here p (values s) at in omega (arith, l, length-map {A = Numbered T} {B = T})
  found_here u p s (Some v) at f = absurd (cc)

  found_at : (u : ℕ) (s : SharedFlowState T) (o : Option ℕ)
      → ◌≡◌ {A = SharedReply T} (reply.Received Empty) (replies (option_map_or (λ position. read u position s) o (answer Gone s)))
      → IsSome o × ((p : ℕ) → o ≡ Some p → length s.emitted ≤ p)
  found_at u s None f = absurd (cc)
  found_at u s (Some q) f = (refl, λ p e. let here : length s.emitted ≤ q = found_here u q s (slice_get (values s) q) refl f in let same : q ≡ p = cc in omega (arith, here, same))

  found_from : (u : ℕ) (s : SharedFlowState T) (own : List T)
      → ◌≡◌ {A = SharedReply T} (reply.Received Empty) (replies (next_from u own s))
      → (own ≡ []) × IsSome (position_of u s.subscribers) × ((p : ℕ) → position_of u s.subscribers ≡ Some p → length s.emitted ≤ p)
  found_from u s [] f = let at = found_at u s (position_of u s.subscribers) f in (refl, at.0, at.1)
  found_from u s (v ∷ own) f = absurd (cc)

  has_all : (u : ℕ) (s : SharedFlowState T) → FindsNothing shared_flow u s → HasAll u s × IsSome (position_of u s.subscribers)
  has_all u s f = let found = found_from u s (own_of u s.subscribers) f in (record { own = found.0; emitted = found.2 }, found.1)

  nothing_at : (u : ℕ) (s : SharedFlowState T) (o : Option ℕ) → IsSome o → ((p : ℕ) → o ≡ Some p → length s.emitted ≤ p)
      → ◌≡◌ {A = SharedReply T} (reply.Received Empty) (replies (option_map_or (λ position. read u position s) o (answer Gone s)))
  nothing_at u s None some h = absurd (cc)
  nothing_at u s (Some p) some h =
      let past : slice_get (values s) p ≡ None = slice_get_past (values s) p (let l : length s.emitted ≤ p = h p refl in omega (arith, l, length-map {A = Numbered T} {B = T})) in
      subst (λ (o : Option T). ◌≡◌ {A = SharedReply T} (reply.Received Empty) (replies (option_map_or (λ value. answer (Value value) (settle (advance u (p + 1) s))) o (answer Empty s)))) (sym past) refl

  finds_nothing : (u : ℕ) (s : SharedFlowState T) → HasAll u s → IsSome (position_of u s.subscribers) → FindsNothing shared_flow u s
  finds_nothing u s h some = subst (λ (own : List T). ◌≡◌ {A = SharedReply T} (reply.Received Empty) (replies (next_from u own s))) (sym h.own) (nothing_at u s (position_of u s.subscribers) some h.emitted)

  -- ---- a subscriber that has all still has all after a call that emits nothing

  -- t has as many emitted values as s, and the subscriber, if it is subscribed, has all of them
  abbrev Still : ℕ → SharedFlowState T → SharedFlowState T → Type 0
  Still u s t = length t.emitted ≡ length s.emitted → IsSome (position_of u t.subscribers) → HasAll u t

  settled : (u : ℕ) (s t : SharedFlowState T) → length t.emitted ≡ length s.emitted → (IsSome (position_of u t.subscribers) → HasAll u t) → Still u s (settle t)
  settled u s t same has e some =
      let kept = (admit_subscribers t t.queue).0 in
      let h : HasAll u t = has (subst (λ us. IsSome (position_of u us)) kept some) in
      record {
        own = ap (own_of u) kept ∙ h.own;
        emitted = λ p at. let before : length t.emitted ≤ p = h.emitted p (sym (ap (position_of u) kept) ∙ at) in omega (arith, before, same, e);
      }

  module _ (u : ℕ) (s : SharedFlowState T) (h : HasAll u s) (some : IsSome (position_of u s.subscribers)) where
    appended : (v : T) → length (s.emitted ++ numbered v s ∷ []) ≡ length s.emitted → ⊥
    appended v e = let count : length (s.emitted ++ numbered v s ∷ []) ≡ length s.emitted + 1 = length-append s.emitted (numbered v s ∷ []) in omega (arith, count, e)

    withdrawn : (e : ℕ) → Still u s (settle (withdraw e s))
    withdrawn e = cond_both (is_offered_as e s) (record s { subscribers = map (stand_at (length s.emitted)) s.subscribers }) (record s { queue = filter (λ q. not (q.number == e)) s.queue })
        (λ (t : SharedFlowState T). Still u s (settle t))
        (λ _. settled u s (record s { subscribers = map (stand_at (length s.emitted)) s.subscribers }) refl (λ _. record {
          own = own-map (λ _. length s.emitted) u s.subscribers ∙ h.own;
          emitted = λ q at. let from = position-map (λ _. length s.emitted) u q s.subscribers at in omega (arith, from.2);
        }))
        (λ _. settled u s (record s { queue = filter (λ q. not (q.number == e)) s.queue }) refl (λ _. record { own = h.own; emitted = h.emitted }))

    advanced : (n p : ℕ) (v : T) → position_of n s.subscribers ≡ Some p → slice_get (values s) p ≡ Some v → Still u s (settle (advance n (p + 1) s))
    advanced n p v at here = settled u s (advance n (p + 1) s) refl (λ _. record {
      own = own-move_to u n (p + 1) s.subscribers ∙ h.own;
      emitted = split (n == u) (λ t. (n == u) ≡ t → (q : ℕ) → position_of u (advance n (p + 1) s).subscribers ≡ Some q → length s.emitted ≤ q)
          (λ same _ q _. absurd (own_place (subst (λ m. position_of m s.subscribers ≡ Some p) ((Decides-eqb n u).0 same) at)))
          (λ other _ q to. h.emitted q (sym (position-move_to_other u n (p + 1) s.subscribers other) ∙ to)) refl;
    })
      where
        own_place : position_of u s.subscribers ≡ Some p → ⊥
        own_place e =
            let past : length s.emitted ≤ p = h.emitted p e in
            let within : p < length (values s) = slice_get_within (values s) p v here in
            omega (arith, past, within, length-map {A = Numbered T} {B = T})

    left : (n : ℕ) → Still u s (settle (leave n s))
    left n = settled u s (leave n s) refl (split (n == u) (λ t. (n == u) ≡ t → IsSome (position_of u (leave n s).subscribers) → HasAll u (leave n s))
        (λ same _ there. absurd (gone (subst (λ m. IsSome (position_of u (leave m s).subscribers)) ((Decides-eqb n u).0 same) there)))
        (λ other _ _. record {
          own = own-without_other u n s.subscribers other ∙ h.own;
          emitted = λ p at. h.emitted p (sym (position-without_other u n s.subscribers other) ∙ at);
        }) refl)
      where
        gone : IsSome (position_of u (leave u s).subscribers) → ⊥
        gone there = let none : position_of u (leave u s).subscribers ≡ None = position-without u s.subscribers in cc

    enrolled : (first : List T) → HasAll u (enroll first s)
    enrolled first = let new : Subscriber T = record { number = s.issued + 1; own = first; position = entry s } in record {
      own = own-snoc_some u s.subscribers new some ∙ h.own;
      emitted = λ p at. h.emitted p (sym (position-snoc_some u s.subscribers new some) ∙ at);
    }

    took_own : (n : ℕ) (v : T) (own : List T) → own_of n s.subscribers ≡ v ∷ own → HasAll u (keep_own n own s)
    took_own n v own at = record {
      own = split (n == u) (λ t. (n == u) ≡ t → own_of u (keep_own n own s).subscribers ≡ [])
          (λ same _. absurd (none (subst (λ m. own_of m s.subscribers ≡ v ∷ own) ((Decides-eqb n u).0 same) at)))
          (λ other _. own-with_own_other u n own s.subscribers other ∙ h.own) refl;
      emitted = λ p to. h.emitted p (sym (position-with_own u n own s.subscribers) ∙ to);
    }
      where
        none : own_of u s.subscribers ≡ v ∷ own → ⊥
        none e = let nothing : own_of u s.subscribers ≡ [] = h.own in cc

    keeps : Keeps (Still u s) s
    keeps = record {
      appends = λ v _ e _. absurd (appended v e);
      suspends = λ v _ _ _ _. record { own = h.own; emitted = h.emitted };
      drops = λ v _ _ e _. absurd (appended v e);
      withdraws = withdrawn;
      advances = advanced;
      leaves = left;
      enrolls = λ first _ _. enrolled first;
      takes_own = λ n v own at _ _. took_own n v own at;
      forgets = λ _ _. record { own = h.own; emitted = h.emitted };
    }

  pub stays : (u : ℕ) (s : SharedFlowState T) (c : SharedCall T) (r : SharedReply T) → touches c r ≢ touch.Subscriber u → length (after s c r).emitted ≡ length s.emitted
      → FindsNothing shared_flow u s → FindsNothing shared_flow u (after s c r)
  stays u s c r others same f =
      let old = has_all u s f in
      let there : IsSome (position_of u (after s c r).subscribers) = event_has u s c r (λ e. others (ap (λ d. touches d r) e)) old.1 in
      finds_nothing u (after s c r) (event_keeps (Still u s) s (λ _ _. old.0) (keeps u s old.0 old.1) c r same there) there

  -- a `next` that finds nothing changes nothing
  rests : (u : ℕ) (s : SharedFlowState T) → HasAll u s → IsSome (position_of u s.subscribers) → (next u s).after ≡ s
  rests u s h some = subst (λ (own : List T). (next_from u own s).after ≡ s) (sym h.own) (at (position_of u s.subscribers) some h.emitted)
    where
      at : (o : Option ℕ) → IsSome o → ((p : ℕ) → o ≡ Some p → length s.emitted ≤ p) → (option_map_or (λ position. read u position s) o (answer Gone s)).after ≡ s
      at None some has = absurd (cc)
      at (Some p) some has =
          let past : slice_get (values s) p ≡ None = slice_get_past (values s) p (let l : length s.emitted ≤ p = has p refl in omega (arith, l, length-map {A = Numbered T} {B = T})) in
          subst (λ (o : Option T). (option_map_or (λ value. answer (Value value) (settle (advance u (p + 1) s))) o (answer Empty s)).after ≡ s) (sym past) refl

  pub found : (u : ℕ) (s : SharedFlowState T) → FindsNothing shared_flow u s → FindsNothing shared_flow u (next u s).after
  found u s f = let all = has_all u s f in subst (FindsNothing shared_flow u) (sym (rests u s all.0 all.1)) f

  abbrev pub shared_sleeping : Sleeping (shared_flow {T = T})
  shared_sleeping = record {
    mark = λ s. length s.emitted;
    waits = is_waiting;
    first_waiting = first_waiting;
    touches = touches;
    next_touches = λ u r. refl;
    subscribe_touches = λ name r. refl;
    unsubscribe_touches = λ u r. refl;
    count_touches = λ r. refl;
    stays = λ u s c r _ others _ same f. stays u s c r others same f;
    found = found;
    IsSound = Lasting;
    begins = lasting_begins;
    keeps = lasting_keeps;
    goes_on = λ e s c r h others waits first. event_goes e s h waits c r others first;
    first_first = λ e s h waits. first_first e s h waits;
  }
