-- A crowd that has ended: what its threads promised, and what each subscriber got.
use Rattle.std.proofs.Common.{◌≡◌, ℕ, ◌+◌, ◌*◌, ◌<◌, List, ◌∷◌, ◌++◌, Vec, length, get_or, map, refl, sym, ap, ◌∙◌, subst, arith}
use Rattle.flow_law.specs.declared.config.Overflow.TheVariants.{Suspend}
use Rattle.flow_law.specs.declared.history.Knowledge.{Knowledge}
use Rattle.flow_law.specs.declared.states.SharedFlowState.{SharedFlowState}
use Rattle.flow_law.specs.history.Done.{done_by}
use Rattle.flow_law.specs.history.Rounds.{HasClosedHistory}
use Rattle.flow_law.specs.flow.SharedHistory.{shared_flow}
use Rattle.flow_gate.specs.Tokens.{GateOrigin}
use Rattle.flow_program.specs.declared.crowd.emitters.EmitsAll.{EmitsAll}
use Rattle.flow_program.specs.declared.crowd.size.CrowdSize.{CrowdSize}
use Rattle.flow_program.specs.declared.crowd.subscribers.ReadsAll.{ReadsAll}
use Rattle.flow_program.specs.Callers.{Says, OnlyEmits}
use Rattle.flow_program.specs.Crowds.{Caller, Subscriber, AreMade, HaveRun, GotAll, HasEmitted, HasRead, HasSent, HasSentAs, HasTaken, HasTakenAs, WillEmit, WillRead}
use Rattle.flow_program.specs.Numbers.{numbers_from}
use Rattle.flow_program.proofs.CrowdLemmas.{got_all_values}
use Rattle.flow_program.proofs.PlaceLemmas.{one_of}
use Rattle.flow_program.proofs.SubscribedLemmas.{has_read}

-- an emitter whose thread has sent what it promised
pub sent_as : (before : Caller) (first count : ℕ) (p : EmitsAll) (after : Caller) → WillEmit before first count p → HasSentAs p after → HasSent first count before after
sent_as before first count p after will sent =
    subst (λ a. HasSent a count before after) will.1
    (subst (λ m. HasSent p.first m before after) will.2
    (subst (λ (c : Caller). HasSent p.first p.count c after) will.0 sent))

-- a subscriber whose thread has read what it promised
pub taken_as : (before : Subscriber) (count : ℕ) (p : ReadsAll) (after : Subscriber) (got : List ℕ) → WillRead before count p → HasTakenAs p after got → HasTaken count before after got
taken_as before count p after got will taken =
    subst (λ n. HasTaken n before after got) will.1 (subst (λ (r : Subscriber). HasTaken p.count r after got) will.0 taken)

module _ {Z : Type 0} (size : CrowdSize) (flow : GateOrigin (SharedFlowState ℕ)) (now : Knowledge (Says ℕ)) (es es-after : List Caller) (rs rs-after : List Subscriber) (gots : List (Vec ℕ Z))
    (made : AreMade size flow now es rs) (ran : HaveRun size es rs es-after rs-after gots) where
  emitted : (i : ℕ) (d : Caller) → i < size.emitters → HasEmitted size.values i (get_or es-after i d).token.knows
  emitted i d l = subst (λ k. OnlyEmits (numbers_from (i * size.values) size.values) k (get_or es-after i d).token.knows) (made.emitter i d l).1
      (ran.sent i d d (let q = made.emitters in omega (arith, q, l))).1

  abbrev got_at : ℕ → Vec ℕ Z → List ℕ
  got_at i v = (get_or gots i v).items

  taken : (i : ℕ) (d : Subscriber) (v : Vec ℕ Z) → i < size.subscribers → HasTaken (size.emitters * size.values) (get_or rs i d) (get_or rs-after i d) (got_at i v)
  taken i d v l = ran.taken i d d v (let q = made.subscribers in omega (arith, q, l))

  read : (n i : ℕ) (d : Subscriber) (v : Vec ℕ Z) → n ≡ size.emitters → i < size.subscribers
      → HasRead (done_by now) (n + i) (get_or rs i d).subscription.number (got_at i v) (get_or rs-after i d).subscription.token.knows
  read n i d v e l = subst (λ m. HasRead (done_by now) (m + i) (get_or rs i d).subscription.number (got_at i v) (get_or rs-after i d).subscription.token.knows) (sym e)
      (has_read (done_by now) (size.emitters + i) (get_or rs i d).subscription (got_at i v) (get_or rs-after i d).subscription.token.knows (made.subscriber i d l).1 (taken i d v l).2)

  -- what each subscriber got, once all callers of a crowd have met
  pub each_got_all : flow.first.config.overflow ≡ Suspend → 0 < flow.first.config.replay + flow.first.config.extra
      → HasClosedHistory shared_flow flow.first (now ∷ (map (λ (c : Caller). c.token.knows) es-after ++ map (λ (r : Subscriber). r.subscription.token.knows) rs-after))
      → (i : ℕ) (v : Vec ℕ Z) → i < size.subscribers → GotAll size (got_at i v)
  each_got_all suspends room closed i v l =
      let le : length es-after ≡ size.emitters = ran.emitters ∙ made.emitters in
      let lr : length rs-after ≡ size.subscribers = ran.subscribers ∙ made.subscribers in
      let d = one_of rs-after (omega arith) in
      got_all_values (λ (c : Caller). c.token.knows) (λ (r : Subscriber). r.subscription.token.knows) flow.first suspends room size.values now es-after rs-after made.maker
      (made.made ∙ (let z : size.emitters + size.subscribers ≡ length es-after + length rs-after = omega arith in z))
      (λ j o m. emitted j o (omega arith))
      (λ j o m. ((get_or rs j o).subscription.number, got_at j v, read (length es-after) j o v le (omega arith)))
      closed size (sym le) refl i d (omega arith) (get_or rs i d).subscription.number (got_at i v) (read (length es-after) i d v le l)
      ((taken i d v l).3 ∙ ap (λ n. n * size.values) (sym le))
