-- The first seat of a crowd subscribes: what it has done then, and what is known of the subscriptions.
use Rattle.std.proofs.Common.{inl, inr, ◌≡◌, ℕ, suc, ◌+◌, List, [], ◌∷◌, ◌++◌, Ok, refl, sym, ap, ◌∙◌, subst, arith}
use Rattle.std.specs.List.{AllByRecursion}
use Rattle.flow_law.specs.declared.history.Knowledge.{Knowledge}
use Rattle.flow_law.specs.declared.call.SharedCall.TheVariants as call
use Rattle.flow_law.specs.declared.call.SharedReply.TheVariants as reply
use Rattle.flow_law.specs.declared.states.SharedFlowState.{SharedFlowState}
use Rattle.flow_law.specs.laws.Closed.{makes_many}
use Rattle.flow_law.specs.history.Done.{done_by}
use Rattle.flow_law.specs.history.Growth.{child_name, first_knowledge, makes, child}
use Rattle.flow_law.specs.history.History.{IsHistory}
use Rattle.flow_law.specs.history.Promise.{said, AddsOne, Token}
use Rattle.flow_law.specs.flow.SharedHistory.{shared_flow}
use Rattle.flow_law.specs.history.Tokens.{NumberedToken, SubscribesIn, token, numbered_token}
use Rattle.flow_law.proofs.DoneLemmas.{every_append, made_one}
use Rattle.flow_program.specs.Callers.{Says, Reads, HasSubscribed, taken_by}
use Rattle.flow_program.specs.Crowds.{IsMaker, IsSubscribing, IsNewSubscription, HasRead}
use Rattle.flow_program.proofs.CallerLemmas.{made_silent}

module _ {T : Type 0} where
  subscribed_left : (name : List ℕ) (u : ℕ) (xs ys : List (Says T)) → HasSubscribed name u xs → HasSubscribed name u (xs ++ ys)
  subscribed_left name u [] ys has = absurd has
  subscribed_left name u (x ∷ xs) ys (inl is) = inl is
  subscribed_left name u (x ∷ xs) ys (inr has) = inr (subscribed_left name u xs ys has)

  subscribed_right : (name : List ℕ) (u : ℕ) (xs ys : List (Says T)) → HasSubscribed name u ys → HasSubscribed name u (xs ++ ys)
  subscribed_right name u [] ys has = has
  subscribed_right name u (x ∷ xs) ys has = inr (subscribed_right name u xs ys has)

  -- the first seat, through which n others were made before it did anything, is a maker
  pub begins_maker : (n : ℕ) (k : Knowledge (Says T)) → k ≡ makes_many n first_knowledge → IsMaker k
  begins_maker n k e = record { name = ap (λ (x : Knowledge (Says T)). x.name) e; did = subst (λ (x : Knowledge (Says T)). AllByRecursion (λ (e : Says T). IsSubscribing e.call) (done_by x)) (sym e) tt }

  module _ (first : SharedFlowState T) (k between : Knowledge (Says T)) (u : ℕ) (maker : IsMaker k)
      (subscribes : AddsOne (IsHistory shared_flow first) k (call.Subscribe (child_name k.name (k.made + 1)) []) (reply.Subscribed u) between) where
    abbrev sub : Says T
    sub = said (call.Subscribe (child_name k.name (k.made + 1)) []) (reply.Subscribed u)

    did_more : done_by between ≡ done_by k ++ sub ∷ []
    did_more = (made_one (IsHistory shared_flow first) k between (call.Subscribe (child_name k.name (k.made + 1)) []) (reply.Subscribed u) subscribes).done

    name_is : between.name ≡ []
    name_is = subscribes.name ∙ maker.name

    pub maker_more : IsMaker (makes between)
    maker_more = record { name = name_is; did = subst (AllByRecursion (λ (e : Says T). IsSubscribing e.call)) (sym did_more) (every_append (λ (e : Says T). IsSubscribing e.call) (done_by k) (sub ∷ []) maker.did (refl, tt)) }

    pub made_more : (makes between).made ≡ k.made + 1
    made_more = ap (λ n. n + 1) subscribes.made

    pub subscribed_one : {Id : Type 0} (id : Id) → IsNewSubscription (done_by (makes between)) k.made (numbered_token (token id (child between)) u)
    subscribed_one id = record {
      name = (λ i. child_name (name_is i) (subscribes.made i + 1)) ∙ ap (child_name []) (let z : k.made + 1 ≡ suc k.made = omega arith in z);
      made = refl;
      silent = made_silent between subscribes.names;
      subscribed = subst (HasSubscribed (child_name between.name (between.made + 1)) u) (sym did_more)
          (subscribed_right (child_name between.name (between.made + 1)) u (done_by k) (sub ∷ [])
          (inl (sym (λ i. said (call.Subscribe (child_name (subscribes.name i) (subscribes.made i + 1)) []) (reply.Subscribed u)))));
    }

    -- a token that was subscribed before still is
    pub subscribed_still : {Id : Type 0} (n : ℕ) (s : NumberedToken Id (Says T)) → IsNewSubscription (done_by k) n s → IsNewSubscription (done_by (makes between)) n s
    subscribed_still n s is = record {
      name = is.name;
      made = is.made;
      silent = is.silent;
      subscribed = subst (HasSubscribed s.token.knows.name s.number) (sym did_more) (subscribed_left s.token.knows.name s.number (done_by k) (sub ∷ []) is.subscribed);
    }

  -- one more subscription, by the contract of `subscribe`
  pub subscribed_next : {Id : Type 0} (first : SharedFlowState T) (before after : Token Id (Says T)) (s : NumberedToken Id (Says T)) → IsMaker before.knows
      → SubscribesIn shared_flow first shared_flow.subscribe before (Ok s) after
      → IsMaker after.knows × (after.knows.made ≡ before.knows.made + 1) × IsNewSubscription (done_by after.knows) before.knows.made s
      × ((n : ℕ) (t : NumberedToken Id (Says T)) → IsNewSubscription (done_by before.knows) n t → IsNewSubscription (done_by after.knows) n t)
  subscribed_next {Id} first before after s maker sub =
      let k = before.knows in let between = sub.0.knows in let adds = sub.1.1 in
      let same : makes between ≡ after.knows = ap (λ (t : Token Id (Says T)). t.knows) (sym sub.2) in
      let new : IsNewSubscription (done_by after.knows) k.made (numbered_token s.token s.number) = subst (λ (j : Knowledge (Says T)). IsNewSubscription (done_by j) k.made (numbered_token s.token s.number)) same
      (subst (λ (t : Token Id (Says T)). IsNewSubscription (done_by (makes between)) k.made (numbered_token t s.number)) (sym sub.3) (subscribed_one first k between s.number maker adds sub.0.table_id)) in (
        subst IsMaker same (maker_more first k between s.number maker adds),
        ap (λ (j : Knowledge (Says T)). j.made) (sym same) ∙ made_more first k between s.number maker adds,
        record { name = new.name; made = new.made; silent = new.silent; subscribed = new.subscribed },
        (λ n t is. subst (λ (j : Knowledge (Says T)). IsNewSubscription (done_by j) n t) same (subscribed_still first k between s.number maker adds n t is)),
      )

  -- a new subscription that has only read
  pub has_read : {Id : Type 0} (did : List (Says T)) (n : ℕ) (s : NumberedToken Id (Says T)) (got : List T) (k : Knowledge (Says T)) → IsNewSubscription did n s → Reads s.number got s.token.knows k → HasRead did n s.number got k
  has_read did n s got k is read =
      let done : done_by k ≡ read.0 = read.1.done ∙ ap (λ l. l ++ read.0) is.silent in record {
        name = read.1.name ∙ is.name;
        made = read.1.made ∙ is.made;
        subscribed = subst (λ name. HasSubscribed name s.number did) (sym read.1.name) is.subscribed;
        only = subst (AllByRecursion (λ (e : Says T). e.call ≡ call.TakeNext s.number)) (sym done) read.2;
        taken = ap (taken_by s.number) done ∙ read.3;
      }
