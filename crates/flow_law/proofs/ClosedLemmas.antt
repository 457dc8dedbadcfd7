-- If the tokens are all tokens of the flow, then in a closed history each event is one of the tokens', and what they did is all that
-- was done.
use Rattle.std.proofs.Common.{◌≡◌, ℕ, ◌+◌, ◌≤◌, ◌<◌, inl, inr, true, false, IsTrue, eqb, cond, suc, List, [], ◌∷◌, ◌++◌, length, refl, sym, ap, ◌∙◌, subst, arith, append_assoc, append-nil}
use Rattle.std.specs.List.{AllByRecursion}
use Rattle.std.proofs.lemmas.List.{append_cancel_left}
use Rattle.std.proofs.lemmas.Bool.Decides.{Decides-eqb}
use Rattle.flow_law.specs.declared.history.HistoryEvent.{HistoryEvent}
use Rattle.flow_law.specs.declared.history.Knowledge.{Knowledge}
use Rattle.flow_law.specs.history.Growth.{child_name, IsMadeBy, NamesOnlyMade}
use Rattle.flow_law.proofs.Names.{every_weaker, longer}
use Rattle.flow_law.specs.history.Done.{is_same_name, total, said_by, done_by}
use Rattle.flow_law.specs.laws.Closed.{Accounts, HasName, AreApart, HasChildren, AreAll, IsClosed, AreNumbered, IsAllDone}
use Rattle.flow_law.proofs.DoneLemmas.{split, same_not, said_by_yes, said_by_no, same_refl}

module _ {E : Type 0} where
  -- the token of a name
  pub named : (P : Knowledge E → Type 0) (name : List ℕ) (ks : List (Knowledge E)) → HasName name ks → AllByRecursion P ks → (k : Knowledge E) × (k.name ≡ name) × P k
  named P name [] h a = absurd h
  named P name (k ∷ ks) (inl e) a = (k, e, a.0)
  named P name (k ∷ ks) (inr h) a = named P name ks h a.1

  -- ---- each name is known

  walk : (ks : List (Knowledge E)) (n : List ℕ) → AllByRecursion (λ (k : Knowledge E). IsMadeBy k.name k.made n × HasChildren ks k) ks
      → (p r : List ℕ) → n ≡ p ++ r → HasName p ks → HasName n ks
  walk ks n all p [] e has = subst (λ (x : List ℕ). HasName x ks) (sym (e ∙ append-nil p)) has
  walk ks n all p (j ∷ r) e has =
      let k = named (λ (k : Knowledge E). IsMadeBy k.name k.made n × HasChildren ks k) p ks has all in
      let here : n ≡ k.0.name ++ j ∷ r = e ∙ ap (λ (x : List ℕ). x ++ j ∷ r) (sym k.1) in
      let range = k.2.0 j r here in
      walk ks n all (child_name k.0.name j) r (here ∙ sym (append_assoc k.0.name (j ∷ []) r)) (k.2.1 j range.0 range.1)

  both_of : (P Q : Knowledge E → Type 0) (ks : List (Knowledge E)) → AllByRecursion P ks → AllByRecursion Q ks → AllByRecursion (λ k. P k × Q k) ks
  both_of P Q [] a b = tt
  both_of P Q (k ∷ ks) a b = ((a.0, b.0), both_of P Q ks a.1 b.1)

  names_in : (ks : List (Knowledge E)) → HasName [] ks → AllByRecursion (HasChildren ks) ks → (h : List (HistoryEvent E)) → AllByRecursion (λ (k : Knowledge E). NamesOnlyMade k.name k.made h) ks
      → AllByRecursion (λ (e : HistoryEvent E). HasName e.name ks) h
  names_in ks first children [] names = tt
  names_in ks first children (e ∷ es) names = (
    walk ks e.name (both_of (λ (k : Knowledge E). IsMadeBy k.name k.made e.name) (HasChildren ks) ks
        (every_weaker (λ (k : Knowledge E). NamesOnlyMade k.name k.made (e ∷ es)) (λ (k : Knowledge E). IsMadeBy k.name k.made e.name) (λ k n. n.0) ks names) children) [] e.name refl first,
    names_in ks first children es (every_weaker (λ (k : Knowledge E). NamesOnlyMade k.name k.made (e ∷ es)) (λ (k : Knowledge E). NamesOnlyMade k.name k.made es) (λ k n. n.1) ks names),
  )

  -- ---- what holds of all that was done

  -- Q is a property of an event's name and of what the event says
  module _ (Q : List ℕ → E → Type 0) where
    tail_every : (k : List ℕ) (e : HistoryEvent E) (es : List (HistoryEvent E)) → AllByRecursion (Q k) (said_by k (e ∷ es)) → AllByRecursion (Q k) (said_by k es)
    tail_every k e es = split (is_same_name k e.name) (λ b. AllByRecursion (Q k) (cond b (e.what ∷ said_by k es) (said_by k es)) → AllByRecursion (Q k) (said_by k es)) (λ _ a. a.1) (λ _ a. a)

    said_by_every : (ks : List (Knowledge E)) (h : List (HistoryEvent E)) → AllByRecursion (λ (k : Knowledge E). AllByRecursion (Q k.name) (said_by k.name h)) ks → AllByRecursion (λ (e : HistoryEvent E). HasName e.name ks) h
        → AllByRecursion (λ (e : HistoryEvent E). Q e.name e.what) h
    said_by_every ks [] all has = tt
    said_by_every ks (e ∷ es) all has = (
      (let k = named (λ (k : Knowledge E). AllByRecursion (Q k.name) (said_by k.name (e ∷ es))) e.name ks has.0 all in
          let same : is_same_name k.0.name e.name ≡ true = subst (λ (n : List ℕ). is_same_name k.0.name n ≡ true) k.1 (same_refl k.0.name) in
          subst (λ (n : List ℕ). Q n e.what) k.1 (subst (AllByRecursion (Q k.0.name)) (said_by_yes k.0.name e es same) k.2).0),
      said_by_every ks es (every_weaker (λ (k : Knowledge E). AllByRecursion (Q k.name) (said_by k.name (e ∷ es))) (λ (k : Knowledge E). AllByRecursion (Q k.name) (said_by k.name es)) (λ k a. tail_every k.name e es a) ks all) has.1,
    )

    move : (h : List (HistoryEvent E)) (ks : List (Knowledge E)) → AllByRecursion (Accounts h) ks → AllByRecursion (λ (k : Knowledge E). AllByRecursion (Q k.name) (done_by k)) ks
        → AllByRecursion (λ (k : Knowledge E). AllByRecursion (Q k.name) (said_by k.name h)) ks
    move h [] a b = tt
    move h (k ∷ ks) a b = (subst (AllByRecursion (Q k.name)) (sym a.0.done) b.0, move h ks a.1 b.1)

  -- ---- sums

  total_same : (f g : Knowledge E → ℕ) (ks : List (Knowledge E)) → AllByRecursion (λ k. f k ≡ g k) ks → total f ks ≡ total g ks
  total_same f g [] a = refl
  total_same f g (k ∷ ks) a = let h : total f ks ≡ total g ks = total_same f g ks a.1 in let e : f k ≡ g k = a.0 in omega arith

  total_zero : (ks : List (Knowledge E)) → total (λ (k : Knowledge E). 0) ks ≡ 0
  total_zero [] = refl
  total_zero (k ∷ ks) = let h = total_zero ks in omega arith

  module _ (f : E → ℕ) where
    abbrev sum_of : List (HistoryEvent E) → Knowledge E → ℕ
    sum_of h k = total f (said_by k.name h)

    none_more : (e : HistoryEvent E) (es : List (HistoryEvent E)) (ks : List (Knowledge E)) → (HasName e.name ks → ⊥) → total (sum_of (e ∷ es)) ks ≡ total (sum_of es) ks
    none_more e es [] lacks = refl
    none_more e es (k ∷ ks) lacks =
        let h : total (sum_of (e ∷ es)) ks ≡ total (sum_of es) ks = none_more e es ks (λ x. lacks (inr x)) in
        let i : total f (said_by k.name (e ∷ es)) ≡ total f (said_by k.name es) = ap (total f) (said_by_no k.name e es (same_not k.name e.name (λ p. lacks (inl p)))) in omega arith

    one_more : (e : HistoryEvent E) (es : List (HistoryEvent E)) (ks : List (Knowledge E)) → HasName e.name ks → AreApart ks → total (sum_of (e ∷ es)) ks ≡ f e.what + total (sum_of es) ks
    one_more e es [] has apart = absurd has
    one_more e es (k ∷ ks) (inl p) apart =
        let h : total (sum_of (e ∷ es)) ks ≡ total (sum_of es) ks = none_more e es ks (λ x. apart.0 (subst (λ (n : List ℕ). HasName n ks) (sym p) x)) in
        let i : total f (said_by k.name (e ∷ es)) ≡ f e.what + total f (said_by k.name es) = ap (total f) (said_by_yes k.name e es (subst (λ (n : List ℕ). is_same_name k.name n ≡ true) p (same_refl k.name))) in omega arith
    one_more e es (k ∷ ks) (inr has) apart =
        let h : total (sum_of (e ∷ es)) ks ≡ f e.what + total (sum_of es) ks = one_more e es ks has apart.1 in
        let i : total f (said_by k.name (e ∷ es)) ≡ total f (said_by k.name es) = ap (total f) (said_by_no k.name e es (same_not k.name e.name (λ p. apart.0 (subst (λ (n : List ℕ). HasName n ks) (sym p) has)))) in omega arith

    sum_said_by : (ks : List (Knowledge E)) (h : List (HistoryEvent E)) → AreApart ks → AllByRecursion (λ (e : HistoryEvent E). HasName e.name ks) h → total (λ (e : HistoryEvent E). f e.what) h ≡ total (sum_of h) ks
    sum_said_by ks [] apart has = sym (total_zero ks)
    sum_said_by ks (e ∷ es) apart has =
        let h : total (λ (e : HistoryEvent E). f e.what) es ≡ total (sum_of es) ks = sum_said_by ks es apart has.1 in
        let i : total (sum_of (e ∷ es)) ks ≡ f e.what + total (sum_of es) ks = one_more e es ks has.0 apart in omega arith

  all_names : (ks : List (Knowledge E)) (h : List (HistoryEvent E)) → AreAll ks → IsClosed h ks → AllByRecursion (λ (e : HistoryEvent E). HasName e.name ks) h
  all_names ks h all closed = names_in ks all.first all.children h (every_weaker (Accounts h) (λ (k : Knowledge E). NamesOnlyMade k.name k.made h) (λ k a. a.names) ks closed)

  -- what holds under each token's name of all that it did holds of each event under its name
  pub every_named : (Q : List ℕ → E → Type 0) (ks : List (Knowledge E)) (h : List (HistoryEvent E)) → AreAll ks → IsClosed h ks → AllByRecursion (λ (k : Knowledge E). AllByRecursion (Q k.name) (done_by k)) ks
      → AllByRecursion (λ (e : HistoryEvent E). Q e.name e.what) h
  every_named Q ks h all closed did = said_by_every Q ks h (move Q h ks closed did) (all_names ks h all closed)

  -- what holds of all that each of the tokens did holds of each event
  pub every_done : (P : E → Type 0) (ks : List (Knowledge E)) (h : List (HistoryEvent E)) → AreAll ks → IsClosed h ks → AllByRecursion (λ (k : Knowledge E). AllByRecursion P (done_by k)) ks
      → AllByRecursion (λ (e : HistoryEvent E). P e.what) h
  every_done P ks h all closed did = every_named (λ name. P) ks h all closed did

  pub all_done : (ks : List (Knowledge E)) (h : List (HistoryEvent E)) → AreAll ks → IsClosed h ks → IsAllDone h ks
  all_done ks h all closed = record {
    names = all_names ks h all closed;
    every = λ p did. every_done (λ (x : E). IsTrue (p x)) ks h all closed did;
    sums = λ f. sum_said_by f ks h all.apart (all_names ks h all closed) ∙ total_same (sum_of f h) (λ (k : Knowledge E). total f (done_by k)) ks
        (every_weaker (Accounts h) (λ (k : Knowledge E). sum_of f h k ≡ total f (done_by k)) (λ k a. ap (total f) a.done) ks closed);
  }

  -- ---- one seat, and those that were made through it

  numbered_has : (name : List ℕ) (n j : ℕ) (ks : List (Knowledge E)) → AreNumbered name n ks → n < j → j ≤ n + length ks → HasName (child_name name j) ks
  numbered_has name n j [] a low high = absurd (omega arith)
  numbered_has name n j (k ∷ ks) a low high = split (eqb j (suc n)) (λ b. eqb j (suc n) ≡ b → HasName (child_name name j) (k ∷ ks))
      (λ _ t. inl (a.0.0 ∙ ap (child_name name) (sym ((Decides-eqb j (suc n)).0 t))))
      (λ _ t. inr (numbered_has name (suc n) j ks a.1 (let ne : j ≡ suc n → ⊥ = λ e. false_true (sym t ∙ (Decides-eqb j (suc n)).1 e) in omega arith) (omega arith))) refl
    where
      false_true : false ≡ true → ⊥
      false_true e = cc

  numbered_lacks : (name : List ℕ) (n i : ℕ) (ks : List (Knowledge E)) → AreNumbered name n ks → i ≤ n → HasName (child_name name i) ks → ⊥
  numbered_lacks name n i [] a low has = has
  numbered_lacks name n i (k ∷ ks) a low (inl e) =
      let c : suc n ∷ [] ≡ i ∷ [] = append_cancel_left name (suc n ∷ []) (i ∷ []) (sym a.0.0 ∙ e) in let h : suc n ≡ i = cc in omega arith
  numbered_lacks name n i (k ∷ ks) a low (inr has) = numbered_lacks name (suc n) i ks a.1 (omega arith) has

  maker_lacks : (name : List ℕ) (n : ℕ) (ks : List (Knowledge E)) → AreNumbered name n ks → HasName name ks → ⊥
  maker_lacks name n [] a has = has
  maker_lacks name n (k ∷ ks) a (inl e) = longer name (suc n) [] (sym e ∙ a.0.0)
  maker_lacks name n (k ∷ ks) a (inr has) = maker_lacks name (suc n) ks a.1 has

  numbered_apart : (name : List ℕ) (n : ℕ) (ks : List (Knowledge E)) → AreNumbered name n ks → AreApart ks
  numbered_apart name n [] a = tt
  numbered_apart name n (k ∷ ks) a = ((λ has. numbered_lacks name (suc n) (suc n) ks a.1 (omega arith) (subst (λ (x : List ℕ). HasName x ks) a.0.0 has)), numbered_apart name (suc n) ks a.1)

  no_children : (name : List ℕ) (all : List (Knowledge E)) (n : ℕ) (ks : List (Knowledge E)) → AreNumbered name n ks → AllByRecursion (HasChildren all) ks
  no_children name all n [] a = tt
  no_children name all n (k ∷ ks) a = ((λ j low high. let z : k.made ≡ 0 = a.0.1 in absurd (omega arith)), no_children name all (suc n) ks a.1)

  -- the first seat, and all that were made through it
  pub first_and_made : (k : Knowledge E) (ks : List (Knowledge E)) → k.name ≡ [] → k.made ≡ length ks → AreNumbered [] 0 ks → AreAll (k ∷ ks)
  first_and_made k ks first made a = record {
    first = inl first;
    children = (
      (λ j low high. inr (subst (λ (x : List ℕ). HasName (child_name x j) ks) (sym first) (numbered_has [] 0 j ks a (omega arith) (omega arith)))),
      no_children [] (k ∷ ks) 0 ks a,
    );
    apart = ((λ has. maker_lacks [] 0 ks a (subst (λ (x : List ℕ). HasName x ks) first has)), numbered_apart [] 0 ks a);
  }
