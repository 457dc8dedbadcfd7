-- What a token has done: after one call, after a meeting, and between two histories in which it has done the same.
use Rattle.std.proofs.Common.{◌≡◌, ℕ, ◌+◌, Bool, true, false, cond, List, [], ◌∷◌, ◌++◌, length, refl, sym, ap, ◌∙◌, subst, arith, append_assoc, append-nil, length-append, ◌⊎◌, ⊎_elim, map}
use Rattle.std.specs.List.{AllByRecursion, flat_map}
use Rattle.flow_law.specs.declared.history.HistoryEvent.{HistoryEvent}
use Rattle.flow_law.specs.declared.history.Knowledge.{Knowledge}
use Rattle.flow_law.specs.declared.history.Said.{Said}
use Rattle.flow_law.specs.history.Growth.{event, IsSilent, IsMadeBy, NamesOnlyMade, GrowsByOthers, Fits}
use Rattle.flow_law.specs.history.Promise.{said, AddsOne}
use Rattle.flow_law.specs.flow.Values.{numbers_exact}
use Rattle.flow_law.specs.history.Done.{is_same_name, total, said_by, done_by, Extends, Made}
use Rattle.flow_law.specs.laws.Closed.{Accounts}

-- ---- sums and lists

pub total-append : {X : Type 0} (f : X → ℕ) (xs ys : List X) → total f (xs ++ ys) ≡ total f xs + total f ys
total-append f [] ys = omega arith
total-append f (x ∷ xs) ys = let h : total f (xs ++ ys) ≡ total f xs + total f ys = total-append f xs ys in omega arith

pub every_append : {X : Type 0} (P : X → Type 0) (xs ys : List X) → AllByRecursion P xs → AllByRecursion P ys → AllByRecursion P (xs ++ ys)
every_append P [] ys a b = b
every_append P (x ∷ xs) ys a b = (a.0, every_append P xs ys a.1 b)

pub every_left : {X : Type 0} (P : X → Type 0) (xs ys : List X) → AllByRecursion P (xs ++ ys) → AllByRecursion P xs
every_left P [] ys a = tt
every_left P (x ∷ xs) ys a = (a.0, every_left P xs ys a.1)

-- a goal about a test holds if it holds for true and for false
pub split : (b : Bool) (P : Bool → Type 0) → (b ≡ true → P true) → (b ≡ false → P false) → P b
split true P f g = f refl
split false P f g = g refl

none_left : {X : Type 0} (xs ys zs : List X) → (xs ++ ys) ++ zs ≡ xs → ys ≡ []
none_left xs [] zs e = refl
none_left xs (y ∷ ys) zs e = let l : length ((xs ++ y ∷ ys) ++ zs) ≡ length xs = ap length e in let m = length-append (xs ++ y ∷ ys) zs in let n = length-append xs (y ∷ ys) in absurd (omega arith)

-- ---- names

pub same_refl : (k : List ℕ) → is_same_name k k ≡ true
same_refl k = (numbers_exact k k).1 refl

pub same_is : (k n : List ℕ) → is_same_name k n ≡ true → k ≡ n
same_is k n = (numbers_exact k n).0

is_not : (b : Bool) → (b ≡ true → ⊥) → b ≡ false
is_not true = λ never. absurd (never refl)
is_not false = λ _. refl

pub same_not : (k n : List ℕ) → (k ≡ n → ⊥) → is_same_name k n ≡ false
same_not k n ne = is_not (is_same_name k n) (λ yes. ne (same_is k n yes))

yes_no : true ≡ false → ⊥
yes_no e = cc

module _ {E : Type 0} where
  pub said_by-append : (k : List ℕ) (g h : List (HistoryEvent E)) → said_by k (g ++ h) ≡ said_by k g ++ said_by k h
  said_by-append k [] h = refl
  said_by-append k (e ∷ es) h = split (is_same_name k e.name) (λ b. cond b (e.what ∷ said_by k (es ++ h)) (said_by k (es ++ h)) ≡ cond b (e.what ∷ said_by k es) (said_by k es) ++ said_by k h)
      (λ _. ap (λ l. e.what ∷ l) (said_by-append k es h)) (λ _. said_by-append k es h)

  pub said_by_yes : (k : List ℕ) (e : HistoryEvent E) (es : List (HistoryEvent E)) → is_same_name k e.name ≡ true → said_by k (e ∷ es) ≡ e.what ∷ said_by k es
  said_by_yes k e es t = ap (λ b. cond b (e.what ∷ said_by k es) (said_by k es)) t

  pub said_by_no : (k : List ℕ) (e : HistoryEvent E) (es : List (HistoryEvent E)) → is_same_name k e.name ≡ false → said_by k (e ∷ es) ≡ said_by k es
  said_by_no k e es t = ap (λ b. cond b (e.what ∷ said_by k es) (said_by k es)) t

  pub said_by_silent : (k : List ℕ) (h : List (HistoryEvent E)) → IsSilent k h → said_by k h ≡ []
  said_by_silent k [] a = refl
  said_by_silent k (e ∷ es) a = said_by_no k e es (same_not k e.name (λ (p : k ≡ e.name). a.0 (sym p))) ∙ said_by_silent k es a.1

  pub said_by_one : (k : List ℕ) (began : ℕ) (x : E) → said_by k (event k began x ∷ []) ≡ x ∷ []
  said_by_one k began x = said_by_yes k (event k began x) [] (same_refl k)

  -- events of others add nothing
  pub said_by_others : (k : List ℕ) (h more : List (HistoryEvent E)) → IsSilent k more → said_by k (h ++ more) ≡ said_by k h
  said_by_others k h more a = said_by-append k h more ∙ ap (λ l. said_by k h ++ l) (said_by_silent k more a) ∙ append-nil (said_by k h)

  pub said_by_grown : (k : List ℕ) (h later : List (HistoryEvent E)) → GrowsByOthers k h later → said_by k later ≡ said_by k h
  said_by_grown k h later g = ap (said_by k) g.1 ∙ said_by_others k h g.0 g.2

  -- if all other events give nothing, all events give what those of this name give
  pub flat_alone : {X : Type 0} (f : E → List X) (k : List ℕ) (h : List (HistoryEvent E)) → AllByRecursion (λ (e : HistoryEvent E). (e.name ≡ k) ⊎ (f e.what ≡ [])) h → flat_map f (map (λ e. e.what) h) ≡ flat_map f (said_by k h)
  flat_alone f k [] a = refl
  flat_alone f k (e ∷ es) a = split (is_same_name k e.name) (λ b. f e.what ++ flat_map f (map (λ e. e.what) es) ≡ flat_map f (cond b (e.what ∷ said_by k es) (said_by k es)))
      (λ _. ap (λ l. f e.what ++ l) (flat_alone f k es a.1))
      (λ no. ⊎_elim (λ same. absurd (yes_no (sym (subst (λ (n : List ℕ). is_same_name k n ≡ true) (sym same) (same_refl k)) ∙ no)))
      (λ none. ap (λ l. l ++ flat_map f (map (λ e. e.what) es)) none ∙ flat_alone f k es a.1) a.0)

  -- ---- one history after the other

  pub extends_refl : (h : List (HistoryEvent E)) → Extends h h
  extends_refl h = ([], sym (append-nil h))

  pub extends_trans : (a b c : List (HistoryEvent E)) → Extends a b → Extends b c → Extends a c
  extends_trans a b c x y = (x.0 ++ y.0, y.1 ∙ ap (λ l. l ++ y.0) x.1 ∙ append_assoc a x.0 y.0)

  pub names_left : (name : List ℕ) (made : ℕ) (a b : List (HistoryEvent E)) → Extends a b → NamesOnlyMade name made b → NamesOnlyMade name made a
  names_left name made a b x n = every_left (λ (e : HistoryEvent E). IsMadeBy name made e.name) a x.0 (subst (NamesOnlyMade name made) x.1 n)

  -- if the token has done the same after the earliest and after the latest history, it has done the same after one in between
  pub squeezed : (k : List ℕ) (a h b : List (HistoryEvent E)) → Extends a h → Extends h b → said_by k b ≡ said_by k a → said_by k h ≡ said_by k a
  squeezed k a h b x y same =
      let one : said_by k h ≡ said_by k a ++ said_by k x.0 = ap (said_by k) x.1 ∙ said_by-append k a x.0 in
      let two : said_by k b ≡ (said_by k a ++ said_by k x.0) ++ said_by k y.0 = ap (said_by k) y.1 ∙ said_by-append k h y.0 ∙ ap (λ l. l ++ said_by k y.0) one in
      let none : said_by k x.0 ≡ [] = none_left (said_by k a) (said_by k x.0) (said_by k y.0) (sym two ∙ same) in
      one ∙ ap (λ l. said_by k a ++ l) none ∙ append-nil (said_by k a)

  -- ---- what the token has made

  pub made_nothing : (k : Knowledge E) → Made [] k k
  made_nothing k = record { name = refl; made = refl; grows = extends_refl k.seen; done = sym (append-nil (done_by k)) }

  pub made_more : (v w : List E) (a b c : Knowledge E) → Made v a b → Made w b c → Made (v ++ w) a c
  made_more v w a b c x y = record {
    name = y.name ∙ x.name;
    made = y.made ∙ x.made;
    grows = extends_trans a.seen b.seen c.seen x.grows y.grows;
    done = y.done ∙ ap (λ l. l ++ w) x.done ∙ append_assoc (done_by a) v w;
  }

  -- it has met others
  pub made_fits : (h : List (HistoryEvent E)) (k after : Knowledge E) → Fits h k → after.name ≡ k.name → after.made ≡ k.made → after.seen ≡ h → Made [] k after
  made_fits h k after f name made seen = record {
    name = name;
    made = made;
    grows = (f.0.0, seen ∙ f.0.1);
    done = ap (λ (n : List ℕ). said_by n after.seen) name ∙ ap (said_by k.name) seen ∙ said_by_grown k.name k.seen h f.0 ∙ sym (append-nil (done_by k));
  }

  -- a history that a token's knowledge fits, and one between two that it has seen
  pub accounts_fits : (h : List (HistoryEvent E)) (k : Knowledge E) → Fits h k → Accounts h k
  accounts_fits h k f = record { done = said_by_grown k.name k.seen h f.0; names = f.1 }

  pub accounts_between : (h : List (HistoryEvent E)) (k later : Knowledge E) → Extends k.seen h → Extends h later.seen → Made [] k later → NamesOnlyMade later.name later.made later.seen → Accounts h k
  accounts_between h k later x y same names = record {
    done = squeezed k.name k.seen h later.seen x y (ap (λ (n : List ℕ). said_by n later.seen) (sym same.name) ∙ same.done ∙ append-nil (done_by k));
    names = names_left k.name k.made h later.seen y (subst (λ (n : List ℕ). NamesOnlyMade n k.made later.seen) same.name (subst (λ (m : ℕ). NamesOnlyMade later.name m later.seen) same.made names));
  }

  -- if the token has done nothing since, a history that accounts for what it knows now also accounts for what it knew before
  pub accounts_before : (h : List (HistoryEvent E)) (old k : Knowledge E) → Made [] old k → Accounts h k → Accounts h old
  accounts_before h old k same a = record {
    done = ap (λ (n : List ℕ). said_by n h) (sym same.name) ∙ a.done ∙ same.done ∙ append-nil (done_by old);
    names = subst (λ (n : List ℕ). NamesOnlyMade n old.made h) same.name (subst (λ (m : ℕ). NamesOnlyMade k.name m h) same.made a.names);
  }

module _ {C R : Type 0} where
  -- one call is one
  pub made_one : (IsHistory : List (HistoryEvent (Said C R)) → Type 0) (before after : Knowledge (Said C R)) (c : C) (r : R) → AddsOne IsHistory before c r after → Made (said c r ∷ []) before after
  made_one IsHistory before after c r a =
      let g = a.grows in let k = before.name in record {
        name = a.name;
        made = a.made;
        grows = (g.0 ++ event k a.began (said c r) ∷ [], g.1 ∙ append_assoc before.seen g.0 (event k a.began (said c r) ∷ []));
        done = ap (λ (n : List ℕ). said_by n after.seen) a.name ∙ ap (said_by k) g.1 ∙ said_by-append k (before.seen ++ g.0) (event k a.began (said c r) ∷ [])
            ∙ ap (λ l. l ++ said_by k (event k a.began (said c r) ∷ [])) (said_by_others k before.seen g.0 g.2) ∙ ap (λ l. done_by before ++ l) (said_by_one k a.began (said c r));
      }
