-- Tokens that meet one after the other, and what a token between two rounds of meetings has seen.
use Rattle.std.proofs.Common.{eqb, true, false, ◌≡◌, ℕ, suc, ◌+◌, ◌<◌, ◌≤◌, List, [], ◌∷◌, ◌++◌, length, get_or, map, refl, sym, ap, ◌∙◌, subst, arith}
use borrow.Author.Count.{below_more}
use Rattle.std.proofs.Math.ListN.{set}
use Rattle.std.proofs.lemmas.List.{get_or-set_same, get_or-set_other, get_or_default}
use Rattle.std.proofs.lemmas.Bool.Decides.{Decides-eqb}
use Rattle.flow_law.specs.declared.history.HistoryEvent.{HistoryEvent}
use Rattle.flow_law.specs.declared.history.Knowledge.{Knowledge}
use Rattle.flow_law.specs.declared.history.Said.{Said}
use Rattle.flow_law.specs.history.Growth.{NamesOnlyMade, event}
use Rattle.flow_law.specs.declared.call.StateCall.TheVariants as call
use Rattle.flow_law.specs.declared.call.StateReply.TheVariants as reply
use Rattle.flow_law.specs.declared.states.StateFlowState.{StateFlowState}
use Rattle.flow_law.specs.history.History.{Kind, IsHistory, after_all}
use Rattle.flow_law.specs.history.Promise.{said, Token, CallsIn}
use Rattle.flow_law.specs.flow.StateFlow.{state_flow, state_after_all}
use Rattle.flow_law.specs.history.Updates.{StateTokenOf}
use Rattle.flow_law.proofs.Names.{every_append}
use Rattle.flow_law.proofs.Owners.{history_left, legal_right}
use Rattle.flow_law.specs.history.Tokens.{MeetsIn}
use Rattle.flow_law.specs.history.Done.{Extends}
use Rattle.flow_law.specs.laws.Closed.{Accounts, IsClosed}
use Rattle.flow_law.specs.history.Rounds.{HasClosedHistory, OnlyMeets, MeetsInTurn, IsFinalValue}
use Rattle.flow_law.proofs.DoneLemmas.{split, extends_refl, extends_trans, made_more, made_nothing, made_fits, accounts_between, accounts_before, said_by_others, names_left}

module _ {Id T S C R : Type 0} (kind : Kind T S C R) (first : S) where
  pub only_meets_refl : (t : Token Id (Said C R)) → OnlyMeets t t
  only_meets_refl t = (refl, made_nothing t.knows)

  pub only_meets_trans : (a b c : Token Id (Said C R)) → OnlyMeets a b → OnlyMeets b c → OnlyMeets a c
  only_meets_trans a b c x y = (y.0 ∙ x.0, made_more [] [] a.knows b.knows c.knows x.1 y.1)

  pub only_meets_one : (one t one' t' : Token Id (Said C R)) → MeetsIn kind first one t one' t' → OnlyMeets one one'
  only_meets_one one t one' t' m = let e = m.sees_one in
      (ap (λ (x : Token Id (Said C R)). x.table_id) e, made_fits m.history one.knows one'.knows m.fits_one (ap (λ (x : Token Id (Said C R)). x.knows.name) e) (ap (λ (x : Token Id (Said C R)). x.knows.made) e) (ap (λ (x : Token Id (Said C R)). x.knows.seen) e))

  pub meets_now : (start one t one' t' : Token Id (Said C R)) → OnlyMeets start one → MeetsIn kind first one t one' t' → MeetsInTurn kind first start.knows one'.knows t t'
  meets_now start one t one' t' s m =
      let e = m.sees_other in
      let seen : t'.knows.seen ≡ m.history = ap (λ (x : Token Id (Said C R)). x.knows.seen) e in
      let one_seen : one'.knows.seen ≡ m.history = ap (λ (x : Token Id (Said C R)). x.knows.seen) m.sees_one in
      let name : t'.knows.name ≡ t.knows.name = ap (λ (x : Token Id (Said C R)). x.knows.name) e in let made : t'.knows.made ≡ t.knows.made = ap (λ (x : Token Id (Said C R)). x.knows.made) e in record {
        only_meets = (ap (λ (x : Token Id (Said C R)). x.table_id) e, made_fits m.history t.knows t'.knows m.fits_other name made seen);
        history = subst (IsHistory kind first) (sym seen) m.is_history;
        names = subst (λ (h : List (HistoryEvent (Said C R))). NamesOnlyMade t'.knows.name t'.knows.made h) (sym seen)
            (subst (λ (n : List ℕ). NamesOnlyMade n t'.knows.made m.history) (sym name) (subst (λ (n : ℕ). NamesOnlyMade t.knows.name n m.history) (sym made) m.fits_other.1));
        since = extends_trans start.knows.seen one.knows.seen t'.knows.seen s.1.grows (m.fits_one.0.0, seen ∙ m.fits_one.0.1);
        into = subst (λ (h : List (HistoryEvent (Said C R))). Extends t'.knows.seen h) (seen ∙ sym one_seen) (extends_refl t'.knows.seen);
      }

  -- the two may be named in either order
  pub meets_turned : (one t one' t' : Token Id (Said C R)) → MeetsIn kind first one t one' t' → MeetsIn kind first t one t' one'
  meets_turned one t one' t' m = record { history = m.history; is_history = m.is_history; timed = m.timed; fits_one = m.fits_other; fits_other = m.fits_one; sees_one = m.sees_other; sees_other = m.sees_one }

  pub meets_later : (start a b : Knowledge (Said C R)) (t t' : Token Id (Said C R)) → MeetsInTurn kind first start a t t' → Extends a.seen b.seen → MeetsInTurn kind first start b t t'
  meets_later start a b t t' m x = record { only_meets = m.only_meets; history = m.history; names = m.names; since = m.since; into = extends_trans t'.knows.seen a.seen b.seen m.into x }

  -- a token that was met before and after this history accounts for it
  pub accounts_met : (h : List (HistoryEvent (Said C R))) (o p q r : Knowledge (Said C R)) (t u w : Token Id (Said C R)) → MeetsInTurn kind first o p t u → MeetsInTurn kind first q r u w → Extends p.seen h → Extends h q.seen → Accounts h t.knows
  accounts_met h o p q r t u w m n x y =
      accounts_before h t.knows u.knows m.only_meets.1
      (accounts_between h u.knows w.knows (extends_trans u.knows.seen p.seen h m.into x) (extends_trans h q.seen w.knows.seen y n.since) n.only_meets.1 n.names)

  -- ---- the loop over all tokens: those before the k-th have met, the others are as they were

  module _ {W : Type 0} (seat : W → Token Id (Said C R)) where
    abbrev pub HaveMet : Token Id (Said C R) → Token Id (Said C R) → List W → List W → ℕ → Type 0
    HaveMet start one xs ys k =
        OnlyMeets start one
        × ((j : ℕ) (d : W) → k ≤ j → get_or ys j d ≡ get_or xs j d)
        × ((j : ℕ) (d : W) → j < k → MeetsInTurn kind first start.knows one.knows (seat (get_or xs j d)) (seat (get_or ys j d)))

    pub one_met : (start mid one : Token Id (Said C R)) (xs ys : List W) (k : ℕ) (o y : W) → HaveMet start mid xs ys k → k < length ys → MeetsIn kind first mid (seat (get_or ys k o)) one (seat y)
        → HaveMet start one xs (set ys k y) (k + 1)
    one_met start mid one xs ys k o y inv l m =
        let s = only_meets_one mid (seat (get_or ys k o)) one (seat y) m in (
          only_meets_trans start mid one inv.0 s,
          (λ j d h. get_or-set_other ys k j y d (λ e. omega arith) ∙ inv.1 j d (omega arith)),
          (λ j d h. below_more (λ i. MeetsInTurn kind first start.knows one.knows (seat (get_or xs i d)) (seat (get_or (set ys k y) i d))) k
              (λ i u. subst (λ (z : W). MeetsInTurn kind first start.knows one.knows (seat (get_or xs i d)) (seat z)) (sym (get_or-set_other ys k i y d (λ e. omega arith)))
              (meets_later start.knows mid.knows one.knows (seat (get_or xs i d)) (seat (get_or ys i d)) (inv.2 i d u) s.1.grows))
              (subst (λ (z : W). MeetsInTurn kind first start.knows one.knows (seat (get_or xs k d)) (seat z)) (sym (get_or-set_same ys k y d l))
              (subst (λ (z : W). MeetsInTurn kind first start.knows one.knows (seat z) (seat y)) (get_or_default ys k o d l ∙ inv.1 k d (omega arith)) (meets_now start mid (seat (get_or ys k o)) one (seat y) inv.0 m)))
              j h),
        )

    -- two rounds of meetings: a history between them has what each token had done
    pub accounts_all : (h : List (HistoryEvent (Said C R))) (o p q r : Knowledge (Said C R)) (xs ys zs : List W) → Extends p.seen h → Extends h q.seen
        → ((i : ℕ) (d : W) → i < length xs → MeetsInTurn kind first o p (seat (get_or xs i d)) (seat (get_or ys i d)))
        → ((i : ℕ) (d : W) → i < length xs → MeetsInTurn kind first q r (seat (get_or ys i d)) (seat (get_or zs i d)))
        → IsClosed h (map (λ (w : W). (seat w).knows) xs)
    accounts_all h o p q r [] ys zs x y a b = tt
    accounts_all h o p q r (w ∷ ws) ys zs x y a b = (
      accounts_met h o p q r (seat w) (seat (get_or ys 0 w)) (seat (get_or zs 0 w)) (a 0 w (omega arith)) (b 0 w (omega arith)) x y,
      accounts_all h o p q r ws (tail ys) (tail zs) x y
          (λ i d l. subst (λ (z : W). MeetsInTurn kind first o p (seat (get_or ws i d)) (seat z)) (tail_at ys i d) (a (suc i) d (omega arith)))
          (λ i d l. subst (λ (z : W). MeetsInTurn kind first q r (seat z) (seat (get_or (tail zs) i d))) (tail_at ys i d) (subst (λ (z : W). MeetsInTurn kind first q r (seat (get_or ys (suc i) d)) (seat z)) (tail_at zs i d) (b (suc i) d (omega arith)))),
    )
      where
        tail : List W → List W
        tail [] = []
        tail (v ∷ vs) = vs

        tail_at : (vs : List W) (i : ℕ) (d : W) → get_or vs (suc i) d ≡ get_or (tail vs) i d
        tail_at [] i d = refl
        tail_at (v ∷ vs) i d = refl

-- f gives the same at each place if one element is replaced by one with the same f
pub same_by_place : {W X : Type 0} (f : W → X) (xs ys : List W) (k : ℕ) (o y : W) → k < length ys → ((j : ℕ) (d : W) → f (get_or ys j d) ≡ f (get_or xs j d)) → f y ≡ f (get_or ys k o)
    → (j : ℕ) (d : W) → f (get_or (set ys k y) j d) ≡ f (get_or xs j d)
same_by_place {W} f xs ys k o y l same e j d = split (eqb j k) (λ b. f (get_or (set ys k y) j d) ≡ f (get_or xs j d))
    (λ t. let at : j ≡ k = (Decides-eqb j k).0 t in
    ap (λ i. f (get_or (set ys k y) i d)) at ∙ ap f (get_or-set_same ys k y d l) ∙ e ∙ ap f (get_or_default ys k o d l) ∙ ap (λ i. f (get_or ys i d)) (sym at) ∙ same j d)
    (λ t. ap f (get_or-set_other ys k j y d (λ (at : j ≡ k). absurd (false_true (sym t ∙ (Decides-eqb j k).1 at)))) ∙ same j d)
  where
    false_true : false ≡ true → ⊥
    false_true e = cc

-- ---- a call between two rounds

module _ {Id T S C R : Type 0} (kind : Kind T S C R) (first : S) where
  -- the history before the call has what the caller had done
  pub accounts_caller : (one met read : Token Id (Said C R)) (c : C) (r : R) → OnlyMeets one met → (called : CallsIn kind first met c r read) → Accounts (met.knows.seen ++ called.1.grows.0) one.knows
  accounts_caller one met read c r s called =
      let g = called.1.grows in let h = met.knows.seen ++ g.0 in
      accounts_before h one.knows met.knows s.1 record {
        done = said_by_others met.knows.name met.knows.seen g.0 g.2;
        names = names_left met.knows.name met.knows.made h read.knows.seen (event met.knows.name called.1.began (said c r) ∷ [], g.1)
            (subst (λ (n : List ℕ). NamesOnlyMade n met.knows.made read.knows.seen) called.1.name (subst (λ (m : ℕ). NamesOnlyMade read.knows.name m read.knows.seen) called.1.made called.1.names));
      }

  -- it is a history of the flow, and the call's reply is the flow's after it
  pub before_call : (met read : Token Id (Said C R)) (c : C) (r : R) → (called : CallsIn kind first met c r read) → IsHistory kind first (met.knows.seen ++ called.1.grows.0) × kind.Replies (after_all kind first (met.knows.seen ++ called.1.grows.0)) c r
  before_call met read c r called =
      let g = called.1.grows in let h = met.knows.seen ++ g.0 in let last = event met.knows.name called.1.began (said c r) ∷ [] in
      let whole : IsHistory kind first (h ++ last) = subst (IsHistory kind first) g.1 called.1.history in
      (history_left kind first h last whole, (legal_right kind first h last whole.legal).0)

  -- and it has what each of the others had done that met the caller before the call and after it
  pub accounts_around : {W : Type 0} (seat : W → Token Id (Said C R)) (o p q r : Knowledge (Said C R)) (met read : Token Id (Said C R)) (c : C) (a : R) (xs ys zs : List W) → (called : CallsIn kind first met c a read)
      → Extends p.seen met.knows.seen → Extends read.knows.seen q.seen
      → ((i : ℕ) (d : W) → i < length xs → MeetsInTurn kind first o p (seat (get_or xs i d)) (seat (get_or ys i d)))
      → ((i : ℕ) (d : W) → i < length xs → MeetsInTurn kind first q r (seat (get_or ys i d)) (seat (get_or zs i d)))
      → IsClosed (met.knows.seen ++ called.1.grows.0) (map (λ (w : W). (seat w).knows) xs)
  accounts_around seat o p q r met read c a xs ys zs called x y m n =
      let g = called.1.grows in let h = met.knows.seen ++ g.0 in
      accounts_all kind first seat h o p q r xs ys zs (extends_trans p.seen met.knows.seen h x (g.0, refl))
      (extends_trans h read.knows.seen q.seen (event met.knows.name called.1.began (said c a) ∷ [], g.1) y) m n

  -- two lists of tokens, which both were met before the call and after it
  pub closed_around : {V W : Type 0} (seat : V → Token Id (Said C R)) (place : W → Token Id (Said C R)) (one mid met read next end : Token Id (Said C R)) (c : C) (a : R) (xs ys zs : List V) (us vs ws : List W)
      → OnlyMeets one mid → OnlyMeets mid met → CallsIn kind first met c a read → OnlyMeets read next
      → ((i : ℕ) (d : V) → i < length xs → MeetsInTurn kind first one.knows mid.knows (seat (get_or xs i d)) (seat (get_or ys i d)))
      → ((i : ℕ) (d : W) → i < length us → MeetsInTurn kind first mid.knows met.knows (place (get_or us i d)) (place (get_or vs i d)))
      → ((i : ℕ) (d : V) → i < length xs → MeetsInTurn kind first read.knows next.knows (seat (get_or ys i d)) (seat (get_or zs i d)))
      → ((i : ℕ) (d : W) → i < length us → MeetsInTurn kind first next.knows end.knows (place (get_or vs i d)) (place (get_or ws i d)))
      → HasClosedHistory kind first (one.knows ∷ (map (λ (v : V). (seat v).knows) xs ++ map (λ (w : W). (place w).knows) us))
  closed_around seat place one mid met read next end c a xs ys zs us vs ws m n called o e f g k = (
    met.knows.seen ++ called.1.grows.0,
    (before_call met read c a called).0,
    (
      accounts_caller one met read c a (only_meets_trans kind first one mid met m n) called,
      every_append (Accounts (met.knows.seen ++ called.1.grows.0)) (map (λ v. (seat v).knows) xs) (map (λ w. (place w).knows) us)
          (accounts_around seat one.knows mid.knows read.knows next.knows met read c a xs ys zs called n.1.grows (extends_refl read.knows.seen) e g)
          (accounts_around place mid.knows met.knows next.knows end.knows met read c a us vs ws called (extends_refl met.knows.seen) o.1.grows f k),
    ),
  )

module _ {Id T W : Type 0} (first : StateFlowState T) (seat : W → StateTokenOf Id T) where
  same_value : (a b : T) → reply.Got a ≡ reply.Got b → a ≡ b
  same_value a b e = cc

  -- a value that is read between two rounds
  pub final_value : (one met read end : StateTokenOf Id T) (xs ys zs : List W) (x : T) → OnlyMeets one met
      → ((i : ℕ) (d : W) → i < length xs → MeetsInTurn state_flow first one.knows met.knows (seat (get_or xs i d)) (seat (get_or ys i d)))
      → CallsIn state_flow first met call.GetValue (reply.Got x) read
      → ((i : ℕ) (d : W) → i < length xs → MeetsInTurn state_flow first read.knows end.knows (seat (get_or ys i d)) (seat (get_or zs i d)))
      → IsFinalValue first (one.knows ∷ map (λ (w : W). (seat w).knows) xs) x
  final_value one met read end xs ys zs x s a called b =
      let g = called.1.grows in let h = met.knows.seen ++ g.0 in
      let before = before_call state_flow first met read call.GetValue (reply.Got x) called in (
        h,
        before.0,
        (
          accounts_caller state_flow first one met read call.GetValue (reply.Got x) s called,
          accounts_around state_flow first seat one.knows met.knows read.knows end.knows met read call.GetValue (reply.Got x) xs ys zs called (extends_refl met.knows.seen) (extends_refl read.knows.seen) a b,
        ),
        same_value x (state_after_all first h).value before.1,
      )
