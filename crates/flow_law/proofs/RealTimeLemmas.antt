-- When the calls of a history began: after one more event, after several events of one token, and the law. Begin with `IsTimed-snoc`.
use Rattle.std.proofs.Common.{◌≡◌, ◌≢◌, ℕ, zero, suc, ◌+◌, ◌≤◌, ◌<◌, List, [], ◌∷◌, ◌++◌, length, drop, Option, Some, None, refl, sym, ap, ◌∙◌, subst, arith, append_assoc, append-nil, length-append, le_refl}
use Rattle.std.proofs.Math.Seq.{drop-length}
use Rattle.std.specs.List.{AllByRecursion}
use mathlib.Core.Logic.{dite}
use native.Mathlib.Decide.{dec_le}
use Rattle.flow_law.specs.declared.history.HistoryEvent.{HistoryEvent}
use Rattle.flow_law.specs.declared.history.Said.{Said}
use Rattle.flow_law.specs.history.Growth.{IsSilent, GrowsByOthers, event, after_events}
use Rattle.flow_law.specs.history.History.{Kind, IsHistory}
use Rattle.flow_law.specs.history.RealTime.{began_at, BeganSince, BeganInTime, IsTimedAfter, IsTimed, IsAt, WasThere, InRealTime, Linearizable}

module _ {X : Type 0} where
  every_drop : (P : X → Type 0) (n : ℕ) (xs : List X) → AllByRecursion P xs → AllByRecursion P (drop n xs)
  every_drop P zero xs a = a
  every_drop P (suc n) [] a = tt
  every_drop P (suc n) (x ∷ xs) a = every_drop P n xs a.1

  every_here : (P : X → Type 0) (xs : List X) (x : X) (more : List X) → AllByRecursion P (xs ++ x ∷ more) → P x
  every_here P [] x more a = a.0
  every_here P (y ∷ ys) x more a = every_here P ys x more a.1

  -- x is one of those that are left, if at most those before it are dropped
  every_left : (P : X → Type 0) (n : ℕ) (xs : List X) (x : X) (more : List X) → n ≤ length xs → AllByRecursion P (drop n (xs ++ x ∷ more)) → P x
  every_left P zero xs x more l a = every_here P xs x more a
  every_left P (suc n) [] x more l a = absurd (omega arith)
  every_left P (suc n) (y ∷ ys) x more l a = every_left P n ys x more (omega arith) a

  -- of two places in one list, the first is before the second
  split_before : (a : List X) (e : X) (b c : List X) (f : X) (d : List X) → a ++ e ∷ b ≡ c ++ f ∷ d → length a < length c → (more : List X) × (c ≡ a ++ e ∷ more)
  split_before [] e b [] f d p l = absurd (omega arith)
  split_before [] e b (y ∷ c) f d p l = let h : e ≡ y = cc in (c, λ i. sym h i ∷ c)
  split_before (x ∷ a) e b [] f d p l = absurd (omega arith)
  split_before (x ∷ a) e b (y ∷ c) f d p l = let h : x ≡ y = cc in let t : a ++ e ∷ b ≡ c ++ f ∷ d = cc in let r = split_before a e b c f d t (omega arith) in (r.0, λ i. sym h i ∷ r.1 i)

-- when a call began lies between what its token had seen and what the history has
pub since_seen : (began : Option ℕ) (seen now : ℕ) → BeganSince began seen now → seen ≤ now → (seen ≤ began_at began now) × (began_at began now ≤ now)
since_seen None seen now since less = (less, le_refl now)
since_seen (Some n) seen now since less = since

-- it still does if the history has more
pub since_more : (began : Option ℕ) (seen now later : ℕ) → now ≤ later → BeganSince began seen now → BeganSince began seen later
since_more None seen now later more since = tt
since_more (Some n) seen now later more since = (since.0, omega (arith, since.1))

module _ {E : Type 0} where
  -- a caller that was silent after what it had seen was so after its call began
  silent_since : (name : List ℕ) (n : ℕ) (seen between : List (HistoryEvent E)) → IsSilent name between → length seen ≤ n → IsSilent name (drop n (seen ++ between))
  silent_since name n [] between s l = every_drop (λ (e : HistoryEvent E). e.name ≢ name) n between s
  silent_since name zero (x ∷ xs) between s l = absurd (omega arith)
  silent_since name (suc n) (x ∷ xs) between s l = silent_since name n xs between s (omega arith)

  pub grown_longer : (name : List ℕ) (h later : List (HistoryEvent E)) → GrowsByOthers name h later → length h ≤ length later
  grown_longer name h later g = let l : length later ≡ length (h ++ g.0) = ap length g.1 in let m = length-append h g.0 in omega arith

  pub before_own : (h : List (HistoryEvent E)) (e : HistoryEvent E) (n : ℕ) → n ≤ length h → n < length (h ++ e ∷ [])
  before_own h e n l = let m : length (h ++ e ∷ []) ≡ length h + 1 = length-append h (e ∷ []) in omega arith

  pub one_longer : (h : List (HistoryEvent E)) (e : HistoryEvent E) → length h ≤ length (h ++ e ∷ [])
  one_longer h e = let m : length (h ++ e ∷ []) ≡ length h + 1 = length-append h (e ∷ []) in omega arith

  -- a call that began after all that its caller had seen began in time
  pub began_since : (name : List ℕ) (began : ℕ) (what : E) (seen h : List (HistoryEvent E)) → GrowsByOthers name seen h → length seen ≤ began → began ≤ length h → BeganInTime h (event name began what)
  began_since name began what seen h grown since within = (within, subst (λ l. IsSilent name (drop began l)) (sym grown.1) (silent_since name began seen grown.0 grown.2 since))

  -- so did one of a single step
  pub began_now : (name : List ℕ) (what : E) (h : List (HistoryEvent E)) → BeganInTime h (event name (length h) what)
  began_now name what h = (le_refl (length h), subst (IsSilent name) (sym (drop-length h)) tt)

  timed_more : (past h : List (HistoryEvent E)) (e : HistoryEvent E) → IsTimedAfter past h → BeganInTime (past ++ h) e → IsTimedAfter past (h ++ e ∷ [])
  timed_more past [] e t b = (subst (λ l. BeganInTime l e) (append-nil past) b, tt)
  timed_more past (x ∷ xs) e t b = (t.0, timed_more (past ++ x ∷ []) xs e t.1 (subst (λ l. BeganInTime l e) (sym (append_assoc past (x ∷ []) xs)) b))

  -- one more event
  pub IsTimed-snoc : (h : List (HistoryEvent E)) (e : HistoryEvent E) → IsTimed h → BeganInTime h e → IsTimed (h ++ e ∷ [])
  IsTimed-snoc h e t b = timed_more [] h e t b

  -- several events of one token
  pub IsTimed-events : (name : List ℕ) (w : List E) (h : List (HistoryEvent E)) → IsTimed h → IsTimed (after_events name w h)
  IsTimed-events name [] h t = t
  IsTimed-events name (x ∷ xs) h t = IsTimed-events name xs (h ++ event name (length h) x ∷ []) (IsTimed-snoc h (event name (length h) x) t (began_now name x h))

  pub after_events-append : (name : List ℕ) (v w : List E) (h : List (HistoryEvent E)) → after_events name (v ++ w) h ≡ after_events name w (after_events name v h)
  after_events-append name [] w h = refl
  after_events-append name (x ∷ xs) w h = after_events-append name xs w (h ++ event name (length h) x ∷ [])

  -- a part of a history
  timed_left : (past h more : List (HistoryEvent E)) → IsTimedAfter past (h ++ more) → IsTimedAfter past h
  timed_left past [] more t = tt
  timed_left past (x ∷ xs) more t = (t.0, timed_left (past ++ x ∷ []) xs more t.1)

  -- what a token has seen of it
  pub IsTimed-seen : (name : List ℕ) (seen h : List (HistoryEvent E)) → GrowsByOthers name seen h → IsTimed h → IsTimed seen
  IsTimed-seen name seen h g t = timed_left [] seen g.0 (subst IsTimed g.1 t)

  -- ---- the law

  timed_at : (past before : List (HistoryEvent E)) (f : HistoryEvent E) (later : List (HistoryEvent E)) → IsTimedAfter past (before ++ f ∷ later) → BeganInTime (past ++ before) f
  timed_at past [] f later t = subst (λ l. BeganInTime l f) (sym (append-nil past)) t.0
  timed_at past (x ∷ xs) f later t = subst (λ l. BeganInTime l f) (append_assoc past (x ∷ []) xs) (timed_at (past ++ x ∷ []) xs f later t.1)

  pub in_real_time : (h : List (HistoryEvent E)) → IsTimed h → InRealTime h
  in_real_time h t = record {
    order = λ i j f at was. let b = began j f at in let place = at.3 in omega (arith, b.0, place, was);
    one_by_one = λ i j e f at_i at_j same l. dite (dec_le f.began i)
        (λ late. let b = began j f at_j in let p = at_i.3 in let q = at_j.3 in
        let more = split_before at_i.0 e at_i.1 at_j.0 f at_j.1 (sym at_i.2 ∙ at_j.2) (omega (arith, p, q, l)) in
        absurd (every_left (λ (x : HistoryEvent E). x.name ≢ f.name) f.began at_i.0 e more.0 (omega (arith, p, late)) (subst (λ z. IsSilent f.name (drop f.began z)) more.1 b.1) same))
        (λ not. omega arith);
  }
    where
      began : (j : ℕ) (f : HistoryEvent E) (at : IsAt j f h) → BeganInTime at.0 f
      began j f at = timed_at [] at.0 f at.1 (subst IsTimed at.2 t)

pub linearizes : {T S C R : Type 0} (kind : Kind T S C R) (first : S) (h : List (HistoryEvent (Said C R))) → IsHistory kind first h → IsTimed h → Linearizable kind first h
linearizes kind first h is timed = record { legal = is.legal; in_real_time = in_real_time h timed }
