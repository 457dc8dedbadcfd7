-- What a `filter` and a `dropWhile` make of the first item that they emit. Begin with `filter-item` and `drop_while-item`.
use Rattle.std.proofs.Common.{◌≡◌, Bool, true, false, cond, not, inl, inr, refl, ap, ◌∙◌, arith}
use Rattle.std.proofs.lemmas.Grind.{common_steps}
use Rattle.flow_law.specs.chain.ChainRun.{ChainRun, gives, pends, ends}
use Rattle.flow_law.specs.chain.OperatorRuns.{filter_run, drop_while_run}
use Rattle.flow_operators.specs.declared.cold.Asked.{Asked}
use Rattle.flow_operators.specs.declared.cold.Asked.TheVariants.{Item, Pending, End as Ended, Fault}
use Rattle.flow_operators.specs.Asking.{AskGives}
use Rattle.flow_operators.specs.Behind.{Leaves, rest_after_ask, after_filter, after_dropping}
use Rattle.flow_operators.specs.Passing.{from_passing}
use Rattle.flow_operators.specs.Upstreams.{PassesOn}

-- an answer that is passed on is one ask
pub passed-leaves : {A B : Type 0} (before after : ChainRun A) (asked : Asked B) → PassesOn before asked after → Leaves (rest_after_ask before) asked after
passed-leaves before after (Item y) never = absurd never
passed-leaves before after Pending turn = inl (rw turn refl)
passed-leaves before after Ended ended = inl (rw (ended.0, ended.1) refl)
passed-leaves before after (Fault fault) (inl is, over) = inl (rw (is, over) refl)
passed-leaves before after (Fault fault) (inr memory, over) = inr (rw memory refl)

-- if `run` gives the same for a run and for its rest from the first passing item, and keeps pending turns and ends, then it passes on an
-- answer that is no item
pub passed-on : {A : Type 0} (run : ChainRun A → ChainRun A) → ((r : ChainRun A) → run (pends r) ≡ pends (run r)) → ((e : _) → run (ends e) ≡ ends e)
    → (from before after : ChainRun A) (asked : Asked A) → run before ≡ run from → PassesOn from asked after → AskGives (run before) asked (run after)
passed-on run turns over from before after (Item y) same never = absurd never
passed-on run turns over from before after Pending same turn = same ∙ ap run turn ∙ turns after
passed-on run turns over from before after Ended same ended = (same ∙ ap run ended.0 ∙ over _, ap run ended.1 ∙ over _)
passed-on run turns over from before after (Fault fault) same (inl is, ended) = (inl (same ∙ ap run is ∙ over _), ap run ended ∙ over _)
passed-on run turns over from before after (Fault fault) same (inr memory, ended) = (inr memory, ap run ended ∙ over _)

module _ {A : Type 0} (test : A → Bool) where
  first-step : (b : Bool) (y : A) (r after : ChainRun A) (x : A) → test y ≡ b → (from_passing test r ≡ gives x after → test x ≡ true)
      → cond b (gives y r) (from_passing test r) ≡ gives x after → test x ≡ true
  first-step true y r after x is further h = grind (arith, common_steps)
  first-step false y r after x is further h = further h

  -- the first item that passes does pass
  pub first-passes : (r after : ChainRun A) (x : A) → from_passing test r ≡ gives x after → test x ≡ true
  first-passes (gives y r) after x h = first-step (test y) y r after x refl (first-passes r after x) h
  first-passes (pends r) after x h = grind (arith, common_steps)
  first-passes (ends e) after x h = grind (arith, common_steps)

  after-step : (b : Bool) (x : A) (r : ChainRun A) → after_filter test r ≡ rest_after_ask (from_passing test r)
      → cond b r (after_filter test r) ≡ rest_after_ask (cond b (gives x r) (from_passing test r))
  after-step true x r h = refl
  after-step false x r h = h

  pub filter-after : (r : ChainRun A) → after_filter test r ≡ rest_after_ask (from_passing test r)
  filter-after (gives x r) = after-step (test x) x r (filter-after r)
  filter-after (pends r) = refl
  filter-after (ends e) = refl

  filter-step : (b : Bool) (x : A) (r : ChainRun A) → test x ≡ b → filter_run test r ≡ filter_run test (from_passing test r)
      → cond b (gives x (filter_run test r)) (filter_run test r) ≡ filter_run test (cond b (gives x r) (from_passing test r))
  filter-step true x r is h = rw is refl
  filter-step false x r is h = h

  -- the items before the first one that passes do not change the run of a filter
  pub filter-from : (r : ChainRun A) → filter_run test r ≡ filter_run test (from_passing test r)
  filter-from (gives x r) = filter-step (test x) x r refl (filter-from r)
  filter-from (pends r) = refl
  filter-from (ends e) = refl

  pub filter-item : (before after : ChainRun A) (x : A) → from_passing test before ≡ gives x after → filter_run test before ≡ gives x (filter_run test after)
  filter-item before after x h =
      let passes = first-passes before after x h in
      filter-from before ∙ ap (filter_run test) h ∙ rw passes refl

module _ {A : Type 0} (test : A → Bool) where
  dropping-step : (b : Bool) (x : A) (r : ChainRun A) → after_dropping test r ≡ rest_after_ask (from_passing (λ y. not (test y)) r)
      → cond b (after_dropping test r) r ≡ rest_after_ask (cond (not b) (gives x r) (from_passing (λ y. not (test y)) r))
  dropping-step true x r h = h
  dropping-step false x r h = refl

  pub dropping-after : (r : ChainRun A) → after_dropping test r ≡ rest_after_ask (from_passing (λ y. not (test y)) r)
  dropping-after (gives x r) = dropping-step (test x) x r (dropping-after r)
  dropping-after (pends r) = refl
  dropping-after (ends e) = refl

  drop_while-step : (b : Bool) (x : A) (r : ChainRun A) → test x ≡ b → drop_while_run test r ≡ drop_while_run test (from_passing (λ y. not (test y)) r)
      → cond b (drop_while_run test r) (gives x r) ≡ drop_while_run test (cond (not b) (gives x r) (from_passing (λ y. not (test y)) r))
  drop_while-step true x r is h = h
  drop_while-step false x r is h = rw is refl

  -- the items before the first one that fails do not change the run of a `dropWhile`
  pub drop_while-from : (r : ChainRun A) → drop_while_run test r ≡ drop_while_run test (from_passing (λ y. not (test y)) r)
  drop_while-from (gives x r) = drop_while-step (test x) x r refl (drop_while-from r)
  drop_while-from (pends r) = refl
  drop_while-from (ends e) = refl

  fails : (b : Bool) → not b ≡ true → b ≡ false
  fails true h = grind (arith, common_steps)
  fails false h = refl

  pub drop_while-item : (before after : ChainRun A) (x : A) → from_passing (λ y. not (test y)) before ≡ gives x after → drop_while_run test before ≡ gives x after
  drop_while-item before after x h =
      let failing = fails (test x) (first-passes (λ y. not (test y)) before after x h) in
      drop_while-from before ∙ ap (drop_while_run test) h ∙ rw failing refl
