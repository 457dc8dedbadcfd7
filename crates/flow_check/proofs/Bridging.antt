-- Steps of a checker's states go through a record in an order exactly if a history explains it in that order, if each step of a
-- state adds to the history for which the state stands. Begin with `Leads` and `Follows`.
use Rattle.std.proofs.Common.{ℕ, ◌+◌, ◌<◌, ◌≤◌, Bool, List, [], ◌∷◌, ◌++◌, length, Option, sym, ◌∙◌, arith}
use Rattle.flow_law.specs.declared.history.HistoryEvent.{HistoryEvent}
use Rattle.flow_law.specs.declared.history.Said.{Said}
use Rattle.flow_law.specs.history.History.{Kind, IsHistory}
use Rattle.flow_check.specs.Records.{CallsByCaller}
use Rattle.flow_check.specs.Orders.{turns_of}
use Rattle.flow_check.specs.Remaining.{placing, IsStep, GoesThrough}
use Rattle.flow_check.proofs.Parts.{recorded_within, next_within}
use Rattle.flow_check.proofs.Places.{Counts, counts_more, next_same}
use Rattle.flow_check.proofs.Ordering.{Goes, goes_history}

-- `Stands m k h` says that the state m stands for what the history h led to in k turns
module _ {M T S X R C : Type 0} (stepped : M → ℕ → C → Option M) (may_skip : C → Bool) (kind : Kind T S X R) (Adds : List (HistoryEvent (Said X R)) → ℕ → C → List (HistoryEvent (Said X R)) → Type 0)
    (callers : CallsByCaller C) (first : S) (Stands : M → ℕ → List (HistoryEvent (Said X R)) → Type 0) where
  abbrev Log : Type 0
  Log = List (HistoryEvent (Said X R))

  -- each step of the first `bound` turns adds to the history
  abbrev pub Leads : ℕ → Type 0
  Leads bound = (m after : M) (k : ℕ) (h : Log) (caller : ℕ) (call : C) → Stands m k h → IsHistory kind first h → k < bound → caller < length callers → IsStep stepped may_skip m caller call after
      → (part : Log) × Adds h caller call part × IsHistory kind first (h ++ part) × Stands after (k + 1) (h ++ part)

  -- what is added to the history is a step
  abbrev pub Follows : Type 0
  Follows = (m : M) (k : ℕ) (h : Log) (caller : ℕ) (call : C) (part : Log) → Stands m k h → caller < length callers → Adds h caller call part → IsHistory kind first (h ++ part)
      → (after : M) × IsStep stepped may_skip m caller call after × Stands after (k + 1) (h ++ part)

  pub steps_go : (bound : ℕ) → Leads bound → (order p placed : List ℕ) (k : ℕ) (m : M) (h : Log) → Counts callers placed p → k + length order ≤ bound → Stands m k h → IsHistory kind first h
      → GoesThrough stepped may_skip callers m placed order → Goes kind Adds callers first p h order
  steps_go bound leads [] p placed k m h counts fits st is x = (λ other d e. x other d (next_same callers placed p other counts ∙ e), is)
  steps_go bound leads (caller ∷ order) p placed k m h counts fits st is x =
      let c = x.0 in
      let near = next_within callers placed caller c x.1 in
      let few : k < bound = omega arith in
      let rest : (k + 1) + length order ≤ bound = omega arith in
      let one = leads m x.3.0 k h caller c.call st is few near x.3.1 in (
        c,
        sym (next_same callers placed p caller counts) ∙ x.1,
        (λ other d e. x.2 other d (next_same callers placed p other counts ∙ e)),
        (one.0, one.1, steps_go bound leads order (p ++ caller ∷ []) (placing caller placed) (k + 1) x.3.0 (h ++ one.0) (counts_more callers placed p caller counts near) rest one.3 one.2 x.3.2),
      )

  pub goes_steps : Follows → (order p placed : List ℕ) (k : ℕ) (m : M) (h : Log) → Counts callers placed p → Stands m k h
      → Goes kind Adds callers first p h order → GoesThrough stepped may_skip callers m placed order
  goes_steps follows [] p placed k m h counts st x = λ other d e. x.0 other d (sym (next_same callers placed p other counts) ∙ e)
  goes_steps follows (caller ∷ order) p placed k m h counts st x =
      let c = x.0 in
      let part = x.3.0 in
      let near = recorded_within callers caller (turns_of caller p) c x.1 in
      let one = follows m k h caller c.call part st near x.3.1 (goes_history kind Adds callers first order (p ++ caller ∷ []) (h ++ part) x.3.2) in (
        c,
        next_same callers placed p caller counts ∙ x.1,
        (λ other d e. x.2 other d (sym (next_same callers placed p other counts) ∙ e)),
        (one.0, one.1, goes_steps follows order (p ++ caller ∷ []) (placing caller placed) (k + 1) one.0 (h ++ part) (counts_more callers placed p caller counts near) one.2 x.3.2),
      )
