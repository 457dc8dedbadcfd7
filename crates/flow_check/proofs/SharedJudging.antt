-- What a checker of shared flows finds of its steps holds of histories of the documented shared flow. Begin with `judged`.
use Rattle.std.proofs.Common.{◌≡◌, ℕ, suc, zero, ◌+◌, Bool, true, false, not, ◌==◌, cond, List, [], ◌∷◌, length, Option, Some, None, refl, sym, subst, arith}
use Rattle.std.specs.Prelude.{◌&&◌, is_some, nat_lt}
use Rattle.std.proofs.lemmas.Bool.{false≢true}
use Rattle.std.proofs.lemmas.List.{length-map}
use Rattle.flow_law.specs.declared.config.Config.{Config}
use Rattle.flow_law.specs.declared.config.Overflow.{Overflow}
use Rattle.flow_law.specs.declared.config.Overflow.TheVariants.{Suspend, DropOldest, DropLatest}
use Rattle.flow_law.specs.declared.fault.FlowFault.{FlowFault}
use Rattle.flow_law.specs.declared.fault.FlowFault.TheVariants.{TooLarge, NeedsBuffer}
use Rattle.flow_law.specs.history.History.{IsHistory}
use Rattle.flow_law.specs.declared.states.SharedFlowState.{SharedFlowState}
use Rattle.flow_law.specs.flow.SharedFlow.{first_state, largest_capacity, needs_no_buffer, config_fault}
use Rattle.flow_law.specs.flow.SharedHistory.{shared_flow}
use Rattle.flow_check.specs.declared.verdict.Verdict.{Verdict}
use Rattle.flow_check.specs.declared.verdict.Verdict.TheVariants.{Legal, Illegal, GaveUp}
use Rattle.flow_check.specs.declared.shared_calls.SharedEntry.{SharedEntry}
use Rattle.flow_check.specs.Records.{CallsByCaller, IsWellTimed}
use Rattle.flow_check.specs.Remaining.{none_placed, GoesThroughAll}
use Rattle.flow_check.specs.Verdicts.{Judges}
use Rattle.flow_check.specs.SharedRecords.{AddsEntry, ExplainsShared}
use Rattle.flow_check.specs.Subscribed.{none_subscribed}
use Rattle.flow_check.specs.SharedMachine.{Kept, most_lag, own_left, no_values, stepped, may_skip}
use Rattle.flow_check.specs.Moments.{IsCutOff}
use Rattle.flow_check.proofs.KeptLemmas.{present-none, kept-none}
use Rattle.flow_check.proofs.Places.{counts_none}
use Rattle.flow_check.proofs.Ordering.{goes_explains, explains_goes}
use Rattle.flow_check.proofs.KnownOrders.{known_explains}
use Rattle.flow_check.proofs.Bridging.{steps_go, goes_steps}
use Rattle.flow_check.proofs.SharedSeats.{Seat}
use Rattle.flow_check.proofs.SharedEvents.{first_of, StandsIn}
use Rattle.flow_check.proofs.SharedLeads.{leads_history}
use Rattle.flow_check.proofs.SharedFollows.{follows_history}

none_left : {C : Type 0} (callers : List C) (i : ℕ) → own_left i (no_values callers) ≡ []
none_left [] zero = refl
none_left [] (suc i) = refl
none_left (c ∷ callers) zero = refl
none_left (c ∷ callers) (suc i) = none_left callers i

-- the checker's state before any call
abbrev pub begun : CallsByCaller SharedEntry → Config → Kept
begun callers config = record { config = config; values = []; cached = 0; lags = none_subscribed callers; owns = no_values callers; queue = []; offered = None }

module _ (callers : CallsByCaller SharedEntry) (config : Config) (limit : ℕ) (whole : config_fault config ≡ None) where
  abbrev first : SharedFlowState ℕ
  first = first_of config limit

  history_first : IsHistory shared_flow first []
  history_first = record { begins = (refl, whole); legal = tt; owned = tt }

  suspends_only : config.replay + config.extra ≡ 0 → config.overflow ≡ Suspend
  suspends_only none = unbuffered (nat_lt largest_capacity (config.replay + config.extra)) (config.replay + config.extra == 0) config.overflow
      (subst (λ (n : ℕ). (n == 0) ≡ true) (sym none) refl) whole
    where
      unbuffered : (large empty : Bool) (o : Overflow) → empty ≡ true
          → cond large (Some TooLarge) (cond (empty && not (needs_no_buffer o)) (Some NeedsBuffer) None) ≡ None → o ≡ Suspend
      unbuffered true empty o z e = absurd (cc)
      unbuffered false true Suspend z e = refl
      unbuffered false true DropOldest z e = absurd (cc)
      unbuffered false true DropLatest z e = absurd (cc)
      unbuffered false false o z e = absurd (false≢true z)

  none_most : {C : Type 0} (cs : List C) → most_lag (none_subscribed cs) ≡ 0
  none_most [] = refl
  none_most (c ∷ cs) = none_most cs

  stands_first : StandsIn callers config limit (begun callers config) 0 []
  stands_first = let none = none_most callers in record {
    seats = record {
      lags_each = length-map callers (λ _. None);
      owns_each = length-map callers (λ _. []);
      count = sym (present-none ℕ callers);
      seats = λ caller l. subst (λ (o : Option ℕ). Seat [] [] 0 caller o (own_left caller (no_values callers))) (sym (kept-none ℕ callers caller)) (λ u own. refl);
      belongs = λ u there. absurd (false≢true there);
    };
    values = record {
      replay = refl;
      extra = refl;
      overflow = refl;
      suspends = suspends_only;
      one = λ _. omega arith;
      front = [];
      tail = refl;
      most_kept = omega arith;
      cache_kept = omega arith;
      cache = omega arith;
      marked = omega arith;
    };
    waits = record {
      queue = tt;
      offered = λ _ some. absurd (omega arith);
      unoffered = λ _. refl;
      once = λ caller e f a b x y. absurd (cc);
    };
    issued = omega arith;
    owned = tt;
  }

pub fault_free : (o : Option FlowFault) → is_some o ≡ false → o ≡ None
fault_free None e = refl
fault_free (Some fault) e = absurd (false≢true (sym e))

-- what is judged of steps is judged of histories
pub judged : (callers : CallsByCaller SharedEntry) (config : Config) (verdict : Verdict) → config_fault config ≡ None → IsWellTimed callers
    → Judges (GoesThroughAll stepped may_skip callers (begun callers config)) verdict → Judges (ExplainsShared callers config) verdict
judged callers config (Legal order) whole well through =
    let limit = length order.items in
    let start = first_state (record config { limit = limit }) in (
      limit,
      goes_explains shared_flow (AddsEntry start) callers start well order.items
          (steps_go stepped may_skip shared_flow (AddsEntry start) callers start (StandsIn callers config limit) limit (leads_history callers config limit) order.items [] (none_placed callers) 0
          (begun callers config) [] (counts_none callers) (omega arith) (stands_first callers config limit whole) (history_first callers config limit whole) through),
    )
judged callers config Illegal whole well refuted = λ order x.
    let start = first_state (record config { limit = x.0 }) in
    refuted order (goes_steps stepped may_skip shared_flow (AddsEntry start) callers start (StandsIn callers config x.0) (follows_history callers config x.0) order [] (none_placed callers) 0
    (begun callers config) [] (counts_none callers) (stands_first callers config x.0 whole) (explains_goes shared_flow (AddsEntry start) callers start well order x.1))
judged callers config GaveUp whole well given_up = tt

-- what explains calls explains in part what was known of them
pub cut_off : (config : Config) → IsCutOff (λ known. ExplainsShared known config)
cut_off config cut callers known well is order x =
    let start = first_state (record config { limit = x.0 }) in
    let part = known_explains shared_flow (AddsEntry start) start cut callers known well is order x.1 in
    (part.0, (x.0, part.1))
