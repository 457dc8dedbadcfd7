use Rattle.std.proofs.Common.{rules, ◌≡◌, ℕ, ◌-◌, ◌/◌, ◌<◌, List, [], ◌∷◌, ◌++◌, drop, Some, None, refl, sym, ap, subst, ◌∙◌, inl, inr, arith}
use Rattle.std.specs.Prelude.{max, take}
use Rattle.std.proofs.lemmas.Bool.{cases_lt}
use Rattle.std.proofs.lemmas.List.{take_rest}
use Rattle.flow_law.specs.declared.call.SharedCall.TheVariants as call
use Rattle.flow_law.specs.declared.call.SharedReply.TheVariants as reply
use Rattle.flow_law.specs.flow.SharedHistory.{shared_flow}
use Rattle.flow_law.specs.history.Tokens.{token}
use Rattle.flow_law.specs.history.Promise.{CallsAtOnceIn}
use Rattle.flow_word_shared.specs.declared.view.Hold.{Hold}
use Rattle.flow_word_shared.specs.declared.view.RingStart.{RingStart}
use Rattle.flow_word_shared.specs.Steps.{MeOf, log_after}
use Rattle.flow_word_shared.specs.Tokens.{WordFlowToken, word_flow_id, ring_token}
use Rattle.flow_word_shared.specs.View.{began_as, only, holding, with_hold}
use Rattle.flow_word_shared.proofs.EmitSteps.{taking, releasing}
use Rattle.flow_word_shared.proofs.SubscribeSteps.{counting_mark}
use Rattle.flow_word_shared.proofs.CacheSteps.{caching, refusing_cache}
use Rattle.flow_word_shared.proofs.Told.{told_calls, still_one}
use Rattle.flow_word_shared.proofs.token.WordFlow.try_replay_cache.Goals as goal
use Rattle.flow_word_shared.proofs.token.WordFlow.try_replay_cache.Goals.{After-load-mark}

-- what the caller holds after the load of the mark
abbrev held : ℕ → ℕ → Hold
held n mark = record (holding n) { mark = Some mark }

pub compare_exchange-found-requires : goal.compare_exchange-found-requires
compare_exchange-found-requires g c =
    (search rules, search rules, taking _ _ _ _ _ _ _ _ _ (ap (λ m. m.0) c.seat.invariant.0.0) c.seat.invariant.0.1 c.seat.invariant.1 refl)

pub load-mark-requires : goal.load-mark-requires
load-mark-requires g c =
    let told = c.compare_exchange-found.ensures.2.0 c.if-found-expected.false in
    (search rules, search rules, counting_mark _ _ _ _ _ _ _ (holding (c.seat.inside.expected / 2)) (subst (λ m. m.0 ≡ only m.0 ∷ []) (sym told) refl) (ap (λ m. (only m.0).hold) told))

-- the seat has one token, which holds the lock bit, and has seen what it had seen
has_marked : (g : _) (c : After-load-mark g) →
    ((c.load-mark.new.seat.me ≡ (only c.load-mark.new.seat.me.0 ∷ [], [])) × ((only c.load-mark.new.seat.me.0).hold ≡ Some (held (c.seat.inside.expected / 2) c.load-mark.result))) × (ring_token c.load-mark.new.seat ≡ ring_token c.seat.inside.seat)
has_marked g c =
    let T = g.row.T.Denot in let n = c.seat.inside.expected / 2 in let told = c.compare_exchange-found.ensures.2.0 c.if-found-expected.false in
    let marked = (c.load-mark.ensures.2 (holding n) (ap (λ (m : MeOf T). (only m.0).hold) told)).0 in
    let slots : c.compare_exchange-found.new.seat.me.1 ≡ [] = ap (λ (m : MeOf T). m.1) told ∙ ap (λ (m : MeOf T). m.1) c.seat.invariant.0.0 in (
      subst (λ (m : MeOf T). (m ≡ (only m.0 ∷ [], [])) × ((only m.0).hold ≡ Some (held n c.load-mark.result))) (sym (marked ∙ (λ i. (with_hold (Some (held n c.load-mark.result)) (only c.compare_exchange-found.new.seat.me.0) ∷ [], slots i)))) (refl, refl),
      (λ i. token (word_flow_id (c.load-mark.ensures.0 i) (only (marked i).0).start) (only (marked i).0).knows) ∙ (λ i. token (word_flow_id (c.compare_exchange-found.ensures.0 i) (only (told i).0).start) (only (told i).0).knows),
    )

pub load-requires : goal.load-requires
load-requires g c =
    let m = has_marked g (goal.at.load-requires g c).After-load-mark in let n = c.seat.inside.expected / 2 in let replay = c.self.invariant.4 in
    let some : c.max-start.result < n = elim (cases_lt c.max-start.result n) as (λ _. c.max-start.result < n) [
      | inl less ↦ less
      | inr past ↦ let no = c.in-Err.ensures.succeeds (omega (arith, past, c.saturating_sub-count.ensures)) in absurd (cc)
    ] in
    (search rules, search rules, refusing_cache _ _ _ _ _ _ _ (held n c.load-mark.result) c.load-mark.result (ap (λ m. m.0) m.0.0) m.0.1 refl (omega (arith, some, replay, c.max-start.ensures, c.saturating_sub.ensures)))

pub store-requires : goal.store-requires
store-requires g c =
    let m = has_marked g (goal.at.store-requires g c).After-load-mark in let n = c.seat.inside.expected / 2 in let refused = c.load.ensures.2 (held n c.load-mark.result) m.0.1 in let even = c.seat.invariant.1 in
    (search rules, search rules, releasing _ _ _ _ _ _ _ (held n c.load-mark.result) _ (ap (λ m. m.0) refused.0.2) refused.1 refl (omega arith))

pub load-requires-2 : goal.load-requires-2
load-requires-2 g c =
    let m = has_marked g (goal.at.load-requires-2 g c).After-load-mark in
    (search rules, search rules, caching _ _ _ _ _ _ _ (held (c.seat.inside.expected / 2) c.load-mark.result) c.load-mark.result (ap (λ m. m.0) m.0.0) m.0.1 refl)

pub copy_held-requires-clause-flow : goal.copy_held-requires-clause-flow
copy_held-requires-clause-flow g c =
    let m = has_marked g (goal.at.copy_held-requires-clause-flow g c).After-load-mark in let cached = c.load-2.ensures.2 (held (c.seat.inside.expected / 2) c.load-mark.result) c.load-mark.result m.0.1 refl in
    (λ i. word_flow_id (c.load-2.ensures.0 i) (cached.0.1 i)) ∙ (ap (λ z. z.table_id) m.1 ∙ (ap (λ z. z.table_id) c.seat.view_is ∙ c.requires))

pub copy_held-requires-clause-held : goal.copy_held-requires-clause-held
copy_held-requires-clause-held g c =
    let T = g.row.T.Denot in let m = has_marked g (goal.at.copy_held-requires-clause-held g c).After-load-mark in let cached = c.load-2.ensures.2 (held (c.seat.inside.expected / 2) c.load-mark.result) c.load-mark.result m.0.1 refl in
    (held (c.seat.inside.expected / 2) c.load-mark.result, (still_one _ _ m.0.0 cached.0.2, cached.1), refl, cached.3)

pub store-requires-2 : goal.store-requires-2
store-requires-2 g c =
    let T = g.row.T.Denot in let m = has_marked g (goal.at.store-requires-2 g c).After-load-mark in let n = c.seat.inside.expected / 2 in
    let cached = c.load-2.ensures.2 (held n c.load-mark.result) c.load-mark.result m.0.1 refl in let same = c.copy_held.ensures.same.0 in let even = c.seat.invariant.1 in
    (search rules, search rules, releasing _ _ _ _ _ _ _ (held n c.load-mark.result) _ (subst (λ (k : MeOf T). k.0 ≡ only k.0 ∷ []) (sym same) (ap (λ (k : MeOf T). k.0) cached.0.2)) (subst (λ (k : MeOf T). (only k.0).hold ≡ Some (held n c.load-mark.result)) (sym same) cached.1) refl (omega arith))

pub invariant_of-seat-2 : goal.invariant_of-seat-2
invariant_of-seat-2 g c =
    let T = g.row.T.Denot in let m = has_marked g (goal.at.invariant_of-seat-2 g c).After-load-mark in
    let cached = c.load-2.ensures.2 (held (c.seat.inside.expected / 2) c.load-mark.result) c.load-mark.result m.0.1 refl in
    let slots : c.copy_held.new.seat.me.1 ≡ [] = ap (λ (k : MeOf T). k.1) c.copy_held.ensures.same.0 ∙ ap (λ (k : MeOf T). k.1) (still_one _ _ m.0.0 cached.0.2) in (
      subst (λ (k : MeOf T). (k ≡ (only k.0 ∷ [], [])) × ((only k.0).hold ≡ None)) (sym (c.store-2.ensures.2 ∙ (λ i. (with_hold None (only c.copy_held.new.seat.me.0) ∷ [], slots i)))) (refl, refl),
      c.seat.invariant.1,
    )

pub returns-clause-called : goal.returns-clause-called
returns-clause-called g c =
    let T = g.row.T.Denot in let m = has_marked g (goal.at.returns-clause-called g c).After-load-mark in let n = c.seat.inside.expected / 2 in
    let e = c.load-mark.new.seat in let x = c.load-2.new.seat in let z = c.store-2.new.seat in
    let cached = c.load-2.ensures.2 (held n c.load-mark.result) c.load-mark.result m.0.1 refl in let same = c.copy_held.ensures.same in let released = c.store-2.ensures.2 in
    let flow : (ring_token e).table_id ≡ c.args.self.now.table_id = ap (λ t. t.table_id) m.1 ∙ (ap (λ t. t.table_id) c.seat.view_is ∙ c.requires) in
    let began : began_as (only e.me.0).start ≡ c.args.self.now.first = ap (λ t. began_as t.start) flow ∙ (ap (λ t. began_as t.table_id.start) (sym c.self.view_is) ∙ ap (λ t. t.first) c.self.view_is) in
    let after : ring_token z ≡ ring_token x = (λ i. token (word_flow_id (c.store-2.ensures.0 i) (only (released i).0).start) (only (released i).0).knows) ∙ (λ i. token (word_flow_id (same.1 i) (only (same.0 i).0).start) (only (same.0 i).0).knows) in
    let starts : (only x.me.0).start ≡ c.args.self.now.table_id.start = cached.0.1 ∙ ap (λ t. t.start) flow in
    let log = log_after (only x.me.0).start (only x.me.0).knows.seen in
    let replay : c.self.inside.replay ≡ (only e.me.0).start.config.replay = sym c.self.invariant.4 ∙ (ap (λ t. t.table_id.start.config.replay) c.self.view_is ∙ ap (λ t. t.start.config.replay) (sym flow)) in
    let from : c.max-start.result ≡ max c.load-mark.result (n - (only e.me.0).start.config.replay) = c.max-start.ensures ∙ ap (max c.load-mark.result) (let l : c.saturating_sub.result ≡ n - (only e.me.0).start.config.replay = omega (arith, c.saturating_sub.ensures, replay) in l) in
    let items : drop (max c.load-mark.result (n - (only e.me.0).start.config.replay)) log ≡ c.copy_held.new.values.items =
    sym (c.copy_held.ensures.copied ∙ ap (λ l. l ++ take (n - c.max-start.result) (drop c.max-start.result (log_after c.args.self.now.table_id.start (only x.me.0).knows.seen))) c.in-Ok.ensures.items
    ∙ ap (λ (s : RingStart). take (n - c.max-start.result) (drop c.max-start.result (log_after s (only x.me.0).knows.seen))) (sym starts)
    ∙ ap (λ k. take (k - c.max-start.result) (drop c.max-start.result log)) cached.3 ∙ take_rest log c.max-start.result ∙ ap (λ k. drop k log) from) in
    let called = told_calls c.args.self.now.first e x call.ReplayCache _ c.load-2.ensures.0 began cached.0 in
    subst (λ (q : (WordFlowToken T × WordFlowToken T) × List T). CallsAtOnceIn shared_flow c.args.self.now.first q.0.0 call.ReplayCache (reply.Cached q.1) q.0.1) (λ i. (((m.1 ∙ c.seat.view_is) i, sym after i), items i)) called
