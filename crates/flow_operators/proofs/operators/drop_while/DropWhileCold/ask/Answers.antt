use Rattle.std.proofs.Common.{◌≡◌, true, not, inl, refl, sym, ap, ◌∙◌, arith}
use Rattle.std.proofs.lemmas.Grind.{common_steps}
use Rattle.flow_law.specs.chain.OperatorRuns.{drop_while_run}
use Rattle.flow_operators.specs.Behind.{rest_after_ask}
use Rattle.flow_operators.specs.Passing.{from_passing}
use Rattle.flow_operators.specs.Upstreams.{chain_of, left_of}
use Rattle.flow_operators.proofs.PassingLemmas.{drop_while-from, drop_while-item, dropping-after, passed-leaves, passed-on}
use Rattle.flow_operators.proofs.operators.drop_while.DropWhileCold.ask.Goals as goal

pub returns-in-Ok-next_where-clause-gives : goal.returns-in-Ok-next_where-clause-gives
returns-in-Ok-next_where-clause-gives g c = λ m r.
    let dropping : c.args.self.now.dropping ≡ true = grind (arith, common_steps) in
    rw dropping (drop_while-item m.1 _ _ _ (c.in-Ok-next_where.ensures.gives m.0 m.1 r.0 r.1))

pub returns-in-Ok-next_where-clause-behind : goal.returns-in-Ok-next_where-clause-behind
returns-in-Ok-next_where-clause-behind g c = λ running m r.
    let dropping : c.args.self.now.dropping ≡ true = grind (arith, common_steps) in
    let gives = c.in-Ok-next_where.ensures.behind running m.0 m.1 r.0 r.1 in
    rw dropping (inl (sym (dropping-after m.1 (g.C.Cold.rest (chain_of c.args.self.now.upstream) m.0) ∙ ap rest_after_ask gives)))

pub returns-in-Err-next_where-clause-gives : goal.returns-in-Err-next_where-clause-gives
returns-in-Err-next_where-clause-gives g c = λ m r.
    let dropping : c.args.self.now.dropping ≡ true = grind (arith, common_steps) in
    let before = left_of (λ d. g.C.Cold.rest d m.0) c.args.self.now.upstream in
    rw dropping (passed-on (drop_while_run m.1) (λ q. refl) (λ e. refl) (from_passing (λ x. not (m.1 x)) before) before _ c.in-Err-next_where.asked (drop_while-from m.1 before)
    (c.in-Err-next_where.ensures.gives m.0 m.1 r.0 r.1))

pub returns-in-Err-next_where-clause-behind : goal.returns-in-Err-next_where-clause-behind
returns-in-Err-next_where-clause-behind g c = λ running m r.
    let dropping : c.args.self.now.dropping ≡ true = grind (arith, common_steps) in
    rw (dropping, dropping-after m.1 (g.C.Cold.rest (chain_of c.args.self.now.upstream) m.0))
    (passed-leaves _ _ c.in-Err-next_where.asked (c.in-Err-next_where.ensures.behind running m.0 m.1 r.0 r.1))

pub returns-in-Ok : goal.returns-in-Ok
returns-in-Ok g c = grind (arith, common_steps)

pub returns-in-Err : goal.returns-in-Err
returns-in-Err g c = grind (arith, common_steps)
