use Rattle.std.proofs.Common.{◌≡◌, [], ◌∷◌, length, Some, sym, ap, subst, ◌∙◌, arith}
use Rattle.std.specs.List.{slice_get}
use Rattle.flow_word_shared.specs.Steps.{MeOf, log_after}
use Rattle.flow_word_shared.specs.Tokens.{word_flow_id}
use Rattle.flow_word_shared.specs.View.{only}
use Rattle.flow_word_shared.proofs.CacheSteps.{copied_more}
use Rattle.flow_word_shared.proofs.token.WordFlow.copy_held.Goals as goal

pub read_held-requires-clause-flow : goal.read_held-requires-clause-flow
read_held-requires-clause-flow g c = let same = c.loop-k.invariant.same in (λ i. word_flow_id (same.1 i) (only (same.0 i).0).start) ∙ c.requires.flow

pub read_held-requires-clause-held : goal.read_held-requires-clause-held
read_held-requires-clause-held g c =
    let T = g.row.T.Denot in let same = c.loop-k.invariant.same in let held = c.requires.held in (
      held.0,
      subst (λ (m : MeOf T). (m ≡ (only m.0 ∷ [], [])) × ((only m.0).hold ≡ Some held.0)) (sym same.0) held.1,
      held.2,
      held.3 ∙ ap (λ (m : MeOf T). length (log_after (only m.0).start (only m.0).knows.seen)) (sym same.0),
    )

pub read_held-requires-clause-kept : goal.read_held-requires-clause-kept
read_held-requires-clause-kept g c = let kept = c.requires.kept in let from = c.loop-k.auto.k in omega (arith, kept, from)

pub loop-k-preserved : goal.loop-k-preserved
loop-k-preserved g c =
    let T = g.row.T.Denot in let inv = c.loop-k.invariant in let from = c.loop-k.auto.k in
    let value = subst (λ (m : MeOf T). slice_get (log_after c.args.self.now.table_id.start (only m.0).knows.seen) c.loop-k.k ≡ Some c.read_held.result) inv.same.0 c.read_held.ensures.value in record {
      same = (c.read_held.ensures.same.0 ∙ inv.same.0, c.read_held.ensures.same.1 ∙ inv.same.1);
      copied = copied_more _ c.args.start c.loop-k.k c.read_held.result _ _ _ from value inv.copied c.push_reserved.ensures.items;
      room = (omega (arith, c.push_reserved.ensures.len, inv.room.0, from), c.push_reserved.ensures.capacity ∙ inv.room.1);
    }
