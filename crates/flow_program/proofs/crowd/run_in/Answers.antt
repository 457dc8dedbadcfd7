use Rattle.std.proofs.Common.{arith, ◌≡◌, ◌<◌, ◌∷◌, ◌++◌, get_or, map, ap, sym, subst, ◌∙◌, length, vec_items}
use Rattle.flow_law.specs.history.Rounds.{HasClosedHistory}
use Rattle.flow_law.specs.flow.SharedHistory.{shared_flow}
use Rattle.flow_program.proofs.EndLemmas.{each_got_all}
use Rattle.flow_program.proofs.PlaceLemmas.{one_of}
use Rattle.flow_program.proofs.crowd.run_in.Goals as goal

pub callers_of-requires : goal.callers_of-requires
callers_of-requires g c = c.requires.first

pub run_threads-requires : goal.run_threads-requires
run_threads-requires g c = (c.type_bounds.sync-R, c.in_ok-callers.callers.emitters.ok.0 ∙ c.in_ok-callers.ensures.made.emitters)

pub meet_twice-requires-clause-others : goal.meet_twice-requires-clause-others
meet_twice-requires-clause-others g c = λ k d l.
    let made = c.in_ok-callers.ensures.made in let ran = c.in_ok-ended.ensures in
    let low : k < length (vec_items c.in_ok-callers.callers.emitters) = (let a = ap length c.deref_mut.ensures.value in let e = ran.emitters in omega (arith, a, e, l)) in
    subst (λ xs. (get_or xs k d).flow.table_id ≡ c.callers_of.new.maker.flow.table_id) (sym c.deref_mut.ensures.value)
    (ap (λ f. f.table_id) ((ran.sent k d d low).0 ∙ (made.emitter k d (let n = made.emitters in omega (arith, n, low))).0 ∙ sym c.in_ok-callers.ensures.flow))

pub meet_twice-requires-clause-readers : goal.meet_twice-requires-clause-readers
meet_twice-requires-clause-readers g c = λ k d l.
    let made = c.in_ok-callers.ensures.made in let ran = c.in_ok-ended.ensures in let lists = vec_items c.in_ok-ended.ended.got in
    let low : k < length (vec_items c.in_ok-callers.callers.readers) = (let a = ap length c.deref_mut-2.ensures.value in let e = ran.subscribers in omega (arith, a, e, l)) in
    let v = one_of lists (let e = ran.lists in omega (arith, e, low)) in
    subst (λ xs. (get_or xs k d).flow.table_id ≡ c.callers_of.new.maker.flow.table_id) (sym c.deref_mut-2.ensures.value)
    (ap (λ f. f.table_id) ((ran.taken k d d v low).0 ∙ (made.subscriber k d (let n = made.subscribers in omega (arith, n, low))).0 ∙ sym c.in_ok-callers.ensures.flow))

pub returns : goal.returns
returns g c =
    let size = c.args.size in let flow = c.args.maker.flow in let now = c.callers_of.new.maker in let made = c.in_ok-callers.ensures.made in let ran = c.in_ok-ended.ensures in
    let es = vec_items c.in_ok-callers.callers.emitters in let rs = vec_items c.in_ok-callers.callers.readers in let gots = vec_items c.in_ok-ended.ended.got in
    let es-after = vec_items c.in_ok-ended.ended.emitters in let rs-after = vec_items c.in_ok-ended.ended.readers in
    let so_many : length gots ≡ size.subscribers = ran.lists ∙ made.subscribers in
    record {
      count = c.in_ok-ended.ended.got.ok.0 ∙ so_many;
      each = λ i v l. each_got_all size flow now.token.knows es es-after rs rs-after gots made ran c.requires.suspends c.requires.buffer
          (subst (λ f. HasClosedHistory shared_flow f.first (now.token.knows ∷ (map (λ w. w.token.knows) es-after ++ map (λ r. r.subscription.token.knows) rs-after))) c.in_ok-callers.ensures.flow
          (subst (λ xs. HasClosedHistory shared_flow now.flow.first (now.token.knows ∷ (map (λ w. w.token.knows) es-after ++ map (λ r. r.subscription.token.knows) xs))) c.deref_mut-2.ensures.value
          (subst (λ xs. HasClosedHistory shared_flow now.flow.first (now.token.knows ∷ (map (λ w. w.token.knows) xs ++ map (λ r. r.subscription.token.knows) c.deref_mut-2.result.now))) c.deref_mut.ensures.value
          c.meet_twice.ensures.closed)))
          i v (omega (arith, so_many, l));
    }
