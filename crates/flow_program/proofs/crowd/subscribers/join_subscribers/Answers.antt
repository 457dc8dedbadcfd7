use Rattle.std.proofs.Common.{arith, ◌+◌, ◌<◌, ◌≤◌, get_or, ap, sym, subst, ◌∙◌, vec_items, vec_len}
use Rattle.flow_program.specs.Crowds.{HasTakenAs}
use Rattle.flow_program.proofs.PlaceLemmas.{pushed_pair, taken_next}
use Rattle.flow_program.proofs.crowd.subscribers.join_subscribers.Goals as goal

pub loop-thread-preserved : goal.loop-thread-preserved
loop-thread-preserved g c =
    let at = c.loop-thread in let was = at.invariant in let step = c.in-Some.ensures.steps in let thread = c.in-Some.thread in
    let done = vec_len at.readers in let all = vec_items c.args.threads in let ended = c.join-reader.result in
    let xs = vec_items at.readers in let vs = vec_items at.got in
    let readers = c.push_reserved.new.self in let got = c.push_reserved-in-loop-thread.new.self in let grown = c.push_reserved.ensures.len in
    let next = taken_next all _ _ thread done _ _ step.0 step.1 was.2 in (
      (let a = was.0 in let b = step.1 in omega (arith, a, b, grown)),
      c.push_reserved-in-loop-thread.ensures.len ∙ ap (λ n. n + 1) was.1 ∙ sym grown,
      (λ k d l. next.1 k d l ∙ ap (λ n. get_or all (n + k) d) (sym grown)),
      (λ k d v t l. pushed_pair (λ i x y. HasTakenAs (get_or all i t).promise x y.items) xs (vec_items readers) vs (vec_items got) ended.0 ended.1 done (sym at.readers.ok.0) (sym at.got.ok.0 ∙ was.1)
          c.push_reserved.ensures.items c.push_reserved-in-loop-thread.ensures.items (λ i o w m. was.3 i o w t m)
          (subst (λ p. HasTakenAs p.promise ended.0 ended.1.items) (next.0 t) c.join-reader.ensures)
          k d v (subst (λ n. k < n) grown l)),
      subst (λ n. vec_len c.args.threads ≤ n) (sym c.push_reserved.ensures.capacity) was.4,
      subst (λ n. vec_len c.args.threads ≤ n) (sym c.push_reserved-in-loop-thread.ensures.capacity) was.5,
    )

pub returns-clause-taken : goal.returns-clause-taken
returns-clause-taken g c = λ i d v t l. let at = c.loop-thread in
    at.invariant.3 i d v t (let a = at.invariant.0 in let b = c.in-None.ensures.steps.0 in omega (arith, a, b, l))
