use Rattle.std.proofs.Common.{arith, ◌+◌, ◌<◌, ◌≤◌, get_or, ap, sym, subst, ◌∙◌, vec_items, vec_len}
use Rattle.flow_program.specs.Crowds.{HasSentAs}
use Rattle.flow_program.proofs.PlaceLemmas.{pushed_each, taken_next}
use Rattle.flow_program.proofs.crowd.emitters.join_emitters.Goals as goal

pub loop-thread-preserved : goal.loop-thread-preserved
loop-thread-preserved g c =
    let at = c.loop-thread in let was = at.invariant in let step = c.in-Some.ensures.steps in let thread = c.in-Some.thread in
    let done = vec_len at.emitters in let all = vec_items c.args.threads in let new = c.push_reserved.new.self in let grown = c.push_reserved.ensures.len in let made = c.join.result in
    let next = taken_next all _ _ thread done _ _ step.0 step.1 was.1 in (
      (let a = was.0 in let b = step.1 in omega (arith, a, b, grown)),
      (λ k d l. next.1 k d l ∙ ap (λ n. get_or all (n + k) d) (sym grown)),
      (λ k d t l. pushed_each (λ i x. HasSentAs (get_or all i t).promise x) (vec_items at.emitters) (vec_items new) made done (sym at.emitters.ok.0) c.push_reserved.ensures.items
          (λ i o m. was.2 i o t m) (subst (λ p. HasSentAs p.promise made) (next.0 t) c.join.ensures) k d (subst (λ n. k < n) grown l)),
      subst (λ n. vec_len c.args.threads ≤ n) (sym c.push_reserved.ensures.capacity) was.3,
    )

pub returns-clause-sent : goal.returns-clause-sent
returns-clause-sent g c = λ i d t l. let at = c.loop-thread in
    at.invariant.2 i d t (let a = at.invariant.0 in let b = c.in-None.ensures.steps.0 in omega (arith, a, b, l))
