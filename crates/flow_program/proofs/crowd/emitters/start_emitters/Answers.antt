use Rattle.std.proofs.Common.{arith, ◌+◌, ◌*◌, ◌<◌, ◌≤◌, get_or, ap, sym, subst, ◌∙◌, vec_items, vec_len}
use Rattle.flow_program.specs.Crowds.{WillEmit}
use Rattle.flow_program.proofs.NumberLemmas.{row_next}
use Rattle.flow_program.proofs.PlaceLemmas.{pushed_each, taken_next}
use Rattle.flow_program.proofs.crowd.emitters.start_emitters.Goals as goal

pub loop-emitter-preserved : goal.loop-emitter-preserved
loop-emitter-preserved g c =
    let at = c.loop-emitter in let was = at.invariant in let step = c.in-Some.ensures.steps in let emitter = c.in-Some.emitter in
    let done = vec_len at.threads in let all = vec_items c.args.emitters in let values = c.args.values in let thread = c.in_ok-thread.thread in
    let xs = vec_items at.threads in let new = c.push_reserved.new.self in let grown = c.push_reserved.ensures.len in
    let next = taken_next all _ _ emitter done _ _ step.0 step.1 was.2 in
    let will : WillEmit emitter (done * values) values thread.promise = subst (λ n. WillEmit emitter n values thread.promise) was.1 c.in_ok-thread.ensures in (
      (let a = was.0 in let b = step.1 in omega (arith, a, b, grown)),
      ap (λ n. n + values) was.1 ∙ row_next done values ∙ ap (λ n. n * values) (sym grown),
      (λ k d l. next.1 k d l ∙ ap (λ n. get_or all (n + k) d) (sym grown)),
      (λ k d e l. pushed_each (λ i t. WillEmit (get_or all i e) (i * values) values t.promise) xs (vec_items new) thread done (sym at.threads.ok.0) c.push_reserved.ensures.items
          (λ i o m. was.3 i o e m) (subst (λ w. WillEmit w (done * values) values thread.promise) (next.0 e) will) k d (subst (λ n. k < n) grown l)),
      subst (λ n. vec_len c.args.emitters ≤ n) (sym c.push_reserved.ensures.capacity) was.4,
    )

pub returns-clause-promised : goal.returns-clause-promised
returns-clause-promised g c = λ i d e l. let at = c.loop-emitter in
    at.invariant.3 i d e (let a = at.invariant.0 in let b = c.in-None.ensures.steps.0 in omega (arith, a, b, l))
