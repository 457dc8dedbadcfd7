use Rattle.std.proofs.Common.{arith, ◌≡◌, ℕ, ◌+◌, ◌<◌, ◌≤◌, get_or, ap, sym, subst, ◌∙◌, vec_items, vec_len}
use Rattle.std.proofs.lemmas.Grind.{common_steps}
use Rattle.std.specs.Vec.Iter.{into_iter_items, into_iter_len}
use Rattle.flow_program.specs.Crowds.{WillRead}
use Rattle.flow_program.proofs.PlaceLemmas.{pushed_each, taken_next}
use Rattle.flow_program.proofs.crowd.subscribers.start_subscribers.Goals as goal

pub loop-reader-preserved : goal.loop-reader-preserved
loop-reader-preserved g c =
    let at = c.loop-reader in let was = at.invariant in let step = c.in-Some.ensures.cases in let reader = c.in-Some.reader in
    let done = vec_len at.threads in let all = vec_items c.args.readers in let count = c.args.count in let thread = c.in_ok-thread.thread in
    let xs = vec_items at.threads in let new = c.push_reserved.new.self in let grown = c.push_reserved.ensures.len in let same = c.in_ok-thread.ensures.left in
    let next = taken_next all _ _ reader done _ _ step.0 step.1 was.1 in (
      (let a = was.0 in let b = step.1 in let e = ap into_iter_len same in omega (arith, a, b, e, grown)),
      subst (λ it. (k : ℕ) (d : _) → k < into_iter_len it → get_or (into_iter_items it) k d ≡ get_or all (vec_len new + k) d) (sym same)
          (λ k d l. next.1 k d l ∙ ap (λ n. get_or all (n + k) d) (sym grown)),
      (λ k d r l. pushed_each (λ i t. WillRead (get_or all i r) count t.promise) xs (vec_items new) thread done (sym at.threads.ok.0) c.push_reserved.ensures.items
          (λ i o m. was.2 i o r m) (subst (λ w. WillRead w count thread.promise) (next.0 r) c.in_ok-thread.ensures.thread) k d (subst (λ n. k < n) grown l)),
      subst (λ n. vec_len c.args.readers ≤ n) (sym c.push_reserved.ensures.capacity) was.3,
    )

pub returns-clause-promised : goal.returns-clause-promised
returns-clause-promised g c = λ i d r l. c.loop-reader.invariant.2 i d r (grind (arith, common_steps, c.loop-reader.invariant.0, l))
