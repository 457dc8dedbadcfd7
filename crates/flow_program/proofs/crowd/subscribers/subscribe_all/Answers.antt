use Rattle.std.proofs.Common.{arith, ◌≡◌, ◌+◌, ◌≤◌, ap, sym, subst, ◌∙◌, length, vec_items}
use Rattle.flow_law.specs.history.Done.{done_by}
use Rattle.flow_program.specs.Crowds.{IsNewSubscription}
use Rattle.flow_program.proofs.PlaceLemmas.{pushed_each}
use Rattle.flow_program.proofs.SubscribedLemmas.{subscribed_next}
use Rattle.flow_program.proofs.crowd.subscribers.subscribe_all.Goals as goal

pub loop-subscribed-preserved : goal.loop-subscribed-preserved
loop-subscribed-preserved g c =
    let at = c.loop-subscribed in let was = at.invariant in let i = at._subscribed in let start = c.args.maker.now in
    let now = at.maker in let new = c.subscribe.new.self in let reader = c.in-Ok.reader in let xs = vec_items at.readers in let ys = vec_items c.push_reserved.new.self in
    let sub = c.in-Ok.ensures.subscribed in let next = subscribed_next now.flow.first now.token new.token reader.subscription was.1 sub.1 in
    let len : length xs ≡ i = sym at.readers.ok.0 ∙ was.3 in let pushed = c.push_reserved.ensures.items in (
      c.subscribe.ensures.flow ∙ was.0,
      next.0,
      next.1 ∙ ap (λ m. m + 1) was.2 ∙ (let z : start.token.knows.made + i + 1 ≡ start.token.knows.made + (i + 1) = omega arith in z),
      c.push_reserved.ensures.len ∙ ap (λ m. m + 1) was.3,
      pushed_each (λ k r. r.flow ≡ start.flow) xs ys reader i len pushed was.4 (sub.0 ∙ was.0),
      pushed_each (λ k r. IsNewSubscription (done_by new.token.knows) (start.token.knows.made + k) r.subscription) xs ys reader i len pushed
          (λ k d l. next.3 (start.token.knows.made + k) _ (was.5 k d l)) (subst (λ n. IsNewSubscription (done_by new.token.knows) n reader.subscription) was.2 next.2),
      subst (λ n. c.args.count ≤ n) (sym c.push_reserved.ensures.capacity) was.6,
    )
