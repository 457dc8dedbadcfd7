use Rattle.std.proofs.Common.{arith, ◌≡◌, ◌+◌, ap, sym, subst, ◌∙◌, get_or, vec_items}
use Rattle.flow_law.specs.laws.Closed.{nth_child}
use Rattle.flow_law.specs.history.Done.{done_by}
use Rattle.flow_program.specs.Crowds.{IsNewSubscription}
use Rattle.flow_program.proofs.crowd.callers.callers_of.Goals as goal

pub returns-clause-made : goal.returns-clause-made
returns-clause-made g c =
    let size = c.args.size in let before = c.others.new.self in let now = c.subscribe_all.new.maker in
    let made = c.in-Ok.ensures in let subscribed = c.in_ok-readers.ensures in let begun = c.requires in
    let began : before.token.knows.made ≡ size.emitters = ap (λ t. t.knows.made) made.maker ∙ (let z = ap (λ k. k.made) begun in omega (arith, z)) in
    record {
      maker = subscribed.maker;
      made = subscribed.made ∙ ap (λ m. m + size.subscribers) began;
      emitters = sym c.in-Ok.emitters.ok.0 ∙ made.count;
      subscribers = sym c.in_ok-readers.readers.ok.0 ∙ subscribed.count;
      emitter = λ i d l. (ap (λ w. w.flow) (made.made i d l), ap (λ w. w.token.knows) (made.made i d l) ∙ ap (nth_child i) begun);
      subscriber = λ i d l. (
        subscribed.flows i d l ∙ made.flow,
        subst (λ m. IsNewSubscription (done_by now.token.knows) (m + i) (get_or (vec_items c.in_ok-readers.readers) i d).subscription) began (subscribed.subscribed i d l),
      );
    }
