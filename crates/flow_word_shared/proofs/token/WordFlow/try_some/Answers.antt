use Rattle.std.proofs.Common.{[], ◌∷◌, refl, subst}
use Rattle.flow_law.specs.declared.call.SharedCall.TheVariants as call
use Rattle.flow_law.specs.declared.call.SharedReply.TheVariants as reply
use Rattle.flow_law.specs.history.Promise.{CallsIn}
use Rattle.flow_law.specs.flow.SharedHistory.{shared_flow}
use Rattle.flow_word_shared.proofs.token.WordFlow.try_some.Goals as goal

pub returns-in-Some-Value-clause-taken : goal.returns-in-Some-Value-clause-taken
returns-in-Some-Value-clause-taken g c =
    let old = c.args.subscription.now in let new = c.try_ahead.new.subscription in
    let called = subst (λ n. CallsIn shared_flow c.args.self.now.first old.token (call.TakeNext old.number) (reply.Received n) new.token) c.in-Some-Value.field-0-is c.in-Some-Value.ensures.called.0 in (
      c.requires.some,
      λ some. record {
        values = c.in-Some-Value.value ∷ [];
        taken = (new, (called, c.try_ahead.ensures.number), refl);
        appended = c.push_reserved.ensures.items;
        counted = refl;
      },
    )

pub returns-in-Some-Empty-clause-empty : goal.returns-in-Some-Empty-clause-empty
returns-in-Some-Empty-clause-empty g c = λ none.
    let old = c.args.subscription.now in let new = c.try_ahead.new.subscription in (
      refl,
      (
        subst (λ n. CallsIn shared_flow c.args.self.now.first old.token (call.TakeNext old.number) (reply.Received n) new.token) c.in-Some-Empty.field-0-is c.in-Some-Empty.ensures.called.0,
        c.try_ahead.ensures.number,
      ),
    )

pub returns-in-None-clause-late : goal.returns-in-None-clause-late
returns-in-None-clause-late g c = λ _. (refl, refl, refl, c.try_ahead.ensures.number, c.try_ahead.ensures.late c.in-None.is)

pub unreachable-unreachable : goal.unreachable-unreachable
unreachable-unreachable g c = c.in-Some-Gone.ensures.live c.in-Some-Gone.field-0-is
