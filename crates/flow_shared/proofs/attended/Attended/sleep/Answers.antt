use Rattle.std.proofs.Common.{◌≡◌, ℕ, true, subst}
use Rattle.flow_law.specs.history.Sleeping.{FindsNothing}
use Rattle.flow_shared.specs.CoreCalls.{MaySleep}
use Rattle.flow_shared.proofs.Attending.{joins}
use Rattle.flow_shared.proofs.attended.Attended.sleep.Goals as goal

pub returns-in-AwaitValue-clause-stays : goal.returns-in-AwaitValue-clause-stays
returns-in-AwaitValue-clause-stays g c = λ s may at.
    let kind = g.S.FlowCore.kind in
    let u = c.in-AwaitValue.number in
    c.note_sleepers.ensures.stays s (record {
      core = at.attends.core;
      sound = at.attends.sound;
      readers = joins (λ (n : ℕ). FindsNothing kind n s) u c.args.self.now.readers c.sleep-asleep.new.self c.sleep-asleep.ensures.adds (subst (λ m. MaySleep g.S.FlowCore.sleeping m s) c.in-AwaitValue.is may) at.attends.readers;
      emitters = at.attends.emitters;
      watchers = at.attends.watchers;
    })

pub returns-in-AwaitEnd-clause-stays : goal.returns-in-AwaitEnd-clause-stays
returns-in-AwaitEnd-clause-stays g c = λ s may at.
    let sleeping = g.S.FlowCore.sleeping in
    let e = c.in-AwaitEnd.number in
    c.note_sleepers-in-AwaitEnd.ensures.stays s (record {
      core = at.attends.core;
      sound = at.attends.sound;
      readers = at.attends.readers;
      emitters = joins (λ (n : ℕ). sleeping.waits n s ≡ true) e c.args.self.now.emitters c.sleep-asleep-in-AwaitEnd.new.self c.sleep-asleep-in-AwaitEnd.ensures.adds (subst (λ m. MaySleep sleeping m s) c.in-AwaitEnd.is may) at.attends.emitters;
      watchers = at.attends.watchers;
    })
