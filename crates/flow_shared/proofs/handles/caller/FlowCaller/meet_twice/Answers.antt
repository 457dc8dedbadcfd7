use Rattle.std.proofs.Common.{◌≡◌, ◌∙◌, get_or, subst}
use Rattle.flow_law.specs.history.Rounds.{MeetsInTurn}
use Rattle.flow_law.specs.history.Promise.{CallsIn}
use Rattle.flow_law.proofs.RoundLemmas.{closed_around}
use Rattle.flow_shared.proofs.handles.caller.FlowCaller.meet_twice.Goals as goal

pub returns-clause-closed : goal.returns-clause-closed
returns-clause-closed g c =
    let kind = g.S.FlowCore.kind in
    let one = c.args.self.now in let mid = c.meet_all.new.self in let met = c.meet_readers.new.self in
    let read = c.subscription_count.new.self in let next = c.meet_all-2.new.self in let end = c.meet_readers-2.new.self in
    let xs = c.args.others.now in let ys = c.meet_all.new.others in let zs = c.meet_all-2.new.others in
    let us = c.args.readers.now in let vs = c.meet_readers.new.readers in let ws = c.meet_readers-2.new.readers in
    let first = c.meet_all.ensures.flow in let second = c.meet_readers.ensures.flow ∙ first in let third = c.subscription_count.ensures.flow ∙ second in let fourth = c.meet_all-2.ensures.flow ∙ third in
    closed_around kind one.flow.first (λ w. w.token) (λ w. w.subscription.token) one.token mid.token met.token read.token next.token end.token kind.count (kind.counted c.subscription_count.result) xs ys zs us vs ws
    c.meet_all.ensures.meets c.meet_readers.ensures.meets
    (subst (λ f. CallsIn kind f.first met.token kind.count (kind.counted c.subscription_count.result) read.token) second c.subscription_count.ensures.counted)
    c.meet_all-2.ensures.meets c.meet_all.ensures.met
    (λ i d l. subst (λ f. MeetsInTurn kind f.first mid.token.knows met.token.knows (get_or us i d).subscription.token (get_or vs i d).subscription.token) first (c.meet_readers.ensures.met i d l))
    (λ i d l. subst (λ f. MeetsInTurn kind f.first read.token.knows next.token.knows (get_or ys i d).token (get_or zs i d).token) third (c.meet_all-2.ensures.met i d (rw c.meet_all.ensures.count l)))
    (λ i d l. subst (λ f. MeetsInTurn kind f.first next.token.knows end.token.knows (get_or vs i d).subscription.token (get_or ws i d).subscription.token) fourth (c.meet_readers-2.ensures.met i d (rw c.meet_readers.ensures.count l)))
