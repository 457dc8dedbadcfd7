use Rattle.std.proofs.Common.{arith, ◌≡◌, ◌∙◌, ◌∷◌, [], ap, get_or, subst, sym}
use Rattle.flow_law.specs.history.Rounds.{HasClosedHistory}
use Rattle.flow_law.specs.flow.SharedHistory.{shared_flow}
use Rattle.flow_program.specs.Numbers.{numbers_from}
use Rattle.flow_program.proofs.CallerLemmas.{numbers_length}
use Rattle.flow_program.proofs.EndLemmas.{sent_as}
use Rattle.flow_program.proofs.WaitLemmas.{handed_over}
use Rattle.flow_program.proofs.crowd.pair.hand_over.Goals as goal

pub meet_twice-requires-clause-readers : goal.meet_twice-requires-clause-readers
meet_twice-requires-clause-readers g c = λ k d l.
    let made = c.subscribe.new.self in let ended = c.join-emitter.result in let reader = c.receive_all-got.new.reader in
    let sent = sent_as made 1 c.args.count c.in_ok-sender.sender.promise ended c.in_ok-sender.ensures c.join-emitter.ensures in
    let is_first : k ≡ 0 = omega (arith, l) in
    subst (λ i. (get_or (reader ∷ []) i d).flow.table_id ≡ ended.flow.table_id) (sym is_first)
    (ap (λ f. f.table_id) (c.receive_all-got.ensures.flow ∙ c.in-Ok.ensures.subscribed.0 ∙ sym (sent.0 ∙ c.subscribe.ensures.flow)))

pub returns : goal.returns
returns g c =
    let seat = c.args.emitter.token in let flow = c.args.emitter.flow in let count = c.args.count in let made = c.subscribe.new.self in let asked = c.in-Ok.reader in
    let ended = c.join-emitter.result in let got = c.receive_all-got.ensures in let reader = c.receive_all-got.new.reader in let values = c.receive_all-got.result.items in
    let sent = sent_as made 1 count c.in_ok-sender.sender.promise ended c.in_ok-sender.ensures c.join-emitter.ensures in
    handed_over flow c.requires.suspends c.requires.buffer seat made.token asked.subscription c.requires.first c.in-Ok.ensures.subscribed.1
    (numbers_from 1 count) values ended.token.knows reader.subscription.token.knows sent.1 got.received
    (got.count ∙ sym (numbers_length 1 count))
    (subst (λ f. HasClosedHistory shared_flow f.first (ended.token.knows ∷ reader.subscription.token.knows ∷ [])) (sent.0 ∙ c.subscribe.ensures.flow) c.meet_twice.ensures.closed)
