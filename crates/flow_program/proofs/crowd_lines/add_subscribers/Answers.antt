use Rattle.std.proofs.Common.{arith, ◌≡◌, ◌+◌, ◌-◌, ◌*◌, ap, ◌∙◌, length, string_bytes}
use Rattle.flow_program.proofs.SubscriberLineLemmas.{line_added}
use Rattle.flow_program.proofs.crowd_lines.add_subscribers.Goals as goal

pub loop-index-preserved : goal.loop-index-preserved
loop-index-preserved c =
    let at = c.loop-index in let index = at.index in let got = c.args.got.now in let list = c.index-got-index.result in let low = c.loop-index-test.true in
    let whole = c.args.size.emitters * c.args.size.values in
    let count : c.len.result ≡ whole = c.len.ensures ∙ list.ok.0 ∙ ap (λ v. length v.items) c.index-got-index.is ∙ (c.requires index list low).count in
    line_added (string_bytes at.text) (string_bytes c.add_subscriber.new.text) _ (index + 1) c.len.result whole (length got - index) (length got - (index + 1))
    c.in_ok-add_subscriber.ensures count (omega (arith, low)) at.invariant
