use Rattle.std.proofs.Common.{◌≡◌, Ok, refl, sym, subst}
use Rattle.flow_law.specs.declared.fault.FlowFault.TheVariants.{Busy}
use Rattle.flow_law.specs.declared.outcome.Next.{Next}
use Rattle.flow_word_shared.specs.Answers.{WordNextsNow, IsOverrun}
use Rattle.flow_word_shared.specs.Handles.{WordFlowReaderOf}
use Rattle.flow_word_shared.proofs.handles.reader.WordFlowReader.try_next.Goals as goal

pub given-requires : goal.given-requires
given-requires g c = c.in-Ok.ensures.0

pub returns-in-Ok-clause-called : goal.returns-in-Ok-clause-called
returns-in-Ok-clause-called g c =
    let nexts = subst (λ f. WordNextsNow f.first c.self.inside.subscription (Ok c.in-Ok.next) c.next_now.new.subscription) c.deref.ensures c.in-Ok.ensures in
    subst (λ (z : WordFlowReaderOf g.row.T.Denot × Next g.row.T.Denot). WordNextsNow z.0.flow.first z.0.subscription (Ok z.1) c.next_now.new.subscription)
    (λ i. (c.self.view_is i, sym c.given.ensures i)) nexts

pub returns-in-Err-clause-called : goal.returns-in-Err-clause-called
returns-in-Err-clause-called g c =
    let new = c.next_now.new.subscription in
    subst (λ (r : WordFlowReaderOf g.row.T.Denot). (Busy ≡ Busy) × (new.number ≡ r.subscription.number) × IsOverrun r.subscription.token new.token) c.self.view_is
    (refl, c.in-Err.ensures.1, c.in-Err.ensures.2)
