use Rattle.std.proofs.Common.{subst}
use Rattle.flow_word.specs.Handles.{ReaderOfWord}
use Rattle.flow_word.specs.WaitingFor.{ValueBy, WordLooks, got_now, got_before}
use Rattle.flow_word.proofs.handles.reader.WordReader.current.Goals as goal

pub returns-in-Some-clause-looked : goal.returns-in-Some-clause-looked
returns-in-Some-clause-looked g c =
    let shown = subst (λ f. ValueBy f.first c.self.inside.subscription c.value_by-value.result c.value_by-value.new.subscription) c.deref.ensures (c.value_by-value.ensures.called, c.value_by-value.ensures.number) in
    subst (λ (z : ReaderOfWord g.row.T.Denot). WordLooks z.flow.first z.subscription c.in-Some.newer c.next.new.self.subscription) c.self.view_is
    (got_now shown (c.in-Some.ensures.called, c.in-Some.ensures.number))

pub returns-in-None-clause-looked : goal.returns-in-None-clause-looked
returns-in-None-clause-looked g c =
    let shown = subst (λ f. ValueBy f.first c.self.inside.subscription c.value_by-value.result c.value_by-value.new.subscription) c.deref.ensures (c.value_by-value.ensures.called, c.value_by-value.ensures.number) in
    subst (λ (z : ReaderOfWord g.row.T.Denot). WordLooks z.flow.first z.subscription c.value_by-value.result c.next.new.self.subscription) c.self.view_is
    (got_before shown (c.in-None.ensures.called, c.in-None.ensures.number))
