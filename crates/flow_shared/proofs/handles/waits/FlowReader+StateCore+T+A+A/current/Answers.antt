use Rattle.std.proofs.Common.{Ok, Err, subst, sym}
use Rattle.flow_law.specs.declared.fault.FlowFault.TheVariants.{OutOfMemory}
use Rattle.flow_law.specs.history.Handles.{next_of}
use Rattle.flow_law.specs.flow.StateFlow.{state_flow}
use Rattle.flow_shared.specs.Calls.{NextsOf}
use Rattle.flow_shared.specs.WaitingFor.{Looks, got_now, got_before, not_shown, not_given}
use Rattle.flow_shared.proofs.handles.waits.FlowReader+StateCore+T+A+A.current.Goals as goal

pub returns-in-Err-clause-looked : goal.returns-in-Err-clause-looked
returns-in-Err-clause-looked g c =
    let new = c.value_by.new.subscription in
    let refused = subst (λ fault. Looks c.deref.result.now c.self.inside.subscription (Err fault) new) c.in-Err.ensures.refused
    (not_shown (c.in-Err.ensures.called, c.in-Err.ensures.number)) in
    subst (λ r. Looks r.flow r.subscription (Err OutOfMemory) new) c.self.view_is
    (subst (λ f. Looks f c.self.inside.subscription (Err OutOfMemory) new) c.deref.ensures refused)

pub returns-in-Ok-Some-clause-looked : goal.returns-in-Ok-Some-clause-looked
returns-in-Ok-Some-clause-looked g c =
    let flow = c.deref.result.now in
    let between = c.value_by.new.subscription in
    let new = c.next.new.self.subscription in
    let called = subst (λ f. NextsOf state_flow f between (Ok (next_of c.in-Ok-Some.field-0)) new) (sym c.deref.ensures) c.in-Ok-Some.ensures.called in
    let given = subst (λ o. NextsOf state_flow flow between (Ok (next_of o)) new) c.in-Ok-Some.field-0-is called in
    subst (λ r. Looks r.flow r.subscription (Ok c.in-Ok-Some.newer) new) c.self.view_is
    (subst (λ f. Looks f c.self.inside.subscription (Ok c.in-Ok-Some.newer) new) c.deref.ensures (got_now (c.in-Ok.ensures.called, c.in-Ok.ensures.number) given))

pub returns-in-Ok-None-clause-looked : goal.returns-in-Ok-None-clause-looked
returns-in-Ok-None-clause-looked g c =
    let flow = c.deref.result.now in
    let between = c.value_by.new.subscription in
    let new = c.next.new.self.subscription in
    let called = subst (λ f. NextsOf state_flow f between (Ok (next_of c.in-Ok-None.field-0)) new) (sym c.deref.ensures) c.in-Ok-None.ensures.called in
    let none = subst (λ o. NextsOf state_flow flow between (Ok (next_of o)) new) c.in-Ok-None.field-0-is called in
    subst (λ r. Looks r.flow r.subscription (Ok c.in-Ok.value) new) c.self.view_is
    (subst (λ f. Looks f c.self.inside.subscription (Ok c.in-Ok.value) new) c.deref.ensures (got_before (c.in-Ok.ensures.called, c.in-Ok.ensures.number) none))

pub returns-in-Err-next-clause-looked : goal.returns-in-Err-next-clause-looked
returns-in-Err-next-clause-looked g c =
    let between = c.value_by.new.subscription in
    let new = c.next.new.self.subscription in
    let refused = subst (λ f. NextsOf state_flow f between (Err OutOfMemory) new) (sym c.deref.ensures) c.in-Err-next.ensures.called in
    subst (λ r. Looks r.flow r.subscription (Err OutOfMemory) new) c.self.view_is
    (subst (λ f. Looks f c.self.inside.subscription (Err OutOfMemory) new) c.deref.ensures (not_given (c.in-Ok.ensures.called, c.in-Ok.ensures.number) refused))
