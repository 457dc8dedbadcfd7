use Rattle.std.proofs.Common.{◌≡◌, false, Ok, Err, refl, sym, ap, ◌∙◌, subst}
use Rattle.std.proofs.lemmas.Result.{err_from_is_err_and}
use Rattle.flow_law.specs.sharing.SharingTurn.{reset_if_due, work}
use Rattle.flow_turns.specs.SharingViews.{sharing_state}
use Rattle.flow_turns.specs.TurnParts.{sharing_parts, ActsBy, GoesOn}
use Rattle.flow_turns.proofs.StepLemmas.{cancels-hub}
use Rattle.flow_turns.proofs.sharing.Sharing.cancel_if_due.Goals as goal

pub returns-in_err-cancel-clause-steps : goal.returns-in_err-cancel-clause-steps
returns-in_err-cancel-clause-steps g c =
    let new = record c.args.self.now { hub = c.cancel.new.self } in
    let given = err_from_is_err_and c.from_residual.result c.from_residual.ensures.1 in
    let same : c.from_residual.result ≡ Err c.in_err-cancel.field-0.0 = given.1 ∙ ap Err given.2 in
    subst (λ r. GoesOn (ActsBy g.C.Cold.Reads g.C.Cold.whole g.C.Cold.rest g.H.Hub.does g.H.Hub.waits) work reset_if_due c.args.self.now r new) (sym same)
    (λ command seen. cancels-hub _ _ _ _ command seen (sharing_state c.args.self.now) (sharing_parts new) (Err c.in_err-cancel.field-0.0)
    (sym c.is_work_due.ensures ∙ c.if-not-is_work_due.false) (c.in_err-cancel.ensures.cancels, refl) (refl, refl))

pub returns-clause-steps : goal.returns-clause-steps
returns-clause-steps g c = λ command seen turned last h.
    let new = record c.args.self.now { hub = c.cancel.new.self; cancel_due = false } in
    cancels-hub _ _ _ _ command seen (sharing_state c.args.self.now) (sharing_parts new) (Ok c.in_ok-cancel.field-0)
    (sym c.is_work_due.ensures ∙ c.if-not-is_work_due.false) (c.in_ok-cancel.ensures.cancels, refl) h
