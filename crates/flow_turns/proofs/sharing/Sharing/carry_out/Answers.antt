use Rattle.flow_turns.proofs.sharing.Sharing.carry_out.Goals as goal

pub returns-in-Err-clause-steps : goal.returns-in-Err-clause-steps
returns-in-Err-clause-steps g c = λ all ran is.
    c.obey.ensures.steps all ran is _ _
    (rw c.refusal_of.ensures (c.in-Err.ensures.steps c.args.command all))

pub returns-in-Err-reset_if_due-clause-steps : goal.returns-in-Err-reset_if_due-clause-steps
returns-in-Err-reset_if_due-clause-steps g c = λ all ran is.
    c.obey.ensures.steps all ran is _ _
    (c.in_default.ensures.steps c.args.command all _ _
    (rw c.refusal_of-in-Err-reset_if_due.ensures (c.in-Err-reset_if_due.ensures.steps c.args.command all)))

pub returns-clause-steps : goal.returns-clause-steps
returns-clause-steps g c = λ all ran is.
    c.obey.ensures.steps all ran is _ _
    (c.in_default.ensures.steps c.args.command all _ _
    (c.in_default-reset_if_due.ensures.steps c.args.command all _ _
    (c.collect.ensures.steps c.args.command all)))
