use Rattle.std.proofs.Common.{◌≡◌, None, refl, sym, ◌∙◌}
use Rattle.flow_law.specs.declared.chain.End.TheVariants.{Completed as AtEnd, Failed}
use Rattle.flow_law.specs.declared.report.Event.TheVariants.{Pending, Completed}
use Rattle.flow_law.specs.sharing.SharingCalls.{item, pending, end}
use Rattle.flow_turns.specs.SharingViews.{sharing_state}
use Rattle.flow_turns.specs.TurnParts.{sharing_parts}
use Rattle.flow_turns.proofs.StepLemmas.{event-is-no-end, fault-is-no-end, puts-kept, asks-chain}
use Rattle.flow_turns.proofs.sharing.Sharing.send.Goals as goal

pub returns-in-Some-clause-steps : goal.returns-in-Some-clause-steps
returns-in-Some-clause-steps g c = λ command seen.
    puts-kept _ _ _ _ command seen (sharing_state c.args.self.now) c.in-Some.item (sym c.take.ensures.value ∙ c.in-Some.is) (c.put.ensures.steps command seen)

pub returns-in-Item-clause-steps : goal.returns-in-Item-clause-steps
returns-in-Item-clause-steps g c = λ command seen.
    asks-chain _ _ _ _ command seen (sharing_state c.args.self.now) (sharing_parts (record c.args.self.now { chain = c.ask_chain.new.chain })) (item c.in-Item.item)
    (sym c.take.ensures.value ∙ c.in_default.is)
    ((λ m r. ((c.ask_chain.ensures.reads m r, c.in-Item.ensures.whole m), c.in-Item.ensures.gives m r)), refl)
    (c.put-in-Item.ensures.steps command seen)

pub returns-in-Pending-clause-steps : goal.returns-in-Pending-clause-steps
returns-in-Pending-clause-steps g c = λ command seen.
    let none : c.args.self.now.kept ≡ None = sym c.take.ensures.value ∙ c.in_default.is in
    asks-chain _ _ _ _ command seen (sharing_state c.args.self.now) (sharing_parts (record c.args.self.now { chain = c.ask_chain.new.chain })) pending
    none
    ((λ m r. ((c.ask_chain.ensures.reads m r, c.in-Pending.ensures.whole m), c.in-Pending.ensures.gives m r)), refl)
    (rw (c.take.ensures.after, none) refl, refl)

pub returns-in-End-clause-steps : goal.returns-in-End-clause-steps
returns-in-End-clause-steps g c = λ command seen.
    let none : c.args.self.now.kept ≡ None = sym c.take.ensures.value ∙ c.in_default.is in
    asks-chain _ _ _ _ command seen (sharing_state c.args.self.now) (sharing_parts (record c.args.self.now { chain = c.ask_chain.new.chain })) (end AtEnd)
    none
    ((λ m r. ((c.ask_chain.ensures.reads m r, c.in-End.ensures.whole m), c.in-End.ensures.gives m r)), refl)
    (rw (c.take.ensures.after, none) refl, refl)

pub returns-in-Fault-clause-steps : goal.returns-in-Fault-clause-steps
returns-in-Fault-clause-steps g c = λ command seen.
    let none : c.args.self.now.kept ≡ None = sym c.take.ensures.value ∙ c.in_default.is in
    asks-chain _ _ _ _ command seen (sharing_state c.args.self.now) (sharing_parts (record c.args.self.now { chain = c.ask_chain.new.chain })) (end (Failed c.in-Fault.fault))
    none
    ((λ m r. ((c.ask_chain.ensures.reads m r, c.in-Fault.ensures.whole m), c.in-Fault.ensures.gives m r)), refl)
    (rw (c.take.ensures.after, none) refl, refl)

pub returns-in-Some-clause-not_ended : goal.returns-in-Some-clause-not_ended
returns-in-Some-clause-not_ended g c = c.put.ensures.not_ended

pub returns-in-Item-clause-not_ended : goal.returns-in-Item-clause-not_ended
returns-in-Item-clause-not_ended g c = c.put-in-Item.ensures.not_ended

pub returns-in-Pending-clause-not_ended : goal.returns-in-Pending-clause-not_ended
returns-in-Pending-clause-not_ended g c = event-is-no-end Pending

pub returns-in-End-clause-not_ended : goal.returns-in-End-clause-not_ended
returns-in-End-clause-not_ended g c = event-is-no-end Completed

pub returns-in-Fault-clause-not_ended : goal.returns-in-Fault-clause-not_ended
returns-in-Fault-clause-not_ended g c = fault-is-no-end c.in-Fault.fault

pub returns-in-Some-clause-answered : goal.returns-in-Some-clause-answered
returns-in-Some-clause-answered g c = c.put.ensures.answered

pub returns-in-Item-clause-answered : goal.returns-in-Item-clause-answered
returns-in-Item-clause-answered g c = c.put-in-Item.ensures.answered

pub returns-in-Fault-clause-answered : goal.returns-in-Fault-clause-answered
returns-in-Fault-clause-answered g c = c.in-Fault.ensures.answered
