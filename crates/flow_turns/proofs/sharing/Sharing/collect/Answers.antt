use Rattle.std.proofs.Common.{true, false, Ok, Err, refl, sym, ap, ◌∙◌, subst}
use Rattle.flow_law.specs.declared.report.Event.TheVariants.{Idle, Waiting, Completed}
use Rattle.flow_law.specs.sharing.Steps.{Takes}
use Rattle.flow_law.specs.sharing.SharingTurn.{SharingState, reported, send}
use Rattle.flow_turns.specs.SharingViews.{sharing_state}
use Rattle.flow_turns.specs.TurnClauses.{ended_after}
use Rattle.flow_turns.specs.TurnParts.{sharing_parts, ActsBy}
use Rattle.flow_turns.proofs.StepLemmas.{same-end, event-is-no-end, goes-on, polls-hub, refused-answered}
use Rattle.flow_turns.proofs.sharing.Sharing.collect.Goals as goal

pub returns-in-Err-clause-steps : goal.returns-in-Err-clause-steps
returns-in-Err-clause-steps g c = λ command seen.
    polls-hub _ _ _ _ command seen (sharing_state c.args.self.now) (sharing_parts c.is_waiting.new.self) (Err c.in-Err.fault)
    (sym c.is_running.ensures ∙ c.if-not-is_running.false) c.if-self.false (c.in-Err.ensures.polls)
    (same-end seen _ _ _ _ (ap (reported command) c.refusal_of.ensures) c.in-Err.ensures.state, refl)

pub returns-then-waiting-clause-steps : goal.returns-then-waiting-clause-steps
returns-then-waiting-clause-steps g c = λ command seen.
    polls-hub _ _ _ _ command seen (sharing_state c.args.self.now) (sharing_parts c.is_waiting.new.self) (Ok true)
    (sym c.is_running.ensures ∙ c.if-not-is_running.false) c.if-self.false (rw c.if-waiting.true at (c.in-Ok.ensures.polls))
    (same-end seen _ _ _ _ refl c.in-Ok.ensures.state, refl)

pub returns-clause-steps : goal.returns-clause-steps
returns-clause-steps g c = λ command seen.
    let P : SharingState g.row.C-Item.Denot → Type 0 = λ s.
    Takes (ActsBy g.C.Cold.Reads g.C.Cold.whole g.C.Cold.rest g.H.Hub.does g.H.Hub.waits) (send command seen s.kept s) (sharing_parts c.is_waiting.new.self)
    (record { answer = reported command c.send.result; seen = seen; state = sharing_state c.send.new.self }) (sharing_parts c.send.new.self) in
    polls-hub _ _ _ _ command seen (sharing_state c.args.self.now) (sharing_parts c.is_waiting.new.self) (Ok false)
    (sym c.is_running.ensures ∙ c.if-not-is_running.false) c.if-self.false (rw c.if-waiting.false at (c.in-Ok.ensures.polls))
    (subst P c.in-Ok.ensures.state (c.send.ensures.steps command seen))

pub returns-in-Err-clause-ended : goal.returns-in-Err-clause-ended
returns-in-Err-clause-ended g c =
    ap (λ (s : SharingState g.row.C-Item.Denot). s.ended) c.in-Err.ensures.state ∙ sym ((goes-on c.refusal_of.result c.in-Err.fault c.refusal_of.ensures).1 c.args.self.now.ended)

pub returns-in-Err-clause-not_ended : goal.returns-in-Err-clause-not_ended
returns-in-Err-clause-not_ended g c = (goes-on c.refusal_of.result c.in-Err.fault c.refusal_of.ensures).0

pub returns-then-not-is_running-clause-not_ended : goal.returns-then-not-is_running-clause-not_ended
returns-then-not-is_running-clause-not_ended g c = event-is-no-end Idle

pub returns-then-self-clause-not_ended : goal.returns-then-self-clause-not_ended
returns-then-self-clause-not_ended g c = event-is-no-end Completed

pub returns-then-waiting-clause-not_ended : goal.returns-then-waiting-clause-not_ended
returns-then-waiting-clause-not_ended g c = event-is-no-end Waiting

pub returns-clause-not_ended : goal.returns-clause-not_ended
returns-clause-not_ended g c = c.send.ensures.not_ended

pub returns-then-waiting-clause-ended : goal.returns-then-waiting-clause-ended
returns-then-waiting-clause-ended g c = ap (λ (s : SharingState g.row.C-Item.Denot). s.ended) c.in-Ok.ensures.state

pub returns-clause-ended : goal.returns-clause-ended
returns-clause-ended g c = c.send.ensures.ended ∙ ap (λ (s : SharingState g.row.C-Item.Denot). ended_after c.send.result s.ended) c.in-Ok.ensures.state

pub returns-clause-policy : goal.returns-clause-policy
returns-clause-policy g c = c.send.ensures.policy ∙ c.in-Ok.ensures.policy

pub returns-in-Err-clause-answered : goal.returns-in-Err-clause-answered
returns-in-Err-clause-answered g c = refused-answered _ c.refusal_of.result c.in-Err.fault c.refusal_of.ensures

pub returns-clause-answered : goal.returns-clause-answered
returns-clause-answered g c = c.send.ensures.answered
