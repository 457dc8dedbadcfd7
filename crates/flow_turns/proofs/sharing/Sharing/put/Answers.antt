use Rattle.std.proofs.Common.{true, false, Ok, Err, refl, sym}
use Rattle.flow_law.specs.declared.report.Event.TheVariants.{Put, Queued}
use Rattle.flow_turns.specs.TurnParts.{sharing_parts}
use Rattle.flow_turns.proofs.StepLemmas.{event-is-no-end, goes-on, refused-answered}
use Rattle.flow_turns.proofs.sharing.Sharing.put.Goals as goal

pub returns-then-waits-clause-steps : goal.returns-then-waits-clause-steps
returns-then-waits-clause-steps g c = λ command seen. (
  Ok true,
  record (sharing_parts c.args.self.now) { hub = c.put.new.self },
  (rw c.if-waits.true at c.in-Ok.ensures.puts, refl),
  (rw c.requires.empty refl, refl),
)

pub returns-else-waits-clause-steps : goal.returns-else-waits-clause-steps
returns-else-waits-clause-steps g c = λ command seen. (
  Ok false,
  record (sharing_parts c.args.self.now) { hub = c.put.new.self },
  (rw c.if-waits.false at c.in-Ok.ensures.puts, refl),
  (rw c.requires.empty refl, refl),
)

pub returns-in-Err-clause-steps : goal.returns-in-Err-clause-steps
returns-in-Err-clause-steps g c = λ command seen. (
  Err c.in-Err.refused.fault,
  record (sharing_parts c.args.self.now) { hub = c.put.new.self },
  (c.in-Err.ensures.puts, refl),
  (rw (c.refusal_of.ensures, c.in-Err.ensures.handed_back) refl, refl),
)

pub returns-in-Err-clause-ended : goal.returns-in-Err-clause-ended
returns-in-Err-clause-ended g c = sym ((goes-on c.refusal_of.result c.in-Err.refused.fault c.refusal_of.ensures).1 c.args.self.now.ended)

pub returns-in-Err-clause-not_ended : goal.returns-in-Err-clause-not_ended
returns-in-Err-clause-not_ended g c = (goes-on c.refusal_of.result c.in-Err.refused.fault c.refusal_of.ensures).0

pub returns-then-waits-clause-not_ended : goal.returns-then-waits-clause-not_ended
returns-then-waits-clause-not_ended g c = event-is-no-end Queued

pub returns-else-waits-clause-not_ended : goal.returns-else-waits-clause-not_ended
returns-else-waits-clause-not_ended g c = event-is-no-end Put

pub returns-in-Err-clause-answered : goal.returns-in-Err-clause-answered
returns-in-Err-clause-answered g c = refused-answered _ c.refusal_of.result c.in-Err.refused.fault c.refusal_of.ensures
