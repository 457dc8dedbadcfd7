use Rattle.std.proofs.Common.{◌≡◌, [], ◌∷◌, Result, Err, inl, inr, refl, sym, ap, ◌∙◌, subst}
use Rattle.flow_law.specs.declared.sharing.Command.{Command}
use Rattle.flow_law.specs.declared.sharing.Command.TheVariants.{Keep}
use Rattle.flow_law.specs.declared.sharing.SharingObservation.{SharingObservation}
use Rattle.flow_law.specs.declared.report.Report.{Report}
use Rattle.flow_law.specs.declared.report.ShareFault.{ShareFault}
use Rattle.flow_law.specs.declared.report.ShareFault.TheVariants.{Backwards, Ended}
use Rattle.flow_law.specs.sharing.SharingCalls.{HubStep}
use Rattle.flow_law.specs.sharing.SharingTurn.{SharingState, Turned, refusal, reported}
use Rattle.flow_law.specs.sharing.TurnMeaning.{TurnResets}
use Rattle.flow_law.proofs.TurnMeaningLemmas.{turn-means}
use Rattle.flow_law.proofs.TurnResetLemmas.{uncounted-resets, uncalled-resets, unobserved-resets, begun-resets}
use Rattle.flow_law.proofs.TurnQuietLemmas.{turn-quiet}
use Rattle.flow_turns.specs.Policy.{HasSeen}
use Rattle.flow_turns.specs.SharingViews.{sharing_state}
use Rattle.flow_turns.specs.TurnClauses.{WasCommanded}
use Rattle.flow_turns.specs.TurnParts.{sharing_parts}
use Rattle.flow_turns.proofs.StepLemmas.{ended-turn, uncounted-turn, backwards-turn, observed-turn, refused-answered, report-answered}
use Rattle.flow_turns.proofs.ReadLemmas.{read-turn, unread-turn, unread-begin}
use Rattle.flow_turns.proofs.sharing.Sharing.turn.Goals as goal

pub returns-then-self-clause-turn : goal.returns-then-self-clause-turn
returns-then-self-clause-turn g c =
    read-turn g.C.Cold.Reads g.C.Cold.whole g.C.Cold.rest g.H.Hub.does g.H.Hub.waits c.args.now (Err Ended) c.args.self.now c.args.self.now
    (ended-turn _ c.args.now c.args.self.now c.if-self.true)

pub returns-then-self-clause-any_turn : goal.returns-then-self-clause-any_turn
returns-then-self-clause-any_turn g c =
    unread-turn g.C.Cold.Reads g.C.Cold.whole g.C.Cold.rest g.H.Hub.does g.H.Hub.waits c.args.now (Err Ended) c.args.self.now c.args.self.now
    (ended-turn _ c.args.now c.args.self.now c.if-self.true)

pub returns-in-Err-clause-turn : goal.returns-in-Err-clause-turn
returns-in-Err-clause-turn g c =
    read-turn g.C.Cold.Reads g.C.Cold.whole g.C.Cold.rest g.H.Hub.does g.H.Hub.waits c.args.now c.report_of.result c.args.self.now c.counted.new.self
    (uncounted-turn _ c.args.now c.args.self.now c.counted.new.self c.if-self.false c.counted.ensures.policy c.in-Err.ensures.state c.in-Err.fault c.report_of.result c.in-Err.ensures.counts (c.report_of.ensures ∙ ap (reported Keep) c.refusal_of.ensures))

pub returns-in-Err-clause-any_turn : goal.returns-in-Err-clause-any_turn
returns-in-Err-clause-any_turn g c =
    unread-turn g.C.Cold.Reads g.C.Cold.whole g.C.Cold.rest g.H.Hub.does g.H.Hub.waits c.args.now c.report_of.result c.args.self.now c.counted.new.self
    (uncounted-turn _ c.args.now c.args.self.now c.counted.new.self c.if-self.false c.counted.ensures.policy c.in-Err.ensures.state c.in-Err.fault c.report_of.result c.in-Err.ensures.counts (c.report_of.ensures ∙ ap (reported Keep) c.refusal_of.ensures))

pub returns-in-Err-observe-clause-turn : goal.returns-in-Err-observe-clause-turn
returns-in-Err-observe-clause-turn g c =
    read-turn g.C.Cold.Reads g.C.Cold.whole g.C.Cold.rest g.H.Hub.does g.H.Hub.waits c.args.now (Err (Backwards c.in-Err-observe.backwards.last)) c.args.self.now (record c.counted.new.self { policy = c.observe.new.self })
    (backwards-turn _ c.args.now c.args.self.now c.counted.new.self c.if-self.false c.counted.ensures.policy c.in-Ok.ensures.state c.in-Ok.count c.in-Err-observe.backwards c.observe.new.self c.in-Ok.ensures.counts c.in-Err-observe.ensures.observes c.in-Err-observe.ensures.unchanged)

pub returns-in-Err-observe-clause-any_turn : goal.returns-in-Err-observe-clause-any_turn
returns-in-Err-observe-clause-any_turn g c =
    unread-turn g.C.Cold.Reads g.C.Cold.whole g.C.Cold.rest g.H.Hub.does g.H.Hub.waits c.args.now (Err (Backwards c.in-Err-observe.backwards.last)) c.args.self.now (record c.counted.new.self { policy = c.observe.new.self })
    (backwards-turn _ c.args.now c.args.self.now c.counted.new.self c.if-self.false c.counted.ensures.policy c.in-Ok.ensures.state c.in-Ok.count c.in-Err-observe.backwards c.observe.new.self c.in-Ok.ensures.counts c.in-Err-observe.ensures.observes c.in-Err-observe.ensures.unchanged)

pub returns-clause-turn : goal.returns-clause-turn
returns-clause-turn g c =
    read-turn g.C.Cold.Reads g.C.Cold.whole g.C.Cold.rest g.H.Hub.does g.H.Hub.waits c.args.now c.report_of-2.result c.args.self.now c.carry_out-outcome.new.self
    (observed-turn _ c.args.now c.args.self.now c.counted.new.self c.if-self.false c.counted.ensures.policy c.in-Ok.ensures.state c.in-Ok.count c.in-Ok-observe.command c.observe.new.self c.carry_out-outcome.result c.report_of-2.result c.carry_out-outcome.new.self c.in-Ok.ensures.counts c.in-Ok-observe.ensures.observes c.in-Ok-observe.ensures.runs c.carry_out-outcome.ensures.steps c.carry_out-outcome.ensures.policy c.report_of-2.ensures)

pub returns-clause-any_turn : goal.returns-clause-any_turn
returns-clause-any_turn g c =
    unread-turn g.C.Cold.Reads g.C.Cold.whole g.C.Cold.rest g.H.Hub.does g.H.Hub.waits c.args.now c.report_of-2.result c.args.self.now c.carry_out-outcome.new.self
    (observed-turn _ c.args.now c.args.self.now c.counted.new.self c.if-self.false c.counted.ensures.policy c.in-Ok.ensures.state c.in-Ok.count c.in-Ok-observe.command c.observe.new.self c.carry_out-outcome.result c.report_of-2.result c.carry_out-outcome.new.self c.in-Ok.ensures.counts c.in-Ok-observe.ensures.observes c.in-Ok-observe.ensures.runs c.carry_out-outcome.ensures.steps c.carry_out-outcome.ensures.policy c.report_of-2.ensures)

pub returns-clause-means : goal.returns-clause-means
returns-clause-means g c = λ m r started seen accepted stands between held.
    let turn = returns-clause-turn g c m r started seen stands in
    (turn-means _ started c.args.now seen _ _ _ _ accepted stands.running between turn.2).0 held

pub returns-clause-between : goal.returns-clause-between
returns-clause-between g c = λ m r started seen stands between.
    let turn = returns-clause-turn g c m r started seen stands in
    (turn-means _ started c.args.now seen _ _ _ _ [] stands.running between turn.2).1

pub returns-clause-quiet : goal.returns-clause-quiet
returns-clause-quiet g c = λ m r started seen stands quiet.
    let turn = returns-clause-turn g c m r started seen stands in turn-quiet g.H.Hub.does g.H.Hub.waits started c.args.now seen _ _ _ _ quiet turn.2

pub returns-clause-any_resets : goal.returns-clause-any_resets
returns-clause-any_resets g c =
    let D = HubStep g.H.Hub.does g.H.Hub.waits in
    let turned : Turned g.row.C-Item.Denot = record { answer = reported c.in-Ok-observe.command c.carry_out-outcome.result; seen = []; state = sharing_state c.carry_out-outcome.new.self } in
    let over = unread-begin g.C.Cold.Reads g.C.Cold.whole g.C.Cold.rest g.H.Hub.does g.H.Hub.waits [] c.in-Ok-observe.command (sharing_state c.counted.new.self)
    (sharing_parts c.counted.new.self) (sharing_parts c.carry_out-outcome.new.self) turned (c.carry_out-outcome.ensures.steps [] c.counted.new.self.policy.running c.in-Ok-observe.ensures.runs) in
    let Is : Command → Type 0 = WasCommanded c.args.self.now c.carry_out-outcome.new.self in
    let is : Is c.in-Ok-observe.command = λ started seen stands.
    let held : HasSeen started c.counted.new.self.policy seen = rw c.counted.ensures.policy stands in
    let told = c.in-Ok-observe.ensures.observes started seen held in
    let o : SharingObservation = record { moment = c.args.now; count = c.in-Ok.count } in
    (o ∷ seen, rw c.carry_out-outcome.ensures.policy told.2, inr (o, refl, told.1)) in
    let P : SharingState g.row.C-Item.Denot → Type 0 = λ s.
    TurnResets D Is s c.args.self.now.hub (reported c.in-Ok-observe.command c.carry_out-outcome.result) (sharing_state c.carry_out-outcome.new.self) c.carry_out-outcome.new.self.hub in
    let Q : Result Report ShareFault → Type 0 = λ answer.
    TurnResets D Is (sharing_state c.args.self.now) c.args.self.now.hub answer (sharing_state c.carry_out-outcome.new.self) c.carry_out-outcome.new.self.hub in
    subst Q (sym c.report_of-2.ensures) (subst P c.in-Ok.ensures.state
    (begun-resets D c.args.self.now.hub (sharing_state c.counted.new.self) Is [] c.in-Ok-observe.command
    (record { whole = over.whole; rest = over.before; hub = c.counted.new.self.hub })
    (record { whole = over.whole; rest = over.after; hub = c.carry_out-outcome.new.self.hub })
    turned is (c.in-Ok.count, c.in-Ok.ensures.counts.0) over.takes))

pub returns-then-self-clause-means : goal.returns-then-self-clause-means
returns-then-self-clause-means g c = λ m r started seen accepted stands between held. (c.if-self.true, refl, refl)

pub returns-then-self-clause-between : goal.returns-then-self-clause-between
returns-then-self-clause-between g c = λ m r started seen stands between. between

pub returns-then-self-clause-quiet : goal.returns-then-self-clause-quiet
returns-then-self-clause-quiet g c = λ m r started seen stands quiet.
    let turn = returns-then-self-clause-turn g c m r started seen stands in turn-quiet g.H.Hub.does g.H.Hub.waits started c.args.now seen _ _ _ _ quiet turn.2

pub returns-in-Err-clause-means : goal.returns-in-Err-clause-means
returns-in-Err-clause-means g c = λ m r started seen accepted stands between held.
    let turn = returns-in-Err-clause-turn g c m r started seen stands in
    (turn-means _ started c.args.now seen _ _ _ _ accepted stands.running between turn.2).0 held

pub returns-in-Err-clause-between : goal.returns-in-Err-clause-between
returns-in-Err-clause-between g c = λ m r started seen stands between.
    let turn = returns-in-Err-clause-turn g c m r started seen stands in
    (turn-means _ started c.args.now seen _ _ _ _ [] stands.running between turn.2).1

pub returns-in-Err-clause-quiet : goal.returns-in-Err-clause-quiet
returns-in-Err-clause-quiet g c = λ m r started seen stands quiet.
    let turn = returns-in-Err-clause-turn g c m r started seen stands in turn-quiet g.H.Hub.does g.H.Hub.waits started c.args.now seen _ _ _ _ quiet turn.2

pub returns-in-Err-observe-clause-means : goal.returns-in-Err-observe-clause-means
returns-in-Err-observe-clause-means g c = λ m r started seen accepted stands between held.
    let turn = returns-in-Err-observe-clause-turn g c m r started seen stands in
    (turn-means _ started c.args.now seen _ _ _ _ accepted stands.running between turn.2).0 held

pub returns-in-Err-observe-clause-between : goal.returns-in-Err-observe-clause-between
returns-in-Err-observe-clause-between g c = λ m r started seen stands between.
    let turn = returns-in-Err-observe-clause-turn g c m r started seen stands in
    (turn-means _ started c.args.now seen _ _ _ _ [] stands.running between turn.2).1

pub returns-in-Err-observe-clause-quiet : goal.returns-in-Err-observe-clause-quiet
returns-in-Err-observe-clause-quiet g c = λ m r started seen stands quiet.
    let turn = returns-in-Err-observe-clause-turn g c m r started seen stands in turn-quiet g.H.Hub.does g.H.Hub.waits started c.args.now seen _ _ _ _ quiet turn.2

pub returns-then-self-clause-any_resets : goal.returns-then-self-clause-any_resets
returns-then-self-clause-any_resets g c =
    uncalled-resets (HubStep g.H.Hub.does g.H.Hub.waits) c.args.self.now.hub (sharing_state c.args.self.now) (WasCommanded c.args.self.now c.args.self.now) (Err Ended)
    (λ started seen stands. (seen, stands, inl (refl, refl))) tt tt

pub returns-in-Err-clause-any_resets : goal.returns-in-Err-clause-any_resets
returns-in-Err-clause-any_resets g c =
    let D = HubStep g.H.Hub.does g.H.Hub.waits in
    let Is : Command → Type 0 = WasCommanded c.args.self.now c.counted.new.self in
    let keeps : Is Keep = λ started seen stands. (seen, rw c.counted.ensures.policy stands, inl (refl, refl)) in
    let P : SharingState g.row.C-Item.Denot → Type 0 = λ s.
    TurnResets D Is (sharing_state c.args.self.now) c.args.self.now.hub (reported Keep (refusal c.in-Err.fault)) s c.counted.new.self.hub in
    let Q : Result Report ShareFault → Type 0 = λ answer.
    TurnResets D Is (sharing_state c.args.self.now) c.args.self.now.hub answer (sharing_state c.counted.new.self) c.counted.new.self.hub in
    subst Q (sym (c.report_of.ensures ∙ ap (reported Keep) c.refusal_of.ensures))
    (subst P (sym c.in-Err.ensures.state)
    (uncounted-resets D c.args.self.now.hub (sharing_state c.args.self.now) Is c.in-Err.fault c.counted.new.self.hub keeps c.in-Err.ensures.counts.0))

pub returns-in-Err-observe-clause-any_resets : goal.returns-in-Err-observe-clause-any_resets
returns-in-Err-observe-clause-any_resets g c =
    let D = HubStep g.H.Hub.does g.H.Hub.waits in
    let new = record c.counted.new.self { policy = c.observe.new.self } in
    let Is : Command → Type 0 = WasCommanded c.args.self.now new in
    let keeps : Is Keep = λ started seen stands.
    let held : HasSeen started c.counted.new.self.policy seen = rw c.counted.ensures.policy stands in
    (seen, rw c.in-Err-observe.ensures.unchanged held, inl (refl, refl)) in
    let same : sharing_state new ≡ sharing_state c.args.self.now = rw c.in-Err-observe.ensures.unchanged c.in-Ok.ensures.state in
    let P : SharingState g.row.C-Item.Denot → Type 0 = λ s.
    TurnResets D Is (sharing_state c.args.self.now) c.args.self.now.hub (Err (Backwards c.in-Err-observe.backwards.last)) s c.counted.new.self.hub in
    subst P (sym same)
    (unobserved-resets D c.args.self.now.hub (sharing_state c.args.self.now) Is (Err (Backwards c.in-Err-observe.backwards.last)) c.in-Ok.count c.counted.new.self.hub keeps c.in-Ok.ensures.counts.0 tt tt)

pub returns-in-Err-clause-answered : goal.returns-in-Err-clause-answered
returns-in-Err-clause-answered g c = report-answered _ Keep c.refusal_of.result _ c.report_of.ensures (refused-answered _ c.refusal_of.result c.in-Err.fault c.refusal_of.ensures)

pub returns-clause-answered : goal.returns-clause-answered
returns-clause-answered g c = report-answered _ c.in-Ok-observe.command c.carry_out-outcome.result _ c.report_of-2.ensures c.carry_out-outcome.ensures.answered

pub returns-then-self-clause-resets : goal.returns-then-self-clause-resets
returns-then-self-clause-resets g c = λ m r. returns-then-self-clause-any_resets g c

pub returns-in-Err-clause-resets : goal.returns-in-Err-clause-resets
returns-in-Err-clause-resets g c = λ m r. returns-in-Err-clause-any_resets g c

pub returns-in-Err-observe-clause-resets : goal.returns-in-Err-observe-clause-resets
returns-in-Err-observe-clause-resets g c = λ m r. returns-in-Err-observe-clause-any_resets g c

pub returns-clause-resets : goal.returns-clause-resets
returns-clause-resets g c = λ m r. returns-clause-any_resets g c
