use Rattle.std.proofs.Common.{ℕ, Result, Ok, Err, inl, inr, sym, ap, ◌∙◌, subst}
use Rattle.flow_law.specs.declared.sharing.Command.TheVariants.{Keep}
use Rattle.flow_law.specs.declared.report.Report.{Report}
use Rattle.flow_law.specs.declared.report.ShareFault.{ShareFault}
use Rattle.flow_law.specs.declared.report.ShareFault.TheVariants.{Ended}
use Rattle.flow_law.specs.sharing.SharingCalls.{counts}
use Rattle.flow_law.specs.sharing.SharingTurn.{reported}
use Rattle.flow_turns.specs.Runs.{RunTurn, SomeRunTurn}
use Rattle.flow_turns.specs.TurnParts.{ActsBy, CallsHub}
use Rattle.flow_turns.proofs.PassingLemmas.{counted-turn, read-passed, unread-passed}
use Rattle.flow_turns.proofs.ReadLemmas.{read-turn, unread-turn}
use Rattle.flow_turns.proofs.StepLemmas.{ended-turn, uncounted-turn}
use Rattle.flow_turns.proofs.sharing.Sharing.turn_since.Goals as goal

pub returns-then-self-clause-turn : goal.returns-then-self-clause-turn
returns-then-self-clause-turn g c = λ m r.
    inl (read-turn g.C.Cold.Reads g.C.Cold.whole g.C.Cold.rest g.H.Hub.does g.H.Hub.waits c.args.now (Err Ended) c.args.self.now c.args.self.now
    (ended-turn _ c.args.now c.args.self.now c.if-self.true) m r)

pub returns-then-self-clause-any_turn : goal.returns-then-self-clause-any_turn
returns-then-self-clause-any_turn g c =
    inl (unread-turn g.C.Cold.Reads g.C.Cold.whole g.C.Cold.rest g.H.Hub.does g.H.Hub.waits c.args.now (Err Ended) c.args.self.now c.args.self.now
    (ended-turn _ c.args.now c.args.self.now c.if-self.true))

pub returns-in-Err-clause-turn : goal.returns-in-Err-clause-turn
returns-in-Err-clause-turn g c = λ m r.
    let P : Result Report ShareFault → Type 0 = λ answer.
    RunTurn (λ x. g.C.Cold.whole x m) (λ x. g.C.Cold.rest x m) g.H.Hub.does g.H.Hub.waits g.H.WatchedHub.Came c.args.now c.args.self.now answer c.counted_since.new.self in
    subst P (sym c.plain.ensures) (inl (read-turn g.C.Cold.Reads g.C.Cold.whole g.C.Cold.rest g.H.Hub.does g.H.Hub.waits c.args.now c.report_of.result c.args.self.now c.counted_since.new.self
    (uncounted-turn _ c.args.now c.args.self.now c.counted_since.new.self c.if-self.false c.counted_since.ensures.policy c.in-Err.ensures.state c.in-Err.fault c.report_of.result c.in-Err.ensures.counts (c.report_of.ensures ∙ ap (reported Keep) c.refusal_of.ensures)) m r))

pub returns-in-Err-clause-any_turn : goal.returns-in-Err-clause-any_turn
returns-in-Err-clause-any_turn g c =
    let P : Result Report ShareFault → Type 0 = λ answer.
    SomeRunTurn g.H.Hub.does g.H.Hub.waits g.H.WatchedHub.Came c.args.now c.args.self.now answer c.counted_since.new.self in
    subst P (sym c.plain.ensures) (inl (unread-turn g.C.Cold.Reads g.C.Cold.whole g.C.Cold.rest g.H.Hub.does g.H.Hub.waits c.args.now c.report_of.result c.args.self.now c.counted_since.new.self
    (uncounted-turn _ c.args.now c.args.self.now c.counted_since.new.self c.if-self.false c.counted_since.ensures.policy c.in-Err.ensures.state c.in-Err.fault c.report_of.result c.in-Err.ensures.counts (c.report_of.ensures ∙ ap (reported Keep) c.refusal_of.ensures))))

pub returns-then-since-eq0-clause-turn : goal.returns-then-since-eq0-clause-turn
returns-then-since-eq0-clause-turn g c = λ m r.
    let P : Result Report ShareFault → Type 0 = λ answer.
    RunTurn (λ x. g.C.Cold.whole x m) (λ x. g.C.Cold.rest x m) g.H.Hub.does g.H.Hub.waits g.H.WatchedHub.Came c.args.now c.args.self.now answer c.observed.new.self in
    let told = subst (λ (n : ℕ). CallsHub (ActsBy g.C.Cold.Reads g.C.Cold.whole g.C.Cold.rest g.H.Hub.does g.H.Hub.waits) counts c.args.self.now (Ok n) c.counted_since.new.self) c.if-since-eq0.true c.in-Ok.ensures.counts in
    subst P (sym c.passed.ensures) (inr (read-passed g.C.Cold.Reads g.C.Cold.whole g.C.Cold.rest g.H.Hub.does g.H.Hub.waits g.H.WatchedHub.Came c.args.now c.args.self.now c.counted_since.new.self c.observed.new.self
    c.observed.result c.if-self.false c.counted_since.ensures.policy c.in-Ok.ensures.state told (c.in-Ok.ensures.came c.if-since.true) c.observed.ensures.follows m r))

pub returns-then-since-eq0-clause-any_turn : goal.returns-then-since-eq0-clause-any_turn
returns-then-since-eq0-clause-any_turn g c =
    let P : Result Report ShareFault → Type 0 = λ answer.
    SomeRunTurn g.H.Hub.does g.H.Hub.waits g.H.WatchedHub.Came c.args.now c.args.self.now answer c.observed.new.self in
    let told = subst (λ (n : ℕ). CallsHub (ActsBy g.C.Cold.Reads g.C.Cold.whole g.C.Cold.rest g.H.Hub.does g.H.Hub.waits) counts c.args.self.now (Ok n) c.counted_since.new.self) c.if-since-eq0.true c.in-Ok.ensures.counts in
    subst P (sym c.passed.ensures) (inr (unread-passed g.C.Cold.Reads g.C.Cold.whole g.C.Cold.rest g.H.Hub.does g.H.Hub.waits g.H.WatchedHub.Came c.args.now c.args.self.now c.counted_since.new.self c.observed.new.self
    c.observed.result c.if-self.false c.counted_since.ensures.policy c.in-Ok.ensures.state told (c.in-Ok.ensures.came c.if-since.true) c.observed.ensures.follows))

pub returns-clause-turn : goal.returns-clause-turn
returns-clause-turn g c = λ m r.
    let P : Result Report ShareFault → Type 0 = λ answer.
    RunTurn (λ x. g.C.Cold.whole x m) (λ x. g.C.Cold.rest x m) g.H.Hub.does g.H.Hub.waits g.H.WatchedHub.Came c.args.now c.args.self.now answer c.observed-2.new.self in
    subst P (sym c.plain-2.ensures) (inl (read-turn g.C.Cold.Reads g.C.Cold.whole g.C.Cold.rest g.H.Hub.does g.H.Hub.waits c.args.now c.observed-2.result c.args.self.now c.observed-2.new.self
    (counted-turn _ c.args.now c.args.self.now c.counted_since.new.self c.if-self.false c.counted_since.ensures.policy c.in-Ok.ensures.state c.in-Ok.since.count c.observed-2.result c.observed-2.new.self c.in-Ok.ensures.counts c.observed-2.ensures.follows) m r))

pub returns-clause-any_turn : goal.returns-clause-any_turn
returns-clause-any_turn g c =
    let P : Result Report ShareFault → Type 0 = λ answer.
    SomeRunTurn g.H.Hub.does g.H.Hub.waits g.H.WatchedHub.Came c.args.now c.args.self.now answer c.observed-2.new.self in
    subst P (sym c.plain-2.ensures) (inl (unread-turn g.C.Cold.Reads g.C.Cold.whole g.C.Cold.rest g.H.Hub.does g.H.Hub.waits c.args.now c.observed-2.result c.args.self.now c.observed-2.new.self
    (counted-turn _ c.args.now c.args.self.now c.counted_since.new.self c.if-self.false c.counted_since.ensures.policy c.in-Ok.ensures.state c.in-Ok.since.count c.observed-2.result c.observed-2.new.self c.in-Ok.ensures.counts c.observed-2.ensures.follows)))
