use Rattle.std.proofs.Common.{◌∙◌, ◌+◌, sym, ap, subst}
use Rattle.flow_law.specs.declared.outcome.Emit.TheVariants.{Done, Queued}
use Rattle.flow_law.specs.declared.call.SharedCall.TheVariants as call
use Rattle.flow_law.specs.declared.call.SharedReply.TheVariants as reply
use Rattle.flow_law.specs.flow.SharedFlow.{answer, issuing}
use Rattle.flow_law.specs.flow.EmitRule.{appends, offers, queues, drops_latest, drops_oldest, emit, append, suspend, drop_oldest}
use Rattle.flow_law.specs.flow.SharedHistory.{Replies, reply_by}
use Rattle.flow_law.specs.flow.Standing.{StandsFor}
use Rattle.flow_law.proofs.HoldingLemmas.{covers}
use Rattle.flow_core.proofs.CallLemmas.{emits_in, took_number, refused_number}
use Rattle.flow_core.proofs.shared.SharedCore.emit.Goals as goal

pub returns-in-Ok-clause-documented : goal.returns-in-Ok-clause-documented
returns-in-Ok-clause-documented g c = (
  λ s stands.
      let covered = covers c.args.self.now s stands in
      took_number reply.Emitted c.args.self.now c.append.new.self s (append c.args.value s) (emit c.args.value s) Done covered c.in-Ok.ensures.1
      (emits_in c.args.value s appends (sym (c.in-Appends.ensures.shown s covered)))
      (c.in-Ok.ensures.2 s stands),
  tt,
)

pub returns-in-Err-clause-documented : goal.returns-in-Err-clause-documented
returns-in-Err-clause-documented g c = (
  λ s stands.
      let covered = covers c.args.self.now s stands in
      let none = refused_number reply.Emitted c.args.self.now s (emit c.args.value s) _ covered c.in-Err.ensures.2.1 (emits_in c.args.value s appends (sym (c.in-Appends.ensures.shown s covered))) in
      (subst (λ f. Replies s (call.Emit c.args.value) (reply.Refused f)) (sym c.in-Err.ensures.2.0) none, subst (λ k. StandsFor k s) (sym c.in-Err.ensures.1) stands),
  c.in-Err.ensures.1,
)

pub returns-in-Ok-append-clause-documented : goal.returns-in-Ok-append-clause-documented
returns-in-Ok-append-clause-documented g c = (
  λ s stands.
      let covered = covers c.args.self.now s stands in
      took_number reply.Emitted c.args.self.now c.append-in-Offers.new.self s (append c.args.value s) (emit c.args.value s) (Queued c.in-Ok-append.number) covered c.in-Ok-append.ensures.1
      (emits_in c.args.value s offers (sym (c.in-Offers.ensures.shown s covered)) ∙ ap (λ n. issuing s (answer (Queued n) (append c.args.value s))) (sym (c.in-Ok-append.ensures.0 ∙ ap (λ n. n + 1) stands.issued)))
      (c.in-Ok-append.ensures.2 s stands),
  tt,
)

pub returns-in-Err-append-clause-documented : goal.returns-in-Err-append-clause-documented
returns-in-Err-append-clause-documented g c = (
  λ s stands.
      let covered = covers c.args.self.now s stands in
      let none = refused_number reply.Emitted c.args.self.now s (emit c.args.value s) _ covered c.in-Err-append.ensures.2.1 (emits_in c.args.value s offers (sym (c.in-Offers.ensures.shown s covered))) in
      (subst (λ f. Replies s (call.Emit c.args.value) (reply.Refused f)) (sym c.in-Err-append.ensures.2.0) none, subst (λ k. StandsFor k s) (sym c.in-Err-append.ensures.1) stands),
  c.in-Err-append.ensures.1,
)

pub returns-in-Ok-suspend-clause-documented : goal.returns-in-Ok-suspend-clause-documented
returns-in-Ok-suspend-clause-documented g c = (
  λ s stands.
      let covered = covers c.args.self.now s stands in
      took_number reply.Emitted c.args.self.now c.suspend.new.self s (suspend c.args.value s) (emit c.args.value s) (Queued c.in-Ok-suspend.number) covered c.in-Ok-suspend.ensures.1
      (emits_in c.args.value s queues (sym (c.in-Queues.ensures.shown s covered)) ∙ ap (λ n. issuing s (answer (Queued n) (suspend c.args.value s))) (sym (c.in-Ok-suspend.ensures.0 ∙ ap (λ n. n + 1) stands.issued)))
      (c.in-Ok-suspend.ensures.2 s stands),
  tt,
)

pub returns-in-Ok-append_dropping-clause-documented : goal.returns-in-Ok-append_dropping-clause-documented
returns-in-Ok-append_dropping-clause-documented g c = (
  λ s stands.
      let covered = covers c.args.self.now s stands in
      took_number reply.Emitted c.args.self.now c.append_dropping.new.self s (drop_oldest (append c.args.value s)) (emit c.args.value s) Done covered c.in-Ok-append_dropping.ensures.1
      (emits_in c.args.value s drops_oldest (sym (c.in-DropsOldest.ensures.shown s covered)))
      (c.in-Ok-append_dropping.ensures.2 s covered),
  tt,
)

pub returns-in-Err-append_dropping-clause-documented : goal.returns-in-Err-append_dropping-clause-documented
returns-in-Err-append_dropping-clause-documented g c = (
  λ s stands.
      let covered = covers c.args.self.now s stands in
      let none = refused_number reply.Emitted c.args.self.now s (emit c.args.value s) _ covered c.in-Err-append_dropping.ensures.2.1 (emits_in c.args.value s drops_oldest (sym (c.in-DropsOldest.ensures.shown s covered))) in
      (subst (λ f. Replies s (call.Emit c.args.value) (reply.Refused f)) (sym c.in-Err-append_dropping.ensures.2.0) none, subst (λ k. StandsFor k s) (sym c.in-Err-append_dropping.ensures.1) stands),
  c.in-Err-append_dropping.ensures.1,
)

pub returns-in-DropsLatest-clause-documented : goal.returns-in-DropsLatest-clause-documented
returns-in-DropsLatest-clause-documented g c = (
  λ s stands.
      let all = emits_in c.args.value s drops_latest (sym (c.in-DropsLatest.ensures.shown s (covers c.args.self.now s stands))) in
      (sym (ap (λ a. reply_by reply.Emitted a.reply) all), subst (StandsFor c.args.self.now) (sym (ap (λ a. a.after) all)) stands),
  tt,
)

pub append-requires : goal.append-requires
append-requires g c = record { free = c.in-Appends.ensures.found }

pub append-requires-in-Offers : goal.append-requires-in-Offers
append-requires-in-Offers g c = record { free = c.in-Offers.ensures.found }

pub append_dropping-requires : goal.append_dropping-requires
append_dropping-requires g c = record { full = c.in-DropsOldest.ensures.found }
