use Rattle.std.proofs.Common.{true, sym, ap, subst}
use Rattle.flow_law.specs.declared.call.SharedCall.TheVariants as call
use Rattle.flow_law.specs.declared.call.SharedReply.TheVariants as reply
use Rattle.flow_law.specs.flow.EmitRule.{appends, drops_latest, drops_oldest, try_emit, append, drop_oldest}
use Rattle.flow_law.specs.flow.SharedHistory.{Replies, reply_by}
use Rattle.flow_law.specs.flow.Standing.{StandsFor}
use Rattle.flow_law.proofs.HoldingLemmas.{covers}
use Rattle.flow_core.proofs.CallLemmas.{tries_in, took_number, refused_number}
use Rattle.flow_core.proofs.shared.SharedCore.try_emit.Goals as goal

pub returns-in-Ok-clause-documented : goal.returns-in-Ok-clause-documented
returns-in-Ok-clause-documented g c = (
  λ s stands.
      let covered = covers c.args.self.now s stands in
      took_number reply.Tested c.args.self.now c.append.new.self s (append c.args.value s) (try_emit c.args.value s) true covered c.in-Ok.ensures.1
      (tries_in c.args.value s appends (sym (c.in-Appends.ensures.shown s covered)))
      (c.in-Ok.ensures.2 s stands),
  tt,
)

pub returns-in-Err-clause-documented : goal.returns-in-Err-clause-documented
returns-in-Err-clause-documented g c = (
  λ s stands.
      let covered = covers c.args.self.now s stands in
      let none = refused_number reply.Tested c.args.self.now s (try_emit c.args.value s) _ covered c.in-Err.ensures.2.1 (tries_in c.args.value s appends (sym (c.in-Appends.ensures.shown s covered))) in
      (subst (λ f. Replies s (call.TryEmit c.args.value) (reply.Refused f)) (sym c.in-Err.ensures.2.0) none, subst (λ k. StandsFor k s) (sym c.in-Err.ensures.1) stands),
  c.in-Err.ensures.1,
)

pub returns-in-Ok-append_dropping-clause-documented : goal.returns-in-Ok-append_dropping-clause-documented
returns-in-Ok-append_dropping-clause-documented g c = (
  λ s stands.
      let covered = covers c.args.self.now s stands in
      took_number reply.Tested c.args.self.now c.append_dropping.new.self s (drop_oldest (append c.args.value s)) (try_emit c.args.value s) true covered c.in-Ok-append_dropping.ensures.1
      (tries_in c.args.value s drops_oldest (sym (c.in-DropsOldest.ensures.shown s covered)))
      (c.in-Ok-append_dropping.ensures.2 s covered),
  tt,
)

pub returns-in-Err-append_dropping-clause-documented : goal.returns-in-Err-append_dropping-clause-documented
returns-in-Err-append_dropping-clause-documented g c = (
  λ s stands.
      let covered = covers c.args.self.now s stands in
      let none = refused_number reply.Tested c.args.self.now s (try_emit c.args.value s) _ covered c.in-Err-append_dropping.ensures.2.1 (tries_in c.args.value s drops_oldest (sym (c.in-DropsOldest.ensures.shown s covered))) in
      (subst (λ f. Replies s (call.TryEmit c.args.value) (reply.Refused f)) (sym c.in-Err-append_dropping.ensures.2.0) none, subst (λ k. StandsFor k s) (sym c.in-Err-append_dropping.ensures.1) stands),
  c.in-Err-append_dropping.ensures.1,
)

pub returns-in-DropsLatest-clause-documented : goal.returns-in-DropsLatest-clause-documented
returns-in-DropsLatest-clause-documented g c = (
  λ s stands.
      let all = tries_in c.args.value s drops_latest (sym (c.in-DropsLatest.ensures.shown s (covers c.args.self.now s stands))) in
      (sym (ap (λ a. reply_by reply.Tested a.reply) all), subst (StandsFor c.args.self.now) (sym (ap (λ a. a.after) all)) stands),
  tt,
)
