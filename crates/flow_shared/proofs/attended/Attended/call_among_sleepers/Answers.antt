use Rattle.std.proofs.Common.{◌≡◌, ℕ, List, sym, ◌∙◌, subst}
use Rattle.flow_shared.specs.Attended.{Attends, Rests, Lasts, Watches}
use Rattle.flow_shared.proofs.Attending.{readers_rest, emitters_last, watchers_last}
use Rattle.flow_shared.proofs.attended.Attended.call_among_sleepers.Goals as goal

pub returns-clause-documented : goal.returns-clause-documented
returns-clause-documented g c = λ name s at.
    let kind = g.S.FlowCore.kind in
    let sleeping = g.S.FlowCore.sleeping in
    let StandsAs = g.S.FlowCore.stands_as in
    let said = g.C.CoreCall.call c.args.call name in
    let reply = g.C.CoreCall.reply c.run-answer.result.answer in
    let touches = c.run-answer.result.touches in
    let old = c.args.self.now in
    let y = c.run-answer.new.core in
    let less = c.remove_touched.new.self in
    let left = c.remove_due.new.self in
    let documents = c.run-answer.ensures.documented name in
    let now = documents s at.attends.core in
    let same : less.core ≡ y = c.remove_touched.ensures.core in
    let rests = subst (λ (l : List ℕ). Rests sleeping StandsAs y c.signs-before.result.mark l left.readers) c.remove_touched.ensures.readers
    (subst (λ k. Rests sleeping StandsAs k c.signs-before.result.mark less.readers left.readers) same c.remove_due.ensures.readers) in
    let lasts = subst (λ (l : List ℕ). Lasts sleeping StandsAs y c.signs-before.result.first_waiting l left.emitters) c.remove_touched.ensures.emitters
    (subst (λ k. Lasts sleeping StandsAs k c.signs-before.result.first_waiting less.emitters left.emitters) same c.remove_due.ensures.emitters) in
    let later = subst (λ k. StandsAs k (kind.after s said reply)) (sym (c.remove_due.ensures.core ∙ same)) now.1 in
    let attended : Attends sleeping StandsAs left (kind.after s said reply) = record {
      core = later;
      sound = sleeping.keeps s said reply at.attends.sound;
      readers = readers_rest sleeping StandsAs old.core y said reply touches c.signs-before.result.mark old.readers left.readers s
          documents (c.run-answer.ensures.touches name) c.signs-before.ensures.mark rests at.attends.core at.attends.readers;
      emitters = emitters_last sleeping StandsAs old.core y said reply touches c.signs-before.result.first_waiting old.emitters left.emitters s
          documents (c.run-answer.ensures.touches name) c.signs-before.ensures.first lasts at.attends.core at.attends.sound at.attends.emitters;
      watchers = watchers_last sleeping StandsAs less.core left.watchers left.watched (kind.after s said reply) c.remove_due.ensures.watchers (subst (λ k. StandsAs k (kind.after s said reply)) (sym same) now.1);
    } in
    (now.0, c.sleep.ensures.stays (kind.after s said reply) (c.run-answer.ensures.waits name s at.attends.sound now.0) (c.note_sleepers.ensures.stays (kind.after s said reply) (c.unwatch.ensures.stays (kind.after s said reply) attended)))
