use Rattle.std.proofs.Common.{[], ◌∷◌, ◌+◌, ◌∙◌, refl, sym, subst}
use Rattle.flow_program.specs.Callers.{OnlyEmits}
use Rattle.flow_program.specs.Numbers.{numbers_from}
use Rattle.flow_program.proofs.CallerLemmas.{emits_none, emits_more, numbers_more}
use Rattle.flow_program.proofs.crowd.sending.send_all.Goals as goal

pub loop-sent-init : goal.loop-sent-init
loop-sent-init g c = (refl, emits_none c.args.emitter.now.token.knows)

pub loop-sent-preserved : goal.loop-sent-preserved
loop-sent-preserved g c =
    let sent = c.loop-sent.sent in let first = c.args.first in let start = c.args.emitter.now.token.knows in
    let now = c.loop-sent.emitter in let new = c.send.new.emitter in (
      c.send.ensures.flow ∙ c.loop-sent.invariant.0,
      subst (λ xs. OnlyEmits xs start new.token.knows) (sym (numbers_more first sent))
          (emits_more (numbers_from first sent) ((first + sent) ∷ []) start now.token.knows new.token.knows c.loop-sent.invariant.1 c.send.ensures.sent),
    )
