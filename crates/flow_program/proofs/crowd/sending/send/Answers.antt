use Rattle.std.proofs.Common.{[], ◌∷◌, ◌∙◌, refl}
use Rattle.flow_program.proofs.CallerLemmas.{emits_none, emits_more}
use Rattle.flow_program.proofs.WaitLemmas.{emitted_once, emit_refused}
use Rattle.flow_program.proofs.crowd.sending.send.Goals as goal

pub loop-init : goal.loop-init
loop-init g c = (refl, emits_none c.args.emitter.now.token.knows)

pub returns-in-Ok-clause-sent : goal.returns-in-Ok-clause-sent
returns-in-Ok-clause-sent g c =
    let now = c.loop.emitter in let new = c.send.new.self in
    emits_more [] (c.args.value ∷ []) c.args.emitter.now.token.knows now.token.knows new.token.knows c.loop.invariant.1
    (emitted_once now.flow c.args.value now.token new.token c.in-Ok.ensures.sent)

pub loop-preserved : goal.loop-preserved
loop-preserved g c =
    let now = c.loop.emitter in let new = c.send.new.self in (
      c.in-Err.ensures.flow ∙ c.loop.invariant.0,
      emits_more [] [] c.args.emitter.now.token.knows now.token.knows new.token.knows c.loop.invariant.1
          (emit_refused now.flow c.args.value _ now.token new.token c.in-Err.ensures.sent),
    )
