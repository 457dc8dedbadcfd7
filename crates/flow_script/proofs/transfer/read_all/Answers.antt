use Rattle.std.proofs.Common.{◌++◌, length-append, arith}
use Rattle.flow_script.proofs.ByteLemmas.{consumes_more}
use Rattle.flow_script.proofs.transfer.read_all.Goals as goal

pub returns-in_err-read_some-clause-taken : goal.returns-in_err-read_some-clause-taken
returns-in_err-read_some-clause-taken g c =
    let more = c.read_some.ensures.taken in
    let before = c.loop-input.bytes.items in (
      before ++ more.0,
      consumes_more _ _ _ before more.0 c.loop-input.invariant.taken more.1,
      omega (arith, length-append before more.0, c.loop-input.bytes.ok.0, more.2),
    )
