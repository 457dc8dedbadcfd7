use Rattle.std.proofs.Common.{◌≤◌, [], ◌∷◌, ◌+◌, ◌∙◌, refl, sym, ap, subst, length, length-append}
use Rattle.flow_program.specs.Callers.{Reads}
use Rattle.flow_program.proofs.CallerLemmas.{reads_none, reads_more}
use Rattle.flow_program.proofs.WaitLemmas.{value_received}
use Rattle.flow_program.proofs.crowd.receiving.receive_all.Goals as goal

pub loop-received-init : goal.loop-received-init
loop-received-init g c =
    let start = c.args.reader.now.subscription in (
      refl,
      refl,
      subst (λ xs. Reads start.number xs start.token.knows start.token.knows) (sym c.requires.empty) (reads_none start.number start.token.knows),
      ap length c.requires.empty,
      c.requires.room,
    )

pub loop-received-preserved : goal.loop-received-preserved
loop-received-preserved g c =
    let start = c.args.reader.now.subscription in let at = c.loop-received in let now = at.reader.subscription in let new = c.receive.new.self.subscription in let v = c.in-Ok.value in
    let got = value_received at.reader.flow v now new c.in-Ok.ensures.received in (
      c.in-Ok.ensures.flow ∙ at.invariant.0,
      got.1 ∙ at.invariant.1,
      subst (λ xs. Reads start.number xs start.token.knows new.token.knows) (sym c.push_reserved.ensures.items)
          (reads_more start.number at.list.items (v ∷ []) start.token.knows now.token.knows new.token.knows at.invariant.2 (subst (λ n. Reads n (v ∷ []) now.token.knows new.token.knows) at.invariant.1 got.0)),
      ap length c.push_reserved.ensures.items ∙ length-append at.list.items (v ∷ []) ∙ ap (λ n. n + 1) at.invariant.3,
      subst (λ n. c.args.count ≤ n) (sym c.push_reserved.ensures.capacity) at.invariant.4,
    )
