use Rattle.std.proofs.Common.{◌≡◌, true, false, not, length, sym, ap, ◌∙◌, refl, arith}
use Rattle.std.specs.Bool.{OnFalse}
use Rattle.std.proofs.lemmas.List.{nil_from_length}
use Rattle.flow_law.proofs.CoveringLemmas.{settle_blocked, settle_idle}
use Rattle.flow_core.specs.SharedCore.{IsSettled}
use Rattle.flow_core.proofs.shared.SharedCore.may_admit.Goals as goal

pub returns-then-len-gt0 : goal.returns-then-len-gt0
returns-then-len-gt0 g c = record {
  settled = elim c.is_blocked.result as (λ t. c.is_blocked.result ≡ t → OnFalse (not t) (IsSettled c.args.self.now)) [
    | true ↦ λ e. λ s stands. settle_blocked s (sym (c.is_blocked.ensures.shown s stands) ∙ e)
    | false ↦ λ e. tt
  ] refl;
}

pub returns-else-len-gt0 : goal.returns-else-len-gt0
returns-else-len-gt0 g c = record {
  settled = λ s stands.
      let none : length s.queue ≡ 0 = omega (arith, ap (λ core. length core.queue) c.self.view_is, c.if-len-gt0.false, c.len.ensures, ap length stands.queue) in
      settle_idle s (nil_from_length s.queue none);
}
