use Rattle.std.proofs.Common.{refl, sym, ap, ◌∙◌, inl, inr, max, arith}
use Rattle.std.proofs.lemmas.Bool.Decides.{nat_tests}
use Rattle.std.proofs.Math.Seq.{drop-nil}
use Rattle.flow_core.proofs.shared.SharedCore.new.Goals as goal

pub returns-in-Some : goal.returns-in-Some
returns-in-Some g c = inl (sym c.fault_of.ensures ∙ c.in-Some.is)

pub returns-in_default-with_capacity : goal.returns-in_default-with_capacity
returns-in_default-with_capacity g c = inr (sym c.fault_of.ensures ∙ c.in_default.is, refl)

pub returns-in_default-new : goal.returns-in_default-new
returns-in_default-new g c = inr (sym c.fault_of.ensures ∙ c.in_default.is, refl)

pub invariant_of-result : goal.invariant_of-result
invariant_of-result g c = rw c.in-Ok-new.ensures (rw c.in-Ok.ensures (rw c.new-2.ensures (record {
  window = c.max-window.ensures ∙ ap (λ n. max n 1) c.capacity_of.ensures;
  capacity = c.max-window.ensures ∙ ap (λ n. max n 1) c.capacity_of.ensures;
  buffered = λ drops. let usable = sym c.fault_of.ensures ∙ c.in_default.is in grind (arith, nat_tests, usable, drops);
  within = tt;
  floor = omega arith;
  reset_mark = omega arith;
  enough = omega arith;
  held = omega arith;
  last = omega arith;
  numbers = omega arith;
  issued = omega arith;
  rising = omega arith;
})))

pub returns : goal.returns
returns g c = (
  sym c.fault_of.ensures ∙ c.in_default.is,
  rw c.in-Ok-new.ensures (rw c.in-Ok.ensures (rw c.new-2.ensures (record {
    config = refl;
    held = sym (drop-nil _);
    appended = refl;
    newest = refl;
    reset_mark = refl;
    queue = refl;
    subscribers = refl;
    issued = refl;
  }))),
)
