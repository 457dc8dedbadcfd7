use Rattle.std.proofs.Common.{◌==◌, ◌∙◌, not, sym, ap, subst, Some, arith}
use Rattle.std.specs.Prelude.{filter}
use Rattle.std.proofs.lemmas.List.{length-map}
use Rattle.flow_containers.specs.Queue.{IsPlace, numbered_of, queue_of}
use Rattle.flow_containers.proofs.QueueLemmas.{on_some, taken_out, rises_taken_out}
use Rattle.flow_containers.proofs.queue.Queue.remove.Goals as goal
use Rattle.flow_containers.proofs.queue.Queue.remove.Goals.{in-Some-1, in-None-1}

pub invariant_of-self : goal.invariant_of-self
invariant_of-self g c =
    let there : IsPlace c.args.number (queue_of c.self.inside) (Some c.in-Some.place) = subst (λ k. IsPlace c.args.number k (Some c.in-Some.place)) (sym c.self.view_is) c.in-Some.ensures in
    let left = on_some c.remove.result _ (c.remove.ensures.variant.1 (omega (arith, there.0, length-map c.self.inside.items.items (numbered_of {T = _}), c.self.inside.items.ok))) c.remove.ensures.items in
    rises_taken_out c.args.number c.in-Some.place c.self.inside.items.items c.remove.new.self.items there left c.self.invariant

pub returns-in-Some : goal.returns-in-Some
returns-in-Some g c =
    let there : IsPlace c.args.number (queue_of c.self.inside) (Some c.in-Some.place) = subst (λ k. IsPlace c.args.number k (Some c.in-Some.place)) (sym c.self.view_is) c.in-Some.ensures in
    let left = on_some c.remove.result _ (c.remove.ensures.variant.1 (omega (arith, there.0, length-map c.self.inside.items.items (numbered_of {T = _}), c.self.inside.items.ok))) c.remove.ensures.items in
    let all = taken_out c.args.number c.in-Some.place c.self.inside.items.items c.remove.new.self.items there left
    ∙ ap (λ k. filter (λ q. not (q.number == c.args.number)) k) c.self.view_is in
    elim c.match-remove.branch [ in-Some-1 w ↦ w.self-is ∙ all | in-None-1 w ↦ w.self-is ∙ all ]

pub returns-in_default : goal.returns-in_default
returns-in_default g c = c.in_default.ensures.1
