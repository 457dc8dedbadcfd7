use Rattle.std.proofs.Common.{ℕ, ◌∙◌, sym, ap, subst, List, map, Some, None, arith, rules, refl}
use Rattle.std.specs.Prelude.{nat_lt, ◌^◌}
use Rattle.std.specs.List.Sorted.{IsPartitionPoint}
use Rattle.std.proofs.lemmas.List.Sorted.{IsPartitionPoint-from_clause, IsPartitionedBy-ltb}
use Rattle.std.proofs.lemmas.List.{get_or_default}
use Rattle.flow_law.specs.laws.Laws.{RisesTo}
use Rattle.flow_containers.specs.Queue.{IsPlace, Rises, numbered_of}
use Rattle.flow_containers.specs.declared.queue.Queued.{Queued}
use Rattle.flow_containers.proofs.QueueLemmas.{numbers_of, non_decreasing, place_found, place_missing}
use Rattle.flow_containers.proofs.queue.Queue.place_of.Goals as goal

-- the numbers below the one that is sought come first
split_at : {T : Type 0} (number : ℕ) (xs : List (Queued T)) → Rises (map numbered_of xs) → Rattle.std.specs.List.Sorted.IsPartitionedBy (λ q. nat_lt q.number number) xs
split_at number xs r = IsPartitionedBy-ltb (λ (q : Queued _). q.number) xs number
    (non_decreasing (λ (q : Queued _). q.number) 0 (2 ^ 64) xs (subst (λ l. RisesTo 0 l (2 ^ 64)) (numbers_of xs) r))

pub returns-in-None : goal.returns-in-None
returns-in-None g c =
    let parts = IsPartitionPoint-from_clause (λ q. nat_lt q.number c.args.number) c.self.inside.items.items c.partition_point-place.result
    c.partition_point-place.ensures.partitioned (split_at c.args.number c.self.inside.items.items c.self.invariant) (λ a r f' k. search rules) in
    subst (λ k. IsPlace c.args.number k None) c.self.view_is
    (place_missing c.args.number c.self.inside.items.items c.partition_point-place.result c.self.invariant parts.0 parts.1
    (λ d h is. let there = c.in-None.ensures.variant.1 (omega (arith, h, c.self.inside.items.ok)) in absurd (cc)))

pub returns-then-found-number : goal.returns-then-found-number
returns-then-found-number g c =
    subst (λ k. IsPlace c.args.number k (Some c.partition_point-place.result)) c.self.view_is
    (place_found c.args.number c.self.inside.items.items c.partition_point-place.result c.in-Some.found.now c.self.invariant
    (omega (arith, c.in-Some.ensures.variant.0 refl, c.self.inside.items.ok)) (ap (λ q. q.number) (sym c.in-Some.ensures.lookup) ∙ c.if-found-number.true))

pub returns-else-found-number : goal.returns-else-found-number
returns-else-found-number g c =
    let parts = IsPartitionPoint-from_clause (λ q. nat_lt q.number c.args.number) c.self.inside.items.items c.partition_point-place.result
    c.partition_point-place.ensures.partitioned (split_at c.args.number c.self.inside.items.items c.self.invariant) (λ a r f' k. search rules) in
    subst (λ k. IsPlace c.args.number k None) c.self.view_is
    (place_missing c.args.number c.self.inside.items.items c.partition_point-place.result c.self.invariant parts.0 parts.1
    (λ d h is. c.if-found-number.false (ap (λ q. q.number) (c.in-Some.ensures.lookup ∙ get_or_default c.self.inside.items.items c.partition_point-place.result c.in-Some.found.now d h) ∙ is)))
