use Rattle.std.proofs.Common.{◌+◌, ◌≤◌, ◌∙◌, Some, sym, ap, arith}
use Rattle.std.specs.Vec.{vec_len, vec_capacity}
use Rattle.std.proofs.lemmas.List.{append-nil}
use Rattle.flow_containers.proofs.TakingLemmas.{copied_one_more, where_ok}
use Rattle.flow_containers.proofs.subscribers.taking.copy_to.Goals as goal

pub loop-taken-init : goal.loop-taken-init
loop-taken-init g c =
    let room = where_ok (vec_len c.reserve.new.self + c.min-count.result ≤ vec_capacity c.reserve.new.self) c.reserve.result c.if-is_err.ensures.negation c.reserve.ensures.ok in
    record {
      items = c.reserve.ensures.items ∙ sym (append-nil c.args.list.now.items);
      room = omega (arith, room);
      grown = (omega (arith, c.reserve.ensures.len), c.reserve.ensures.capacity);
    }

pub loop-taken-preserved : goal.loop-taken-preserved
loop-taken-preserved g c = record {
  items = c.push_reserved.ensures.items
      ∙ copied_one_more c.args.from c.loop-taken.taken c.args.values.now.items c.args.list.now.items c.loop-taken.list.items c.in-Ok.copy (sym c.in-Some.ensures ∙ ap Some (sym c.in-Ok.ensures.copy)) c.loop-taken.invariant.items;
  room = omega (arith, c.loop-taken.invariant.room, c.push_reserved.ensures.len, c.push_reserved.ensures.capacity);
  grown = (
    omega (arith, c.loop-taken.invariant.grown.0, c.push_reserved.ensures.len),
    omega (arith, c.loop-taken.invariant.grown.1, c.push_reserved.ensures.capacity),
  );
}

pub push_reserved-requires : goal.push_reserved-requires
push_reserved-requires g c = omega (arith, c.loop-taken.invariant.room, c.loop-taken-test.true)
