use Rattle.std.proofs.Common.{rules, ◌≡◌, ◌+◌, ◌-◌, ◌/◌, ◌≤◌, [], ◌∷◌, map, length, Some, None, refl, sym, ap, subst, ◌∙◌, arith}
use Rattle.std.specs.Prelude.{max}
use Rattle.std.specs.Option.{option_map}
use Rattle.flow_law.specs.declared.call.SharedCall.TheVariants as call
use Rattle.flow_law.specs.declared.call.SharedReply.TheVariants as reply
use Rattle.flow_law.specs.declared.states.SharedFlowState.{SharedFlowState}
use Rattle.flow_law.specs.history.Growth.{makes, child}
use Rattle.flow_law.specs.history.History as histories
use Rattle.flow_law.specs.history.Promise.{AddsOne}
use Rattle.flow_law.specs.flow.SharedHistory.{shared_flow}
use Rattle.flow_law.specs.history.Tokens.{token, subscription_name}
use Rattle.flow_word_shared.specs.declared.view.Reads.{Reads}
use Rattle.flow_word_shared.specs.declared.view.RingKnown.{RingKnown}
use Rattle.flow_word_shared.specs.declared.view.RingStart.{RingStart}
use Rattle.flow_word_shared.specs.Steps.{IsAt, MeOf, log_after}
use Rattle.flow_word_shared.specs.Tokens.{word_flow_id, ring_token, post_of_reads}
use Rattle.flow_word_shared.specs.View.{SharedKnowledge, began_as, only, holding, reading, reading_at, ring_with_knows, child_seat}
use Rattle.flow_word_shared.proofs.EmitSteps.{taking, counting, releasing}
use Rattle.flow_word_shared.proofs.SeatSteps.{making}
use Rattle.flow_word_shared.proofs.SubscribeSteps.{refusing_subscriber, counting_mark, running_ahead, enrolling}
use Rattle.flow_word_shared.proofs.Told.{reads_as}
use Rattle.flow_word_shared.proofs.token.WordFlow.try_subscribe.Goals as goal
use Rattle.flow_word_shared.proofs.token.WordFlow.try_subscribe.Goals.{After-store-3}

pub compare_exchange-found-requires : goal.compare_exchange-found-requires
compare_exchange-found-requires g c =
    (search rules, search rules, taking _ _ _ _ _ _ _ _ _ (ap (λ m. m.0) c.seat.invariant.0.0) c.seat.invariant.0.1 c.seat.invariant.1 refl)

pub load-made-requires : goal.load-made-requires
load-made-requires g c =
    let told = c.compare_exchange-found.ensures.2.0 c.if-found-expected.false in
    (search rules, search rules, counting _ _ _ _ _ _ _ (holding (c.seat.inside.expected / 2)) (subst (λ m. m.0 ≡ only m.0 ∷ []) (sym told) refl) (ap (λ m. (only m.0).hold) told) refl)

pub load-requires : goal.load-requires
load-requires g c =
    let n = c.seat.inside.expected / 2 in let made = c.load-made.result in let told = c.compare_exchange-found.ensures.2.0 c.if-found-expected.false in
    let counted = c.load-made.ensures.2 (holding n) (ap (λ m. (only m.0).hold) told) refl in let limit = c.self.invariant.5 in let full = c.if-issued-self.true in
    (search rules, search rules, refusing_subscriber _ _ _ _ _ _ _ (record (holding n) { issued = Some (made + n) }) (made + n) (subst (λ m. m.0 ≡ only m.0 ∷ []) (sym counted.0) refl) (ap (λ m. (only m.0).hold) counted.0) refl (omega arith))

pub store-requires : goal.store-requires
store-requires g c =
    let n = c.seat.inside.expected / 2 in let made = c.load-made.result in let told = c.compare_exchange-found.ensures.2.0 c.if-found-expected.false in
    let counted = c.load-made.ensures.2 (holding n) (ap (λ m. (only m.0).hold) told) refl in let refused = c.load.ensures.2 in let even = c.seat.invariant.1 in
    (search rules, search rules, releasing _ _ _ _ _ _ _ (record (holding n) { issued = Some (made + n) }) _ (ap (λ m. m.0) refused.0.2) (refused.1 ∙ ap (λ m. (only m.0).hold) counted.0) refl (omega arith))

pub load-mark-requires : goal.load-mark-requires
load-mark-requires g c =
    let n = c.seat.inside.expected / 2 in let made = c.load-made.result in let told = c.compare_exchange-found.ensures.2.0 c.if-found-expected.false in
    let counted = c.load-made.ensures.2 (holding n) (ap (λ m. (only m.0).hold) told) refl in
    (search rules, search rules, counting_mark _ _ _ _ _ _ _ (record (holding n) { issued = Some (made + n) }) (subst (λ m. m.0 ≡ only m.0 ∷ []) (sym counted.0) refl) (ap (λ m. (only m.0).hold) counted.0))

pub store-requires-2 : goal.store-requires-2
store-requires-2 g c =
    let n = c.seat.inside.expected / 2 in let made = c.load-made.result in let told = c.compare_exchange-found.ensures.2.0 c.if-found-expected.false in
    let counted = c.load-made.ensures.2 (holding n) (ap (λ m. (only m.0).hold) told) refl in
    let marked = (c.load-mark.ensures.2 (record (holding n) { issued = Some (made + n) }) (ap (λ m. (only m.0).hold) counted.0)).0 in
    (search rules, search rules, running_ahead _ _ _ _ _ _ _ (record (holding n) { issued = Some (made + n); mark = Some c.load-mark.result }) (made + n) _ (subst (λ m. m.0 ≡ only m.0 ∷ []) (sym marked) refl) (ap (λ m. (only m.0).hold) marked) refl (omega arith))

pub fetch_add-requires : goal.fetch_add-requires
fetch_add-requires g c =
    let n = c.seat.inside.expected / 2 in let made = c.load-made.result in let told = c.compare_exchange-found.ensures.2.0 c.if-found-expected.false in
    let counted = c.load-made.ensures.2 (holding n) (ap (λ m. (only m.0).hold) told) refl in let limit = c.self.invariant.5 in let room = c.if-issued-self.false in
    let marked = (c.load-mark.ensures.2 (record (holding n) { issued = Some (made + n) }) (ap (λ m. (only m.0).hold) counted.0)).0 in
    let ahead = c.store-2.ensures.2 (record (holding n) { issued = Some (made + n); mark = Some c.load-mark.result }) (ap (λ m. (only m.0).hold) marked) in
    (search rules, search rules, enrolling _ _ _ _ _ _ _ (record (holding n) { issued = Some (made + n); mark = Some c.load-mark.result; ahead = 1 }) (made + n) c.load-mark.result (subst (λ m. m.0 ≡ only m.0 ∷ []) (sym ahead) refl) (ap (λ m. (only m.0).hold) ahead) refl refl refl (omega arith) (ap (λ z. z.table_id.start.places) c.self.view_is ∙ c.requires.places))

pub store-requires-3 : goal.store-requires-3
store-requires-3 g c =
    let n = c.seat.inside.expected / 2 in let made = c.load-made.result in let told = c.compare_exchange-found.ensures.2.0 c.if-found-expected.false in
    let counted = c.load-made.ensures.2 (holding n) (ap (λ m. (only m.0).hold) told) refl in let even = c.seat.invariant.1 in
    let marked = (c.load-mark.ensures.2 (record (holding n) { issued = Some (made + n) }) (ap (λ m. (only m.0).hold) counted.0)).0 in
    let ahead = c.store-2.ensures.2 (record (holding n) { issued = Some (made + n); mark = Some c.load-mark.result }) (ap (λ m. (only m.0).hold) marked) in
    let won = c.fetch_add.ensures.2 (record (holding n) { issued = Some (made + n); mark = Some c.load-mark.result; ahead = 1 }) (made + n) c.load-mark.result (ap (λ m. (only m.0).hold) ahead) refl refl in
    (search rules, search rules, releasing _ _ _ _ _ _ _ (holding n) _ (ap (λ m. m.0) won.0.2) won.1 refl (omega arith))

pub split_seat-requires : goal.split_seat-requires
split_seat-requires g c = let released = c.store-3.ensures.2 in
    (search rules, search rules, making _ _ _ _ _ _ (subst (λ m. m.0 ≡ only m.0 ∷ []) (sym released) refl) (ap (λ m. (only m.0).hold) released))

-- what the steps of a subscription told: the seat before them, and after the event
pub record Told (g : _) (c : After-store-3 g) : Type 0 where
  pub knows : (only c.store-2.new.seat.me.0).knows ≡ (only c.seat.inside.seat.me.0).knows
  pub start : (only c.store-2.new.seat.me.0).start ≡ (only c.seat.inside.seat.me.0).start
  pub slots : c.store-3.new.seat.me.1 ≡ []

told_all : (g : _) (c : After-store-3 g) → Told g c
told_all g c =
    let T = g.row.T.Denot in
    let n = c.seat.inside.expected / 2 in let made = c.load-made.result in let told = c.compare_exchange-found.ensures.2.0 c.if-found-expected.false in
    let counted = c.load-made.ensures.2 (holding n) (ap (λ m. (only m.0).hold) told) refl in
    let marked = (c.load-mark.ensures.2 (record (holding n) { issued = Some (made + n) }) (ap (λ m. (only m.0).hold) counted.0)).0 in
    let ahead = c.store-2.ensures.2 (record (holding n) { issued = Some (made + n); mark = Some c.load-mark.result }) (ap (λ m. (only m.0).hold) marked) in
    let won = c.fetch_add.ensures.2 (record (holding n) { issued = Some (made + n); mark = Some c.load-mark.result; ahead = 1 }) (made + n) c.load-mark.result (ap (λ m. (only m.0).hold) ahead) refl refl in
    let released = c.store-3.ensures.2 in record {
      knows = ap (λ m. (only m.0).knows) ahead ∙ (ap (λ m. (only m.0).knows) marked ∙ (ap (λ m. (only m.0).knows) counted.0 ∙ ap (λ m. (only m.0).knows) told));
      start = ap (λ m. (only m.0).start) ahead ∙ (ap (λ m. (only m.0).start) marked ∙ (ap (λ m. (only m.0).start) counted.0 ∙ ap (λ m. (only m.0).start) told));
      slots = ap (λ (m : MeOf T). m.1) released ∙ (ap (λ (m : MeOf T). m.1) won.0.2 ∙ (ap (λ (m : MeOf T). m.1) ahead ∙ (ap (λ (m : MeOf T). m.1) marked ∙ (ap (λ (m : MeOf T). m.1) counted.0
          ∙ (ap (λ (m : MeOf T). m.1) told ∙ ap (λ (m : MeOf T). m.1) c.seat.invariant.0.0)))));
    }

pub invariant_of-seat-2 : goal.invariant_of-seat-2
invariant_of-seat-2 g c =
    let T = g.row.T.Denot in let t = told_all g (goal.at.invariant_of-seat-2 g c).After-store-3 in let released = c.store-3.ensures.2 in
    let is = c.split_seat.ensures.2 ∙ (λ i. (map (ring_with_knows makes) (released i).0, t.slots i)) in
    (subst (λ (m : MeOf T). (m ≡ (only m.0 ∷ [], [])) × ((only m.0).hold ≡ None)) (sym is) (refl, refl), c.seat.invariant.1)

pub invariant_of-result : goal.invariant_of-result
invariant_of-result g c =
    let T = g.row.T.Denot in let t = told_all g (goal.at.invariant_of-result g c).After-store-3 in
    let n = c.seat.inside.expected / 2 in let made = c.load-made.result in let told = c.compare_exchange-found.ensures.2.0 c.if-found-expected.false in
    let counted = c.load-made.ensures.2 (holding n) (ap (λ m. (only m.0).hold) told) refl in
    let marked = (c.load-mark.ensures.2 (record (holding n) { issued = Some (made + n) }) (ap (λ m. (only m.0).hold) counted.0)).0 in
    let ahead = c.store-2.ensures.2 (record (holding n) { issued = Some (made + n); mark = Some c.load-mark.result }) (ap (λ m. (only m.0).hold) marked) in
    let won = c.fetch_add.ensures.2 (record (holding n) { issued = Some (made + n); mark = Some c.load-mark.result; ahead = 1 }) (made + n) c.load-mark.result (ap (λ m. (only m.0).hold) ahead) refl refl in
    let released = c.store-3.ensures.2 in let y : RingKnown T = only c.fetch_add.new.seat.me.0 in
    let is = c.split_seat.ensures.4 ∙ (λ i. (map child_seat (released i).0, [])) in
    let replay : c.self.inside.replay ≡ (only c.store-2.new.seat.me.0).start.config.replay = sym c.self.invariant.4
    ∙ (ap (λ z. z.table_id.start.config.replay) c.self.view_is ∙ (sym (ap (λ z. z.start.config.replay) c.requires.flow) ∙ (sym (ap (λ z. z.table_id.start.config.replay) c.seat.view_is) ∙ sym (ap (λ (z : RingStart). z.config.replay) t.start)))) in
    let less : c.saturating_sub.result ≡ n - (only c.store-2.new.seat.me.0).start.config.replay = omega (arith, c.saturating_sub.ensures, replay) in
    let place : max c.load-mark.result (n - (only c.store-2.new.seat.me.0).start.config.replay) ≡ c.max.result = sym (c.max.ensures ∙ ap (max c.load-mark.result) less) in
    let small = c.compare_exchange-found.type_inv in let hit = c.if-found-expected.false in (
      (
        subst (λ (m : MeOf T). ((m ≡ (only m.0 ∷ [], [])) × ((only m.0).hold ≡ None)) × ((only m.0).reads ≡ Some (reading_at (post_of_reads (only m.0).reads) (made + n + 1) c.max.result []))
            × IsAt (only m.0).start (only m.0).knows (made + n + 1) c.max.result × (n ≤ length (log_after (only m.0).start (only m.0).knows.seen))) (sym is) (
              (refl, refl),
              reads_as _ None (made + n + 1) c.max.result [] (ap (λ o. option_map (λ (r : Reads). record r { post = None }) o) (won.2 ∙ ap (λ q. Some (reading (made + n + 1) q [])) place)),
              subst (IsAt y.start (child y.knows) (made + n + 1)) place won.3,
              omega (arith, won.4),
            ),
        subst (λ (m : MeOf T). (only m.0).start.places ≡ 0) (sym is)
            (ap (λ (z : RingStart). z.places) (won.0.1 ∙ t.start) ∙ (ap (λ z. z.table_id.start.places) c.seat.view_is ∙ (ap (λ z. z.start.places) c.requires.flow ∙ c.requires.places))),
      ),
      omega (arith, place, won.5, small, hit),
      omega (arith, small, hit),
    )

pub returns-clause-subscribed : goal.returns-clause-subscribed
returns-clause-subscribed g c =
    let T = g.row.T.Denot in let t = told_all g (goal.at.returns-clause-subscribed g c).After-store-3 in
    let n = c.seat.inside.expected / 2 in let made = c.load-made.result in let told = c.compare_exchange-found.ensures.2.0 c.if-found-expected.false in
    let counted = c.load-made.ensures.2 (holding n) (ap (λ m. (only m.0).hold) told) refl in
    let marked = (c.load-mark.ensures.2 (record (holding n) { issued = Some (made + n) }) (ap (λ m. (only m.0).hold) counted.0)).0 in
    let ahead = c.store-2.ensures.2 (record (holding n) { issued = Some (made + n); mark = Some c.load-mark.result }) (ap (λ m. (only m.0).hold) marked) in
    let won = c.fetch_add.ensures.2 (record (holding n) { issued = Some (made + n); mark = Some c.load-mark.result; ahead = 1 }) (made + n) c.load-mark.result (ap (λ m. (only m.0).hold) ahead) refl refl in
    let released = c.store-3.ensures.2 in let y : RingKnown T = only c.fetch_add.new.seat.me.0 in let p = c.split_seat in
    let tables = c.fetch_add.ensures.0 ∙ (c.store-2.ensures.0 ∙ (c.load-mark.ensures.0 ∙ (c.load-made.ensures.0 ∙ c.compare_exchange-found.ensures.0))) in
    let starts : y.start ≡ (only c.seat.inside.seat.me.0).start = won.0.1 ∙ t.start in
    let first : began_as (only c.store-2.new.seat.me.0).start ≡ c.args.self.now.first =
    ap began_as t.start ∙ (ap (λ z. began_as z.table_id.start) c.seat.view_is ∙ (ap (λ z. began_as z.start) c.requires.flow ∙ (ap (λ z. began_as z.table_id.start) (sym c.self.view_is) ∙ ap (λ z. z.first) c.self.view_is))) in
    let knows : (only c.store-2.new.seat.me.0).knows ≡ c.args.seat.now.knows = t.knows ∙ ap (λ z. z.knows) c.seat.view_is in (
      ring_token c.fetch_add.new.seat,
      (
        (λ i. word_flow_id (tables i) (starts i)) ∙ ap (λ z. z.table_id) c.seat.view_is,
        subst (λ (z : SharedFlowState T × SharedKnowledge T). AddsOne (histories.IsHistory shared_flow z.0) z.1 (call.Subscribe (subscription_name z.1) []) (reply.Subscribed (made + n + 1)) y.knows) (λ i. (first i, knows i)) won.0.0,
      ),
      (λ i. token (word_flow_id (p.ensures.0 i) (only (p.ensures.2 i).0).start) (only (p.ensures.2 i).0).knows)
          ∙ (λ i. token (word_flow_id (c.store-3.ensures.0 i) (only (map (ring_with_knows makes) (released i).0)).start) (only (map (ring_with_knows makes) (released i).0)).knows),
      (λ i. token (word_flow_id (p.ensures.3 i) (only (p.ensures.4 i).0).start) (only (p.ensures.4 i).0).knows)
          ∙ (λ i. token (word_flow_id (c.store-3.ensures.0 i) (only (map child_seat (released i).0)).start) (only (map child_seat (released i).0)).knows),
    )
