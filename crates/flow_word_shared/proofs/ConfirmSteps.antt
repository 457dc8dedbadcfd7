-- Several calls of `next` at one step: a load of word 0 by a subscriber that has read cells. Nothing but the view and the history changes,
-- so the calls are events one after the other.
use Rattle.std.proofs.Common.{◌≡◌, ℕ, zero, suc, ◌+◌, ◌-◌, ◌/◌, ◌<◌, ◌≤◌, List, [], ◌∷◌, ◌++◌, map, length, get_or, set, Some, None, refl, sym, ap, ◌∙◌, subst, length-append, arith}
use Rattle.std.specs.Prelude.{max}
use mathlib.Core.Option.{none, some}
use lib.ListN.{get_elem?}
use Rattle.atomic_table.specs.Table.{State, Me, step, keeps, Allows}
use Rattle.atomic_table.proofs.Lists.{set_again, set_here}
use Rattle.flow_law.specs.declared.outcome.Next.TheVariants.{Value}
use Rattle.flow_law.specs.declared.call.SharedCall.TheVariants as call
use Rattle.flow_law.specs.declared.call.SharedReply.TheVariants as reply
use Rattle.flow_law.specs.declared.states.Numbered.{Numbered}
use Rattle.flow_law.specs.declared.states.SharedFlowState.{SharedFlowState}
use Rattle.flow_law.specs.flow.SharedFlow.{values, answer, move_to}
use Rattle.flow_law.specs.flow.SharedHistory.{History, outcome_of, Replies, after, shared_flow, IsSharedHistory}
use Rattle.flow_law.proofs.Boxes.{length_values}
use Rattle.flow_law.proofs.SeatLemmas.{at_none}
use Rattle.flow_word_shared.specs.declared.view.RingKnown.{RingKnown}
use Rattle.flow_word_shared.specs.declared.view.Reads.{Reads}
use Rattle.flow_word_shared.specs.declared.view.RingStart.{RingStart}
use Rattle.flow_word_shared.specs.Rule.{capacity_of, RingHolds, WordsFit, HoldFits}
use Rattle.flow_word_shared.specs.Steps.{IsAt, Stands, AreFound, StepsGive, Receives, still_kept, failed_by, log_after, confirms, StepCalls}
use Rattle.flow_word_shared.specs.View.{only, saw, reading, began_as}
use Rattle.flow_word_shared.proofs.PlaceRule.{drops, no_places}
use Rattle.flow_word_shared.proofs.Oldest.{stands_now, Usual, usual_after, length-move_to, next_value, stands_next}
use Rattle.flow_word_shared.proofs.Keeps.{same_some, now, more_by, turned_by, turned, started, stay, event_step, event_with, keeps_rule, quiet_by, quiet_with, sees_all, loaded, event_by}
use Rattle.flow_word_shared.proofs.Finding.{found_drop, found_within, PackFrom, kept_packs, pack_left, all_packed}
use Rattle.flow_word_shared.proofs.ReadSteps.{half_of, is_now, found_now, holds_none}
use Rattle.std.specs.List.{slice_get}
use Rattle.flow_law.specs.declared.call.SharedCall.{SharedCall}
use Rattle.flow_law.specs.declared.call.SharedReply.{SharedReply}
use Rattle.flow_law.specs.history.History.{subscriber}
use Rattle.flow_law.specs.flow.SharedStep.{next}
use Rattle.flow_law.proofs.HistoryLemmas.{after_all-snoc, IsHistory-snoc}
use Rattle.flow_law.proofs.Owners.{given_stays}
use Rattle.flow_law.proofs.SharedLawful.{shared_lawful}

module _ {A : Type 0} where
  pub set-set : (l : List A) (i : ℕ) (a b : A) → set (set l i a) i b ≡ set l i b
  set-set [] i a b = refl
  set-set (x ∷ xs) zero a b = refl
  set-set (x ∷ xs) (suc i) a b = ap (λ l. x ∷ l) (set-set xs i a b)

  pub there : (l : List A) (i : ℕ) (a : A) → get_elem? l i ≡ some a → i < length l
  there [] i a e = absurd (at_none a i e)
  there (x ∷ xs) zero a e = omega arith
  there (x ∷ xs) (suc i) a e = omega (arith, there xs i a e)

module _ (T : Type 0) (packs : List ℕ → Type 0) (value_of : List ℕ → T) (start : RingStart) (bare : start.places ≡ 0) where
  abbrev V : Type 0
  V = List (RingKnown T)

  abbrev St : Type 0
  St = State Unit V

  abbrev Rule : St → Type 0
  Rule = RingHolds packs value_of start

  abbrev current : History T → SharedFlowState T
  current h = now T packs value_of start h

  -- a call of `next` that gives the value that was found
  unfoldable pub confirms_value : (s : St) (r : Rule s) (id : ℕ) (me : Me Unit V) (x : Reads) (word : List ℕ) → me.0 ≡ only me.0 ∷ [] → get_elem? s.views id ≡ some me.0 → IsAt start (saw (only me.0).knows.lost r.history (only me.0).knows) x.number x.position
      → x.position < length (current r.history).emitted → length (current r.history).emitted ≤ x.position + capacity_of start → slice_get (values (current r.history)) x.position ≡ Some (value_of word)
      → let c : SharedCall T = call.TakeNext x.number in let y : SharedReply T = reply.Received (Value (value_of word)) in let k : RingKnown T = turned T packs value_of start (only me.0) (more_by T packs value_of start (only me.0) r.history c y) None (Some (reading x.number (x.position + 1) [])) in
      (Rule record { words = s.words; homes = s.homes; views = set s.views id (k ∷ []) } × StepCalls me c y (k ∷ [], me.1)) × ((current (more_by T packs value_of start (only me.0) r.history c y)).emitted ≡ (current r.history).emitted) × IsAt start k.knows x.number (x.position + 1)
  confirms_value s r id me x word is at here there kept value =
      let c : SharedCall T = call.TakeNext x.number in let y : SharedReply T = reply.Received (Value (value_of word)) in let st = current r.history in let u = x.number in let p = x.position in
      let usual : Usual T start.config (drops start r.starts) r.starts.buffer st = usual_after T start.config (drops start r.starts) r.starts.buffer r.history in
      let moved : SharedFlowState T = record st { subscribers = move_to u (p + 1) st.subscribers; queue = [] } in
      let gives : next u st ≡ answer (Value (value_of word)) moved = next_value T start.config (drops start r.starts) r.starts.buffer u p st (value_of word) usual here.stands kept value in
      let replies : Replies st c y = sym (ap (λ a. (outcome_of reply.Received a).reply) gives) in
      let then_is : after st c y ≡ moved = ap (λ a. (outcome_of reply.Received a).after) gives in
      let e = event_by T packs value_of start (only me.0) r.history c y in
      let next_state : current (r.history ++ e ∷ []) ≡ moved = after_all-snoc shared_flow (began_as start) r.history e ∙ then_is in
      let is_history : IsSharedHistory start.config (r.history ++ e ∷ []) = IsHistory-snoc shared_flow (began_as start) r.history e r.is_history replies here.given in
      let w = r.words in
      let fit : WordsFit packs value_of start moved r.owner r.hidden s.words = record {
        count = w.count;
        word0 = w.word0;
        few = w.few;
        made = w.made;
        live = w.live ∙ sym (length-move_to u (p + 1) st.subscribers);
        mark = w.mark;
        cells = w.cells;
        rested = w.rested;
        places = no_places start moved r.hidden.owners s.words bare w.places.owned;
      } in (
        event_step T packs value_of start s r id me.0 me.1 c y is at r.owner r.hidden s.words None (Some (reading u (p + 1) [])) replies here.given
            (subst (λ t. WordsFit packs value_of start t r.owner r.hidden s.words) (sym then_is) fit) tt
            (λ z ne g. subst (λ t. HoldFits start t r.owner r.hidden s.words z.knows.name z.hold) (sym then_is) (holds_none T packs value_of start st moved r.owner r.hidden s.words refl refl refl z g)) (stay T packs value_of start s r) tt,
        ap (λ (t : SharedFlowState T). t.emitted) next_state,
        record {
          given = given_stays shared_flow shared_lawful (began_as start) r.history (e ∷ []) (subscriber u) (only me.0).knows.name is_history.legal here.given;
          stands = subst (Stands u (p + 1) (capacity_of start)) (sym next_state) (stands_next T start.config (drops start r.starts) r.starts.buffer u p st here.stands there kept);
        },
      )

  abbrev Pack : List T → ℕ → List (List ℕ) → Type 0
  Pack = PackFrom packs value_of (capacity_of start)

  -- after the calls that gave the values of these words, from this position on, and with this many values emitted
  pub record Given (s : St) (id : ℕ) (v : V) (cs : List (ℕ × Unit {0})) (number p count : ℕ) (ws : List (List ℕ)) : Type 0 where
    pub last : V
    pub rule : Rule record { words = s.words; homes = s.homes; views = set s.views id last }
    pub gives : StepsGive packs value_of number (v, cs) ws (last, cs)
    pub one : last ≡ only last ∷ []
    pub started_so : (only last).start ≡ (only v).start
    pub hold : (only last).hold ≡ None
    pub reads : (only last).reads ≡ Some (reading number (p + length ws) [])
    pub stands : IsAt start (only last).knows number (p + length ws)
    pub counted : count ≡ length (log_after start (only last).knows.seen)

  -- all events of the step
  gives_all : (ws : List (List ℕ)) (s : St) (r : Rule s) (id : ℕ) (v : V) (cs : List (ℕ × Unit {0})) (number p : ℕ) → v ≡ only v ∷ [] → get_elem? s.views id ≡ some v
      → (only v).hold ≡ None → (only v).reads ≡ Some (reading number p []) → (only v).knows.seen ≡ r.history → IsAt start (only v).knows number p
      → length (current r.history).emitted ≤ p + capacity_of start → p + length ws ≤ length (current r.history).emitted → Pack (values (current r.history)) p ws
      → Given s id v cs number p (length (current r.history).emitted) ws
  unfolding confirms_value event_step event_with keeps_rule
  gives_all [] s r id v cs number p is at idle reads seen here kept within packed = record {
    last = v;
    rule = subst Rule (λ k. record { words = s.words; homes = s.homes; views = sym (set_again s.views id v at) k }) r;
    gives = refl;
    one = is;
    started_so = refl;
    hold = idle;
    reads = reads ∙ ap (λ q. Some (reading number q [])) (let e : p ≡ p + 0 = omega arith in e);
    stands = subst (IsAt start (only v).knows number) (let e : p ≡ p + 0 = omega arith in e) here;
    counted = sym (length_values (current r.history)) ∙ ap (λ h. length (log_after start h)) (sym seen);
  }
  gives_all (w ∷ ws) s r id v cs number p is at idle reads seen here kept within packed =
      let here_now : IsAt start (saw (only v).knows.lost r.history (only v).knows) number p = subst (λ (h : History T). IsAt start (saw (only v).knows.lost h (only v).knows) number p) seen here in
      let one = confirms_value s r id (v, cs) (reading number p []) w is at here_now (omega (arith, within)) kept packed.0.1 in
      let h1 : History T = more_by T packs value_of start (only v) r.history (call.TakeNext number) (reply.Received (Value (value_of w))) in
      let v1 : V = turned T packs value_of start (only v) h1 None (Some (reading number (p + 1) [])) ∷ [] in
      let s1 : St = record { words = s.words; homes = s.homes; views = set s.views id v1 } in
      let same : length (current h1).emitted ≡ length (current r.history).emitted = ap length one.1 in
      let rest = gives_all ws s1 one.0.0 id v1 cs number (p + 1) refl (set_here s.views id v1 (there s.views id v at)) refl refl refl one.2 (omega (arith, kept, same)) (omega (arith, within, same))
      (subst (λ (l : List (Numbered T)). Pack (map (λ (e : Numbered T). e.value) l) (p + 1) ws) (sym one.1) packed.1) in
      let moved : p + 1 + length ws ≡ p + suc (length ws) = omega arith in record {
        last = rest.last;
        rule = subst (λ (l : List V). Rule record { words = s.words; homes = s.homes; views = l }) (set-set s.views id v1 rest.last) rest.rule;
        gives = ((v1, cs), one.0.1, rest.gives);
        one = rest.one;
        started_so = rest.started_so;
        hold = rest.hold;
        reads = rest.reads ∙ ap (λ q. Some (reading number q [])) moved;
        stands = subst (IsAt start (only rest.last).knows number) moved rest.stands;
        counted = sym same ∙ rest.counted;
      }

  -- the token sees the whole history, and then come the events
  sees_and_gives : (s : St) (r : Rule s) (id : ℕ) (v : V) (cs : List (ℕ × Unit {0})) (number q failed : ℕ) (ws : List (List ℕ)) → v ≡ only v ∷ [] → get_elem? s.views id ≡ some v
      → IsAt start (saw ((only v).knows.lost + failed) r.history (only v).knows) number q
      → length (current r.history).emitted ≤ q + capacity_of start → q + length ws ≤ length (current r.history).emitted → Pack (values (current r.history)) q ws
      → let k : RingKnown T = turned_by T packs value_of start ((only v).knows.lost + failed) (only v) r.history None (Some (reading number q [])) in
      Given s id (k ∷ []) cs number q (length (current r.history).emitted) ws
  unfolding quiet_by quiet_with keeps_rule
  sees_and_gives s r id v cs number q failed ws is at here kept within packed =
      let k : RingKnown T = turned_by T packs value_of start ((only v).knows.lost + failed) (only v) r.history None (Some (reading number q [])) in
      let seen = sees_all T packs value_of start s r id v cs failed None (Some (reading number q [])) is at in
      let r1 = quiet_by T packs value_of start s r id v is at ((only v).knows.lost + failed) r.history r.owner r.hidden s.words None (Some (reading number q [])) seen.0 r.words tt (λ y ne g. g) (stay T packs value_of start s r) tt in
      let s1 : St = record { words = s.words; homes = s.homes; views = set s.views id (k ∷ []) } in
      let all = gives_all ws s1 r1 id (k ∷ []) cs number q refl (set_here s.views id (k ∷ []) (there s.views id v at)) refl refl refl here kept within packed in record {
        last = all.last;
        rule = subst (λ (l : List V). Rule record { words = s.words; homes = s.homes; views = l }) (set-set s.views id (k ∷ []) all.last) all.rule;
        gives = all.gives;
        one = all.one;
        started_so = all.started_so;
        hold = all.hold;
        reads = all.reads;
        stands = all.stands;
        counted = all.counted;
      }

  -- a load of word 0 by a subscriber that has read cells, and takes the first of the values that the buffer still has
  pub confirming : (slots id : ℕ) (me : Me Unit V) (chosen : List (List ℕ) → List (List ℕ)) → ((l : List (List ℕ)) → (rest : List (List ℕ)) × (l ≡ chosen l ++ rest)) → (x : Reads) → me.0 ≡ only me.0 ∷ [] → (only me.0).reads ≡ Some x
      → IsAt (only me.0).start (only me.0).knows x.number x.position → AreFound packs value_of (capacity_of (only me.0).start) (log_after (only me.0).start (only me.0).knows.seen) x.position x.words
      → Allows Rule slots id me 0 (λ n. n) (confirms packs value_of chosen (step slots 0 0 0 none) me)
  confirming slots id me chosen first x is has old known s r n at small = (
    all.last,
    keeps,
    tt,
    loaded T packs value_of start s 0 _ all.rule,
    λ x2 has2. subst (λ (z : Reads). Receives packs value_of z.number z.position (found / 2) (chosen (still_kept (capacity_of (only me.0).start) (found / 2) z.position z.words)) me (all.last, me.1)) (same_some x x2 (sym has ∙ has2)) (record {
      between = (k ∷ [], me.1);
      sees = (sees_all T packs value_of start s r id v me.1 (failed_by ws) None (Some (reading x.number q [])) is at).1;
      gives = all.gives;
      packed = all_packed packs value_of (capacity_of start) (values st) q ws packed;
      start = all.started_so;
      one = ap (λ (l : V). (l, me.1)) all.one;
      hold = all.hold;
      reads = all.reads;
      stands = subst (λ (z : RingStart). IsAt z (only all.last).knows x.number (q + length ws)) (sym (all.started_so ∙ began)) all.stands;
      counted = half ∙ all.counted ∙ ap (λ (z : RingStart). length (log_after z (only all.last).knows.seen)) (sym (all.started_so ∙ began));
    }),
  )
    where
      found : ℕ
      found = get_or s.words 0 0

      v : V
      v = me.0

      st : SharedFlowState T
      st = current r.history

      began : (only v).start ≡ start
      began = started T packs value_of start s r id v is at

      room : capacity_of (only v).start ≡ capacity_of start
      room = ap capacity_of began

      half : found / 2 ≡ length st.emitted
      half = half_of (length st.emitted) found r.owner r.words.word0

      -- where it stands
      q : ℕ
      q = max x.position (found / 2 - capacity_of (only v).start)

      kept : List (List ℕ)
      kept = still_kept (capacity_of (only v).start) (found / 2) x.position x.words

      ws : List (List ℕ)
      ws = chosen kept

      here : IsAt start (saw ((only v).knows.lost + failed_by ws) r.history (only v).knows) x.number x.position
      here = is_now T packs value_of start s r id v ((only v).knows.lost + failed_by ws) x.number x.position is at old

      at_q : IsAt start (saw ((only v).knows.lost + failed_by ws) r.history (only v).knows) x.number q
      at_q = record {
        given = here.given;
        stands = subst (λ (p : ℕ). Stands x.number p (capacity_of start) st) (let e : max x.position (length st.emitted - capacity_of start) ≡ q = omega (arith, half, room) in e)
            (stands_now T start.config (drops start r.starts) r.starts.buffer x.number x.position st here.stands);
      }

      k : RingKnown T
      k = turned_by T packs value_of start ((only v).knows.lost + failed_by ws) (only v) r.history None (Some (reading x.number q []))

      found_q : AreFound packs value_of (capacity_of start) (values st) q kept
      found_q = subst (λ (p : ℕ). AreFound packs value_of (capacity_of start) (values st) p kept) (let e : x.position + (found / 2 - capacity_of (only v).start - x.position) ≡ q = omega arith in e)
          (found_drop packs value_of (capacity_of start) (values st) (found / 2 - capacity_of (only v).start - x.position) x.position x.words (found_now T packs value_of start s r id v x.position x.words is at known))

      in_buffer : length st.emitted ≤ q + capacity_of start
      in_buffer = omega (arith, half, room)

      packed : Pack (values st) q ws
      packed = let count = length_values st in pack_left packs value_of (capacity_of start) (values st) q ws (first kept).0
          (subst (Pack (values st) q) (first kept).1 (kept_packs packs value_of (capacity_of start) (values st) q kept found_q (omega (arith, in_buffer, count))))

      within : q + length ws ≤ length st.emitted
      within = let count = length_values st in let p = here.stands.within in let longer = ap length (first kept).1 ∙ length-append ws (first kept).0 in
          omega (arith, found_within packs value_of (capacity_of start) (values st) q kept found_q (omega (arith, half, count, p)), longer, count)

      all : Given s id (k ∷ []) me.1 x.number q (length st.emitted) ws
      all = sees_and_gives s r id v me.1 x.number q (failed_by ws) ws is at at_q in_buffer within packed
