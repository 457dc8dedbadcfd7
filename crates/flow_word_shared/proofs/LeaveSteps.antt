-- The ends of subscriptions, and counting them, keep the rule of the table. Begin with `leaving`.
use Rattle.std.proofs.Common.{◌≡◌, ◌⊎◌, ⊎_elim, ◌*◌, ℕ, Bool, true, false, not, ◌==◌, ne_eqb, cond, suc, ◌+◌, ◌-◌, ◌%◌, ◌^◌, ◌≤◌, List, [], ◌∷◌, length, get_or, set, Option, Some, None, refl, sym, ap, ◌∙◌, subst, inl, inr, arith}
use Rattle.std.specs.Prelude.{max, is_some, IsSome}
use Rattle.std.proofs.lemmas.Bool.{cases_lt}
use Rattle.std.proofs.lemmas.Bool.Decides.{Decides-eqb}
use Rattle.std.proofs.lemmas.List.{get_or-set_same, get_or-set_other, length-set, length-map}
use mathlib.Core.Option.{none, some}
use lib.ListN.{get_elem?}
use Rattle.atomic_table.specs.Table.{State, Me, step, keeps, Allows}
use Rattle.flow_law.specs.declared.config.Config.{Config}
use Rattle.flow_law.specs.declared.call.SharedCall.{SharedCall}
use Rattle.flow_law.specs.declared.call.SharedCall.TheVariants as call
use Rattle.flow_law.specs.declared.call.SharedReply.{SharedReply}
use Rattle.flow_law.specs.declared.call.SharedReply.TheVariants as reply
use Rattle.flow_law.specs.declared.states.SharedFlowState.{SharedFlowState}
use Rattle.flow_law.specs.declared.states.Subscriber.{Subscriber}
use Rattle.flow_law.specs.laws.Laws.{RisesTo}
use Rattle.flow_law.specs.flow.SharedFlow.{Replied, answer, issuing, is_exhausted, is_offering, cache_start, entry, position_of, own_of, without}
use Rattle.flow_law.specs.flow.SharedStep.{leave}
use Rattle.flow_law.specs.flow.SharedHistory.{History, Replies, after, shared_after_all, shared_flow}
use Rattle.flow_law.proofs.HistoryLemmas.{after_all-snoc}
use Rattle.flow_law.proofs.RowOrder.{numbers_of, always_in_order}
use Rattle.flow_law.proofs.Rows.{split, absent, position-without}
use Rattle.flow_word_shared.specs.declared.view.RingKnown.{RingKnown}
use Rattle.flow_word_shared.specs.declared.view.Post.{Post}
use Rattle.flow_word_shared.specs.declared.view.Hold.{Hold}
use Rattle.flow_word_shared.specs.declared.view.Reads.{Reads}
use Rattle.flow_word_shared.specs.declared.view.RingStart.{RingStart}
use Rattle.flow_word_shared.specs.Rule.{capacity_of, place_at, HasValue, IsOwned, PlacesFit, WordsFit, HoldFits, one_if, PostFits, RingHolds}
use Rattle.flow_word_shared.specs.Steps.{IsAt, IsGone, StepCalls, counts_live, leaves}
use Rattle.flow_word_shared.specs.View.{began_as, only}
use Rattle.flow_word_shared.proofs.PlaceRule.{drops, places_after_head, places_without, no_places}
use Rattle.flow_word_shared.proofs.Oldest.{usual_after, no_queue, settle_still}
use Rattle.flow_word_shared.proofs.Cells.{head_kept}
use Rattle.flow_word_shared.proofs.Keeps.{same_some, same_hold, now, more_by, event_by, turned, started, reads_at, post_at, stay, stay_set, event_step, loaded}
use Rattle.flow_word_shared.proofs.ReadSteps.{is_now}

-- ---- rows

-- numbers that rise are no more than the last one may be
rises_few : (b top : ℕ) (ns : List ℕ) → RisesTo b ns top → b + length ns ≤ top
rises_few b top [] h = omega (arith, h)
rises_few b top (n ∷ ns) h = omega (arith, h.0, rises_few n top ns h.1)

module _ {T : Type 0} where
  kept_all : (n b top : ℕ) (us : List (Subscriber T)) → RisesTo b (numbers_of us) top → n ≤ b → length (without n us) ≡ length us
  kept_all n b top [] h l = refl
  kept_all n b top (u ∷ us) h l = let other : (u.number == n) ≡ false = ne_eqb u.number n (λ e. absurd (omega (arith, e, l, h.0))) in
      ap (λ t. length (cond (not t) (u ∷ without n us) (without n us))) other ∙ ap suc (kept_all n u.number top us h.1 (omega (arith, l, h.0)))

  pub one_fewer : (n b top : ℕ) (us : List (Subscriber T)) → RisesTo b (numbers_of us) top → IsSome (position_of n us) → suc (length (without n us)) ≡ length us
  one_fewer n b top [] h there = absurd (cc)
  one_fewer n b top (u ∷ us) h there = split (u.number == n)
      (λ t. (u.number == n) ≡ t → IsSome (cond t (Some u.position) (position_of n us)) → suc (length (cond (not t) (u ∷ without n us) (without n us))) ≡ suc (length us))
      (λ _ e _. ap suc (kept_all n u.number top us h.1 (omega (arith, (Decides-eqb u.number n).0 e))))
      (λ _ _ q. ap suc (one_fewer n u.number top us h.1 q)) refl there

  pub live_few : (config : Config) (h : History T) → length (shared_after_all (Rattle.flow_law.specs.flow.SharedFlow.first_state config) h).subscribers ≤ (shared_after_all (Rattle.flow_law.specs.flow.SharedFlow.first_state config) h).issued
  live_few config h = let st = shared_after_all (Rattle.flow_law.specs.flow.SharedFlow.first_state config) h in
      omega (arith, rises_few 0 st.issued (numbers_of st.subscribers) (always_in_order config h), length-map st.subscribers (λ (u : Subscriber T). u.number))

module _ (T : Type 0) (packs : List ℕ → Type 0) (value_of : List ℕ → T) (start : RingStart) where
  abbrev V : Type 0
  V = List (RingKnown T)

  abbrev St : Type 0
  St = State Unit V

  abbrev Rule : St → Type 0
  Rule = RingHolds packs value_of start

  abbrev current : History T → SharedFlowState T
  current h = now T packs value_of start h

  -- ---- counting

  pub counting_live : (slots id : ℕ) (me : Me Unit V) → me.0 ≡ only me.0 ∷ [] → (only me.0).hold ≡ None → Allows Rule slots id me 2 (λ n. n) (counts_live (step slots 2 0 0 none) me)
  counting_live slots id me is idle s r n at small =
      let found : ℕ = get_or s.words 2 0 in let x : RingKnown T = only me.0 in let c : SharedCall T = call.SubscriptionCount in let y : SharedReply T = reply.Counted found in
      let replies : Replies (current r.history) c y = ap (λ (k : ℕ). reply.Counted k) r.words.live in
      let done = event_step T packs value_of start s r id me.0 me.1 c y is at r.owner r.hidden s.words None x.reads replies tt r.words tt (λ z ne g. g) (stay T packs value_of start s r) (reads_at T packs value_of start s r id me.0 is at) in
      (turned T packs value_of start x (more_by T packs value_of start x r.history c y) None x.reads ∷ [], keeps, tt, loaded T packs value_of start s 2 _ done.0, (done.1, refl))

  -- ---- leaving

  -- the flow has no places, or the subscriber's place says that it leaves
  abbrev pub MayLeave : Reads → Type 0
  MayLeave x = (start.places ≡ 0) ⊎ ((post : Post) × (x.post ≡ Some post) × (post.moves ≡ true))

  -- the places after the subscriber has left
  left_places : (s : St) (r : Rule s) (id : ℕ) (v : V) (x : Reads) (new : ℕ) → v ≡ only v ∷ [] → get_elem? s.views id ≡ some v → (only v).reads ≡ Some x → MayLeave x
      → PlacesFit start (record (leave x.number (current r.history)) { queue = [] }) r.hidden.owners (set s.words 2 new)
  left_places s r id v x new is at has may = ⊎_elim
      (λ none. no_places start (record (leave x.number (current r.history)) { queue = [] }) r.hidden.owners (set s.words 2 new) none r.words.places.owned)
      (λ posted. let mine = subst (PostFits start r.hidden.owners s.words (only v).knows.name x.number x.position) posted.1 (post_at T packs value_of start s r id v x is at has) in
      places_without start (current r.history) x.number posted.0.place r.hidden.owners s.words (set s.words 2 new) (places_after_head start s.words 2 new (omega arith)) mine.0
      (subst (IsOwned x.number) (sym mine.1) refl) (let e : get_or s.words (place_at start posted.0.place) 0 ≡ 2 * x.position + 2 + 1 = mine.2 ∙ ap (λ b. 2 * x.position + 2 + one_if b) posted.2 in omega (arith, e)) r.words.places) may

  one_less : (n a b : ℕ) → n ≡ a → suc b ≡ a → a ≤ 2 ^ 63 → (n + (2 ^ 64 - 1)) % 2 ^ 64 ≡ b
  one_less n a b is less small = omega arith

  pub leaving : (slots id : ℕ) (me : Me Unit V) (x : Reads) → me.0 ≡ only me.0 ∷ [] → (only me.0).reads ≡ Some x → IsAt (only me.0).start (only me.0).knows x.number x.position → MayLeave x
      → Allows Rule slots id me 2 (λ n. (n + (2 ^ 64 - 1)) % 2 ^ 64) (leaves (step slots 2 1 0 none) me)
  leaving slots id me x is has old may s r n at small =
      let v : V = me.0 in let st = current r.history in let here = is_now T packs value_of start s r id v (only v).knows.lost x.number x.position is at old in let u : ℕ = x.number in
      let c : SharedCall T = call.Unsubscribe u in let y : SharedReply T = reply.Tested true in let usual = usual_after T start.config (drops start r.starts) r.starts.buffer r.history in
      let there : IsSome (position_of u st.subscribers) = ap is_some here.stands.place in
      let replies : Replies st c y = ap (λ (b : Bool). reply.Tested b) (sym there) in
      let then_is : after st c y ≡ record (leave u st) { queue = [] } = settle_still T start.config (drops start r.starts) r.starts.buffer (leave u st) (no_queue T start.config (drops start r.starts) r.starts.buffer st usual) in
      let few = live_few {T = T} start.config r.history in let most = r.words.few in let limit = r.starts.limit in
      let fewer : suc (length (without u st.subscribers)) ≡ length st.subscribers = one_fewer u 0 st.issued st.subscribers (always_in_order start.config r.history) there in
      let new : ℕ = (get_or s.words 2 0 + (2 ^ 64 - 1)) % 2 ^ 64 in let now_is : new ≡ length (without u st.subscribers) = one_less (get_or s.words 2 0) (length st.subscribers) (length (without u st.subscribers)) r.words.live fewer (omega arith) in
      let w = r.words in let count = w.count in
      let fit : WordsFit packs value_of start (record (leave u st) { queue = [] }) r.owner r.hidden (set s.words 2 new) = record {
        count = length-set s.words 2 new ∙ w.count;
        word0 = get_or-set_other s.words 2 0 new 0 (λ e. absurd (omega arith)) ∙ w.word0;
        few = w.few;
        made = subst (λ m. m + length st.emitted ≡ st.issued + r.hidden.ahead) (sym (get_or-set_other s.words 2 1 new 0 (λ e. absurd (omega arith)))) w.made;
        live = get_or-set_same s.words 2 new 0 (omega arith) ∙ now_is;
        mark = get_or-set_other s.words 2 3 new 0 (λ e. absurd (omega arith)) ∙ w.mark;
        cells = λ k a b. subst (HasValue packs value_of (Rattle.flow_law.specs.flow.SharedFlow.values st) k) (sym (head_kept start.width start s.words 2 new k (omega arith))) (w.cells k a b);
        rested = w.rested;
        places = left_places s r id v x new is at has may;
      } in
      let issued : u ≤ st.issued = elim (cases_lt st.issued u) as (λ _. u ≤ st.issued) [
        | inl less ↦ let no : None ≡ Some (max x.position (length st.emitted - capacity_of start)) = sym (absent st.issued u st.subscribers usual.sound.placed.issued less) ∙ here.stands.place in absurd (cc)
        | inr most ↦ most
      ] in
      let gone : IsGone u (current (more_by T packs value_of start (only v) r.history c y)) =
      subst (IsGone u) (sym (after_all-snoc shared_flow (began_as start) r.history (event_by T packs value_of start (only v) r.history c y) ∙ then_is)) (position-without u st.subscribers, issued) in
      let done = event_step T packs value_of start s r id me.0 me.1 c y is at r.owner r.hidden (set s.words 2 new) None (Some x) replies here.given
      (subst (λ t. WordsFit packs value_of start t r.owner r.hidden (set s.words 2 new)) (sym then_is) fit) tt
      (λ z ne g. subst (λ t. HoldFits start t r.owner r.hidden (set s.words 2 new) z.knows.name z.hold) (sym then_is)
      (same_hold start st (record (leave u st) { queue = [] }) r.owner r.hidden s.words (set s.words 2 new) z.knows.name z.hold refl refl refl (λ i from. get_or-set_other s.words 2 i new 0 (λ e. absurd (omega (arith, from, e)))) g))
      (stay_set T packs value_of start s r 2 new (omega arith)) (post_at T packs value_of start s r id v x is at has) in (
        turned T packs value_of start (only v) (more_by T packs value_of start (only v) r.history c y) None (Some x) ∷ [],
        keeps,
        tt,
        done.0,
        λ x2 has2. subst (λ (z : Reads). StepCalls me (call.Unsubscribe z.number) y (turned T packs value_of start (only v) (more_by T packs value_of start (only v) r.history c y) None (Some x) ∷ [], me.1) × ◌≡◌ {A = Option Hold} None None
            × ◌≡◌ {A = Option Reads} (Some x) (Some z) × IsGone z.number (shared_after_all (began_as (only v).start) (more_by T packs value_of start (only v) r.history c y))) (same_some x x2 (sym has ∙ has2))
            (done.1, refl, refl, subst (λ (z : RingStart). IsGone u (shared_after_all (began_as z) (more_by T packs value_of start (only v) r.history c y))) (sym (started T packs value_of start s r id v is at)) gone),
      )
