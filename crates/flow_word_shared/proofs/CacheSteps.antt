-- The steps of `replay_cache` keep the rule of the table: the event comes first, and then the holder reads the cells.
use Rattle.std.proofs.Common.{◌≡◌, ℕ, zero, suc, ◌+◌, ◌-◌, ◌<◌, ◌≤◌, true, ◌&&◌, List, [], ◌∷◌, ◌++◌, drop, length, get_or, set, Option, Some, refl, sym, ap, ◌∙◌, subst, append-nil, append_assoc, length-append, arith, inr}
use Rattle.std.specs.List.{slice_get}
use Rattle.std.proofs.lemmas.List.{get_or-drop, length-drop, take_more, get_or-set_same, get_or-set_other, length-set}
use Rattle.std.proofs.lemmas.Option.{slice_get_within, get_or_from_slice_get}
use Rattle.std.specs.Prelude.{max, take, IsTrue}
use mathlib.Core.Option.{none}
use Rattle.atomic_table.specs.Table.{State, Me, step, keeps, Allows}
use Rattle.flow_law.specs.declared.config.Config.{Config}
use Rattle.flow_law.specs.declared.call.SharedCall.{SharedCall}
use Rattle.flow_law.specs.declared.call.SharedCall.TheVariants as call
use Rattle.flow_law.specs.declared.call.SharedReply.{SharedReply}
use Rattle.flow_law.specs.declared.call.SharedReply.TheVariants as reply
use Rattle.flow_law.specs.declared.fault.FlowFault.TheVariants.{OutOfMemory}
use Rattle.flow_law.specs.declared.states.SharedFlowState.{SharedFlowState}
use Rattle.flow_law.specs.flow.SharedFlow.{values, cache, cache_start, Replied, answer, issuing, is_exhausted, is_offering, entry, position_of, own_of, without}
use Rattle.flow_law.specs.flow.SharedHistory.{History, Replies, hands_out, shared_flow}
use Rattle.flow_law.proofs.Boxes.{length_values}
use Rattle.flow_law.proofs.HistoryLemmas.{after_all-snoc}
use Rattle.flow_word_shared.specs.declared.view.RingKnown.{RingKnown}
use Rattle.flow_word_shared.specs.declared.view.Hold.{Hold}
use Rattle.flow_word_shared.specs.declared.view.RingStart.{RingStart}
use Rattle.flow_word_shared.specs.Rule.{capacity_of, cell_at, words_from, HasValue, IsIfKnown, HoldFits, RingHolds, WordsFit}
use Rattle.flow_word_shared.specs.Steps.{IsBegun, StepCalls, caches, refuses_cache, reads_held, log_after, resets}
use Rattle.flow_word_shared.specs.View.{began_as, only, holding}
use Rattle.flow_word_shared.proofs.Cells.{Once, begun_more, begun_whole, head_kept}
use Rattle.flow_word_shared.proofs.Oldest.{usual_after}
use Rattle.flow_word_shared.proofs.PlaceRule.{drops, places_after_head, places_same, held_none}
use Rattle.flow_word_shared.proofs.Keeps.{reads_at, stay, same_some, now, more_by, event_by, turned, started, hold_at, event_step, still, loaded, no_other, stay_set}
use Rattle.flow_word_shared.proofs.ReadSteps.{log_now}
use Rattle.flow_law.specs.flow.SharedStep.{forget}

no_more : {A : Type 0} (xs : List A) → length xs ≡ 0 → xs ≡ []
no_more [] e = refl
no_more (x ∷ xs) e = absurd (omega (arith, e))

-- one more value of a list, from its position `start` on
pub copied_more : {A : Type 0} (log : List A) (start k : ℕ) (v : A) (old list longer : List A) → start ≤ k → slice_get log k ≡ Some v → list ≡ old ++ take (k - start) (drop start log) → longer ≡ list ++ v ∷ []
    → longer ≡ old ++ take (k + 1 - start) (drop start log)
copied_more log start k v old list longer from here is more =
    let l = length-drop start log in let there = slice_get_within log k v here in
    let at : get_or (drop start log) (k - start) v ≡ v = get_or-drop start log (k - start) v ∙ (ap (λ i. get_or log i v) (let e : start + (k - start) ≡ k = omega (arith, from) in e) ∙ get_or_from_slice_get log k v v here) in
    let next : k - start + 1 ≡ k + 1 - start = omega (arith, from) in
    more ∙ ap (λ xs. xs ++ v ∷ []) is ∙ append_assoc old (take (k - start) (drop start log)) (v ∷ [])
    ∙ ap (λ x. old ++ (take (k - start) (drop start log) ++ x ∷ [])) (sym at)
    ∙ ap (λ xs. old ++ xs) (sym (take_more (drop start log) (k - start) v (omega (arith, l, there, from)))) ∙ ap (λ n. old ++ take n (drop start log)) next

-- a list of which something is left has a value to give out
given_out : {T : Type 0} (n : ℕ) (xs : List T) → n < length xs → IsTrue (hands_out (reply.Cached (drop n xs)) && true)
given_out n [] less = absurd (omega arith)
given_out zero (x ∷ xs) less = refl
given_out (suc n) (x ∷ xs) less = given_out n xs (omega arith)

module _ (T : Type 0) (packs : List ℕ → Type 0) (value_of : List ℕ → T) (start : RingStart) where
  abbrev V : Type 0
  V = List (RingKnown T)

  abbrev St : Type 0
  St = State Unit V

  abbrev Rule : St → Type 0
  Rule = RingHolds packs value_of start

  abbrev current : History T → SharedFlowState T
  current h = now T packs value_of start h

  -- the event of `replay_cache`
  pub caching : (slots id : ℕ) (me : Me Unit V) (h : Hold) (k : ℕ) → me.0 ≡ only me.0 ∷ [] → (only me.0).hold ≡ Some h → h.mark ≡ Some k → Allows Rule slots id me 3 (λ n. n) (caches (step slots 3 0 0 none) me)
  caching slots id me h k is has marked s r n at small = (
    turned T packs value_of start x h' (Some h) x.reads ∷ [],
    keeps,
    tt,
    loaded T packs value_of start s 3 _ done.0,
    λ h2 k2 has2 marked2. let same : h ≡ h2 = same_some h h2 (sym has ∙ has2) in let same_k : k ≡ k2 = same_some k k2 (sym marked ∙ ap (λ (z : Hold). z.mark) same ∙ marked2) in
        subst (λ (z : Hold × ℕ). Tells z.0 z.1) (λ i. (same i, same_k i)) (
          subst (λ l. StepCalls me c (reply.Cached l) (turned T packs value_of start x h' (Some h) x.reads ∷ [], me.1)) cache_is done.1,
          refl,
          refl,
          f.1 ∙ sym (length_values st) ∙ ap length (sym log_is),
        ),
  )
    where
      x : RingKnown T
      x = only me.0

      st : SharedFlowState T
      st = current r.history

      f : HoldFits start st r.owner r.hidden s.words x.knows.name (Some h)
      f = hold_at T packs value_of start s r id me.0 h is at has

      c : SharedCall T
      c = call.ReplayCache

      y : SharedReply T
      y = reply.Cached (cache st)

      h' : History T
      h' = more_by T packs value_of start x r.history c y

      done : Rule record { words = s.words; homes = s.homes; views = set s.views id (turned T packs value_of start x h' (Some h) x.reads ∷ []) }
          × StepCalls me c y (turned T packs value_of start x h' (Some h) x.reads ∷ [], me.1)
      done = event_step T packs value_of start s r id me.0 me.1 c y is at r.owner r.hidden s.words (Some h) x.reads refl tt r.words f (λ z ne g. g) (stay T packs value_of start s r) (reads_at T packs value_of start s r id me.0 is at)

      began : x.start ≡ start
      began = started T packs value_of start s r id me.0 is at

      log_is : log_after x.start h' ≡ values st
      log_is = ap (λ (z : RingStart). log_after z h') began ∙ ap values (after_all-snoc shared_flow (began_as start) r.history (event_by T packs value_of start x r.history c y))

      mark : st.reset_mark ≡ k
      mark = sym (subst (λ o. IsIfKnown o st.reset_mark) marked f.4)

      replay : st.config.replay ≡ x.start.config.replay
      replay = ap (λ (g : Config). g.replay) (usual_after T start.config (drops start r.starts) r.starts.buffer r.history).config_is ∙ ap (λ (z : RingStart). z.config.replay) (sym began)

      cache_is : cache st ≡ drop (max k (h.length - x.start.config.replay)) (log_after x.start h')
      cache_is = λ i. drop (max (mark i) (sym f.1 i - replay i)) (sym log_is i)

      -- what the play says
      Tells : Hold → ℕ → Type 0
      Tells z q =
          StepCalls me call.ReplayCache (reply.Cached (drop (max q (z.length - x.start.config.replay)) (log_after x.start h'))) (turned T packs value_of start x h' (Some h) x.reads ∷ [], me.1)
          × ◌≡◌ {A = Option Hold} (Some h) (Some z) × (x.reads ≡ x.reads) × (z.length ≡ length (log_after x.start h'))

  -- a refused `replay_cache`: the cache has a value
  pub refusing_cache : (slots id : ℕ) (me : Me Unit V) (h : Hold) (k : ℕ) → me.0 ≡ only me.0 ∷ [] → (only me.0).hold ≡ Some h → h.mark ≡ Some k → max k (h.length - start.config.replay) < h.length
      → Allows Rule slots id me 3 (λ n. n) (refuses_cache (step slots 3 0 0 none) me)
  refusing_cache slots id me h k is has marked some_cached s r n at small =
      let x : RingKnown T = only me.0 in let st = current r.history in let f = hold_at T packs value_of start s r id me.0 h is at has in
      let c : SharedCall T = call.ReplayCache in let y : SharedReply T = reply.Refused OutOfMemory in
      let mark : k ≡ st.reset_mark = subst (λ o. IsIfKnown o st.reset_mark) marked f.4 in
      let replay : st.config.replay ≡ start.config.replay = ap (λ (g : Config). g.replay) (usual_after T start.config (drops start r.starts) r.starts.buffer r.history).config_is in
      let replies : Replies st c y = given_out (cache_start st) (values st) (omega (arith, some_cached, mark, replay, f.1, length_values st)) in
      let done = event_step T packs value_of start s r id me.0 me.1 c y is at r.owner r.hidden s.words (Some h) x.reads replies tt r.words f (λ z ne g. g) (stay T packs value_of start s r) (reads_at T packs value_of start s r id me.0 is at) in (
        turned T packs value_of start x (more_by T packs value_of start x r.history c y) (Some h) x.reads ∷ [],
        keeps,
        tt,
        loaded T packs value_of start s 3 _ done.0,
        λ h2 has2. (done.1, ap (λ (z : Hold). Some z) (same_some h h2 (sym has ∙ has2)), refl),
      )

  -- a load of a cell of the buffer by the holder
  pub reading_held : Once packs value_of → (slots id : ℕ) (me : Me Unit V) (h : Hold) (i : ℕ) → me.0 ≡ only me.0 ∷ [] → (only me.0).hold ≡ Some h → Allows Rule slots id me i (λ n. n) (reads_held packs value_of (step slots i 0 0 none) me)
  reading_held once slots id me h i is has s r n at small =
      let found : ℕ = get_or s.words i 0 in let x : RingKnown T = only me.0 in let st = current r.history in let f = hold_at T packs value_of start s r id me.0 h is at has in
      let began = started T packs value_of start s r id me.0 is at in let grown = log_now T packs value_of start s r id me.0 is at in (
        me.0,
        keeps,
        tt,
        still T packs value_of start s r i id me.0 at,
        λ h2 k part has2 place less_part all less kept begun.
            let len : h2.length ≡ h.length = ap (λ (z : Hold). z.length) (sym (same_some h h2 (sym has ∙ has2))) in
            let room : capacity_of x.start ≡ capacity_of start = ap capacity_of began in
            let width : x.start.width ≡ start.width = ap (λ (z : RingStart). z.width) began in
            let longer : length (values st) ≡ length (log_after x.start x.knows.seen) + length grown.0 = ap length grown.1 ∙ length-append _ grown.0 in
            let none_more : grown.0 ≡ [] = no_more grown.0 (omega (arith, longer, all, len, f.1, length_values st)) in
            let same : values st ≡ log_after x.start x.knows.seen = grown.1 ∙ ap (λ l. log_after x.start x.knows.seen ++ l) none_more ∙ append-nil _ in
            let here : i ≡ cell_at start k + length part = place ∙ ap (λ (z : RingStart). cell_at z k + length part) began in
            let log = log_after x.start x.knows.seen in
            let value : HasValue packs value_of log k (words_from start.width s.words (cell_at start k)) =
            subst (λ (l : List T). HasValue packs value_of l k (words_from start.width s.words (cell_at start k))) same (r.words.cells k (omega (arith, less, len, f.1)) (omega (arith, kept, len, f.1, room))) in
            let next : IsBegun packs value_of log k (part ++ found ∷ []) =
            subst (λ j. IsBegun packs value_of log k (part ++ get_or s.words j 0 ∷ [])) (sym here) (begun_more packs value_of log k start.width s.words (cell_at start k) once value part (omega (arith, less_part, width)) begun) in
            (refl, next, λ whole. begun_whole packs value_of log k start.width s.words (cell_at start k) value (part ++ found ∷ []) (length-append part (found ∷ []) ∙ whole ∙ width) next),
      )

  -- a store of the reset mark by the holder
  pub resetting : (slots id : ℕ) (me : Me Unit V) (h : Hold) (new : ℕ) → me.0 ≡ only me.0 ∷ [] → (only me.0).hold ≡ Some h → h.ahead ≡ 0 → new ≡ h.length
      → Allows Rule slots id me 3 (λ _. new) (λ _. resets (step slots 3 new 0 none) me new)
  resetting slots id me h new is has none_ahead at_end s r n at small =
      let x : RingKnown T = only me.0 in let st = current r.history in let f = hold_at T packs value_of start s r id me.0 h is at has in let name : List ℕ = x.knows.name in
      let c : SharedCall T = call.ResetReplayCache in let y : SharedReply T = reply.Reset in let w = r.words in let count = w.count in
      let fit : WordsFit packs value_of start (forget st) r.owner r.hidden (set s.words 3 new) = record {
        count = length-set s.words 3 new ∙ w.count;
        word0 = get_or-set_other s.words 3 0 new 0 (λ e. absurd (omega arith)) ∙ w.word0;
        few = w.few;
        made = subst (λ m. m + length st.emitted ≡ st.issued + r.hidden.ahead) (sym (get_or-set_other s.words 3 1 new 0 (λ e. absurd (omega arith)))) w.made;
        live = get_or-set_other s.words 3 2 new 0 (λ e. absurd (omega arith)) ∙ w.live;
        mark = get_or-set_same s.words 3 new 0 (omega arith) ∙ at_end ∙ f.1;
        cells = λ j a b. subst (HasValue packs value_of (Rattle.flow_law.specs.flow.SharedFlow.values st) j) (sym (head_kept start.width start s.words 3 new j (omega arith))) (w.cells j a b);
        rested = w.rested;
        places = places_same start st (forget st) r.hidden.owners s.words (set s.words 3 new) (places_after_head start s.words 3 new (omega arith)) refl (omega arith) (λ u. refl) w.places;
      } in
      let done = event_step T packs value_of start s r id me.0 me.1 c y is at r.owner r.hidden (set s.words 3 new) (Some (holding h.length)) x.reads refl tt fit
      (f.0, f.1, sym none_ahead ∙ f.2, tt, tt, refl, held_none start r.hidden.owners (set s.words 3 new) name (holding h.length) refl refl refl refl)
      (λ z ne g. no_other start st (forget st) r.owner r.owner r.hidden r.hidden s.words (set s.words 3 new) name z.knows.name z.hold ne (inr f.0) g)
      (stay_set T packs value_of start s r 3 new (omega arith)) (reads_at T packs value_of start s r id me.0 is at) in (
        turned T packs value_of start x (more_by T packs value_of start x r.history c y) (Some (holding h.length)) x.reads ∷ [],
        keeps,
        tt,
        done.0,
        (done.1, λ h2 has2. ap (λ (z : Hold). Some (holding z.length)) (same_some h h2 (sym has ∙ has2))),
      )
