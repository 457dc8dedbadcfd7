-- What a flow has that was closed. Begin with `ends`.
use Rattle.std.proofs.Common.{◌≡◌, ℕ, zero, suc, ◌+◌, ◌-◌, ◌*◌, ◌/◌, ◌%◌, ◌<◌, ◌≤◌, List, [], ◌∷◌, ◌++◌, drop, length, get_or, Option, Some, None, refl, sym, ap, ◌∙◌, subst, append_assoc, arith}
use Rattle.std.specs.List.{slice_get}
use Rattle.std.specs.Prelude.{max, take}
use Rattle.std.proofs.lemmas.List.{drop_all, take_more}
use Rattle.std.proofs.lemmas.Option.{slice_get_within, get_or_from_slice_get}
use mathlib.Core.Option.{some, some-injective, some-ne-none}
use lib.ListN.{get_elem?}
use Rattle.atomic_table.specs.Table.{Final, Seen}
use Rattle.flow_law.specs.declared.config.Config.{Config}
use Rattle.flow_law.specs.declared.states.SharedFlowState.{SharedFlowState}
use Rattle.flow_law.specs.history.Growth.{Fits}
use Rattle.flow_law.specs.flow.SharedFlow.{values, cache_start}
use Rattle.flow_law.specs.flow.SharedHistory.{History, shared_flow, shared_after_all}
use Rattle.flow_law.specs.flow.Standing.{StandsForHistory}
use Rattle.flow_law.proofs.Boxes.{length_values}
use Rattle.flow_law.proofs.MailboxSteps.{drop_here}
use Rattle.flow_word_shared.specs.declared.view.RingKnown.{RingKnown}
use Rattle.flow_word_shared.specs.declared.view.RingStart.{RingStart}
use Rattle.flow_word_shared.specs.Closing.{StandsAsClosed, in_cells, closed_flow}
use Rattle.flow_word_shared.specs.Rule.{head, cell_at, words_from, bit, HasValue, RingHolds}
use Rattle.flow_word_shared.specs.View.{SharedKnowledge, began_as, only}
use Rattle.flow_word_shared.proofs.PlaceRule.{drops}
use Rattle.flow_word_shared.proofs.Keeps.{fits_at}
use Rattle.flow_word_shared.proofs.Oldest.{Usual, usual_after}

-- the word of a place that a list has
pub word_at : (ws : List ℕ) (i n : ℕ) → get_elem? ws i ≡ some n → get_or ws i 0 ≡ n
word_at [] i n e = absurd (some-ne-none n (sym e))
word_at (x ∷ xs) zero n e = some-injective x n e
word_at (x ∷ xs) (suc i) n e = word_at xs i n e

-- word 0 says how many values were emitted
halved : (n word : ℕ) (owner : Option (List ℕ)) → word ≡ n * 2 + bit owner → word / 2 ≡ n
halved n word None e = omega (arith, e)
halved n word (Some name) e = omega (arith, e)

-- the values of some cells, one by one
pub length_cells : {T : Type 0} (value_of : List ℕ → T) (width room : ℕ) (words : List ℕ) (count position : ℕ) → length (in_cells value_of width room words count position) ≡ count
length_cells value_of width room words zero position = refl
length_cells value_of width room words (suc count) position = ap suc (length_cells value_of width room words count (position + 1))

pub cell_is : {T : Type 0} (value_of : List ℕ → T) (width room : ℕ) (words : List ℕ) (count position i : ℕ) → i < count
    → slice_get (in_cells value_of width room words count position) i ≡ Some (value_of (words_from width words (head + (position + i) % room * width)))
cell_is value_of width room words zero position i less = absurd (omega arith)
cell_is value_of width room words (suc count) position zero less = ap (λ p. Some (value_of (words_from width words (head + p % room * width)))) (let e : position ≡ position + 0 = omega arith in e)
cell_is value_of width room words (suc count) position (suc i) less =
    cell_is value_of width room words count (position + 1) i (omega arith) ∙ ap (λ p. Some (value_of (words_from width words (head + p % room * width)))) (let e : position + 1 + i ≡ position + suc i = omega arith in e)

-- one more value of a list, behind another one
pub taken_more : {A : Type 0} (xs : List A) (n : ℕ) (v : A) (old list longer : List A) → slice_get xs n ≡ Some v → list ≡ old ++ take n xs → longer ≡ list ++ v ∷ [] → longer ≡ old ++ take (n + 1) xs
taken_more xs n v old list longer here is more =
    more ∙ ap (λ l. l ++ v ∷ []) is ∙ append_assoc old (take n xs) (v ∷ [])
    ∙ ap (λ x. old ++ (take n xs ++ x ∷ [])) (sym (get_or_from_slice_get xs n v v here)) ∙ ap (λ l. old ++ l) (sym (take_more xs n v (slice_get_within xs n v here)))

module _ (T : Type 0) (packs : List ℕ → Type 0) (value_of : List ℕ → T) (start : RingStart) where
  abbrev V : Type 0
  V = List (RingKnown T)

  -- the cells of the last positions have the last values
  cells_are : (words : List ℕ) (log : List T) (count k : ℕ) → k + count ≡ length log
      → ((j : ℕ) → k ≤ j → j < length log → HasValue packs value_of log j (words_from start.width words (cell_at start j))) → in_cells value_of start.width start.room words count k ≡ drop k log
  cells_are words log zero k sum has = sym (drop_all k log (omega (arith, sum)))
  cells_are words log (suc count) k sum has =
      ap (λ l. value_of (words_from start.width words (cell_at start k)) ∷ l) (cells_are words log count (k + 1) (omega (arith, sum)) (λ j from less. has j (omega (arith, from)) less))
      ∙ sym (drop_here k log (value_of (words_from start.width words (cell_at start k))) (has k (omega arith) (omega (arith, sum))).1)

  -- a flow that was closed
  pub record Ended (k : SharedKnowledge T) (words : List ℕ) (emitted subscribers first : ℕ) : Type 0 where
    pub history : History T
    pub stands : StandsForHistory shared_flow StandsAsClosed (began_as start) (closed_flow value_of start.width start.room words emitted subscribers first) history
    pub fits : Fits history k
    pub within : first ≤ emitted
    pub packed : (j : ℕ) → first ≤ j → j < emitted → packs (words_from start.width words (cell_at start j))

  pub ends : (id : ℕ) (v : V) (ws : List ℕ) (xs : List Unit) → v ≡ only v ∷ [] → Final (Seen (RingHolds packs value_of start) id v) ws xs
      → (word subscribers mark emitted first : ℕ) → get_elem? ws 0 ≡ some word → get_elem? ws 2 ≡ some subscribers → get_elem? ws 3 ≡ some mark
      → emitted ≡ word / 2 → first ≡ max mark (emitted - start.config.replay) → Ended (only v).knows ws emitted subscribers first
  ends id v ws xs is f word subscribers mark emitted first at0 at2 at3 half from = record {
    history = r.history;
    stands = (
      r.is_history,
      record {
        emitted = count;
        subscribers = sym live ∙ r.words.live;
        replay_cache = cells_are ws (values st) (emitted - first) first (omega (arith, within, count, length_values st)) has ∙ ap (λ k. drop k (values st)) from_is;
      },
    );
    fits = fits_at T packs value_of start f.0 r id v is f.1.1;
    within = within;
    packed = λ j a b. (has j a (omega (arith, b, count, length_values st))).0;
  }
    where
      r : RingHolds packs value_of start f.0
      r = f.1.0

      st : SharedFlowState T
      st = shared_after_all (began_as start) r.history

      same : f.0.words ≡ ws
      same = f.2

      word0 : word ≡ length st.emitted * 2 + bit r.owner
      word0 = sym (ap (λ l. get_or l 0 0) same ∙ word_at ws 0 word at0) ∙ r.words.word0

      live : get_or f.0.words 2 0 ≡ subscribers
      live = ap (λ l. get_or l 2 0) same ∙ word_at ws 2 subscribers at2

      mark_is : mark ≡ st.reset_mark
      mark_is = sym (ap (λ l. get_or l 3 0) same ∙ word_at ws 3 mark at3) ∙ r.words.mark

      count : emitted ≡ length st.emitted
      count = half ∙ halved (length st.emitted) word r.owner word0

      usual : Usual T start.config (drops start r.starts) r.starts.buffer st
      usual = usual_after T start.config (drops start r.starts) r.starts.buffer r.history

      replay : start.config.replay ≡ st.config.replay
      replay = ap (λ (g : Config). g.replay) (sym usual.config_is)

      from_is : first ≡ cache_start st
      from_is = from ∙ (λ i. max (mark_is i) (count i - replay i))

      within : first ≤ emitted
      within = omega (arith, from, count, mark_is, usual.sound.placed.reset_mark)

      has : (j : ℕ) → first ≤ j → j < length (values st) → HasValue packs value_of (values st) j (words_from start.width ws (cell_at start j))
      has j a b = subst (λ l. HasValue packs value_of (values st) j (words_from start.width l (cell_at start j))) same
          (r.words.cells j (omega (arith, b, length_values st)) (omega (arith, a, from, count)))
