-- A subscriber that reads the cells of one value. Begin with `reads_none`, then `reads_more` at each cell but the last, and `reads_whole`.
use Rattle.std.proofs.Common.{◌≡◌, ℕ, ◌+◌, ◌*◌, ◌≤◌, List, [], ◌∷◌, ◌++◌, length, Some, None, refl, sym, ap, ◌∙◌, subst, append-nil, append_assoc, length-append, arith}
use mathlib.Core.Option.{none}
use Rattle.atomic_table.specs.Table.{step}
use Rattle.atomic_table.specs.declared.shared.Seat.{Seat}
use Rattle.flow_word_shared.specs.declared.view.RingKnown.{RingKnown}
use Rattle.flow_word_shared.specs.declared.view.RingStart.{RingStart}
use Rattle.flow_word_shared.specs.Rule.{capacity_of}
use Rattle.flow_word_shared.specs.Steps.{IsAt, AreFound, IsFoundPart, log_after, values_of, reads_part, reads_cell}
use Rattle.flow_word_shared.specs.Tokens.{IsHolding, post_of_reads, post_of, IsReading, ring_token}
use Rattle.flow_word_shared.specs.View.{only, reading_part}
use Rattle.flow_word_shared.proofs.Cells.{begun_none, values_more}
use Rattle.flow_word_shared.proofs.Chains.{sees_none}
use Rattle.flow_word_shared.proofs.Told.{reads_as, Saw, told_sees, saw_saw, still_one, still_emitted}

module _ {T : Type 0} (packs : List ℕ → Type 0) (value_of : List ℕ → T) (start : RingStart) (number position seen : ℕ) (words : List (List ℕ)) (old : List ℕ) (s : Seat Unit (List (RingKnown T))) where
  abbrev pub Found : Seat Unit (List (RingKnown T)) → List (List ℕ) → Type 0
  Found t ws = AreFound packs value_of (capacity_of start) (log_after start (only t.me.0).knows.seen) position ws

  -- the subscriber has read this many cells of the value after those of `words`
  pub record ReadsPart (place : ℕ) (list : List ℕ) (t : Seat Unit (List (RingKnown T))) : Type 0 where
    pub part : List ℕ
    pub appended : list ≡ old ++ part
    pub count : length part ≡ place
    pub one : IsHolding None t
    pub reads : (only t.me.0).reads ≡ Some (reading_part (post_of s) number position words part)
    pub at : IsAt (only t.me.0).start (only t.me.0).knows number position
    pub emitted : seen ≤ length (log_after (only t.me.0).start (only t.me.0).knows.seen)
    pub found : Found t words
    pub begun : IsFoundPart packs value_of (capacity_of start) (log_after start (only t.me.0).knows.seen) (position + length words) part
    pub sees : Saw 0 (ring_token s) (ring_token t)

  pub reads_none : IsReading s number position words seen → Found s words → ReadsPart 0 old s
  reads_none r f = record {
    part = [];
    appended = sym (append-nil old);
    count = refl;
    one = r.0;
    reads = r.1;
    at = r.2;
    emitted = r.3;
    found = f;
    begun = λ _. begun_none packs value_of (log_after start (only s.me.0).knows.seen) (position + length words);
    sees = (refl, sees_none (only s.me.0).knows);
  }

  module _ (begins : (only s.me.0).start ≡ start) (place : ℕ) (list longer : List ℕ) (t u : Seat Unit (List (RingKnown T))) (word : ℕ) (r : ReadsPart place list t) (table : u.table_id ≡ t.table_id) (more : longer ≡ list ++ word ∷ []) where
    pub starts : (only t.me.0).start ≡ start
    starts = ap (λ z. z.start) r.sees.0 ∙ begins

    longer_is : longer ≡ old ++ (r.part ++ word ∷ [])
    longer_is = more ∙ ap (λ l. l ++ word ∷ []) r.appended ∙ append_assoc old r.part (word ∷ [])

    pub reads_more : reads_part packs value_of (step 0 0 0 0 none) t.me word u.me → ReadsPart (place + 1) longer u
    reads_more says = let told = says (reading_part (post_of s) number position words r.part) r.reads in let same = told.0.1 ∙ starts in record {
      part = r.part ++ word ∷ [];
      appended = longer_is;
      count = length-append r.part (word ∷ []) ∙ ap (λ k. k + 1) r.count;
      one = (still_one t.me u.me r.one.0 told.0.2, told.1);
      reads = told.2;
      at = told.3;
      emitted = still_emitted 0 t.me u.me seen told.0 r.emitted;
      found = subst (λ (z : RingStart). AreFound packs value_of (capacity_of z) (log_after z (only u.me.0).knows.seen) position words) same told.4;
      begun = subst (λ (z : RingStart). IsFoundPart packs value_of (capacity_of z) (log_after z (only u.me.0).knows.seen) (position + length words) (r.part ++ word ∷ [])) same told.5;
      sees = saw_saw (ring_token s) (ring_token t) (ring_token u) r.sees (told_sees 0 t u table told.0);
    }

    -- after the last cell
    pub reads_whole : (width ahead : ℕ) → words ≡ values_of width ahead old → length old ≡ ahead * width → place + 1 ≡ width → reads_cell packs value_of (step 0 0 0 0 none) t.me word u.me
        → (length longer ≡ (ahead + 1) * width) × IsReading u number position (values_of width (ahead + 1) longer) seen × Found u (values_of width (ahead + 1) longer) × Saw 0 (ring_token s) (ring_token u) × (post_of u ≡ post_of s)
    reads_whole width ahead words_are all last says =
        let told = says (reading_part (post_of s) number position words r.part) r.reads in let same = told.0.1 ∙ starts in let whole = r.part ++ word ∷ [] in
        let count : length whole ≡ width = length-append r.part (word ∷ []) ∙ ap (λ k. k + 1) r.count ∙ last in
        let values : words ++ whole ∷ [] ≡ values_of width (ahead + 1) longer = ap (λ l. l ++ whole ∷ []) words_are ∙ sym (values_more width ahead old whole all count) ∙ ap (values_of width (ahead + 1)) (sym longer_is) in (
          ap length longer_is ∙ length-append old whole ∙ (let e : length old + length whole ≡ (ahead + 1) * width = omega (arith, all, count) in e),
          subst (λ l. IsReading u number position l seen) values ((still_one t.me u.me r.one.0 told.0.2, told.1), reads_as (only u.me.0).reads (post_of s) number position (words ++ whole ∷ []) told.2, told.3, still_emitted 0 t.me u.me seen told.0 r.emitted),
          subst (λ l. Found u l) values (subst (λ (z : RingStart). AreFound packs value_of (capacity_of z) (log_after z (only u.me.0).knows.seen) position (words ++ whole ∷ [])) same told.4),
          saw_saw (ring_token s) (ring_token t) (ring_token u) r.sees (told_sees 0 t u table told.0),
          ap post_of_reads told.2,
        )
