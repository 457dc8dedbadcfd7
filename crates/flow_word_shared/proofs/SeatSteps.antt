-- Steps without an event keep the rule of the table: the start, making a token through another one, and joining two tokens in one view and
-- splitting it again.
use Rattle.std.proofs.Common.{◌≡◌, ℕ, zero, suc, ◌+◌, List, [], ◌∷◌, ◌++◌, map, length, get_or, set, replicate, Option, Some, None, refl, sym, ap, ◌∙◌, subst, inl, ⊎_elim, le_refl, arith}
use Rattle.std.specs.List.{AllByRecursion}
use mathlib.Core.Option.{none, some}
use lib.ListN.{get_elem?}
use lib.Seq.{set-get_or}
use Rattle.atomic_table.specs.Table.{State, Me, step, keeps, Allows, Splits, Joins, opening}
use Rattle.atomic_table.proofs.Lists.{set_again}
use Rattle.flow_law.specs.flow.SharedFlow.{config_fault}
use Rattle.flow_law.specs.flow.SharedHistory.{History, IsSharedHistory}
use Rattle.flow_law.specs.history.Growth.{Fits, makes, child, sees}
use Rattle.flow_law.specs.history.Seats.{SeatAt, SeatsFit}
use Rattle.flow_law.proofs.Names.{grew_refl, makes_fits, child_fits}
use Rattle.flow_law.proofs.SeatLemmas.{changed, made, spent_more, joined, parted, at_only}
use Rattle.flow_word_shared.specs.declared.view.RingKnown.{RingKnown}
use Rattle.flow_word_shared.specs.declared.view.RingStart.{RingStart}
use Rattle.flow_word_shared.specs.View.{only, ring_with_knows, child_seat, first_ring_view, first_of_two, rest_of_two}
use Rattle.flow_word_shared.specs.Rule.{words_in, place_at, IsStart, PlaceOwner, IsOwned, IsFine, RingHolds}
use Rattle.flow_word_shared.specs.Steps.{observes_all, looks_back}
use Rattle.flow_word_shared.proofs.PlaceRule.{reads_unposted}
use Rattle.flow_word_shared.proofs.Keeps.{started, fits_at, reads_at, still}

-- a list of the same
same_there : {A : Type 0} (z : A) (n i : ℕ) → get_or (replicate n z) i z ≡ z
same_there z zero i = refl
same_there z (suc n) zero = refl
same_there z (suc n) (suc i) = same_there z n i

length_same : {A : Type 0} (z : A) (n : ℕ) → length (replicate n z) ≡ n
length_same z zero = refl
length_same z (suc n) = ap suc (length_same z n)

module _ (T : Type 0) (packs : List ℕ → Type 0) (value_of : List ℕ → T) (start : RingStart) where
  abbrev V : Type 0
  V = List (RingKnown T)

  abbrev St : Type 0
  St = State Unit V

  abbrev Rule : St → Type 0
  Rule = RingHolds packs value_of start

  pub opens : (words : List ℕ) → IsStart start → config_fault start.config ≡ None → words ≡ replicate (words_in start) 0 → Rule (opening words [] (first_ring_view start))
  opens words ok good zeros = record {
    starts = ok;
    history = [];
    is_history = record { begins = (refl, good); legal = tt; owned = tt };
    timed = tt;
    owner = None;
    hidden = record { ahead = 0; owners = replicate start.places None };
    words = record {
      count = ap length zeros ∙ length_same {A = ℕ} 0 (words_in start);
      word0 = at 0;
      few = omega arith;
      made = ap (λ n. n + 0) (at 1);
      live = at 2;
      mark = at 3;
      cells = λ k a b. absurd (omega arith);
      rested = λ _. refl;
      places = record {
        owned = length_same {A = Option PlaceOwner} None start.places;
        covers = λ some u p none. let no : None ≡ Some p = none in absurd (cc);
        present = λ i less shown. absurd (shown (at (place_at start i)));
        free = λ i less none. same_there {A = Option PlaceOwner} None start.places i;
        apart = λ i j u a b own. absurd (subst (IsOwned u) (same_there {A = Option PlaceOwner} None start.places i) own);
        issued = λ i u less own. absurd (subst (IsOwned u) (same_there {A = Option PlaceOwner} None start.places i) own);
        each = λ i less. inl (at (place_at start i));
      };
    };
    seats = record {
      fine = λ i a x p. subst (IsFine start [] None (record { ahead = 0; owners = replicate start.places None }) words) (first i a x p).2 ((grew_refl [] [], tt), refl, tt, tt);
      apart = λ i a j b x y p q ne. let m = first i a x p in let n = first j b y q in ⊎_elim (λ d. absurd (d (m.0 ∙ sym n.0))) (λ d. absurd (d (m.1 ∙ sym n.1))) ne;
    };
  }
    where
      at : (i : ℕ) → get_or words i 0 ≡ 0
      at i = ap (λ l. get_or l i 0) zeros ∙ same_there {A = ℕ} 0 (words_in start) i

      first : (i a : ℕ) (x : RingKnown T) → SeatAt (λ (v : V). v) (first_ring_view start ∷ []) i a x → (i ≡ 0) × (a ≡ 0) × (only {T = T} (first_ring_view start) ≡ x)
      first i a x p = let v = at_only (first_ring_view start) p.0 i p.1 in let one = at_only (only {T = T} (first_ring_view start)) x a (subst (λ (l : V). get_elem? l a ≡ some x) (sym v.1) p.2) in (v.0, one.0, one.1)

  -- a token is made through the one of a view, which holds no lock bit
  pub making : (id : ℕ) (v : V) → v ≡ only v ∷ [] → (only v).hold ≡ None → Splits Rule id v (map (ring_with_knows makes) v) (map child_seat v)
  making id v is idle s r at = let x : RingKnown T = only v in let fits = fits_at T packs value_of start s r id v is at in let from = started T packs value_of start s r id v is at in record {
    starts = r.starts;
    history = r.history;
    is_history = r.is_history;
    timed = r.timed;
    owner = r.owner;
    hidden = r.hidden;
    words = r.words;
    seats = made (λ (v : V). v) (λ (x : RingKnown T). x.knows) (IsFine start r.history r.owner r.hidden s.words) s.views id v (map (ring_with_knows makes) v) (map child_seat v) x (ring_with_knows makes x) (child_seat x) is
        (ap (λ (l : V). map (ring_with_knows makes) l) is) (ap (λ (l : V). map child_seat l) is) refl refl (makes_fits x.knows r.history fits, from, tt, reads_at T packs value_of start s r id v is at)
        (child_fits x.knows r.history fits, from, tt, reads_unposted start r.hidden.owners s.words (child x.knows).name x.reads) at r.seats;
  }

  abbrev Seated : (s : St) → Rule s → List V → Type 0
  Seated s r = SeatsFit (λ (v : V). v) (λ (x : RingKnown T). x.knows) (IsFine start r.history r.owner r.hidden s.words)

  -- the views change, and nothing else
  reseated : (s : St) (r : Rule s) (views : List V) → Seated s r views → Rule record { words = s.words; homes = s.homes; views = views }
  reseated s r views seats = record {
    starts = r.starts;
    history = r.history;
    is_history = r.is_history;
    timed = r.timed;
    owner = r.owner;
    hidden = r.hidden;
    words = r.words;
    seats = seats;
  }

  -- a view of no token
  pub blanks : (id : ℕ) (v : V) → Splits Rule id v v []
  blanks id v s r at = subst (λ (z : List V). Rule record { words = s.words; homes = s.homes; views = z ++ [] ∷ [] }) (sym (set_again s.views id v at))
      (reseated s r _ (spent_more (λ (v : V). v) (λ (x : RingKnown T). x.knows) (IsFine start r.history r.owner r.hidden s.words) s.views [] refl r.seats))

  -- two tokens in one view
  pub joins : (id : ℕ) (v : V) (other : ℕ) (w : V) → v ≡ only v ∷ [] → w ≡ only w ∷ [] → Joins Rule id v other w (v ++ w) []
  joins id v other w is_v is_w s r at ne there =
      reseated s r _ (joined (λ (v : V). v) (λ (x : RingKnown T). x.knows) (IsFine start r.history r.owner r.hidden s.words) s.views id other v w (v ++ w) [] (only v) (only w) is_v is_w (λ i. is_v i ++ is_w i) refl at ne there r.seats)

  -- both see the whole history so far
  pub observing : (slots id : ℕ) (me : Me Unit V) (x y : RingKnown T) → me.0 ≡ x ∷ y ∷ [] → Allows Rule slots id me 0 (λ n. n) (observes_all (step slots 0 0 0 none) me)
  observing slots id me x y is s r n at small = (
    map (ring_with_knows (sees h)) me.0,
    keeps,
    tt,
    subst (λ (z : List ℕ). Rule record { words = z; homes = s.homes; views = set s.views id (map (ring_with_knows (sees h)) me.0) }) (sym (set-get_or s.words 0 0))
        (reseated s r _ (changed (λ (v : V). v) (λ (x : RingKnown T). x.knows) (IsFine start h r.owner r.hidden s.words) (ring_with_knows (sees h)) (λ _. refl) (λ z. le_refl z.knows.made) s.views id me.0 (map (ring_with_knows (sees h)) me.0) at refl
        (λ a z p. let f = r.seats.fine id a z (me.0, at, p) in ((grew_refl z.knows.name h, f.0.1), f.1, tt, f.3)) (λ i a z _ p. r.seats.fine i a z p) r.seats.apart)),
    (
      h,
      subst (λ (z : RingStart). IsSharedHistory z.config h) (sym (ap (λ (l : V). (only l).start) is ∙ first.1)) r.is_history,
      r.timed,
      subst (AllByRecursion (λ (z : RingKnown T). Fits h z.knows)) (sym is) (first.0, (second.0, tt)),
      refl,
    ),
  )
    where
      h : History T
      h = r.history

      first : IsFine start r.history r.owner r.hidden s.words x
      first = r.seats.fine id 0 x (me.0, at, subst (λ (l : V). get_elem? l 0 ≡ some x) (sym is) refl)

      second : IsFine start r.history r.owner r.hidden s.words y
      second = r.seats.fine id 1 y (me.0, at, subst (λ (l : V). get_elem? l 1 ≡ some y) (sym is) refl)

  -- a step that changes nothing
  pub looking_back : (slots id : ℕ) (me : Me Unit V) → me.0 ≡ only me.0 ∷ [] → Allows Rule slots id me 0 (λ n. n) (looks_back (step slots 0 0 0 none) me)
  looking_back slots id me is s r n at small = (
    me.0,
    keeps,
    tt,
    still T packs value_of start s r 0 id me.0 at,
    (r.history, subst (λ (z : RingStart). IsSharedHistory z.config r.history) (sym (started T packs value_of start s r id me.0 is at)) r.is_history, r.timed, fits_at T packs value_of start s r id me.0 is at, refl),
  )

  -- two tokens are split again
  pub parts : (id : ℕ) (v : V) (x y : RingKnown T) → v ≡ x ∷ y ∷ [] → Splits Rule id v (first_of_two v) (rest_of_two v)
  parts id v x y is s r at =
      reseated s r _ (parted (λ (v : V). v) (λ (x : RingKnown T). x.knows) (IsFine start r.history r.owner r.hidden s.words) s.views id v (first_of_two v) (rest_of_two v) x y is (ap (λ (l : V). first_of_two l) is) (ap (λ (l : V). rest_of_two l) is) at r.seats)
