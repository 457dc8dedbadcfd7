-- Steps without an event keep the rule of the table: the start, making a token through another one, and joining two tokens in one
-- view and splitting it again.
use Rattle.std.proofs.Common.{◌≡◌, ℕ, ◌<◌, List, [], ◌∷◌, ◌++◌, map, set, refl, sym, ap, ◌∙◌, subst, ⊎_elim, le_refl}
use Rattle.std.specs.List.{AllByRecursion}
use mathlib.Core.Option.{none, some}
use lib.ListN.{get_elem?}
use lib.Seq.{set-get_or}
use Rattle.atomic_table.specs.Table.{State, Me, step, keeps, Allows, Splits, Joins, opening}
use Rattle.atomic_table.proofs.Lists.{set_again}
use Rattle.flow_law.specs.history.Growth.{Fits, makes, child, sees}
use Rattle.flow_law.specs.history.Seats.{SeatAt, SeatsFit}
use Rattle.flow_law.specs.flow.StateFlow.{StateHistory, IsStateHistory}
use Rattle.flow_law.proofs.Names.{grew_refl, makes_fits, child_fits}
use Rattle.flow_law.proofs.SeatLemmas.{changed, made, spent_more, joined, parted, at_only}
use Rattle.flow_word.specs.declared.view.Known.{Known}
use Rattle.flow_word.specs.declared.view.Start.{Start}
use Rattle.flow_word.specs.View.{begun, only_in_view, with_knows, first_word_view, first_in_view, others_in_view}
use Rattle.flow_word.specs.Rule.{IsFine, WordHolds}
use Rattle.flow_word.specs.Steps.{observes, looks}
use Rattle.flow_word.proofs.Keeps.{started, fits_at, still}

module _ (T : Type 0) (packs : ℕ → Type 0) (value_of : ℕ → T) (start : Start) where
  abbrev V : Type 0
  V = List (Known T)

  abbrev St : Type 0
  St = State Unit V

  abbrev Rule : St → Type 0
  Rule = WordHolds packs value_of start

  abbrev Seated : StateHistory T → List V → Type 0
  Seated h = SeatsFit (λ (v : V). v) (λ (x : Known T). x.knows) (IsFine start h)

  -- the views change, and nothing else
  reseated : (s : St) (r : Rule s) (views : List V) → Seated r.history views → Rule record { words = s.words; homes = s.homes; views = views }
  reseated s r views seats = record {
    history = r.history;
    is_history = r.is_history;
    timed = r.timed;
    word = r.word;
    packed = r.packed;
    value = r.value;
    words = r.words;
    limit_fits = r.limit_fits;
    seats = seats;
  }

  pub opens : packs start.word → start.limit < 4294967296 → Rule (opening (start.word ∷ 0 ∷ []) [] (first_word_view start))
  opens packed fits = record {
    history = [];
    is_history = record { begins = refl; legal = tt; owned = tt };
    timed = tt;
    word = start.word;
    packed = packed;
    value = refl;
    words = refl;
    limit_fits = fits;
    seats = record {
      fine = λ i a x p. subst (IsFine start []) (at i a x p).2 ((grew_refl [] [], tt), refl, tt);
      apart = λ i a j b x y p q ne. let m = at i a x p in let n = at j b y q in ⊎_elim (λ d. absurd (d (m.0 ∙ sym n.0))) (λ d. absurd (d (m.1 ∙ sym n.1))) ne;
    };
  }
    where
      at : (i a : ℕ) (x : Known T) → SeatAt (λ (v : V). v) (first_word_view start ∷ []) i a x → (i ≡ 0) × (a ≡ 0) × (only_in_view {T = T} (first_word_view start) ≡ x)
      at i a x p = let v = at_only (first_word_view start) p.0 i p.1 in let one = at_only (only_in_view {T = T} (first_word_view start)) x a (subst (λ (l : V). get_elem? l a ≡ some x) (sym v.1) p.2) in (v.0, one.0, one.1)

  -- a token is made through the one of a view
  pub making : (id : ℕ) (v : V) → v ≡ only_in_view v ∷ [] → Splits Rule id v (map (with_knows makes) v) (map (with_knows child) v)
  making id v is s r at = let x : Known T = only_in_view v in let fits = fits_at T packs value_of start s r id v is at in let from = started T packs value_of start s r id v is at in
      reseated s r _ (made (λ (v : V). v) (λ (x : Known T). x.knows) (IsFine start r.history) s.views id v (map (with_knows makes) v) (map (with_knows child) v) x (with_knows makes x) (with_knows child x) is
      (ap (λ (l : V). map (with_knows makes) l) is) (ap (λ (l : V). map (with_knows child) l) is) refl refl (makes_fits x.knows r.history fits, from, tt) (child_fits x.knows r.history fits, from, tt) at r.seats)

  -- a view of no token
  pub blanks : (id : ℕ) (v : V) → Splits Rule id v v []
  blanks id v s r at = subst (λ (z : List V). Rule record { words = s.words; homes = s.homes; views = z ++ [] ∷ [] }) (sym (set_again s.views id v at))
      (reseated s r _ (spent_more (λ (v : V). v) (λ (x : Known T). x.knows) (IsFine start r.history) s.views [] refl r.seats))

  -- two tokens in one view
  pub joins : (id : ℕ) (v : V) (other : ℕ) (w : V) → v ≡ only_in_view v ∷ [] → w ≡ only_in_view w ∷ [] → Joins Rule id v other w (v ++ w) []
  joins id v other w is_v is_w s r at ne there =
      reseated s r _ (joined (λ (v : V). v) (λ (x : Known T). x.knows) (IsFine start r.history) s.views id other v w (v ++ w) [] (only_in_view v) (only_in_view w) is_v is_w (λ i. is_v i ++ is_w i) refl at ne there r.seats)

  -- both see the whole history so far
  pub observing : (slots id : ℕ) (me : Me Unit V) (x y : Known T) → me.0 ≡ x ∷ y ∷ [] → Allows Rule slots id me 0 (λ n. n) (observes value_of (step slots 0 0 0 none) me)
  observing slots id me x y is s r n at small = (
    map (with_knows (sees h)) me.0,
    keeps,
    tt,
    subst (λ (z : List ℕ). Rule record { words = z; homes = s.homes; views = set s.views id (map (with_knows (sees h)) me.0) }) (sym (set-get_or s.words 0 0))
        (reseated s r _ (changed (λ (v : V). v) (λ (x : Known T). x.knows) (IsFine start h) (with_knows (sees h)) (λ _. refl) (λ z. le_refl z.knows.made) s.views id me.0 (map (with_knows (sees h)) me.0) at refl
        (λ a z p. let f = r.seats.fine id a z (me.0, at, p) in ((grew_refl z.knows.name h, f.0.1), f.1, tt)) (λ i a z _ p. r.seats.fine i a z p) r.seats.apart)),
    (
      h,
      subst (λ (z : Start). IsStateHistory (begun value_of z) h) (sym (ap (λ (l : V). (only_in_view l).start) is ∙ first.1)) r.is_history,
      r.timed,
      subst (AllByRecursion (λ (z : Known T). Fits h z.knows)) (sym is) (first.0, (second.0, tt)),
      refl,
    ),
  )
    where
      h : StateHistory T
      h = r.history

      first : IsFine start r.history x
      first = r.seats.fine id 0 x (me.0, at, subst (λ (l : V). get_elem? l 0 ≡ some x) (sym is) refl)

      second : IsFine start r.history y
      second = r.seats.fine id 1 y (me.0, at, subst (λ (l : V). get_elem? l 1 ≡ some y) (sym is) refl)

  -- a step that changes nothing
  pub looking : (slots id : ℕ) (me : Me Unit V) → me.0 ≡ only_in_view me.0 ∷ [] → Allows Rule slots id me 0 (λ n. n) (looks value_of (step slots 0 0 0 none) me)
  looking slots id me is s r n at small = (
    me.0,
    keeps,
    tt,
    still T packs value_of start s r 0 id me.0 at,
    (r.history, subst (λ (z : Start). IsStateHistory (begun value_of z) r.history) (sym (started T packs value_of start s r id me.0 is at)) r.is_history, r.timed, fits_at T packs value_of start s r id me.0 is at, refl),
  )

  -- two tokens are split again
  pub parts : (id : ℕ) (v : V) (x y : Known T) → v ≡ x ∷ y ∷ [] → Splits Rule id v (first_in_view v) (others_in_view v)
  parts id v x y is s r at =
      reseated s r _ (parted (λ (v : V). v) (λ (x : Known T). x.knows) (IsFine start r.history) s.views id v (first_in_view v) (others_in_view v) x y is (ap (λ (l : V). first_in_view l) is) (ap (λ (l : V). others_in_view l) is) at r.seats)
