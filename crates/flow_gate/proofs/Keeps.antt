-- Each step keeps the rule of the table.
use Rattle.std.proofs.Common.{◌≡◌, ◌≢◌, ℕ, ◌≤◌, Bool, true, false, List, [], ◌∷◌, ◌++◌, Option, Some, map, length, get_or, set, refl, sym, ap, ◌∙◌, subst, inl, inr, ⊎_elim, arith, le_refl, eqb, eq-eqb, ne_eqb, length-set, get_or-set_same, true≢false}
use mathlib.Core.Option.{some, none, some-injective}
use mathlib.Core.Logic.{dite}
use native.Mathlib.Decide.{ℕ_discrete}
use lib.ListN.{get_elem?}
use lib.Seq.{set-get_or}
use prog.Atomic.{either}
use Rattle.std.specs.List.{AllByRecursion}
use Rattle.atomic_table.specs.Table.{State, Me, step, keeps, takes, gives, stepped, Allows, Splits, Joins}
use Rattle.atomic_table.proofs.Lists.{at_set, set_again, set_here, set_else, at_longer}
use Rattle.flow_law.specs.declared.history.HistoryEvent.{HistoryEvent}
use Rattle.flow_law.specs.declared.history.Knowledge.{Knowledge}
use Rattle.flow_gate.specs.declared.view.SeatView.{SeatView}
use Rattle.flow_law.specs.history.Growth.{IsApartFrom, Fits, NamesOnlyMade, after_events}
use Rattle.flow_law.specs.history.RealTime.{IsTimed}
use Rattle.flow_gate.specs.View.{seat_view}
use Rattle.flow_gate.specs.Rule.{GateHolds, KnownAt, IsHeld}
use Rattle.flow_law.specs.history.Growth.{sees, loses, adds, makes, child}
use Rattle.flow_gate.specs.Steps.{stands_from, entered, observed, looked, left, first_known, others_known}
use Rattle.flow_law.proofs.Names.{every_map, grew_refl, fits_more_all, names_own_all, makes_fits, child_fits, child_apart, apart_child, makes_child, child_makes}
use Rattle.flow_law.proofs.RealTimeLemmas.{IsTimed-events}
use Rattle.flow_law.proofs.SeatLemmas.{Joined, joined_once, Parted, parted_once}
use Rattle.flow_gate.proofs.Places.{at_only, at_two, at_none, at_inside, at_end, every_at, of_map, known_set, known_end, AllApart, apart_from}

off_of : (b : Bool) → (b ≡ true → ⊥) → b ≡ false
off_of true never = absurd (never refl)
off_of false never = refl

module _ {S E : Type 0} (stands : S → List (HistoryEvent E) → Type 0) where
  abbrev St : Type 0
  St = State S (SeatView E)

  abbrev Rule : St → Type 0
  Rule = GateHolds stands

  abbrev word : St → ℕ
  word s = get_or s.words 0 0

  -- the tokens of one view learn something, and keep their names
  changed_apart : (f : Knowledge E → Knowledge E) → ((u : Knowledge E) → u.name ≡ (f u).name) → ((u : Knowledge E) → u.made ≤ (f u).made) → (views : List (SeatView E)) (id : ℕ) (v : SeatView E) (b : Bool)
      → get_elem? views id ≡ some v → AllApart views → AllApart (set views id (seat_view (map f v.known) b))
  changed_apart f name made views id v b at all = apart_from views (set views id (seat_view (map f v.known) b)) (λ i a p q. (i ≡ p) × (a ≡ q)) (λ i a j b' p q x y. (x.0 ∙ sym y.0, x.1 ∙ sym y.1))
      (λ i a t x. ⊎_elim
      (λ (h : (i ≡ id) × (get_elem? (map f v.known) a ≡ some t)). let u = of_map f v.known a t h.1 in (i, a, u.0, (v, ap (λ n. get_elem? views n) h.0 ∙ at, u.1), name u.0 ∙ ap (λ (z : Knowledge E). z.name) u.2, subst (λ (z : Knowledge E). u.0.made ≤ z.made) u.2 (made u.0), (refl, refl)))
      (λ (h : (i ≢ id) × KnownAt views i a t). (i, a, t, h.1, refl, le_refl t.made, (refl, refl)))
      (known_set views id i a (seat_view (map f v.known) b) t x)) all

  -- the tokens of one view learn something, and still fit the history
  changed_fits : (log : List (HistoryEvent E)) (f : Knowledge E → Knowledge E) → ((u : Knowledge E) → Fits log u → Fits log (f u)) → (views : List (SeatView E)) (id : ℕ) (v : SeatView E) (b : Bool)
      → get_elem? views id ≡ some v → ((i a : ℕ) (t : Knowledge E) → KnownAt views i a t → Fits log t) → (i a : ℕ) (t : Knowledge E) → KnownAt (set views id (seat_view (map f v.known) b)) i a t → Fits log t
  changed_fits log f still views id v b at all i a t x = ⊎_elim
      (λ (h : (i ≡ id) × (get_elem? (map f v.known) a ≡ some t)). let u = of_map f v.known a t h.1 in subst (Fits log) u.2 (still u.0 (all id a u.0 (v, at, u.1))))
      (λ (h : (i ≢ id) × KnownAt views i a t). all i a t h.1)
      (known_set views id i a (seat_view (map f v.known) b) t x)

  -- what holds of each view that holds the state still holds after a view was replaced by one that does not hold it
  quiet : (views : List (SeatView E)) (id : ℕ) (w : SeatView E) → w.holds ≡ false → (P : ℕ → SeatView E → Type 0) → ((i : ℕ) (v : SeatView E) → get_elem? views i ≡ some v → v.holds ≡ true → P i v)
      → (i : ℕ) (v : SeatView E) → get_elem? (set views id w) i ≡ some v → v.holds ≡ true → P i v
  quiet views id w off P old i v at on = ⊎_elim (λ (h : (i ≡ id) × (w ≡ v)). absurd (true≢false (sym on ∙ (ap (λ (z : SeatView E). z.holds) (sym h.1) ∙ off))))
      (λ (h : (i ≢ id) × (get_elem? views i ≡ some v)). old i v h.1 on) (at_set views id i w v at)

  -- if a seat that does not hold the state changes its view, the seat that holds it still does
  held_set : (views : List (SeatView E)) (id : ℕ) (v w : SeatView E) → get_elem? views id ≡ some v → v.holds ≡ false → IsHeld views → IsHeld (set views id w)
  held_set views id v w at off h = let x : SeatView E = seat_view (h.1 ∷ []) true in
      let ne : h.0 ≢ id = λ e. let same : x ≡ v = some-injective x v (sym h.2 ∙ (ap (λ n. get_elem? views n) e ∙ at)) in true≢false (ap (λ (z : SeatView E). z.holds) same ∙ off) in
      (h.0, h.1, set_else views id h.0 w ne ∙ h.2)

  held_end : (views : List (SeatView E)) (w : SeatView E) → IsHeld views → IsHeld (views ++ w ∷ [])
  held_end views w h = (h.0, h.1, at_longer views (w ∷ []) h.0 (seat_view (h.1 ∷ []) true) h.2)

  all_fit : (s : St) (r : Rule s) (id : ℕ) (v : SeatView E) → get_elem? s.views id ≡ some v → AllByRecursion (Fits r.history) v.known
  all_fit s r id v at = every_at (Fits r.history) v.known (λ a t e. r.fits id a t (v, at, e))

  -- a step that does not change the word, by a seat that does not hold the state
  unmoved : (s : St) (r : Rule s) (id : ℕ) (v w : SeatView E) (cs : List (ℕ × S)) → get_elem? s.views id ≡ some v → v.holds ≡ false → w.holds ≡ false
      → ((i a : ℕ) (t : Knowledge E) → KnownAt (set s.views id w) i a t → Fits r.history t) → AllApart (set s.views id w)
      → Rule (stepped s 0 (word s) id cs w keeps)
  unmoved s r id v w cs at idle off fits apart = subst (λ (ws : List ℕ). Rule record { words = ws; homes = s.homes; views = set s.views id w }) (sym (set-get_or s.words 0 0)) record {
    history = r.history;
    timed = r.timed;
    wide = r.wide;
    sound = r.sound;
    free = r.free;
    nobody = λ e i x p. ⊎_elim (λ (h : (i ≡ id) × (w ≡ x)). ap (λ (z : SeatView E). z.holds) (sym h.1) ∙ off) (λ (h : (i ≢ id) × (get_elem? s.views i ≡ some x)). r.nobody e i x h.1) (at_set s.views id i w x p);
    taken = λ n. held_set s.views id v w at idle (r.taken n);
    holder = quiet s.views id w off (λ i x. AllByRecursion (λ t. t.seen ≡ r.history) x.known) r.holder;
    single = λ i j x y p q on on'. quiet s.views id w off (λ i x. i ≡ j) (λ i x p on. quiet s.views id w off (λ j y. i ≡ j) (λ j y q on'. r.single i j x y p q on on') j y q on') i x p on;
    fits = fits;
    apart = apart;
  }

  sees_fits : (log : List (HistoryEvent E)) (t : Knowledge E) → Fits log t → Fits log (sees log t)
  sees_fits log t f = (grew_refl t.name log, f.1)

  loses_fits : (log : List (HistoryEvent E)) (t : Knowledge E) → Fits log t → Fits log (loses t)
  loses_fits log t f = f

  pub observes : (slots id : ℕ) (me : Me S (SeatView E)) → me.0.holds ≡ false → Allows Rule slots id me 0 (λ n. n) (observed stands (step slots 0 0 0 none) me)
  observes slots id me off s r _ at _ = let v : SeatView E = me.0 in let w : SeatView E = seat_view (map (sees r.history) v.known) v.holds in let x = r.sound in (
    w,
    keeps,
    tt,
    unmoved s r id v w me.1 at off off (changed_fits r.history (sees r.history) (sees_fits r.history) s.views id v v.holds at r.fits)
        (changed_apart (sees r.history) (λ _. refl) (λ u. le_refl u.made) s.views id v v.holds at r.apart),
    (r.history, x.0, x.1, all_fit s r id v at, refl, r.timed),
  )

  -- a step that changes nothing
  pub looks : (slots id : ℕ) (me : Me S (SeatView E)) → Allows Rule slots id me 0 (λ n. n) (looked stands (step slots 0 0 0 none) me)
  looks slots id me s r _ at _ = let x = r.sound in (
    me.0,
    keeps,
    tt,
    subst Rule (λ k. record { words = sym (set-get_or s.words 0 0) k; homes = s.homes; views = sym (set_again s.views id me.0 at) k }) r,
    (r.history, x.0, x.1, all_fit s r id me.0 at, refl, r.timed),
  )

  pub enters : (slots id : ℕ) (t : Knowledge E) (me : Me S (SeatView E)) → me.0 ≡ seat_view (t ∷ []) false → Allows Rule slots id me 0 (λ n. either (eqb n 0) 1 n) (entered stands (step slots 0 0 1 none) me)
  enters slots id t me is s r _ at _ = let off : me.0.holds ≡ false = ap (λ (z : SeatView E). z.holds) is in let n : ℕ = word s in let v : SeatView E = me.0 in dite (ℕ_discrete n 0)
      (λ hit. let x = r.free hit in let w : SeatView E = seat_view (map (sees r.history) v.known) true in let wide = r.wide in
      let one : get_or (set s.words 0 1) 0 0 ≡ 1 = get_or-set_same s.words 0 1 0 (omega arith) in
      let calm : (i : ℕ) (y : SeatView E) → get_elem? s.views i ≡ some y → y.holds ≡ true → ⊥ = λ i y p on. true≢false (sym on ∙ r.nobody hit i y p) in
      let is_id : (i : ℕ) (y : SeatView E) → get_elem? (set s.views id w) i ≡ some y → y.holds ≡ true → i ≡ id = λ i y p on. ⊎_elim (λ (h : (i ≡ id) × (w ≡ y)). h.0)
      (λ (h : (i ≢ id) × (get_elem? s.views i ≡ some y)). absurd (calm i y h.1 on)) (at_set s.views id i w y p) in (
        w,
        takes 0 x.0,
        x.1,
        subst (λ b. Rule (stepped s 0 (either b 1 n) id me.1 w (takes 0 x.0))) (sym (eq-eqb n 0 hit)) record {
          history = r.history;
          timed = r.timed;
          wide = length-set s.words 0 1 ∙ wide;
          sound = r.sound;
          free = λ e. absurd (omega arith);
          nobody = λ e. absurd (omega arith);
          taken = λ _. (id, sees r.history t, set_here s.views id w (at_inside s.views id v at) ∙ ap (λ (z : SeatView E). some (seat_view (map (sees r.history) z.known) true)) is);
          holder = λ i y p on. ⊎_elim (λ (h : (i ≡ id) × (w ≡ y)). subst (λ (z : SeatView E). AllByRecursion (λ t. t.seen ≡ r.history) z.known) h.1 (every_map (λ (t : Knowledge E). t.seen ≡ r.history) (sees r.history) (λ _. refl) v.known))
              (λ (h : (i ≢ id) × (get_elem? s.views i ≡ some y)). absurd (calm i y h.1 on)) (at_set s.views id i w y p);
          single = λ i j y z p q on on'. is_id i y p on ∙ sym (is_id j z q on');
          fits = changed_fits r.history (sees r.history) (sees_fits r.history) s.views id v true at r.fits;
          apart = changed_apart (sees r.history) (λ _. refl) (λ u. le_refl u.made) s.views id v true at r.apart;
        },
        ((λ _. (r.history, x.0, x.2, all_fit s r id v at, refl, r.timed)), λ not. absurd (not hit)),
      ))
      (λ miss. let w : SeatView E = seat_view (map loses v.known) false in (
        w,
        keeps,
        tt,
        subst (λ b. Rule (stepped s 0 (either b 1 n) id me.1 w keeps)) (sym (ne_eqb n 0 miss))
            (unmoved s r id v w me.1 at off refl (changed_fits r.history loses (loses_fits r.history) s.views id v false at r.fits)
            (changed_apart loses (λ _. refl) (λ u. le_refl u.made) s.views id v false at r.apart)),
        ((λ hit. absurd (miss hit)), λ _. refl),
      ))

  pub leaves : (slots id : ℕ) (t : Knowledge E) (x : S) (w : List E) (me : Me S (SeatView E)) → slots ≡ 1 → me ≡ (seat_view (t ∷ []) true, (0, x) ∷ []) → stands x (after_events t.name w t.seen)
      → Allows Rule slots id me 0 (λ _. 0) (λ _. left w (step slots 0 0 0 none) me 0)
  leaves slots id t x w me one is fine = subst (λ (m : Me S (SeatView E)). Allows Rule slots id m 0 (λ _. 0) (λ _. left w (step slots 0 0 0 none) m 0)) (sym is) (λ s r long at _.
      let v : SeatView E = seat_view (t ∷ []) true in let v' : SeatView E = seat_view (adds w t ∷ []) false in let wide = r.wide in
      let seen : t.seen ≡ r.history = (r.holder id v at refl).0 in
      let log : List (HistoryEvent E) = after_events t.name w t.seen in
      let same : after_events t.name w r.history ≡ log = ap (after_events t.name w) (sym seen) in
      let mine : KnownAt s.views id 0 t = (v, at, refl) in
      let others : (i a : ℕ) (u : Knowledge E) → i ≢ id → KnownAt s.views i a u → Fits log u = λ i a u ne p.
      let tu : IsApartFrom t u = r.apart id 0 i a t u mine p (inl (λ e. ne (sym e))) in let ut : IsApartFrom u t = r.apart i a id 0 u t p mine (inl ne) in
      subst (λ l. Fits l u) same (fits_more_all t.name w r.history u tu.0 ut.1 (r.fits i a u p)) in
      let own : Fits log (adds w t) = (grew_refl t.name log, subst (NamesOnlyMade t.name t.made) same (names_own_all t.name t.made w r.history (r.fits id 0 t mine).1)) in
      let free : get_elem? (set s.homes 0 (some x)) 0 ≡ some (some x) = set_here s.homes 0 (some x) (omega arith) in
      let none_in : (i : ℕ) (y : SeatView E) → get_elem? (set s.views id v') i ≡ some y → y.holds ≡ true → ⊥ =
      λ i y p on. ⊎_elim (λ (h : (i ≡ id) × (v' ≡ y)). true≢false (sym on ∙ ap (λ (z : SeatView E). z.holds) (sym h.1)))
      (λ (h : (i ≢ id) × (get_elem? s.views i ≡ some y)). h.0 (r.single i id y v h.1 at on refl)) (at_set s.views id i v' y p) in (
        v',
        gives,
        tt,
        record {
          history = log;
          timed = subst IsTimed same (IsTimed-events t.name w r.history r.timed);
          wide = length-set s.words 0 0 ∙ wide;
          sound = (x, fine);
          free = λ _. (x, free, fine);
          nobody = λ _ i y p. off_of y.holds (none_in i y p);
          taken = λ n. absurd (n (get_or-set_same s.words 0 0 0 (omega arith)));
          holder = λ i y p on. absurd (none_in i y p on);
          single = λ i j y z p q on on'. absurd (none_in i y p on);
          fits = λ i a u p. ⊎_elim (λ (h : (i ≡ id) × (get_elem? (adds w t ∷ []) a ≡ some u)). subst (Fits log) (at_only (adds w t) u a h.1).1 own)
              (λ (h : (i ≢ id) × KnownAt s.views i a u). others i a u h.0 h.1) (known_set s.views id i a v' u p);
          apart = changed_apart (adds w) (λ _. refl) (λ u. le_refl u.made) s.views id v false at r.apart;
        },
        refl,
      ))

  -- the rule holds after a change of the views that does not change the word and the state
  reseated : (s : St) (r : Rule s) (views : List (SeatView E)) → ((i : ℕ) (y : SeatView E) → get_elem? views i ≡ some y → y.holds ≡ true → (v : SeatView E) × (get_elem? s.views i ≡ some v) × (v.holds ≡ true) × (v.known ≡ y.known))
      → (IsHeld s.views → IsHeld views) → ((i a : ℕ) (t : Knowledge E) → KnownAt views i a t → Fits r.history t) → AllApart views → Rule record { words = s.words; homes = s.homes; views = views }
  reseated s r views old still fits apart = record {
    history = r.history;
    timed = r.timed;
    wide = r.wide;
    sound = r.sound;
    free = r.free;
    nobody = λ e i y p. off_of y.holds (λ on. let o = old i y p on in true≢false (sym o.2 ∙ r.nobody e i o.0 o.1));
    taken = λ n. still (r.taken n);
    holder = λ i y p on. let o = old i y p on in subst (AllByRecursion (λ (t : Knowledge E). t.seen ≡ r.history)) o.3 (r.holder i o.0 o.1 o.2);
    single = λ i j y z p q on on'. let o = old i y p on in let o' = old j z q on' in r.single i j o.0 o'.0 o.1 o'.1 o.2 o'.2;
    fits = fits;
    apart = apart;
  }

  abbrev HeldAt : List (SeatView E) → ℕ → SeatView E → Type 0
  HeldAt views i y = (v : SeatView E) × (get_elem? views i ≡ some v) × (v.holds ≡ true) × (v.known ≡ y.known)

  joins : (id : ℕ) (t : Knowledge E) (other : ℕ) (u : Knowledge E) → Joins Rule id (seat_view (t ∷ []) false) other (seat_view (u ∷ []) false) (seat_view (t ∷ u ∷ []) false) (seat_view [] false)
  joins id t other u s r at ne there =
      let both : SeatView E = seat_view (t ∷ u ∷ []) false in let gone : SeatView E = seat_view [] false in let mid : List (SeatView E) = set s.views id both in let views : List (SeatView E) = set mid other gone in
      let was : get_elem? s.views other ≡ some (seat_view (u ∷ []) false) = sym (set_else s.views id other both ne) ∙ there in
      let t_at : KnownAt s.views id 0 t = (seat_view (t ∷ []) false, at, refl) in let u_at : KnownAt s.views other 0 u = (seat_view (u ∷ []) false, was, refl) in
      let from : (i a : ℕ) (x : Knowledge E) → KnownAt views i a x → (p : ℕ) × (q : ℕ) × KnownAt s.views p q x × Joined id other i a p q = λ i a x p. ⊎_elim
      (λ (h : (i ≡ other) × (get_elem? [] a ≡ some x)). absurd (at_none x a h.1))
      (λ (h : (i ≢ other) × KnownAt mid i a x). ⊎_elim
      (λ (k : (i ≡ id) × (get_elem? (t ∷ u ∷ []) a ≡ some x)). ⊎_elim
      (λ (o : (a ≡ 0) × (t ≡ x)). (id, 0, subst (KnownAt s.views id 0) o.1 t_at, inl (k.0, o.0, refl, refl)))
      (λ (o : (a ≡ 1) × (u ≡ x)). (other, 0, subst (KnownAt s.views other 0) o.1 u_at, inr (inl (k.0, o.0, refl, refl))))
      (at_two t u x a k.1))
      (λ (k : (i ≢ id) × KnownAt s.views i a x). (i, a, k.1, inr (inr (k.0, h.0, refl, refl))))
      (known_set s.views id i a both x h.1))
      (known_set mid other i a gone x p) in
      reseated s r views
      (quiet mid other gone refl (HeldAt s.views) (quiet s.views id both refl (HeldAt s.views) (λ i y p on. (y, p, on, refl))))
      (λ h. held_set mid other (seat_view (u ∷ []) false) gone there refl (held_set s.views id (seat_view (t ∷ []) false) both at refl h))
      (λ i a x p. let o = from i a x p in r.fits o.0 o.1 x o.2)
      (apart_from s.views views (Joined id other) (joined_once id other ne) (λ i a x p. let o = from i a x p in (o.0, o.1, x, o.2, refl, le_refl x.made, o.3)) r.apart)

  ending : (views : List (SeatView E)) (w : SeatView E) → w.holds ≡ false → (P : ℕ → SeatView E → Type 0) → ((i : ℕ) (v : SeatView E) → get_elem? views i ≡ some v → v.holds ≡ true → P i v)
      → (i : ℕ) (v : SeatView E) → get_elem? (views ++ w ∷ []) i ≡ some v → v.holds ≡ true → P i v
  ending views w off P old i v at on = ⊎_elim (λ (h : get_elem? views i ≡ some v). old i v h on)
      (λ (h : (i ≡ length views) × (w ≡ v)). absurd (true≢false (sym on ∙ (ap (λ (z : SeatView E). z.holds) (sym h.1) ∙ off)))) (at_end views w v i at)

  -- a seat without a token is made
  pub spares : (id : ℕ) (v : SeatView E) → Splits Rule id v v (seat_view [] false)
  spares id v s r at =
      let right : SeatView E = seat_view [] false in
      subst (λ (views : List (SeatView E)). Rule record { words = s.words; homes = s.homes; views = views ++ right ∷ [] }) (sym (set_again s.views id v at))
      (reseated s r (s.views ++ right ∷ [])
      (ending s.views right refl (HeldAt s.views) (λ i y p on. (y, p, on, refl)))
      (held_end s.views right)
      (λ i a x p. ⊎_elim (r.fits i a x) (λ (h : (i ≡ length s.views) × (get_elem? [] a ≡ some x)). absurd (at_none x a h.1)) (known_end s.views i a right x p))
      (λ i a j b x y p q ne. ⊎_elim
      (λ (h : KnownAt s.views i a x). ⊎_elim (λ (k : KnownAt s.views j b y). r.apart i a j b x y h k ne)
      (λ (k : (j ≡ length s.views) × (get_elem? [] b ≡ some y)). absurd (at_none y b k.1)) (known_end s.views j b right y q))
      (λ (h : (i ≡ length s.views) × (get_elem? [] a ≡ some x)). absurd (at_none x a h.1))
      (known_end s.views i a right x p)))

  parts : (id : ℕ) (t u : Knowledge E) → Splits Rule id (seat_view (t ∷ u ∷ []) false) (seat_view (t ∷ []) false) (seat_view (u ∷ []) false)
  parts id t u s r at =
      let left : SeatView E = seat_view (t ∷ []) false in let right : SeatView E = seat_view (u ∷ []) false in let mid : List (SeatView E) = set s.views id left in let views : List (SeatView E) = mid ++ right ∷ [] in
      let t_at : KnownAt s.views id 0 t = (seat_view (t ∷ u ∷ []) false, at, refl) in let u_at : KnownAt s.views id 1 u = (seat_view (t ∷ u ∷ []) false, at, refl) in
      let from : (i a : ℕ) (x : Knowledge E) → KnownAt views i a x → (p : ℕ) × (q : ℕ) × KnownAt s.views p q x × Parted id (length mid) i a p q = λ i a x p. ⊎_elim
      (λ (h : KnownAt mid i a x). ⊎_elim
      (λ (k : (i ≡ id) × (get_elem? (t ∷ []) a ≡ some x)). let o = at_only t x a k.1 in (id, 0, subst (KnownAt s.views id 0) o.1 t_at, inr (inl (k.0, o.0, refl, refl))))
      (λ (k : (i ≢ id) × KnownAt s.views i a x). (i, a, k.1, inr (inr (k.0, refl, refl))))
      (known_set s.views id i a left x h))
      (λ (h : (i ≡ length mid) × (get_elem? (u ∷ []) a ≡ some x)). let o = at_only u x a h.1 in (id, 1, subst (KnownAt s.views id 1) o.1 u_at, inl (h.0, o.0, refl, refl)))
      (known_end mid i a right x p) in
      reseated s r views
      (ending mid right refl (HeldAt s.views) (quiet s.views id left refl (HeldAt s.views) (λ i y p on. (y, p, on, refl))))
      (λ h. held_end mid right (held_set s.views id (seat_view (t ∷ u ∷ []) false) left at refl h))
      (λ i a x p. let o = from i a x p in r.fits o.0 o.1 x o.2)
      (apart_from s.views views (Parted id (length mid)) (parted_once id (length mid)) (λ i a x p. let o = from i a x p in (o.0, o.1, x, o.2, refl, le_refl x.made, o.3)) r.apart)

  makes_one : (id : ℕ) (t : Knowledge E) → Splits Rule id (seat_view (t ∷ []) false) (seat_view (makes t ∷ []) false) (seat_view (child t ∷ []) false)
  makes_one id t s r at =
      let v : SeatView E = seat_view (t ∷ []) false in let left : SeatView E = seat_view (makes t ∷ []) false in let right : SeatView E = seat_view (child t ∷ []) false in
      let mid : List (SeatView E) = set s.views id left in let views : List (SeatView E) = mid ++ right ∷ [] in let t_at : KnownAt s.views id 0 t = (v, at, refl) in
      let mid_apart : AllApart mid = changed_apart makes (λ _. refl) (λ u. omega arith) s.views id v false at r.apart in
      -- the tokens before the new one
      let one : (i a : ℕ) (x : Knowledge E) → KnownAt mid i a x → Fits r.history x × IsApartFrom x (child t) × IsApartFrom (child t) x = λ i a x p. ⊎_elim
      (λ (k : (i ≡ id) × (get_elem? (makes t ∷ []) a ≡ some x)). subst (λ (z : Knowledge E). Fits r.history z × IsApartFrom z (child t) × IsApartFrom (child t) z) (at_only (makes t) x a k.1).1
      (makes_fits t r.history (r.fits id 0 t t_at), makes_child t, child_makes t))
      (λ (k : (i ≢ id) × KnownAt s.views i a x). let tx : IsApartFrom t x = r.apart id 0 i a t x t_at k.1 (inl (λ e. k.0 (sym e))) in let xt : IsApartFrom x t = r.apart i a id 0 x t k.1 t_at (inl k.0) in
      (r.fits i a x k.1, apart_child t x tx xt, child_apart t x tx))
      (known_set s.views id i a left x p) in
      reseated s r views
      (ending mid right refl (HeldAt s.views) (quiet s.views id left refl (HeldAt s.views) (λ i y p on. (y, p, on, refl))))
      (λ h. held_end mid right (held_set s.views id v left at refl h))
      (λ i a x p. ⊎_elim (λ (h : KnownAt mid i a x). (one i a x h).0)
      (λ (h : (i ≡ length mid) × (get_elem? (child t ∷ []) a ≡ some x)). subst (Fits r.history) (at_only (child t) x a h.1).1 (child_fits t r.history (r.fits id 0 t t_at))) (known_end mid i a right x p))
      (λ i a j b x y p q ne. ⊎_elim
      (λ (h : KnownAt mid i a x). ⊎_elim (λ (k : KnownAt mid j b y). mid_apart i a j b x y h k ne)
      (λ (k : (j ≡ length mid) × (get_elem? (child t ∷ []) b ≡ some y)). subst (IsApartFrom x) (at_only (child t) y b k.1).1 (one i a x h).1) (known_end mid j b right y q))
      (λ (h : (i ≡ length mid) × (get_elem? (child t ∷ []) a ≡ some x)). ⊎_elim (λ (k : KnownAt mid j b y). subst (λ (z : Knowledge E). IsApartFrom z y) (at_only (child t) x a h.1).1 (one j b y k).2)
      (λ (k : (j ≡ length mid) × (get_elem? (child t ∷ []) b ≡ some y)). let za = (at_only (child t) x a h.1).0 in let zb = (at_only (child t) y b k.1).0 in ⊎_elim (λ n. absurd (n (h.0 ∙ sym k.0))) (λ n. absurd (n (za ∙ sym zb))) ne) (known_end mid j b right y q))
      (known_end mid i a right x p))

-- The same for views that are equal to these.
module _ {S E : Type 0} (stands : S → List (HistoryEvent E) → Type 0) (id : ℕ) (t : Knowledge E) (v : SeatView E) where
  pub makes_seat : v ≡ seat_view (t ∷ []) false → Splits (GateHolds stands) id v (seat_view (map makes v.known) v.holds) (seat_view (map child v.known) false)
  makes_seat is = subst (λ (x : SeatView E). Splits (GateHolds stands) id x (seat_view (map makes x.known) x.holds) (seat_view (map child x.known) false)) (sym is) (makes_one stands id t)

  pub joins_seats : v ≡ seat_view (t ∷ []) false → (other : ℕ) (u : Knowledge E) (w : SeatView E) → w ≡ seat_view (u ∷ []) false
      → Joins (GateHolds stands) id v other w (seat_view (v.known ++ w.known) false) (seat_view [] false)
  joins_seats is other u w also =
      subst (λ (x : SeatView E × SeatView E). Joins (GateHolds stands) id x.0 other x.1 (seat_view (x.0.known ++ x.1.known) false) (seat_view [] false)) (λ i. (sym is i, sym also i)) (joins stands id t other u)

  pub parts_seats : (u : Knowledge E) → v ≡ seat_view (t ∷ u ∷ []) false → Splits (GateHolds stands) id v (seat_view (first_known v.known) false) (seat_view (others_known v.known) false)
  parts_seats u is = subst (λ (x : SeatView E). Splits (GateHolds stands) id x (seat_view (first_known x.known) false) (seat_view (others_known x.known) false)) (sym is) (parts stands id t u)

-- The same, if the step knows the first state by another name.
module _ {F S E : Type 0} (stands : F → S → List (HistoryEvent E) → Type 0) (k : F) (f : Option F) (from : f ≡ Some k) (slots id : ℕ) where
  pub enters_from : (t : Knowledge E) (me : Me S (SeatView E)) → me.0 ≡ seat_view (t ∷ []) false → Allows (GateHolds (stands k)) slots id me 0 (λ n. either (eqb n 0) 1 n) (entered (stands_from stands f) (step slots 0 0 1 none) me)
  enters_from t me is = subst (λ (h : Option F). Allows (GateHolds (stands k)) slots id me 0 (λ n. either (eqb n 0) 1 n) (entered (stands_from stands h) (step slots 0 0 1 none) me)) (sym from) (enters (stands k) slots id t me is)

  pub observes_from : (me : Me S (SeatView E)) → me.0.holds ≡ false → Allows (GateHolds (stands k)) slots id me 0 (λ n. n) (observed (stands_from stands f) (step slots 0 0 0 none) me)
  observes_from me off = subst (λ (h : Option F). Allows (GateHolds (stands k)) slots id me 0 (λ n. n) (observed (stands_from stands h) (step slots 0 0 0 none) me)) (sym from) (observes (stands k) slots id me off)

  pub looks_from : (me : Me S (SeatView E)) → Allows (GateHolds (stands k)) slots id me 0 (λ n. n) (looked (stands_from stands f) (step slots 0 0 0 none) me)
  looks_from me = subst (λ (h : Option F). Allows (GateHolds (stands k)) slots id me 0 (λ n. n) (looked (stands_from stands h) (step slots 0 0 0 none) me)) (sym from) (looks (stands k) slots id me)
