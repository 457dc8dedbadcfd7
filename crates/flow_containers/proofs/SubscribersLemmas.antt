-- What each step of `Subscribers` needs, and that its fields are sound after it.
use Rattle.std.proofs.Common.{◌≡◌, ℕ, suc, ◌+◌, ◌-◌, ◌<◌, ◌≤◌, ◌%◌, ◌^◌, ◌==◌, max, nat_le, nat_lt, true, false, if◌then◌else◌, List, [], ◌∷◌, ◌++◌, length, map, get_or, set, Option, Some, refl, sym, ap, subst, ◌∙◌, arith, length-append}
use Rattle.std.specs.List.{list_any}
use Rattle.std.specs.Option.{option_map}
use Rattle.std.proofs.lemmas.Nat.{mod_below}
use Rattle.std.proofs.lemmas.List.{length-set}
use Rattle.flow_law.specs.declared.states.Subscriber.{Subscriber}
use Rattle.flow_law.specs.flow.SharedFlow.{position_of, stand_at, move_to, raise_to, with_own, leave_own}
use Rattle.flow_containers.specs.declared.members.Member.{Member}
use Rattle.flow_containers.specs.declared.members.enroll.Row.{Row}
use Rattle.flow_containers.specs.Members.{row_of, with_row}
use Rattle.flow_containers.specs.Members as slab
use Rattle.flow_containers.specs.Rows.{moved, with_own_left}
use Rattle.flow_containers.specs.PositionCounts.{AreWithin, count_of, CountsPositions, take_subscriber_out, one_more_at, one_less_at}
use Rattle.flow_containers.specs.Subscribers.{Standing, subscribers_read, AreSound}
use Rattle.flow_containers.proofs.CountLemmas.{blocked_by_count, fits-append, fits-shift, apart, fits-enroll, fits-take_out, fits-move_to, found_within, found_counted, count_bound, counts_bound}
use Rattle.flow_containers.proofs.MemberLemmas.{length-with_row}
use Rattle.flow_containers.proofs.RaisedLemmas.{read_higher, length-read, raise_to_last, position_of-row, move_to-row, with_own-row, take_out-row, append-row}

-- the row of counts after a shift from position p
abbrev pub shifted : List ℕ → ℕ → List ℕ
shifted row p = set (set row ((p + 1) % length row) (get_or row (p % length row) 0 + get_or row ((p + 1) % length row) 0)) (p % length row) 0

pub length-shifted : (row : List ℕ) (p : ℕ) → length (shifted row p) ≡ length row
length-shifted row p = length-set _ (p % length row) 0 ∙ length-set row _ _

within_same : {T : Type 0} (n : ℕ) (us : List (Subscriber T)) → AreWithin 1 n (map (stand_at n) us)
within_same n [] = tt
within_same n (u ∷ us) = (omega arith, omega arith, within_same n us)

count-with_own : {T : Type 0} (n r number : ℕ) (own : List T) (us : List (Subscriber T)) → count_of n r (with_own number own us) ≡ count_of n r us
count-with_own n r number own [] = refl
count-with_own n r number own (u ∷ us) =
    elim (u.number == number) as (λ t. count_of n r (if t then leave_own own u ∷ us else u ∷ with_own number own us) ≡ (if u.position % n == r then suc (count_of n r us) else count_of n r us)) [
      | true ↦ refl
      | false ↦ ap (λ k. if u.position % n == r then suc k else k) (count-with_own n r number own us)
    ]

within-with_own : {T : Type 0} (w n number : ℕ) (own : List T) (us : List (Subscriber T)) → AreWithin w n us → AreWithin w n (with_own number own us)
within-with_own w n number own [] h = tt
within-with_own w n number own (u ∷ us) h =
    elim (u.number == number) as (λ t. AreWithin w n (if t then leave_own own u ∷ us else u ∷ with_own number own us)) [
      | true ↦ h
      | false ↦ (h.0, h.1, within-with_own w n number own us h.2)
    ]

pub standing_same : {T : Type 0} (xs ys : List (Subscriber T)) (m n v w f g k l : ℕ) (at : List (Option ℕ)) → xs ≡ ys → m ≡ n → v ≡ w → f ≡ g → k ≡ l
    → ◌≡◌ {A = Standing T} (record { list = xs; emitted = m; window = v; floor = f; last = k; by_key = at }) (record { list = ys; emitted = n; window = w; floor = g; last = l; by_key = at })
standing_same xs ys m n v w f g k l at a b c d e = cc (a, b, c, d, e)

-- another row of the same length gives the same window
pub resized : {T A : Type 0} (row new : List ℕ) (emitted floor last : ℕ) (members : List (Member (Row T A))) → length new ≡ length row
    → AreSound (length row - 1) new emitted floor members last → AreSound (length new - 1) new emitted floor members last
resized row new emitted floor last members same sound = subst (λ k. AreSound (k - 1) new emitted floor members last) (sym same) sound

module _ {T A : Type 0} (row : List ℕ) (emitted floor last : ℕ) (members : List (Member (Row T A))) (sound : AreSound (length row - 1) row emitted floor members last) where
  abbrev w : ℕ
  w = length row - 1

  abbrev us : List (Subscriber T)
  us = subscribers_read floor members

  long : length row ≡ w + 1
  long = sound.fits.long

  bounded : length us < 2 ^ 64
  bounded = omega (arith, length-read floor members, sound.count, sound.last)

  pub blocked : nat_lt 0 (get_or row ((emitted + 1) % length row) 0) ≡ list_any (λ u. nat_le w (emitted - u.position)) us
  blocked = ap (λ k. nat_lt 0 (get_or row ((emitted + 1) % k) 0)) long ∙ blocked_by_count w emitted row us sound.fits

  pub added : list_any (λ u. nat_le w (emitted - u.position)) us ≡ false → AreSound w row (emitted + 1) floor members last
  added none = record {
    some = sound.some;
    fits = fits-append w emitted row us sound.fits none;
    floor = omega (arith, sound.floor);
    count = sound.count;
    last = sound.last;
  }

  -- ---- the floor rises

  count_at : (p : ℕ) → get_or row (p % length row) 0 ≡ count_of (w + 1) (p % (w + 1)) us
  count_at p = ap (λ k. get_or row (p % k) 0) long ∙ sound.fits.counts (p % (w + 1)) (mod_below p (w + 1) (omega arith))

  pub shift_room : (p : ℕ) → get_or row (p % length row) 0 + get_or row ((p + 1) % length row) 0 < 2 ^ 64
  shift_room p = omega (arith, count_at p, count_at (p + 1), counts_bound (w + 1) (p % (w + 1)) ((p + 1) % (w + 1)) us (apart w p sound.some), bounded)

  shift_fits : (p : ℕ) → p + w ≡ emitted → CountsPositions w (emitted + 1) (shifted row p) (subscribers_read (p + 1) members)
  shift_fits p at =
      let below : floor ≤ p + 1 = omega (arith, sound.floor, at) in
      let was : CountsPositions w (p + w) row us = subst (λ k. CountsPositions w k row us) (sym at) sound.fits in
      let now : CountsPositions w (p + w + 1) (shifted row p) (raise_to (p + 1) us) =
      subst (λ k. CountsPositions w (p + w + 1) (set (set row ((p + 1) % k) (get_or row (p % k) 0 + get_or row ((p + 1) % k) 0)) (p % k) 0) (raise_to (p + 1) us)) (sym long)
      (fits-shift w p sound.some row us was) in
      let raised : CountsPositions w (p + w + 1) (shifted row p) (subscribers_read (p + 1) members) = subst (CountsPositions w (p + w + 1) (shifted row p)) (read_higher floor (p + 1) members below) now in
      subst (λ k. CountsPositions w (k + 1) (shifted row p) (subscribers_read (p + 1) members)) at raised

  pub dropped : (p : ℕ) → p + w ≡ emitted → AreSound (length (shifted row p) - 1) (shifted row p) (emitted + 1) (p + 1) members last
  dropped p at = resized row (shifted row p) (emitted + 1) (p + 1) last members (length-shifted row p) (record {
    some = sound.some;
    fits = shift_fits p at;
    floor = omega (arith, at, sound.some);
    count = sound.count;
    last = sound.last;
  })

  pub dropped_list : (p : ℕ) → p + w ≡ emitted → subscribers_read (p + 1) members ≡ raise_to (emitted + 1 - w) us
  dropped_list p at =
      let same : p + 1 ≡ emitted + 1 - w = omega (arith, at) in
      sym (read_higher floor (p + 1) members (omega (arith, sound.floor, at))) ∙ ap (λ k. raise_to k us) same

  -- without a buffer all subscribers are moved to the last position
  pub gathered_list : w ≡ 1 → subscribers_read emitted members ≡ map (stand_at emitted) us
  gathered_list one =
      sym (read_higher floor emitted members (omega (arith, sound.floor, one)))
      ∙ raise_to_last emitted us (subst (λ k. AreWithin k emitted us) one sound.fits.window)

  pub gathered : (p : ℕ) → w ≡ 1 → p + 1 ≡ emitted → AreSound (length (shifted row p) - 1) (shifted row p) emitted emitted members last
  gathered p one at =
      let shift : CountsPositions w (emitted + 1) (shifted row p) (subscribers_read (p + 1) members) = shift_fits p (omega (arith, one, at)) in
      let there : CountsPositions w (emitted + 1) (shifted row p) (subscribers_read emitted members) = subst (λ k. CountsPositions w (emitted + 1) (shifted row p) (subscribers_read k members)) at shift in
      let here : AreWithin 1 emitted (subscribers_read emitted members) = subst (AreWithin 1 emitted) (sym (gathered_list one)) (within_same emitted us) in
      resized row (shifted row p) emitted emitted last members (length-shifted row p) (record {
        some = sound.some;
        fits = record { long = there.long; counts = there.counts; window = subst (λ k. AreWithin k emitted (subscribers_read emitted members)) (sym one) here };
        floor = omega (arith, one);
        count = sound.count;
        last = sound.last;
      })

  -- ---- one more

  pub enter_room : (p number : ℕ) → last < number → number < 2 ^ 64 → get_or row (p % length row) 0 + 1 < 2 ^ 64
  enter_room p number above fits = omega (arith, count_at p, count_bound (w + 1) (p % (w + 1)) us, length-read floor members, sound.count, above, fits)

  pub enrolled : (number p : ℕ) (r : Row T A) → r.position ≡ p → p ≤ emitted → emitted ≤ p + w → floor ≤ p → last < number → number < 2 ^ 64
      → AreSound (length (one_more_at row p) - 1) (one_more_at row p) emitted floor (members ++ record { number = number; row = r } ∷ []) number
  enrolled number p r at past near above more fits = resized row (one_more_at row p) emitted floor number (members ++ record { number = number; row = r } ∷ []) (length-set row _ _) (record {
    some = sound.some;
    fits = subst (CountsPositions w emitted (one_more_at row p)) (sym (append-row floor members number p r at above))
        (subst (λ k. CountsPositions w emitted (set row (p % k) (get_or row (p % k) 0 + 1)) (us ++ record { number = number; own = r.own; position = p } ∷ [])) (sym long)
        (fits-enroll w emitted row us (record { number = number; own = r.own; position = p }) sound.fits past near));
    floor = sound.floor;
    count = omega (arith, length-append members (record { number = number; row = r } ∷ []), sound.count, more);
    last = fits;
  })

  -- ---- one less, or one further

  module _ (number p : ℕ) (found : position_of number us ≡ Some p) where
    pub found_near : (p ≤ emitted) × (emitted < p + length row)
    found_near = let within = found_within w emitted number p us sound.fits.window found in (within.0, omega (arith, within.1, long))

    pub leave_some : 0 < get_or row (p % length row) 0
    leave_some = omega (arith, count_at p, found_counted (w + 1) number p us found)

    left_fits : CountsPositions w emitted (one_less_at row p) (take_subscriber_out number us)
    left_fits = subst (λ k. CountsPositions w emitted (set row (p % k) (get_or row (p % k) 0 - 1)) (take_subscriber_out number us)) (sym long) (fits-take_out w emitted number p row us sound.fits found)

    pub removed : AreSound (length (one_less_at row p) - 1) (one_less_at row p) emitted floor (slab.take_out number members) last
    removed = resized row (one_less_at row p) emitted floor last (slab.take_out number members) (length-set row _ _) (record {
      some = sound.some;
      fits = subst (CountsPositions w emitted (one_less_at row p)) (sym (take_out-row floor number members)) left_fits;
      floor = sound.floor;
      count = omega (arith, shorter number members, sound.count);
      last = sound.last;
    })
      where
        shorter : (number : ℕ) (members : List (Member (Row T A))) → length (slab.take_out number members) ≤ length members
        shorter number [] = omega arith
        shorter number (member ∷ members) = elim (member.number == number) as (λ t. length (if t then members else member ∷ slab.take_out number members) ≤ suc (length members)) [
          | true ↦ omega arith
          | false ↦ omega (arith, shorter number members)
        ]

    pub enter_again : (q : ℕ) → get_or (one_less_at row p) (q % length (one_less_at row p)) 0 + 1 < 2 ^ 64
    enter_again q =
        let same : length (one_less_at row p) ≡ w + 1 = length-set row _ _ ∙ long in
        let counted : get_or (one_less_at row p) (q % length (one_less_at row p)) 0 ≡ count_of (w + 1) (q % (w + 1)) (take_subscriber_out number us) =
        ap (λ k. get_or (one_less_at row p) (q % k) 0) same ∙ left_fits.counts (q % (w + 1)) (mod_below q (w + 1) (omega arith)) in
        omega (arith, counted, count_bound (w + 1) (q % (w + 1)) (take_subscriber_out number us), one_less number p us found, bounded)
      where
        one_less : (number p : ℕ) (us : List (Subscriber T)) → position_of number us ≡ Some p → length (take_subscriber_out number us) + 1 ≡ length us
        one_less number p [] found = absurd (cc)
        one_less number p (u ∷ us) found =
            elim (u.number == number) as (λ t. (if t then Some u.position else position_of number us) ≡ Some p → length (if t then us else u ∷ take_subscriber_out number us) + 1 ≡ suc (length us)) [
              | true ↦ λ here. omega arith
              | false ↦ λ there. omega (arith, one_less number p us there)
            ] found

    pub above_floor : (r : Row T A) → row_of number members ≡ Some r → floor ≤ p
    above_floor r at =
        let same : Some (max r.position floor) ≡ Some p = ap (option_map (λ (r : Row T A). max r.position floor)) (sym at) ∙ sym (position_of-row floor number members) ∙ found in
        let is : max r.position floor ≡ p = cc in
        omega (arith, is)

    pub advanced : (q : ℕ) (r : Row T A) → row_of number members ≡ Some r → p ≤ q → q ≤ emitted
        → AreSound (length (one_more_at (one_less_at row p) q) - 1) (one_more_at (one_less_at row p) q) emitted floor (with_row number (moved q r) members) last
    advanced q r at far more =
        let kept : length (one_more_at (one_less_at row p) q) ≡ length row = length-set (one_less_at row p) _ _ ∙ length-set row _ _ in
        let high : floor ≤ q = omega (arith, above_floor r at, far) in
        let within = found_within w emitted number p us sound.fits.window found in
        let same : length (one_less_at row p) ≡ w + 1 = length-set row _ _ ∙ long in
        let moves : CountsPositions w emitted (one_more_at (one_less_at row p) q) (move_to number q us) =
        subst (λ k. CountsPositions w emitted (set (one_less_at row p) (q % k) (get_or (one_less_at row p) (q % k) 0 + 1)) (move_to number q us)) (sym same)
        (subst (λ k. CountsPositions w emitted (set (set row (p % k) (get_or row (p % k) 0 - 1)) (q % (w + 1)) (get_or (set row (p % k) (get_or row (p % k) 0 - 1)) (q % (w + 1)) 0 + 1)) (move_to number q us)) (sym long)
        (fits-move_to w emitted number p q row us sound.fits found more (omega (arith, within.1, far)))) in
        resized row (one_more_at (one_less_at row p) q) emitted floor last (with_row number (moved q r) members) kept (record {
          some = sound.some;
          fits = subst (CountsPositions w emitted (one_more_at (one_less_at row p) q)) (sym (move_to-row floor number q r members high at)) moves;
          floor = sound.floor;
          count = omega (arith, length-with_row number (moved q r) members, sound.count);
          last = sound.last;
        })

  pub took_own : (number : ℕ) (own : List T) (r : Row T A) → row_of number members ≡ Some r → AreSound w row emitted floor (with_row number (with_own_left own r) members) last
  took_own number own r at = record {
    some = sound.some;
    fits = subst (CountsPositions w emitted row) (sym (with_own-row floor number own r members at)) (record {
      long = sound.fits.long;
      counts = λ k below. sound.fits.counts k below ∙ sym (count-with_own (w + 1) k number own us);
      window = within-with_own w emitted number own us sound.fits.window;
    });
    floor = sound.floor;
    count = omega (arith, length-with_row number (with_own_left own r) members, sound.count);
    last = sound.last;
  }
