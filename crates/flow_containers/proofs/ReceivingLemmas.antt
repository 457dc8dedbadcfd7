-- What `receive` shows of a subscriber whose row was found: its position, and the rows after each case.
use Rattle.std.proofs.lemmas.Bool.Decides.{nat_tests}
use Rattle.std.proofs.Common.{◌≡◌, ℕ, ◌+◌, ◌-◌, ◌<◌, ◌≤◌, ◌%◌, ◌^◌, ◌==◌, ◌&&◌, not, nat_lt, max, List, [], length, get_or, Some, None, refl, sym, ap, subst, ◌∙◌, arith, zero, suc, ◌∷◌}
use Rattle.std.specs.List.{slice_get, list_any}
use Rattle.std.specs.Option.{option_map, IfSome}
use Rattle.flow_law.specs.declared.states.Subscriber.{Subscriber}
use Rattle.flow_law.specs.flow.SharedFlow.{position_of, own_of, with_own, move_to}
use Rattle.flow_containers.specs.declared.members.Member.{Member}
use Rattle.flow_containers.specs.declared.members.enroll.Row.{Row}
use Rattle.flow_containers.specs.declared.subscribers.Subscribers.TheInside.{Inside}
use Rattle.flow_containers.specs.Members.{row_of, with_row}
use Rattle.flow_containers.specs.Rows.{moved, with_own_left}
use Rattle.flow_containers.specs.PositionCounts.{one_more_at, one_less_at}
use Rattle.flow_containers.specs.Subscribers.{Standing, standing_of, subscribers_read, AreSound, RowsAgree}
use Rattle.flow_containers.specs.Receiving.{was_last_at}
use Rattle.flow_containers.proofs.CountLemmas.{others_at}
use Rattle.flow_containers.proofs.MemberLemmas.{with_row_same}
use Rattle.flow_containers.proofs.RaisedLemmas.{position_of-row, own_of-row, own_of-none, with_own-row, move_to-row}
use Rattle.flow_containers.proofs.SubscribersLemmas.{took_own, advanced, found_near, leave_some, enter_again}

-- a place where a value is found is a place of the list
pub found_below : {X : Type 0} (k : ℕ) (xs : List X) (v : X) → slice_get xs k ≡ Some v → k < length xs
found_below zero [] v at = absurd (cc)
found_below (suc k) [] v at = absurd (cc)
found_below zero (x ∷ xs) v at = omega arith
found_below (suc k) (x ∷ xs) v at = omega (arith, found_below k xs v at)

none_left_over : (k : ℕ) → (k == 0) ≡ not (nat_lt 0 k)
none_left_over zero = refl
none_left_over (suc k) = grind (arith, nat_tests)

module _ {T A : Type 0} (s : Inside T A) (number : ℕ) where
  abbrev pub position_in : Row T A → ℕ
  position_in row = max row.position s.floor

  -- the subscribers, with this row for the one of this number
  abbrev pub putting : Row T A → Inside T A
  putting row = record s { members = record s.members { members = with_row number row s.members.members } }

  pub nobody : row_of number s.members.members ≡ None → (own_of number (standing_of s).list ≡ []) × (position_of number (standing_of s).list ≡ None)
  nobody none = (own_of-none s.floor number s.members.members none, position_of-row s.floor number s.members.members ∙ ap (option_map position_in) none)

  module _ (row : Row T A) (found : row_of number s.members.members ≡ Some row) where
    pub stands_at : position_of number (standing_of s).list ≡ Some (position_in row)
    stands_at = position_of-row s.floor number s.members.members ∙ ap (option_map position_in) found

    -- a bound on the subscriber's position holds of its row's position
    pub kept_here : (first : ℕ) → IfSome (position_of number (standing_of s).list) (λ position. first ≤ position) → first ≤ position_in row
    kept_here first kept = subst (λ p. IfSome p (λ position. first ≤ position)) stands_at kept

    -- as many values as are held reach back to this position
    pub held_here : (v : Standing T) (held : ℕ) → standing_of s ≡ v → held ≤ v.emitted → IfSome (position_of number v.list) (λ position. v.emitted - held ≤ position)
        → (held ≤ s.counts.emitted) × (s.counts.emitted - held ≤ position_in row)
    held_here v held is all kept = (
      subst (λ (v : Standing T). held ≤ v.emitted) (sym is) all,
      kept_here (s.counts.emitted - held) (subst (λ (v : Standing T). IfSome (position_of number v.list) (λ position. v.emitted - held ≤ position)) (sym is) kept),
    )

    -- the row of counts covers this position, counts the subscriber there, and has room to count it elsewhere
    module _ (sound : RowsAgree s) where
      pub near_here : (position_in row ≤ s.counts.emitted) × (s.counts.emitted < position_in row + length s.counts.row)
      near_here = found_near s.counts.row s.counts.emitted s.floor s.members.last s.members.members sound number (position_in row) stands_at

      pub some_here : (at : ℕ) → at ≡ position_in row → 0 < get_or s.counts.row (at % length s.counts.row) 0
      some_here at is = subst (λ p. 0 < get_or s.counts.row (p % length s.counts.row) 0) (sym is)
          (leave_some s.counts.row s.counts.emitted s.floor s.members.last s.members.members sound number (position_in row) stands_at)

      pub room_here : (q : ℕ) → get_or (one_less_at s.counts.row (position_in row)) (q % length (one_less_at s.counts.row (position_in row))) 0 + 1 < 2 ^ 64
      room_here q = enter_again s.counts.row s.counts.emitted s.floor s.members.last s.members.members sound number (position_in row) stands_at q

    -- the row does not change
    pub untouched : putting row ≡ s
    untouched = ap (λ (members : List (Member (Row T A))). record s { members = record s.members { members = members } }) (with_row_same number row s.members.members found)

    pub untouched_sound : RowsAgree s → RowsAgree (putting row)
    untouched_sound sound = subst RowsAgree (sym untouched) sound

    pub own_left : own_of number (standing_of s).list ≡ row.own
    own_left = own_of-row s.floor number row s.members.members found

    pub takes : (own : List T) → standing_of (putting (with_own_left own row)) ≡ record (standing_of s) { list = with_own number own (standing_of s).list }
    takes own = ap (λ l. record (standing_of s) { list = l }) (with_own-row s.floor number own row s.members.members found)

    pub takes_sound : (own : List T) → RowsAgree s → RowsAgree (putting (with_own_left own row))
    takes_sound own sound = took_own s.counts.row s.counts.emitted s.floor s.members.last s.members.members sound number own row found

    -- whether it was the last one at the first position that is held, by its count
    pub was_last : RowsAgree s → position_in row < s.counts.emitted → (at first others : ℕ) (list : List (Subscriber T)) → at ≡ position_in row
        → others ≡ get_or s.counts.row (at % length s.counts.row) 0 - 1 → list ≡ move_to number (position_in row + 1) (standing_of s).list
        → ((at == first) && (others == 0)) ≡ was_last_at first (position_in row) list
    was_last sound more at first others list here count is =
        let w : ℕ = length s.counts.row - 1 in
        let p : ℕ = position_in row in
        let counted : others ≡ get_or s.counts.row (p % (w + 1)) 0 - 1 =
        count ∙ ap (λ q. get_or s.counts.row (q % length s.counts.row) 0 - 1) here ∙ ap (λ k. get_or s.counts.row (p % k) 0 - 1) sound.fits.long in
        ap (λ q. (q == first) && (others == 0)) here
        ∙ ap (λ t. (p == first) && t) (
        none_left_over others ∙ ap (λ k. not (nat_lt 0 k)) counted
        ∙ ap not (others_at w s.counts.emitted number p s.counts.row (standing_of s).list sound.some sound.fits stands_at more)
        ∙ ap (λ l. not (list_any (λ (u : Subscriber T). u.position == p) l)) (sym is)
        )

    -- no own value was left
    module _ (own : List T) (taken : (row.own ≡ []) × (own ≡ [])) where
      pub none_left : own_of number (standing_of s).list ≡ []
      none_left = own_left ∙ taken.0

      kept : own ≡ row.own
      kept = taken.1 ∙ sym taken.0

      same : putting (with_own_left own row) ≡ s
      same = ap (λ o. putting (with_own_left o row)) kept ∙ untouched

      pub stays : standing_of (putting (with_own_left own row)) ≡ standing_of s
      stays = ap standing_of same

      pub stays_sound : RowsAgree s → RowsAgree (putting (with_own_left own row))
      stays_sound sound = subst RowsAgree (sym same) sound

      -- the subscriber moves on by `count`
      module _ (sound : RowsAgree s) (count : ℕ) (more : position_in row + count ≤ s.counts.emitted) (next : ℕ) (is : next ≡ position_in row + count) where
        abbrev pub going : Row T A
        going = record { own = own; position = next }

        abbrev pub gone : List ℕ → Inside T A
        gone counts = record s {
          members = record s.members { members = with_row number (record { own = own; position = next }) s.members.members };
          counts = record s.counts { row = counts };
        }

        moves : going ≡ moved (position_in row + count) row
        moves = ap (λ o. record { own = o; position = next }) kept ∙ ap (λ p. record { own = row.own; position = p }) is

        pub goes : (counts : List ℕ) → length counts ≡ length s.counts.row
            → standing_of (gone counts) ≡ record (standing_of s) { list = move_to number (position_in row + count) (standing_of s).list }
        goes counts long =
            let above : s.floor ≤ position_in row + count = omega arith in
            let list : subscribers_read s.floor (with_row number going s.members.members) ≡ move_to number (position_in row + count) (standing_of s).list =
            ap (λ r. subscribers_read s.floor (with_row number r s.members.members)) moves ∙ move_to-row s.floor number (position_in row + count) row s.members.members above found in
            ap (λ l. record (standing_of s) { list = l; window = length counts - 1 }) list
            ∙ ap (λ k. record (standing_of s) { list = move_to number (position_in row + count) (standing_of s).list; window = k - 1 }) long

        pub goes_sound : RowsAgree (gone (one_more_at (one_less_at s.counts.row (position_in row)) (position_in row + count)))
        goes_sound =
            let row_after = one_more_at (one_less_at s.counts.row (position_in row)) (position_in row + count) in
            subst (λ r. AreSound (length row_after - 1) row_after s.counts.emitted s.floor (with_row number r s.members.members) s.members.last) (sym moves)
            (advanced s.counts.row s.counts.emitted s.floor s.members.last s.members.members sound number (position_in row) stands_at (position_in row + count) row found (omega arith) more)
