-- Subscribers whose positions are read with a floor: how a change of the rows changes the list.
use Rattle.std.proofs.Common.{◌≡◌, ℕ, suc, ◌≤◌, ◌==◌, max, true, false, if◌then◌else◌, List, [], ◌∷◌, ◌++◌, length, map, Some, None, refl, sym, ap, ◌∙◌, arith}
use Rattle.std.specs.Option.{option_map, option_map_or}
use Rattle.flow_law.specs.declared.states.Subscriber.{Subscriber}
use Rattle.flow_law.specs.flow.SharedFlow.{position_of, stand_at, move_to, raise_to, without, own_of, with_own}
use Rattle.flow_containers.specs.declared.members.Member.{Member}
use Rattle.flow_containers.specs.declared.members.enroll.Row.{Row}
use Rattle.flow_containers.specs.Members.{row_of, with_row, without_number, take_out}
use Rattle.flow_containers.specs.Rows.{moved, with_own_left}
use Rattle.flow_containers.specs.PositionCounts as counts
use Rattle.flow_containers.specs.PositionCounts.{AreWithin}
use Rattle.flow_containers.specs.Subscribers.{subscriber_of, subscribers_read}
use Rattle.flow_containers.proofs.SubscriberLemmas as seen

pub apart_options : {X : Type 0} {x : X} → None ≡ Some x → ⊥
apart_options e = absurd (cc e)

-- ---- the floor

pub read_higher : {T A : Type 0} (a b : ℕ) (members : List (Member (Row T A))) → a ≤ b → raise_to b (subscribers_read a members) ≡ subscribers_read b members
read_higher a b [] le = refl
read_higher a b (member ∷ members) le =
    let same : max (max member.row.position a) b ≡ max member.row.position b = omega (arith, le) in
    ap (λ p. stand_at p (subscriber_of a member) ∷ raise_to b (subscribers_read a members)) same ∙ ap (λ l. subscriber_of b member ∷ l) (read_higher a b members le)

pub length-read : {T A : Type 0} (floor : ℕ) (members : List (Member (Row T A))) → length (subscribers_read floor members) ≡ length members
length-read floor [] = refl
length-read floor (member ∷ members) = ap suc (length-read floor members)

-- if all positions are the last one or the one before, raising the floor to the last position moves all subscribers there
pub raise_to_last : {T : Type 0} (n : ℕ) (us : List (Subscriber T)) → AreWithin 1 n us → raise_to n us ≡ map (stand_at n) us
raise_to_last n [] within = refl
raise_to_last n (u ∷ us) within =
    let same : max u.position n ≡ n = omega (arith, within.0) in
    ap (λ p. stand_at p u ∷ raise_to n us) same ∙ ap (λ l. stand_at n u ∷ l) (raise_to_last n us within.2)

pub raise_to_first : {T : Type 0} (us : List (Subscriber T)) → raise_to 0 us ≡ us
raise_to_first [] = refl
raise_to_first (u ∷ us) =
    let same : max u.position 0 ≡ u.position = omega arith in
    ap (λ p. stand_at p u ∷ raise_to 0 us) same ∙ ap (λ l. u ∷ l) (raise_to_first us)

-- ---- one subscriber, by its row

module _ (floor : ℕ) where
  pub position_of-row : {T A : Type 0} (number : ℕ) (members : List (Member (Row T A))) → position_of number (subscribers_read floor members) ≡ option_map (λ row. max row.position floor) (row_of number members)
  position_of-row number members = seen.position_of-row (subscriber_of floor) (λ member. refl) number members

  pub own_of-row : {T A : Type 0} (number : ℕ) (row : Row T A) (members : List (Member (Row T A))) → row_of number members ≡ Some row → own_of number (subscribers_read floor members) ≡ row.own
  own_of-row {T} {A} number row members found = seen.own_of-row (subscriber_of floor) (λ member. refl) number members ∙ ap (λ o. option_map_or (λ (r : Row T A). r.own) o []) found

  pub own_of-none : {T A : Type 0} (number : ℕ) (members : List (Member (Row T A))) → row_of number members ≡ None → own_of number (subscribers_read floor members) ≡ []
  own_of-none {T} {A} number members none = seen.own_of-row (subscriber_of floor) (λ member. refl) number members ∙ ap (λ o. option_map_or (λ (r : Row T A). r.own) o []) none

  -- a row that moves to a position from the floor on
  pub move_to-row : {T A : Type 0} (number position : ℕ) (row : Row T A) (members : List (Member (Row T A))) → floor ≤ position → row_of number members ≡ Some row
      → subscribers_read floor (with_row number (moved position row) members) ≡ move_to number position (subscribers_read floor members)
  move_to-row number position row members above found =
      let high : max position floor ≡ position = omega (arith, above) in
      sym (seen.move_to-row (subscriber_of floor) (λ member. refl) number position row (moved position row)
      (ap (λ p. record { number = number; own = row.own; position = p }) high) members found)

  pub with_own-row : {T A : Type 0} (number : ℕ) (own : List T) (row : Row T A) (members : List (Member (Row T A))) → row_of number members ≡ Some row
      → subscribers_read floor (with_row number (with_own_left own row) members) ≡ with_own number own (subscribers_read floor members)
  with_own-row number own row members found = sym (seen.with_own-row (subscriber_of floor) (λ member. refl) number own row (with_own_left own row) refl members found)

  pub without-row : {T A : Type 0} (number : ℕ) (members : List (Member (Row T A))) → subscribers_read floor (without_number number members) ≡ without number (subscribers_read floor members)
  without-row number members = sym (seen.without-row (subscriber_of floor) (λ member. refl) number members)

  pub take_out-row : {T A : Type 0} (number : ℕ) (members : List (Member (Row T A))) → subscribers_read floor (take_out number members) ≡ counts.take_subscriber_out number (subscribers_read floor members)
  take_out-row number [] = refl
  take_out-row number (member ∷ members) =
      elim (member.number == number) as (λ t. subscribers_read floor (if t then members else member ∷ take_out number members)
      ≡ (if t then subscribers_read floor members else subscriber_of floor member ∷ counts.take_subscriber_out number (subscribers_read floor members))) [
        | true ↦ refl
        | false ↦ ap (λ l. subscriber_of floor member ∷ l) (take_out-row number members)
      ]

  pub append-row : {T A : Type 0} (members : List (Member (Row T A))) (number position : ℕ) (row : Row T A) → row.position ≡ position → floor ≤ position
      → subscribers_read floor (members ++ record { number = number; row = row } ∷ []) ≡ subscribers_read floor members ++ record { number = number; own = row.own; position = position } ∷ []
  append-row members number position row at above =
      let same : max row.position floor ≡ position = omega (arith, at, above) in
      seen.insert-row (subscriber_of floor) number row members ∙ ap (λ p. subscribers_read floor members ++ record { number = number; own = row.own; position = p } ∷ []) same
