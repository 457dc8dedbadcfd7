-- Members seen as the subscribers of the definitions, by a map f that keeps the number: what is found, replaced, removed and
-- added, on both sides. `looked_up` to `left_out` are for any kind of subscriber, the rest for those of shared and state flows.
use Rattle.std.proofs.Common.{inl, inr, ◌≡◌, ℕ, ◌==◌, true, false, not, cond, if◌then◌else◌, List, [], ◌∷◌, ◌++◌, map, Option, Some, None, refl, sym, ap, ◌∙◌}
use Rattle.std.specs.Prelude.{filter}
use Rattle.std.specs.Option.{option_map, option_map_or}
use Rattle.std.proofs.lemmas.Bool.Decides.{eqb_tells}
use Rattle.std.proofs.lemmas.List.{map-append}
use Rattle.flow_law.specs.declared.states.Subscriber.{Subscriber}
use Rattle.flow_law.specs.declared.states.StateSubscriber.{StateSubscriber}
use Rattle.flow_law.specs.flow.SharedFlow.{position_of, stand_at, move_to, own_of, leave_own, with_own, without}
use Rattle.flow_law.specs.flow.StateFlow.{last_got_by, with_last, without_subscriber}
use Rattle.flow_containers.specs.declared.members.Member.{Member}
use Rattle.flow_containers.specs.Members.{row_of, member_with, with_row, without_number}

module _ {R U : Type 0} (f : Member R → U) (number_in : U → ℕ) (same : (member : Member R) → number_in (f member) ≡ member.number) (number : ℕ) where
  -- the subscriber that f makes of a row under this number
  abbrev subscriber : R → U
  subscriber row = f (record { number = number; row = row })

  test_is : (member : Member R) → (number_in (f member) == number) ≡ (member.number == number)
  test_is member = ap (λ n. n == number) (same member)

  -- a function that looks for the number finds what the row there gives
  pub looked_up : {X : Type 0} (look : List U → X) (x : U → X) (none : X) → look [] ≡ none → ((u : U) (us : List U) → look (u ∷ us) ≡ (if number_in u == number then x u else look us))
      → (members : List (Member R)) → look (map f members) ≡ option_map_or (λ row. x (subscriber row)) (row_of number members) none
  looked_up look x none at_end steps [] = at_end
  looked_up look x none at_end steps (member ∷ members) =
      steps (f member) (map f members) ∙ ap (λ t. cond t (x (f member)) (look (map f members))) (test_is member) ∙ elim (eqb_tells member.number number) [
        | inl here ↦
            ap (λ t. cond t (x (f member)) (look (map f members))) here.0
            ∙ ap (λ n. x (f (record { number = n; row = member.row }))) here.1
            ∙ sym (ap (λ t. option_map_or (λ row. x (subscriber row)) (cond t (Some member.row) (row_of number members)) none) here.0)
        | inr other ↦
            ap (λ t. cond t (x (f member)) (look (map f members))) other.0
            ∙ looked_up look x none at_end steps members
            ∙ sym (ap (λ t. option_map_or (λ row. x (subscriber row)) (cond t (Some member.row) (row_of number members)) none) other.0)
      ]

  -- a function that changes the first of the number does what replacing its row does
  pub changed : (change : List U → List U) (g : U → U) → ((u : U) (us : List U) → change (u ∷ us) ≡ (if number_in u == number then g u ∷ us else u ∷ change us))
      → (old new : R) → subscriber new ≡ g (subscriber old) → (members : List (Member R)) → row_of number members ≡ Some old → change (map f members) ≡ map f (with_row number new members)
  changed change g steps old new made [] there = absurd (cc)
  changed change g steps old new made (member ∷ members) there =
      steps (f member) (map f members) ∙ ap (λ t. cond t (g (f member) ∷ map f members) (f member ∷ change (map f members))) (test_is member) ∙ elim (eqb_tells member.number number) [
        | inl here ↦
            let row : Some member.row ≡ Some old = sym (ap (λ t. cond t (Some member.row) (row_of number members)) here.0) ∙ there in
            let row_is : member.row ≡ old = cc in
            ap (λ t. cond t (g (f member) ∷ map f members) (f member ∷ change (map f members))) here.0
            ∙ ap (λ n. g (f (record { number = n; row = member.row })) ∷ map f members) here.1
            ∙ ap (λ r. g (subscriber r) ∷ map f members) row_is
            ∙ ap (λ u. u ∷ map f members) (sym made)
            ∙ ap (λ n. f (record { number = n; row = new }) ∷ map f members) (sym here.1)
            ∙ sym (ap (λ t. map f (cond t (member_with new member ∷ members) (member ∷ with_row number new members))) here.0)
        | inr other ↦
            ap (λ t. cond t (g (f member) ∷ map f members) (f member ∷ change (map f members))) other.0
            ∙ ap (λ l. f member ∷ l) (changed change g steps old new made members (sym (ap (λ t. cond t (Some member.row) (row_of number members)) other.0) ∙ there))
            ∙ sym (ap (λ t. map f (cond t (member_with new member ∷ members) (member ∷ with_row number new members))) other.0)
      ]

  pub left_out : (members : List (Member R)) → filter (λ u. not (number_in u == number)) (map f members) ≡ map f (without_number number members)
  left_out [] = refl
  left_out (member ∷ members) =
      ap (λ t. cond (not t) (f member ∷ filter (λ u. not (number_in u == number)) (map f members)) (filter (λ u. not (number_in u == number)) (map f members))) (test_is member)
      ∙ elim (member.number == number) as (λ t. cond (not t) (f member ∷ filter (λ u. not (number_in u == number)) (map f members)) (filter (λ u. not (number_in u == number)) (map f members)) ≡ map f (cond (not t) (member ∷ without_number number members) (without_number number members))) [
        | true ↦ left_out members
        | false ↦ ap (λ l. f member ∷ l) (left_out members)
      ]

mapped_some : {A B : Type 0} (h : A → B) (o : Option A) → option_map_or (λ a. Some (h a)) o None ≡ option_map h o
mapped_some h None = refl
mapped_some h (Some a) = refl

-- ---- any kind of subscriber

pub insert-row : {R U : Type 0} (f : Member R → U) (number : ℕ) (row : R) (members : List (Member R)) → map f (members ++ record { number = number; row = row } ∷ []) ≡ map f members ++ f (record { number = number; row = row }) ∷ []
insert-row f number row members = map-append f members (record { number = number; row = row } ∷ [])

-- ---- subscribers of a shared flow

module _ {R T : Type 0} (f : Member R → Subscriber T) (same : (member : Member R) → (f member).number ≡ member.number) (number : ℕ) where
  -- the subscriber that f makes of a row under this number
  abbrev pub subscriber_with : R → Subscriber T
  subscriber_with row = f (record { number = number; row = row })

  pub position_of-row : (members : List (Member R)) → position_of number (map f members) ≡ option_map (λ row. (subscriber_with row).position) (row_of number members)
  position_of-row members =
      looked_up f (λ u. u.number) same number (position_of number) (λ u. Some u.position) None refl (λ u us. refl) members
      ∙ mapped_some (λ row. (subscriber_with row).position) (row_of number members)

  pub own_of-row : (members : List (Member R)) → own_of number (map f members) ≡ option_map_or (λ row. (subscriber_with row).own) (row_of number members) []
  own_of-row members = looked_up f (λ u. u.number) same number (own_of number) (λ u. u.own) [] refl (λ u us. refl) members

  pub move_to-row : (position : ℕ) (old new : R) → subscriber_with new ≡ stand_at position (subscriber_with old) → (members : List (Member R)) → row_of number members ≡ Some old
      → move_to number position (map f members) ≡ map f (with_row number new members)
  move_to-row position old new moved members there = changed f (λ u. u.number) same number (move_to number position) (stand_at position) (λ u us. refl) old new moved members there

  pub with_own-row : (own : List T) (old new : R) → subscriber_with new ≡ leave_own own (subscriber_with old) → (members : List (Member R)) → row_of number members ≡ Some old
      → with_own number own (map f members) ≡ map f (with_row number new members)
  with_own-row own old new left members there = changed f (λ u. u.number) same number (with_own number own) (leave_own own) (λ u us. refl) old new left members there

  pub without-row : (members : List (Member R)) → without number (map f members) ≡ map f (without_number number members)
  without-row = left_out f (λ u. u.number) same number

-- ---- subscribers of a state flow

module _ {R T : Type 0} (f : Member R → StateSubscriber T) (same : (member : Member R) → (f member).number ≡ member.number) (number : ℕ) where
  abbrev pub state_subscriber_with : R → StateSubscriber T
  state_subscriber_with row = f (record { number = number; row = row })

  pub last_of-row : (members : List (Member R)) → last_got_by number (map f members) ≡ option_map (λ row. (state_subscriber_with row).last) (row_of number members)
  last_of-row members =
      looked_up f (λ u. u.number) same number (last_got_by number) (λ u. Some u.last) None refl (λ u us. refl) members
      ∙ mapped_some (λ row. (state_subscriber_with row).last) (row_of number members)

  pub with_last-row : (value : T) (old new : R) → state_subscriber_with new ≡ record (state_subscriber_with old) { last = Some value } → (members : List (Member R)) → row_of number members ≡ Some old
      → with_last number value (map f members) ≡ map f (with_row number new members)
  with_last-row value old new got members there = changed f (λ u. u.number) same number (with_last number value) (λ u. record u { last = Some value }) (λ u us. refl) old new got members there

  pub without_subscriber-row : (members : List (Member R)) → without_subscriber number (map f members) ≡ map f (without_number number members)
  without_subscriber-row = left_out f (λ u. u.number) same number
