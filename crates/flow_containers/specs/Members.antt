-- Subscribers in a slab, seen as a list in the order of their numbers, and by key. No public clause cites this module.
--   slots      None   Some 7   Some 2   None   Some 5      by key
--   members      2  5  7                                     by number
--   by_key     None   Some 7   Some 2   None   Some 5      only the numbers
-- Begin with `Membership`. The key facts on it are in proofs/MemberLemmas.
use Rattle.std.specs.Prelude.{◌≡◌, ◌≢◌, ℕ, zero, suc, ◌<◌, ◌≤◌, ◌==◌, not, if◌then◌else◌, [], ◌∷◌, ◌++◌, List, map, filter, length, Option, Some, None, slice_index_or}
use Rattle.std.specs.Option.{option_map}
use Rattle.slab.specs.Slab.{get, slab_len}
use Rattle.flow_containers.specs.declared.members.Member.{Member}
use Rattle.flow_containers.specs.declared.members.Members.TheInside.{Inside}

-- the subscribers in the order of their numbers, the greatest number that a subscriber has had, and the number at each key
pub record Membership (R : Type 0) : Type 0 where
  pub members : List (Member R)
  pub last : ℕ
  pub by_key : List (Option ℕ)

-- the number of the subscriber at a key
abbrev pub number_at_key : List (Option ℕ) → ℕ → Option ℕ
number_at_key by_key key = slice_index_or by_key key None

-- the new subscriber gets this key, which was free; every other subscriber keeps its key
abbrev pub EntersAt : ℕ → ℕ → List (Option ℕ) → List (Option ℕ) → Type 0
EntersAt number key old new =
    (number_at_key old key ≡ None) × (number_at_key new key ≡ Some number)
    × ((other : ℕ) → other ≢ key → number_at_key new other ≡ number_at_key old other)

-- every other subscriber keeps its key
abbrev pub OthersStay : ℕ → List (Option ℕ) → List (Option ℕ) → Type 0
OthersStay number old new = (key : ℕ) → number_at_key old key ≢ Some number → number_at_key new key ≡ number_at_key old key

module _ {R : Type 0} where
  -- the numbers of the members
  abbrev pub member_numbers : List (Member R) → List ℕ
  member_numbers = map (λ member. member.number)

  -- what is kept about the subscriber of this number, or `None`
  abbrev pub row_of : ℕ → List (Member R) → Option R
  row_of number [] = None
  row_of number (member ∷ members) = if member.number == number then Some member.row else row_of number members

  -- the member with another row
  abbrev pub member_with : R → Member R → Member R
  member_with row member = record { number = member.number; row = row }

  -- the members, with this row for the subscriber of this number
  abbrev pub with_row : ℕ → R → List (Member R) → List (Member R)
  with_row number row [] = []
  with_row number row (member ∷ members) = if member.number == number then member_with row member ∷ members else member ∷ with_row number row members

  -- the members whose number is another one
  abbrev pub without_number : ℕ → List (Member R) → List (Member R)
  without_number number = filter (λ member. not (member.number == number))

  -- the members without the first one of this number
  abbrev pub take_out : ℕ → List (Member R) → List (Member R)
  take_out number [] = []
  take_out number (member ∷ members) = if member.number == number then members else member ∷ take_out number members

  -- ---- the slab as a list in the order of numbers

  -- the member of the first slot with this number
  abbrev pub seek : ℕ → List (Option (Member R)) → Option (Member R)
  seek number [] = None
  seek number (None ∷ slots) = seek number slots
  seek number (Some member ∷ slots) = if member.number == number then Some member else seek number slots

  -- the member as a list of at most one
  abbrev pub listed : Option (Member R) → List (Member R)
  listed None = []
  listed (Some member) = member ∷ []

  -- the members that are found for the numbers from 1 to n, in this order
  abbrev pub found_to : (ℕ → Option (Member R)) → ℕ → List (Member R)
  found_to find zero = []
  found_to find (suc n) = found_to find n ++ listed (find (suc n))

  -- the number of the member of a slot
  abbrev pub member_number : Option (Member R) → Option ℕ
  member_number = option_map (λ member. member.number)

  -- the members in the order of their numbers, and which key each has
  abbrev pub membership_of : {A : Type 0} → Inside R A → Membership R
  membership_of s = record { members = found_to (λ number. seek number s.slab.slots) s.last; last = s.last; by_key = map member_number s.slab.slots }

  -- no two keys have the same number, and no number is 0 or above the last one
  pub record HasSoundNumbers {A : Type 0} (s : Inside R A) : Type 0 where
    pub distinct : (a b : ℕ) (x y : Member R) → get s.slab a ≡ Some x → get s.slab b ≡ Some y → x.number ≡ y.number → a ≡ b
    pub within : (key : ℕ) (member : Member R) → get s.slab key ≡ Some member → (0 < member.number) × (member.number ≤ s.last)
    pub count : slab_len s.slab ≡ length (membership_of s).members
