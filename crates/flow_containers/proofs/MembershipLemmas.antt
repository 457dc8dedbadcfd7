-- How each call on `Members` changes the fields, from what the slab's call ensures.
use Rattle.std.proofs.Common.{inl, inr, ◌≡◌, ◌⊎◌, ℕ, ◌+◌, ◌<◌, ◌≤◌, [], ◌∷◌, ◌++◌, map, length, Some, None, is_some, refl, sym, ap, ◌∙◌, arith, subst}
use Rattle.std.proofs.Math.ListN.{get_or-map}
use Rattle.std.proofs.Math.Seq.{map-set_same}
use Rattle.std.proofs.lemmas.Bool.{cases_eq}
use Rattle.std.proofs.lemmas.List.{length_push}
use Rattle.slab.specs.Slab.{Slab, get, slab_len, with_value, Updates}
use Rattle.slab.proofs.SlabLemmas.{Updates-with_value}
use Rattle.flow_law.specs.laws.Laws.{RisesTo}
use Rattle.flow_containers.specs.declared.members.Member.{Member}
use Rattle.flow_containers.specs.declared.members.Members.TheInside.{Inside}
use Rattle.flow_containers.specs.Members.{member_numbers, row_of, member_with, with_row, without_number, take_out, seek, member_number, number_at_key, EntersAt, OthersStay, membership_of, HasSoundNumbers}
use Rattle.flow_containers.proofs.SlotLemmas.{IsFree, seek_is, seek_number, free_here, free_new, distinct_put, distinct_gone, seek_put, seek_gone, slab_len-with_value}
use Rattle.flow_containers.proofs.MemberLemmas.{length-with_row, length-take_out}
use Rattle.flow_containers.proofs.FoundLemmas.{found_to-rises, row_absent, row_found, found_to-insert, found_to-gone, found_to-taken, found_to-replaced}

-- a `&mut` that is lent under one name, with its result described by two equal functions
pub lent_alike : {N W V E : Type 0} (name : N) (f g : W → V) → ((w : W) → f w ≡ g w) → ◌≡◌ {A = (N × (W → V)) ⊎ E} (inl (name, f)) (inl (name, g))
lent_alike name f g alike = λ i. inl (name, λ w. alike w i)

-- the number at a key is that of the member in its slot
at_key : {R : Type 0} (slab : Slab (Member R)) (key : ℕ) → number_at_key (map member_number slab.slots) key ≡ member_number (get slab key)
at_key slab key = get_or-map member_number slab.slots key None

module _ {R A : Type 0} where
  abbrev pub fields : Slab (Member R) → ℕ → Inside R A
  fields slab last = record { slab = slab; last = last }

  abbrev pub with_slab : Inside R A → Slab (Member R) → Inside R A
  with_slab s new = fields new s.last

  has_numbers : (s : Inside R A) (n : ℕ) (x : Member R) → seek n s.slab.slots ≡ Some x → x.number ≡ n
  has_numbers s = seek_number s.slab

  -- the numbers rise, up to the last
  pub rises : (s : Inside R A) → RisesTo 0 (member_numbers (membership_of s).members) s.last
  rises s = found_to-rises (λ n. seek n s.slab.slots) s.last (has_numbers s)

  none_past : (s : Inside R A) → HasSoundNumbers s → (n : ℕ) → s.last < n → seek n s.slab.slots ≡ None
  none_past s sound n past = seek_is s.slab n None sound.distinct (λ k x at same. absurd (omega (arith, (sound.within k x at).1, same, past)))

  -- ---- one subscriber

  pub row_at : (s : Inside R A) (key n : ℕ) (x : Member R) → HasSoundNumbers s → get s.slab key ≡ Some x → x.number ≡ n → row_of n (membership_of s).members ≡ Some x.row
  row_at s key n x sound at same =
      let within = sound.within key x at in
      row_found (λ n. seek n s.slab.slots) n s.last x (has_numbers s) (omega (arith, within.0, same)) (omega (arith, within.1, same))
      (seek_is s.slab n (Some x) sound.distinct (key, at, same))

  pub row_none : (s : Inside R A) (n : ℕ) → HasSoundNumbers s → ((key : ℕ) (x : Member R) → get s.slab key ≡ Some x → x.number ≡ n → ⊥) → row_of n (membership_of s).members ≡ None
  row_none s n sound none = row_absent (λ n. seek n s.slab.slots) n s.last (has_numbers s) (seek_is s.slab n None sound.distinct none)

  -- a greater capacity does not change the model
  pub reserved_sound : (s : Inside R A) (new : Slab (Member R)) → HasSoundNumbers s → new ≡ record s.slab { capacity = new.capacity } → HasSoundNumbers (with_slab s new)
  reserved_sound s new sound same = subst (λ slab. HasSoundNumbers (with_slab s slab)) (sym same) (record { distinct = sound.distinct; within = sound.within; count = sound.count })

  -- ---- one more

  module _ (s : Inside R A) (new : Slab (Member R)) (key number : ℕ) (row : R) (sound : HasSoundNumbers s) (above : s.last < number) (vacant : get s.slab key ≡ None)
      (put : Updates s.slab new key (Some (record { number = number; row = row }))) where
    new_is_free : IsFree s.slab key number
    new_is_free = free_new s.slab key number vacant (λ k y at same. absurd (omega (arith, (sound.within k y at).1, same, above)))

    pub inserted : (membership_of (fields new number)).members ≡ (membership_of s).members ++ record { number = number; row = row } ∷ []
    inserted =
        found_to-insert (λ n. seek n s.slab.slots) (λ n. seek n new.slots) s.last (record { number = number; row = row }) above (none_past s sound)
        (seek_put s.slab new key (record { number = number; row = row }) sound.distinct new_is_free put)

    -- the new subscriber's key
    pub entered : EntersAt number key (membership_of s).by_key (membership_of (fields new number)).by_key
    entered = (
      at_key s.slab key ∙ ap member_number vacant,
      at_key new key ∙ ap member_number put.changed,
      λ other differs. at_key new other ∙ ap member_number (put.others other differs) ∙ sym (at_key s.slab other),
    )

    pub inserted_sound : slab_len new ≡ slab_len s.slab + 1 → HasSoundNumbers (fields new number)
    inserted_sound longer = record {
      distinct = distinct_put s.slab new key (record { number = number; row = row }) sound.distinct new_is_free put;
      within = bounded;
      count = longer ∙ ap (λ k. k + 1) sound.count ∙ sym (length_push (membership_of s).members (record { number = number; row = row })) ∙ sym (ap length inserted);
    }
      where
        bounded : (k : ℕ) (x : Member R) → get new k ≡ Some x → (0 < x.number) × (x.number ≤ number)
        bounded k x at =
            elim (cases_eq k key) [
              | inl is ↦
                  let same : Some (record { number = number; row = row }) ≡ Some x = sym put.changed ∙ ap (get new) (sym is) ∙ at in
                  let member : Member R = record { number = number; row = row } in
                  let member_is : member ≡ x = cc in
                  let number_is : number ≡ x.number = ap (λ (s : Member R). s.number) member_is in
                  (omega (arith, number_is, above), omega (arith, number_is))
              | inr differs ↦
                  let was = sound.within k x (sym (put.others k differs) ∙ at) in
                  (was.0, omega (arith, was.1, above))
            ]

  -- ---- one changed

  module _ (s : Inside R A) (key : ℕ) (x : Member R) (row : R) (sound : HasSoundNumbers s) (at : get s.slab key ≡ Some x) where
    written : Updates s.slab (with_value s.slab key (member_with row x)) key (Some (member_with row x))
    written = Updates-with_value s.slab key (member_with row x) (ap is_some at)

    pub replaced : (membership_of (with_slab s (with_value s.slab key (member_with row x)))).members ≡ with_row x.number row (membership_of s).members
    replaced =
        found_to-replaced (λ n. seek n s.slab.slots) (λ n. seek n (with_value s.slab key (member_with row x)).slots) x row s.last (has_numbers s)
        (seek_is s.slab x.number (Some x) sound.distinct (key, at, refl))
        (seek_put s.slab (with_value s.slab key (member_with row x)) key (member_with row x) sound.distinct (free_here s.slab key x sound.distinct at) written)

    pub replaced_sound : HasSoundNumbers (with_slab s (with_value s.slab key (member_with row x)))
    replaced_sound = record {
      distinct = distinct_put s.slab _ key (member_with row x) sound.distinct (free_here s.slab key x sound.distinct at) written;
      within = bounded;
      count = slab_len-with_value s.slab key x (member_with row x) at ∙ sound.count ∙ sym (length-with_row x.number row (membership_of s).members) ∙ sym (ap length replaced);
    }
      where
        bounded : (k : ℕ) (y : Member R) → get (with_value s.slab key (member_with row x)) k ≡ Some y → (0 < y.number) × (y.number ≤ s.last)
        bounded k y there =
            elim (cases_eq k key) [
              | inl is ↦
                  let same : Some (member_with row x) ≡ Some y = sym written.changed ∙ ap (get (with_value s.slab key (member_with row x))) (sym is) ∙ there in
                  let member : Member R = member_with row x in
                  let member_is : member ≡ y = cc in
                  let number_is : x.number ≡ y.number = ap (λ (s : Member R). s.number) member_is in
                  let was = sound.within key x at in
                  (omega (arith, number_is, was.0), omega (arith, number_is, was.1))
              | inr differs ↦ sound.within k y (sym (written.others k differs) ∙ there)
            ]

    same_keys : map member_number (with_value s.slab key (member_with row x)).slots ≡ map member_number s.slab.slots
    same_keys = map-set_same member_number s.slab.slots key (Some (member_with row x)) None (sym (ap member_number at))

    -- the number as the caller has it
    pub rewritten_membership : (number : ℕ) → x.number ≡ number → membership_of (with_slab s (with_value s.slab key (member_with row x))) ≡ record (membership_of s) { members = with_row number row (membership_of s).members }
    rewritten_membership number same =
        let members = replaced ∙ ap (λ n. with_row n row (membership_of s).members) same in
        λ i. record { members = members i; last = s.last; by_key = same_keys i }

  -- ---- one less

  module _ (s : Inside R A) (new : Slab (Member R)) (key : ℕ) (x : Member R) (sound : HasSoundNumbers s) (at : get s.slab key ≡ Some x) (gone : Updates s.slab new key None) where
    pub removed : (membership_of (with_slab s new)).members ≡ without_number x.number (membership_of s).members
    removed =
        found_to-gone (λ n. seek n s.slab.slots) (λ n. seek n new.slots) x.number s.last (has_numbers s) (seek_gone s.slab new key x sound.distinct at gone)

    pub taken_out : (membership_of (with_slab s new)).members ≡ take_out x.number (membership_of s).members
    taken_out =
        found_to-taken (λ n. seek n s.slab.slots) (λ n. seek n new.slots) x.number s.last (has_numbers s) (seek_gone s.slab new key x sound.distinct at gone)

    pub others_stay : (number : ℕ) → x.number ≡ number → OthersStay number (membership_of s).by_key (membership_of (with_slab s new)).by_key
    others_stay number same k other =
        elim (cases_eq k key) [
          | inl is ↦ absurd (other (at_key s.slab k ∙ ap (λ j. member_number (get s.slab j)) is ∙ ap member_number at ∙ ap Some same))
          | inr differs ↦ at_key new k ∙ ap member_number (gone.others k differs) ∙ sym (at_key s.slab k)
        ]

    pub removed_sound : slab_len new + 1 ≡ slab_len s.slab → HasSoundNumbers (with_slab s new)
    removed_sound shorter =
        let fewer : length (take_out x.number (membership_of s).members) + 1 ≡ length (membership_of s).members = length-take_out x.number x.row (membership_of s).members (row_at s key x.number x sound at refl) in
        let listed : length (membership_of (with_slab s new)).members ≡ length (take_out x.number (membership_of s).members) = ap length taken_out in
        record {
          distinct = distinct_gone s.slab new key sound.distinct gone;
          within = bounded;
          count = omega (arith, shorter, fewer, listed, sound.count);
        }
      where
        bounded : (k : ℕ) (y : Member R) → get new k ≡ Some y → (0 < y.number) × (y.number ≤ s.last)
        bounded k y there =
            elim (cases_eq k key) [
              | inl is ↦ let none : get new k ≡ None = ap (get new) is ∙ gone.changed in absurd (cc)
              | inr differs ↦ sound.within k y (sym (gone.others k differs) ∙ there)
            ]
