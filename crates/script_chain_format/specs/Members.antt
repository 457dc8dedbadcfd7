-- What the members of a JSON object say: numbers, texts, and the version of a script.
use Rattle.std.specs.Prelude.{ℕ, ◌^◌, Bool, true, false, ◌==◌, ◌&&◌, nat_lt, if◌then◌else◌, ℤ, List, [], ◌∷◌, Option, Some, None, option_and_then, codes}
use Rattle.std.specs.Option.{option_map_or}
use Rattle.std.specs.List.{list_any}
use Rattle.std.specs.Str.{bytes_eq}
use Rattle.serde_json.specs.Data.{Data, Members, no_members, member}
use Rattle.serde_json.specs.Find.{get, as_number, as_u64, as_i64, as_str, as_object}
use Rattle.script_chain_format.specs.declared.reading.version.Version.{Version}
use Rattle.script_chain_format.specs.declared.reading.version.Version.TheVariants.{One, Two}

-- ---- numbers and texts

-- the number of a member, if it is below 2^64 and not negative
abbrev pub u64_at : List ℕ → Data → Option ℕ
u64_at key d = option_and_then as_u64 (option_and_then as_number (get key d))

-- the number of a member, if it is below 2^32 and not negative
abbrev pub u32_at : List ℕ → Data → Option ℕ
u32_at key d = option_and_then (λ n. if nat_lt n (2 ^ 32) then Some n else None) (u64_at key d)

-- the number of a member, if it is a whole number from -2^63 to 2^63 - 1
abbrev pub i64_at : List ℕ → Data → Option ℤ
i64_at key d = option_and_then as_i64 (option_and_then as_number (get key d))

-- the text of a member
abbrev pub text_at : List ℕ → Data → Option (List ℕ)
text_at key d = option_and_then as_str (get key d)

-- whether the key of each member is one of these
abbrev pub are_among : List (List ℕ) → Members → Bool
are_among keys no_members = true
are_among keys (member key value ms) = list_any (bytes_eq key) keys && are_among keys ms

-- whether the data is an object whose keys are all among these
abbrev pub has_only : List (List ℕ) → Data → Bool
has_only keys d = option_map_or (are_among keys) (as_object d) false

-- the option, if the test is true; otherwise none
abbrev pub where_true : {A : Type 0} → Bool → Option A → Option A
where_true test o = if test then o else None

-- the value of the key, in an object that has no other key
abbrev pub only_at : List ℕ → Data → Option Data
only_at key d = where_true (has_only (key ∷ []) d) (get key d)

-- ---- versions

-- the version with this number, if there is one
abbrev pub version_numbered : ℕ → Option Version
version_numbered number = if number == 1 then Some One else (if number == 2 then Some Two else None)

-- the version under the key `version`
abbrev pub version_of : Data → Option Version
version_of d = option_and_then version_numbered (u64_at (codes "version") d)
