-- What the JSON text of a source says: a list, a range, or a script of items, pending turns and faults.
-- Begin with `source_in`.
use Rattle.std.specs.Prelude.{ℕ, Bool, nat_lt, if◌then◌else◌, ℤ, List, [], ◌∷◌, length, Option, Some, None, option_map, option_and_then, Result, Ok, Err, codes}
use Rattle.std.specs.Option.{option_map_or}
use Rattle.std.specs.Str.{bytes_eq}
use Rattle.serde_json.specs.Data.{Data, Items, no_items, item}
use Rattle.serde_json.specs.Find.{as_number, as_i64, as_str, as_array}
use Rattle.flow_law.specs.chain.ChainRun.{ChainRun, list_run}
use Rattle.flow_operators.specs.declared.sources.scripted.Entry.{Entry}
use Rattle.flow_operators.specs.declared.sources.scripted.Entry.TheVariants as entry
use Rattle.flow_operators.specs.Sources.{range_run, scripted_run, span}
use Rattle.script_chain_format.specs.declared.reading.fault.ScriptFault.{ScriptFault}
use Rattle.script_chain_format.specs.declared.reading.fault.ScriptFault.TheVariants.{BadShape, TooLarge}
use Rattle.script_chain_format.specs.Members.{u32_at, has_only, only_at, where_true}
use Rattle.script_chain_format.specs.Results.{result_then, result_map, or_fault}

-- ---- limits

-- the most items of a list, entries of a scripted source, and numbers of a range
abbrev pub most_items : ℕ
most_items = 10000

-- the value, or `TooLarge` if the count is more than the most that is allowed
abbrev pub within : {A : Type 0} → ℕ → ℕ → ℕ → A → Result A ScriptFault
within at most count a = if nat_lt most count then Err (TooLarge at) else Ok a

-- the data as a whole number of 64 bits with a sign, if it is one
abbrev pub whole_number : Data → Option ℤ
whole_number d = option_and_then as_i64 (as_number d)

-- what f gives for each of the values, if it gives something for all of them
abbrev pub each_of : {X : Type 0} → (Data → Option X) → Items → Option (List X)
each_of f no_items = Some []
each_of f (item d ds) = option_and_then (λ x. option_map (λ xs. x ∷ xs) (each_of f ds)) (f d)

-- the values as whole numbers, if all of them are
abbrev pub whole_numbers : Items → Option (List ℤ)
whole_numbers ds = each_of whole_number ds

-- the entry of a value: an item, a pending turn, or a fault
abbrev pub entry_in : Data → Option (Entry ℤ)
entry_in d =
    option_map_or (λ x. Some (entry.Item x)) (whole_number d)
    (option_map_or (λ text. where_true (bytes_eq text (codes "pending")) (Some entry.Pending)) (as_str d)
    (where_true (has_only (codes "fault" ∷ []) d) (option_map entry.Fault (u32_at (codes "fault") d))))

-- the values as entries of a scripted source, if all of them are
abbrev pub entries_of : Items → Option (List (Entry ℤ))
entries_of ds = each_of entry_in ds

-- the values as whole numbers; more than the most that is allowed are too large
abbrev pub whole_numbers_of : ℕ → ℕ → Items → Result (List ℤ) ScriptFault
whole_numbers_of at most ds = result_then (λ xs. within at most (length xs) xs) (or_fault (BadShape at) (whole_numbers ds))

-- the whole numbers of a list; more than the most that is allowed are too large
abbrev pub numbers_in : ℕ → ℕ → Data → Result (List ℤ) ScriptFault
numbers_in at most d = result_then (whole_numbers_of at most) (or_fault (BadShape at) (as_array d))

-- a source that gives a list of numbers
abbrev pub list_source : ℕ → Data → Result (ChainRun ℤ) ScriptFault
list_source at d = result_map list_run (numbers_in at most_items d)

-- the first and the last number of a range
abbrev pub bounds_of : Items → Option (ℤ × ℤ)
bounds_of (item first (item last no_items)) = option_and_then (λ a. option_map (λ b. (a, b)) (whole_number last)) (whole_number first)
bounds_of _ = None

-- whether a range has more numbers than a source may have
abbrev pub is_too_long : ℤ → ℤ → Bool
is_too_long first last = nat_lt most_items (span first last)

-- a source that gives the numbers from the first to the last
abbrev pub range_source : ℕ → Data → Result (ChainRun ℤ) ScriptFault
range_source at d = result_then (λ b. if is_too_long b.0 b.1 then Err (TooLarge at) else Ok (range_run b.0 b.1)) (or_fault (BadShape at) (option_and_then bounds_of (as_array d)))

-- the values as entries of a source; more than a source may have are too large
abbrev pub entries_in : ℕ → Items → Result (List (Entry ℤ)) ScriptFault
entries_in at ds = result_then (λ es. within at most_items (length es) es) (or_fault (BadShape at) (entries_of ds))

-- a source that gives items, pends and fails as its entries say
abbrev pub scripted_source : ℕ → Data → Result (ChainRun ℤ) ScriptFault
scripted_source at d = result_map scripted_run (result_then (entries_in at) (or_fault (BadShape at) (as_array d)))

-- the source of an object with one key, which says its kind
abbrev pub source_in : ℕ → Data → Result (ChainRun ℤ) ScriptFault
source_in at d =
    option_map_or (list_source at) (only_at (codes "of") d)
    (option_map_or (range_source at) (only_at (codes "range") d)
    (option_map_or (scripted_source at) (only_at (codes "script") d) (Err (BadShape at))))
