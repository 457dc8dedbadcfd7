-- Results that may be a fault of the script, which of two faults comes first, and what a reader gives.
use Rattle.std.specs.Prelude.{◌≡◌, Bool, true, false, Option, Result, Ok, Err}
use Rattle.std.specs.Option.{option_map_or}
use Rattle.script_chain_format.specs.declared.reading.fault.ScriptFault.{ScriptFault}
use Rattle.script_chain_format.specs.declared.reading.fault.ScriptFault.TheVariants.{OutOfMemory, ReadFailed, WriteFailed, NotJson, BadVersion, BadShape, UnknownName, DuplicateName, TooLarge}

-- applies a function that may fail to what was read; keeps a fault
abbrev pub result_then : {A B : Type 0} → (A → Result B ScriptFault) → Result A ScriptFault → Result B ScriptFault
result_then follow (Ok a) = follow a
result_then follow (Err fault) = Err fault

-- applies a function to what was read; keeps a fault
abbrev pub result_map : {A B : Type 0} → (A → B) → Result A ScriptFault → Result B ScriptFault
result_map f (Ok a) = Ok (f a)
result_map f (Err fault) = Err fault

-- what was read, or this fault if nothing was
abbrev pub or_fault : {A : Type 0} → ScriptFault → Option A → Result A ScriptFault
or_fault fault o = option_map_or (λ a. Ok a) o (Err fault)

-- ---- faults of one part of a script

-- whether the fault takes precedence over every fault found later in the same part; only a limit does not
abbrev pub comes_first : ScriptFault → Bool
comes_first (TooLarge at) = false
comes_first _ = true

-- whether it is a fault that takes precedence over every fault found later in the same part
abbrev pub is_decisive : {A : Type 0} → Result A ScriptFault → Bool
is_decisive (Ok a) = false
is_decisive (Err fault) = comes_first fault

-- which of two faults, found one after the other in the same part, refuses it: a bad form, or out of memory, comes before a limit
abbrev pub refusing_fault : ScriptFault → ScriptFault → ScriptFault
refusing_fault (TooLarge at) (BadShape k) = BadShape k
refusing_fault (TooLarge at) OutOfMemory = OutOfMemory
refusing_fault fault next = fault

-- which fault refuses a part, by a fault and what is read next, which may be no fault
abbrev pub first_fault : {A : Type 0} → ScriptFault → Result A ScriptFault → ScriptFault
first_fault fault (Ok a) = fault
first_fault fault (Err next) = refusing_fault fault next

-- ---- what a reader gives

-- the result is the meaning, or out of memory
abbrev pub Gives : {A : Type 0} → Result A ScriptFault → Result A ScriptFault → Type 0
Gives meaning (Ok a) = meaning ≡ Ok a
Gives meaning (Err OutOfMemory) = Unit {0}
Gives meaning (Err ReadFailed) = ⊥
Gives meaning (Err WriteFailed) = ⊥
Gives meaning (Err NotJson) = meaning ≡ Err NotJson
Gives meaning (Err BadVersion) = meaning ≡ Err BadVersion
Gives meaning (Err (BadShape at)) = meaning ≡ Err (BadShape at)
Gives meaning (Err (UnknownName at)) = meaning ≡ Err (UnknownName at)
Gives meaning (Err (DuplicateName at)) = meaning ≡ Err (DuplicateName at)
Gives meaning (Err (TooLarge at)) = meaning ≡ Err (TooLarge at)
