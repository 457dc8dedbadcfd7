-- The bytes that were read have the meaning of all that the reader had.
use Rattle.std.proofs.Common.{◌≡◌, ℕ, ◌<◌, ◌≤◌, true, false, nat_lt, if◌then◌else◌, List, [], ◌++◌, length, take, Option, Some, None, Result, Ok, Err, refl, sym, ap, subst, ◌∙◌, append-nil, length-append, arith}
use Rattle.std.specs.Prelude.{IfSome, IfErr, OnOk, OnErr}
use Rattle.std.specs.Io.KnownBytes.{Consumes, Appends, Keeps, IsAtEnd}
use Rattle.std.proofs.lemmas.Bool.Decides.{nat_tests}
use Rattle.script_chain_format.specs.declared.reading.fault.ScriptFault.{ScriptFault}
use Rattle.script_chain_format.specs.declared.reading.fault.ScriptFault.TheVariants.{OutOfMemory, ReadFailed, WriteFailed, NotJson, BadVersion, BadShape, UnknownName, DuplicateName, TooLarge}
use Rattle.script_chain_format.specs.Results.{Gives, result_map, result_then}
use Rattle.script_format.specs.Checks.{Checked, most_bytes, read_script, script_of, json_of}
use Rattle.flow_script.specs.Cases.{trace_of, traced}
use Rattle.flow_script.specs.ScriptMeaning.{answered, answers_of, script_meaning, text_of}
use Rattle.flow_script.specs.Playing.{Plays}

answers_traced : (r : Result Checked ScriptFault) → result_map (λ s. answers_of s.flows s.steps) r ≡ result_map (λ t. t.answers) (result_map (λ s. trace_of s.flows s.steps) r)
answers_traced (Ok s) = refl
answers_traced (Err fault) = refl

-- a trace has the answers of its script
pub answered_traced : (bytes : List ℕ) → answered bytes ≡ result_map (λ t. t.answers) (traced bytes)
answered_traced bytes = answers_traced (read_script bytes)

below : (n : ℕ) → most_bytes < n → nat_lt most_bytes n ≡ true
below n lt = grind (arith, nat_tests)

too_long : (bytes : List ℕ) → most_bytes < length bytes → read_script bytes ≡ Err (TooLarge 0)
too_long bytes long = ap (λ t. if t then Err (TooLarge 0) else result_then script_of (json_of bytes)) (below (length bytes) long)

-- either all bytes were read, or both are too long
same_script : (input bytes rest : List ℕ) → input ≡ bytes ++ rest → (length bytes ≤ most_bytes → rest ≡ []) → read_script input ≡ read_script bytes
same_script input bytes rest whole end =
    elim (nat_lt most_bytes (length bytes)) as (λ t. nat_lt most_bytes (length bytes) ≡ t → read_script input ≡ read_script bytes) [
      | true ↦ λ e.
          let long : most_bytes < length bytes = grind (arith, nat_tests) in
          let longer : most_bytes < length input = omega (arith, ap length whole, length-append bytes rest) in
          too_long input longer ∙ sym (too_long bytes long)
      | false ↦ λ e.
          let short : length bytes ≤ most_bytes = grind (arith, nat_tests) in
          ap read_script (whole ∙ ap (λ l. bytes ++ l) (end short) ∙ append-nil bytes)
    ] refl

pub same_meaning : (input : List ℕ) (left : Option (List ℕ)) (bytes : List ℕ) → Consumes (Some input) left bytes → (length bytes ≤ most_bytes → IsAtEnd left)
    → script_meaning input ≡ script_meaning bytes
same_meaning input None bytes taken end = absurd taken
same_meaning input (Some rest) bytes taken end = ap (λ r. result_map text_of (result_map (λ script. answers_of script.flows script.steps) r)) (same_script input bytes rest taken end)

pub meant : (known left : Option (List ℕ)) (bytes : List ℕ) (r : Result (List ℕ) ScriptFault) → Consumes known left bytes → (length bytes ≤ most_bytes → IsAtEnd left)
    → script_meaning bytes ≡ r → IfSome known (λ input. script_meaning input ≡ r)
meant None left bytes r taken end is = tt
meant (Some input) left bytes r taken end is = same_meaning input left bytes taken end ∙ is

pub keeps_same : (o : Option (List ℕ)) → Keeps o o
keeps_same None = tt
keeps_same (Some xs) = refl

-- ---- the ends of a run

pub plays_ok : (known left old new : Option (List ℕ)) (bytes text : List ℕ) → Consumes known left bytes → (length bytes ≤ most_bytes → IsAtEnd left)
    → script_meaning bytes ≡ Ok text → Appends old new text → IfSome known (λ input. (text : List ℕ) × (script_meaning input ≡ Ok text) × Appends old new text)
plays_ok None left old new bytes text taken end is written = tt
plays_ok (Some input) left old new bytes text taken end is written = (text, same_meaning input left bytes taken end ∙ is, written)

pub plays_front : (known left old new : Option (List ℕ)) (bytes text : List ℕ) (count : ℕ) → Consumes known left bytes → (length bytes ≤ most_bytes → IsAtEnd left)
    → script_meaning bytes ≡ Ok text → Appends old new (take count text)
    → IfSome known (λ input. (text : List ℕ) × (count : ℕ) × (script_meaning input ≡ Ok text) × Appends old new (take count text))
plays_front None left old new bytes text count taken end is written = tt
plays_front (Some input) left old new bytes text count taken end is written = (text, count, same_meaning input left bytes taken end ∙ is, written)

pub plays_refused : (known left old : Option (List ℕ)) (bytes : List ℕ) (fault : ScriptFault) → Consumes known left bytes → (length bytes ≤ most_bytes → IsAtEnd left)
    → Gives (script_meaning bytes) (Err fault) → Plays known old old (Err fault)
plays_refused known left old bytes OutOfMemory taken end is = keeps_same old
plays_refused known left old bytes ReadFailed taken end is = absurd is
plays_refused known left old bytes WriteFailed taken end is = absurd is
plays_refused known left old bytes NotJson taken end is = (meant known left bytes _ taken end is, keeps_same old)
plays_refused known left old bytes BadVersion taken end is = (meant known left bytes _ taken end is, keeps_same old)
plays_refused known left old bytes (BadShape at) taken end is = (meant known left bytes _ taken end is, keeps_same old)
plays_refused known left old bytes (UnknownName at) taken end is = (meant known left bytes _ taken end is, keeps_same old)
plays_refused known left old bytes (DuplicateName at) taken end is = (meant known left bytes _ taken end is, keeps_same old)
plays_refused known left old bytes (TooLarge at) taken end is = (meant known left bytes _ taken end is, keeps_same old)

-- all of the text was written, or a first part of it
pub plays_written : (known left old new : Option (List ℕ)) (bytes text : List ℕ) (r : Result (Unit {0}) ScriptFault) → Consumes known left bytes → (length bytes ≤ most_bytes → IsAtEnd left)
    → script_meaning bytes ≡ Ok text → OnOk r (Appends old new text) → OnErr r ((count : ℕ) × Appends old new (take count text)) → IfErr r (λ fault. fault ≡ WriteFailed) → Plays known old new r
plays_written known left old new bytes text (Ok u) taken end is whole front fault = plays_ok known left old new bytes text taken end is whole
plays_written known left old new bytes text (Err f) taken end is whole front fault =
    subst (λ f. Plays known old new (Err f)) (sym fault) (plays_front known left old new bytes text front.0 taken end is front.1)
