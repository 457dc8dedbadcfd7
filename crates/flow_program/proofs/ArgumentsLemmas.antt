-- What `parse` reads of a number in the arguments.
use Rattle.std.proofs.Common.{arith, ◌≡◌, ℕ, ◌<◌, ◌≤◌, true, List, length, Result, Ok}
use Rattle.std.specs.Str.{all_ascii_digits}
use Rattle.std.specs.Str.Parse.{ParsesUnsigned, digits_value}
use Rattle.std.proofs.lemmas.Str.Parse.{IsNumeralModel, numerals_by_value, tells_all_ascii_digits, parse_gives, digits_value_short}

digits : IsNumeralModel (λ ds. all_ascii_digits ds ≡ true) (digits_value 10)
digits = numerals_by_value _ tells_all_ascii_digits

-- at most five digits are a number of 32 bits
pub read_short : {E : Type 0} (text : List ℕ) (r : Result ℕ E) → ParsesUnsigned 32 10 text r → all_ascii_digits text ≡ true → 0 < length text → length text ≤ 5 → r ≡ Ok (digits_value 10 text)
read_short text r parses is some short = parse_gives digits 32 text r parses is some (omega (arith, digits_value_short digits text 5 is short))
