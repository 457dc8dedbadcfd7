-- What the program's arguments say.
use Rattle.std.specs.Prelude.{ℕ, leb, ◌&&◌, cond, List, [], ◌∷◌, length, Option, Some, None, option_map, String, codes, string_bytes, bytes_eq}
use Rattle.std.specs.Option.{option_or}
use Rattle.std.specs.Str.{all_ascii_digits}
use Rattle.std.specs.Str.Parse.{digits_value}
use Rattle.flow_program.specs.Counting.{Counting, count_size}
use Rattle.flow_program.specs.CrowdSizes.{crowd_size}
use Rattle.flow_program.specs.declared.crowd.size.CrowdSize.{CrowdSize}

-- the number that one to five ASCII digits write
abbrev pub number_written : List ℕ → Option ℕ
number_written text = cond (leb 1 (length text) && (leb (length text) 5 && all_ascii_digits text)) (Some (digits_value 10 text)) None

-- what the program does instead of playing a script
pub data Command : Type 0 where
  Crowd : CrowdSize → Command
  Count : Counting → Command

-- a crowd of three numbers: emitters, subscribers, and values of each emitter
abbrev pub crowd_sized : Option ℕ → Option ℕ → Option ℕ → Option CrowdSize
crowd_sized (Some emitters) (Some subscribers) (Some values) = crowd_size emitters subscribers values
crowd_sized _ _ _ = None

-- a count of two numbers: threads, and updates of each thread
abbrev pub count_sized : Option ℕ → Option ℕ → Option Counting
count_sized (Some threads) (Some updates) = count_size threads updates
count_sized _ _ = None

module _ {A : Type 0} where
  -- the crowd of the word `crowd` and three numbers
  abbrev pub crowd_of : List (String A) → Option CrowdSize
  crowd_of (command ∷ emitters ∷ subscribers ∷ values ∷ []) =
      cond (bytes_eq (string_bytes command) (codes "crowd"))
      (crowd_sized (number_written (string_bytes emitters)) (number_written (string_bytes subscribers)) (number_written (string_bytes values))) None
  crowd_of _ = None

  -- the count of the word `count` and two numbers
  abbrev pub counting_of : List (String A) → Option Counting
  counting_of (command ∷ threads ∷ updates ∷ []) =
      cond (bytes_eq (string_bytes command) (codes "count"))
      (count_sized (number_written (string_bytes threads)) (number_written (string_bytes updates))) None
  counting_of _ = None

  -- a crowd or a count; no arguments name both
  abbrev pub command_in : List (String A) → Option Command
  command_in args = option_or (option_map Crowd (crowd_of args)) (option_map Count (counting_of args))
