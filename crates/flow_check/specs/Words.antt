-- How states are read from words of 32 bits. No public clause cites this module.
use Rattle.std.specs.Prelude.{ℕ, suc, zero, ◌+◌, ◌*◌, ◌-◌, ◌==◌, if◌then◌else◌, List, [], ◌∷◌, drop, slice_index, Option, Some, None}

-- the number that two words encode, the low one first
abbrev pub number_in_words : List ℕ → ℕ
number_in_words words = slice_index words 0 + 4294967296 * slice_index words 1

-- the number that a word encodes: None if the word is 0, else one less than the word
abbrev pub maybe_of : ℕ → Option ℕ
maybe_of word = if word == 0 then None else Some (word - 1)

-- `count` parts, one after another: `part` reads one, and `others` gives the words after it
abbrev pub parts_in_words : {A : Type 0} → (List ℕ → A) → (List ℕ → List ℕ) → ℕ → List ℕ → List A
parts_in_words part others zero words = []
parts_in_words part others (suc count) words = part words ∷ parts_in_words part others count (others words)
