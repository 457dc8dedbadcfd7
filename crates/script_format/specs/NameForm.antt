-- The form of the names of flows, subscribers and emissions.
use Rattle.std.specs.Prelude.{ℕ, Bool, ◌&&◌, ◌||◌, ◌==◌, nat_lt, nat_le, List, length, Option, Some, option_and_then}
use Rattle.std.specs.List.{list_all}
use Rattle.serde_json.specs.Data.{Data}
use Rattle.script_chain_format.specs.Members.{text_at, where_true}

-- whether the byte is a to z, 0 to 9, or _
abbrev pub is_name_byte : ℕ → Bool
is_name_byte b = (nat_le 97 b && nat_le b 122) || (nat_le 48 b && nat_le b 57) || (b == 95)

-- whether the text is a name: 1 to 32 of these bytes
abbrev pub is_name : List ℕ → Bool
is_name bs = nat_lt 0 (length bs) && nat_le (length bs) 32 && list_all is_name_byte bs

-- the text of a key, if it has the form of a name
abbrev pub name_at : List ℕ → Data → Option (List ℕ)
name_at key d = option_and_then (λ name. where_true (is_name name) (Some name)) (text_at key d)
