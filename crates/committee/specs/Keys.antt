-- How a committee file writes the keys of the members.
use Rattle.std.specs.Prelude.{ℕ, ◌+◌, ◌-◌, ◌*◌, ◌==◌, ◌&&◌, ◌||◌, Bool, false, nat_le, List, [], ◌∷◌, length, Option, Some, None, is_none, option_and_then, if◌then◌else◌}
use Rattle.std.specs.List.{list_all, list_any}
use Rattle.std.specs.Str.{bytes_eq}
use Rattle.toml.specs.Data.{Data, as_str}
use Rattle.wire.specs.declared.keys.Key.{Key}

-- a character is a lower-case hexadecimal digit, 0 to 9 or a to f
abbrev pub is_digit : ℕ → Bool
is_digit c = (nat_le 48 c && nat_le c 57) || (nat_le 97 c && nat_le c 102)

-- the value of a hexadecimal digit
abbrev pub digit_value : ℕ → ℕ
digit_value c = if nat_le c 57 then c - 48 else c - 87

-- the bytes that pairs of hexadecimal digits stand for
abbrev pub bytes_of : List ℕ → List ℕ
bytes_of (high ∷ low ∷ rest) = (16 * digit_value high + digit_value low) ∷ bytes_of rest
bytes_of _ = []

-- the key of 32 bytes that a text of 64 hexadecimal digits stands for; None for any other text
abbrev pub key_in : List ℕ → Option Key
key_in text = if length text == 64 && list_all is_digit text then Some (record { 0 = bytes_of text }) else None

-- the key that an element of the list of members stands for; None if it is no text or no key
abbrev pub key_of : Data → Option Key
key_of element = option_and_then key_in (as_str element)

-- an element of the list of members is no key
abbrev pub is_no_key : Data → Bool
is_no_key element = is_none (key_of element)

-- some key occurs twice in this list
abbrev pub repeats : List Key → Bool
repeats [] = false
repeats (key ∷ keys) = list_any (λ other. bytes_eq other.0 key.0) keys || repeats keys
