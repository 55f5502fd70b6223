-- The symbols of a made file and their names.
use Rattle.std.specs.Prelude.{ℕ, ◌+◌, ◌-◌, ◌%◌, List, [], ◌∷◌, ◌++◌, length, replicate, flat_map}
use Rattle.std.specs.Int.{w16, w32, to_le_bytes}

-- two bytes of a number, and four, the lowest first
abbrev pub half : ℕ → List ℕ
half n = to_le_bytes w16 n

abbrev pub word : ℕ → List ℕ
word n = to_le_bytes w32 n

-- a function and its address
pub record Name : Type 0 where
  pub text : List ℕ
  pub value : ℕ

abbrev pub named : List ℕ → ℕ → Name
named text value = record { text = text; value = value }

-- a symbol: its name's place among the strings, its value, no size, a global function, of section 1
unfoldable pub symbol_of : (place value : ℕ) → List ℕ
symbol_of place value = word place ++ word value ++ word 0 ++ 18 ∷ 0 ∷ half 1

-- the symbols of names whose strings begin at a place
abbrev pub symbols_from : (place : ℕ) → List Name → List ℕ
symbols_from place [] = []
symbols_from place (name ∷ names) = symbol_of place name.value ++ symbols_from (place + (length name.text + 1)) names

-- a symbol of zeros, and those of the names
abbrev pub symbols_of : List Name → List ℕ
symbols_of names = replicate 16 0 ++ symbols_from 1 names

-- a text and a zero byte
abbrev pub string_of : Name → List ℕ
string_of name = name.text ++ 0 ∷ []

-- a zero byte and the strings of the names
abbrev pub texts_of : List Name → List ℕ
texts_of names = 0 ∷ flat_map string_of names

-- how many bytes are left to a multiple of 4
abbrev pub padding_of : (count : ℕ) → ℕ
padding_of count = (4 - count % 4) % 4

-- the strings up to a multiple of 4
abbrev pub strings_of : List Name → List ℕ
strings_of names = texts_of names ++ replicate (padding_of (length (texts_of names))) 0
