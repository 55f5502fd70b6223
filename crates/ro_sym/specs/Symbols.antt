-- The symbols of functions and of data objects of an ELF32 file, and their names.
use Rattle.std.specs.Prelude.{ℕ, ◌+◌, ◌%◌, Bool, true, ◌&&◌, List, Option, Some, None, drop, find, max, nat_eq, nat_le, nat_lt, ◌==◌, if◌then◌else◌}
use Rattle.std.specs.List.{list_any, list_all, starts_with, before_first}
use Rattle.ro_elf.specs.Numbers.{byte_in, half_in, word_in}
use Rattle.ro_sym.specs.declared.symbols.Kind.{Kind}
use Rattle.ro_sym.specs.declared.symbols.Kind.TheVariants.{Function, Object}
use Rattle.ro_sym.specs.declared.symbols.Symbol.{Symbol}
use Rattle.ro_sym.specs.declared.symbols.Place.{Place}
use Rattle.ro_sym.specs.declared.symbols.Place.TheVariants.{Nowhere, At, Several}

-- a symbol by its 16 bytes
unfoldable pub symbol_in : List ℕ → Symbol
symbol_in entry = record { name = word_in entry 0; value = word_in entry 4; size = word_in entry 8; info = byte_in entry 12; section = half_in entry 14 }

-- the type of the symbols of a kind
abbrev pub type_of : Kind → ℕ
type_of Object = 1
type_of Function = 2

-- of the type of a kind, and defined in a section of the file
abbrev pub is_of : Kind → Symbol → Bool
is_of kind symbol = (symbol.info % 16 == type_of kind) && nat_lt 0 symbol.section

abbrev pub is_function : Symbol → Bool
is_function symbol = is_of Function symbol

-- the string from a place on is ended by a zero byte
abbrev pub is_ended : (strings : List ℕ) → (place : ℕ) → Bool
is_ended strings place = list_any (λ b. b == 0) (drop place strings)

-- the name of a function is
abbrev pub ends : (strings : List ℕ) → Symbol → Bool
ends strings symbol = if is_function symbol then is_ended strings symbol.name else true

abbrev pub are_ended : (strings : List ℕ) → List Symbol → Bool
are_ended strings symbols = list_all (ends strings) symbols

-- the name of a function starts below a place
abbrev pub is_below : (place : ℕ) → Symbol → Bool
is_below place symbol = if is_function symbol then nat_lt symbol.name place else true

-- a function with a name, which is given with the zero byte behind it
abbrev pub is_called : (strings name : List ℕ) → Symbol → Bool
is_called strings name symbol = is_function symbol && starts_with nat_eq (drop symbol.name strings) name

-- a function with the name has the value
abbrev pub agrees : (strings name : List ℕ) → (value : ℕ) → Symbol → Bool
agrees strings name value symbol = if is_called strings name symbol then symbol.value == value else true

-- the one value of the functions with a name, where there are such functions
abbrev pub place_from : (strings name : List ℕ) → List Symbol → Option Symbol → Place
place_from strings name symbols None = Nowhere
place_from strings name symbols (Some first) = if list_all (agrees strings name first.value) symbols then At first.value else Several

abbrev pub place_of : (strings : List ℕ) → List Symbol → (name : List ℕ) → Place
place_of strings symbols name = place_from strings name symbols (find (is_called strings name) symbols)

-- how many bytes a symbol of a kind has: as many as its size says, or one where that is 0 and it is a function
abbrev pub length_of : Kind → Symbol → ℕ
length_of Object symbol = symbol.size
length_of Function symbol = max symbol.size 1

-- the bytes from its value on hold the address
abbrev pub holds : Kind → (address : ℕ) → Symbol → Bool
holds kind address symbol = nat_le symbol.value address && nat_lt address (symbol.value + length_of kind symbol)

-- a symbol of a kind whose bytes hold the address
abbrev pub is_around : Kind → (address : ℕ) → Symbol → Bool
is_around kind address symbol = is_of kind symbol && holds kind address symbol

-- the string from a place on, up to its first zero byte
abbrev pub string_at : (strings : List ℕ) → (place : ℕ) → List ℕ
string_at strings place = before_first (λ b. b == 0) (drop place strings)
