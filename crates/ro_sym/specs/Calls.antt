-- The call table of an executable, or the code by which its symbols are refused.
use Rattle.std.specs.Prelude.{ℕ, Bool, true, false, ◌&&◌, List, [], ◌∷◌, ◌++◌, Option, Some, None, Result, Ok, Err, map, ◌==◌, if◌then◌else◌}
use Rattle.std.specs.List.{list_all}
use Rattle.ro_elf.specs.declared.header.SectionTable.{SectionTable}
use Rattle.ro_event.specs.declared.table.CallTable.{CallTable}
use Rattle.ro_event.specs.Functions.{names}
use Rattle.ro_sym.specs.Sections.{SymbolTable, symbols_of}
use Rattle.ro_sym.specs.Symbols.{symbol_in, are_ended, place_of}
use Rattle.ro_sym.specs.declared.symbols.Symbol.{Symbol}
use Rattle.ro_sym.specs.declared.symbols.Place.{Place}
use Rattle.ro_sym.specs.declared.symbols.Place.TheVariants.{At, Several}

-- where the functions with each name stand
abbrev pub places_of : (strings : List ℕ) → List Symbol → List Place
places_of strings symbols = map (λ name. place_of strings symbols (name ++ 0 ∷ [])) names

-- functions with one name have one value
abbrev pub is_one : Place → Bool
is_one Several = false
is_one _ = true

-- not both at one value
abbrev pub differs : Place → Place → Bool
differs (At a) (At b) = if a == b then false else true
differs _ _ = true

-- no two of them at one value
abbrev pub are_different : List Place → Bool
are_different [] = true
are_different (place ∷ places) = list_all (differs place) places && are_different places

abbrev pub are_clear : List Place → Bool
are_clear places = list_all is_one places && are_different places

abbrev pub address_of : Place → Option ℕ
address_of (At value) = Some value
address_of _ = None

abbrev pub table_of : List Place → CallTable
table_of places = record { addresses = map address_of places }

-- the table of functions, or the code of the first check that they fail
abbrev pub table_with : (strings : List ℕ) → List Symbol → Result CallTable ℕ
table_with strings symbols =
    if are_ended strings symbols
    then (if are_clear (places_of strings symbols) then Ok (table_of (places_of strings symbols)) else Err 17)
    else Err 16

abbrev pub table_among : Result SymbolTable ℕ → Result CallTable ℕ
table_among (Ok found) = table_with found.strings (map symbol_in found.symbols)
table_among (Err code) = Err code

-- The call table of a file: the value of each of the names of POSIX threads among its function symbols. Code 16, where the
-- symbols and their names aren't as they must be, else 17, where a name has two values or two have one.
unfoldable pub calls_of : List ℕ → SectionTable → Result CallTable ℕ
calls_of bytes sections = table_among (symbols_of bytes sections)
