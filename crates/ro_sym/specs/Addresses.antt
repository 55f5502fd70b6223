-- The function, or the data object, that an address lies in.
use Rattle.std.specs.Prelude.{ℕ, ◌-◌, List, Option, None, Result, Ok, Err, map, find}
use Rattle.std.specs.Option.{option_map}
use Rattle.ro_elf.specs.declared.header.SectionTable.{SectionTable}
use Rattle.ro_sym.specs.Sections.{SymbolTable, symbols_of}
use Rattle.ro_sym.specs.Symbols.{symbol_in, is_around, string_at}
use Rattle.ro_sym.specs.declared.symbols.Kind.{Kind}
use Rattle.ro_sym.specs.declared.symbols.Kind.TheVariants.{Function, Object}
use Rattle.ro_sym.specs.declared.symbols.Symbol.{Symbol}
use Rattle.ro_sym.specs.declared.addresses.Within.{Within}

-- a symbol's name, and how many bytes behind its start an address lies
pub record Position : Type 0 where
  pub name : List ℕ
  pub offset : ℕ

abbrev pub position_of : Within → Position
position_of within = record { name = within.name.now; offset = within.offset }

abbrev pub position_in : (strings : List ℕ) → (address : ℕ) → Symbol → Position
position_in strings address symbol = record { name = string_at strings symbol.name; offset = address - symbol.value }

abbrev pub position_among : Kind → (address : ℕ) → Result SymbolTable ℕ → Option Position
position_among kind address (Ok found) =
    option_map (position_in found.strings address) (find (is_around kind address) (map symbol_in found.symbols))
position_among kind address (Err code) = None

-- Where an address lies in the symbols of a kind of a file: in the first of its first symbol table whose bytes hold it. None,
-- where there is no such symbol, or the symbols aren't as they must be.
unfoldable pub symbol_over : Kind → List ℕ → SectionTable → (address : ℕ) → Option Position
symbol_over kind bytes sections address = position_among kind address (symbols_of bytes sections)

-- where it lies in the functions of a file
abbrev pub function_over : List ℕ → SectionTable → (address : ℕ) → Option Position
function_over bytes sections address = symbol_over Function bytes sections address

-- where it lies in its data objects
abbrev pub object_over : List ℕ → SectionTable → (address : ℕ) → Option Position
object_over bytes sections address = symbol_over Object bytes sections address
