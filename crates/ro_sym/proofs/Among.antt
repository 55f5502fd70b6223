-- The table of the functions that were found.
use Rattle.std.proofs.Common.{◌≡◌, ℕ, List, Ok, Err, map, sym, ap, ◌∙◌}
use Rattle.ro_elf.specs.declared.header.SectionTable.{SectionTable}
use Rattle.ro_sym.specs.Sections.{SymbolTable, symbols_of}
use Rattle.ro_sym.specs.Symbols.{symbol_in}
use Rattle.ro_sym.specs.Calls.{table_with, table_among, calls_of}

pub calls_of_found : (bytes : List ℕ) (table seen : SectionTable) (found : SymbolTable) → seen ≡ table → symbols_of bytes seen ≡ Ok found
    → calls_of bytes table ≡ table_with found.strings (map symbol_in found.symbols)
unfolding calls_of
calls_of_found bytes table seen found same is = ap (λ (t : SectionTable). table_among (symbols_of bytes t)) (sym same) ∙ ap table_among is

pub calls_of_refused : (bytes : List ℕ) (table seen : SectionTable) (code : ℕ) → seen ≡ table → symbols_of bytes seen ≡ Err code → calls_of bytes table ≡ Err code
unfolding calls_of
calls_of_refused bytes table seen code same is = ap (λ (t : SectionTable). table_among (symbols_of bytes t)) (sym same) ∙ ap table_among is
