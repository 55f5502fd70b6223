use Rattle.std.proofs.Common.{◌≡◌, ℕ, List, [], ◌∷◌, ◌++◌, length, map, take, drop}
use Rattle.ro_event.specs.Functions.{functions, name_of}
use Rattle.ro_sym.specs.Symbols.{symbol_in, place_of}
use Rattle.ro_sym.specs.Calls.{places_of}
use Rattle.ro_sym.proofs.table.find_places.Given as goal

-- the places so far, and those of the functions that are left
abbrev pub invariant-loop-i : goal.invariant-loop-i
invariant-loop-i l = record {
  long : length l.places ≡ length functions;
  made : take l.i l.places ++ map (λ f. place_of l.strings (map symbol_in l.symbols) (name_of f ++ 0 ∷ [])) (drop l.i functions) ≡ places_of l.strings (map symbol_in l.symbols);
}
