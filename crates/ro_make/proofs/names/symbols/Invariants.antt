use Rattle.std.proofs.Common.{◌≡◌, ◌+◌, ◌*◌, ◌≤◌, ◌++◌, length, drop, map}
use Rattle.ro_make.specs.Names.{named, symbols_from, symbols_of}
use Rattle.ro_make.proofs.names.symbols.Given as goal

-- the symbols so far, and those of the names that are left
abbrev pub invariant-loop-name : goal.invariant-loop-name
invariant-loop-name l = record {
  place : l.place ≤ 1 + 65 * l.name-index;
  count : length l.file.items ≡ 16 + 16 * l.name-index;
  all : l.file.items ++ symbols_from l.place (map (λ name. named name.0.now name.1) (drop l.name-index l.names)) ≡ symbols_of (map (λ name. named name.0.now name.1) l.names);
}
