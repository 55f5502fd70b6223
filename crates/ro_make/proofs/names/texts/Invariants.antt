use Rattle.std.proofs.Common.{◌≡◌, ◌+◌, ◌*◌, ◌≤◌, ◌++◌, length, drop, map}
use Rattle.std.specs.List.{flat_map}
use Rattle.ro_make.specs.Names.{named, string_of, texts_of}
use Rattle.ro_make.proofs.names.texts.Given as goal

-- the strings so far, and those of the names that are left
abbrev pub invariant-loop-name : goal.invariant-loop-name
invariant-loop-name l = record {
  count : length l.file.items ≤ 1 + 65 * l.name-index;
  all : l.file.items ++ flat_map string_of (map (λ name. named name.0.now name.1) (drop l.name-index l.names)) ≡ texts_of (map (λ name. named name.0.now name.1) l.names);
}
