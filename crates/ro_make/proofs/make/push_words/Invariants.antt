use Rattle.std.proofs.Common.{◌≡◌, ◌++◌, drop}
use Rattle.std.specs.List.{flat_map}
use Rattle.ro_make.specs.Names.{word}
use Rattle.ro_make.proofs.make.push_words.Given as goal

-- the bytes so far, and those of the words that are left
abbrev pub invariant-loop-word : goal.invariant-loop-word
invariant-loop-word l = l.file.items ++ flat_map word (drop l.word-index l.words) ≡ l.initial.file.items ++ flat_map word l.words
