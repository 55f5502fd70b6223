use Rattle.std.proofs.Common.{◌≡◌, ◌++◌, map, length}
use Rattle.ro_text.specs.Lines.{words_of}
use Rattle.ro_text.proofs.parts.split_words.Given as goal

-- the words so far, and those of the rest
abbrev pub invariant-loop-word : goal.invariant-loop-word
invariant-loop-word l = map (λ word. word.now) l.words.items ++ words_of l.rest ≡ words_of l.line

abbrev pub decreases-loop-word : goal.decreases-loop-word
decreases-loop-word l = length l.rest
