use Rattle.std.proofs.Common.{ℕ, ◌≡◌, ◌+◌, ◌*◌, ◌<◌, slice_index}
use Rattle.ro_pages.specs.Words.{byte_in_words}
use Rattle.ro_pages.proofs.words.read_words.Given as goal

abbrev pub invariant-loop-k : goal.invariant-loop-k
invariant-loop-k l = (i : ℕ) → i < l.done + 4 * l.k → slice_index l.bytes i ≡ byte_in_words l.words (l.offset + i)
