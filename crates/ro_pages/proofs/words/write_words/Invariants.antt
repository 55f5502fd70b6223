use Rattle.std.proofs.Common.{◌≡◌, ◌*◌, take}
use Rattle.ro_pages.specs.Bytes.{stored}
use Rattle.ro_pages.specs.Words.{byte_in_words}
use Rattle.ro_pages.proofs.words.write_words.Given as goal

abbrev pub invariant-loop-k : goal.invariant-loop-k
invariant-loop-k l = byte_in_words l.words ≡ stored (byte_in_words l.fn.words) (4 * l.first) (take (4 * l.k) l.bytes)
