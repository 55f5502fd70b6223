use Rattle.std.proofs.Common.{◌≡◌, ◌-◌, ◌≤◌, length, take}
use Rattle.ro_pages.specs.Bytes.{stored}
use Rattle.ro_pages.specs.Words.{byte_in_words}
use Rattle.ro_pages.proofs.words.write_to.Given as goal

abbrev pub invariant-loop-done : goal.invariant-loop-done
invariant-loop-done l = record {
  within : l.done ≤ length l.bytes;
  written : byte_in_words l.words ≡ stored (byte_in_words l.fn.words) l.offset (take l.done l.bytes);
}

abbrev pub decreases-loop-done : goal.decreases-loop-done
decreases-loop-done l = length l.bytes - l.done
