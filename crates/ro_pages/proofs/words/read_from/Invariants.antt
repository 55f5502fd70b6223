use Rattle.std.proofs.Common.{ℕ, ◌≡◌, ◌+◌, ◌-◌, ◌<◌, ◌≤◌, length, slice_index}
use Rattle.ro_pages.specs.Words.{byte_in_words}
use Rattle.ro_pages.proofs.words.read_from.Given as goal

abbrev pub invariant-loop-done : goal.invariant-loop-done
invariant-loop-done l = record {
  within : l.done ≤ length l.bytes;
  read : (i : ℕ) → i < l.done → slice_index l.bytes i ≡ byte_in_words l.words (l.offset + i);
}

abbrev pub decreases-loop-done : goal.decreases-loop-done
decreases-loop-done l = length l.initial.bytes - l.done
