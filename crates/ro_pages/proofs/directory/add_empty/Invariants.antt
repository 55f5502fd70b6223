use Rattle.std.proofs.Common.{ℕ, ◌≡◌, ◌+◌, ◌<◌, ◌≤◌, length, slice_index, vec_len, vec_capacity}
use Rattle.ro_pages.specs.Directories.{nowhere}
use Rattle.ro_pages.proofs.directory.add_empty.Given as goal

abbrev pub invariant-loop : goal.invariant-loop
invariant-loop l = record {
  long : vec_len l.entries ≡ vec_len l.fn.entries + l.counter;
  capacity : vec_capacity l.entries ≡ vec_capacity l.fn.entries;
  kept : (i : ℕ) → i < length l.fn.entries.items → slice_index l.entries.items i ≡ slice_index l.fn.entries.items i;
  fresh : (i : ℕ) → length l.fn.entries.items ≤ i → i < length l.entries.items → slice_index l.entries.items i ≡ nowhere;
}
