use Rattle.std.proofs.Common.{◌≡◌, ◌+◌, ◌≤◌, vec_len, vec_capacity}
use Rattle.std.specs.List.{All}
use Rattle.ro_pages.specs.Held.{zeros}
use Rattle.ro_pages.specs.Words.{bytes_in}
use Rattle.ro_pages.proofs.table.Pages.reserve.Given as goal

abbrev pub invariant-loop : goal.invariant-loop
invariant-loop l = record {
  directory : l.self-inside.directory ≡ l.initial.self-inside.directory;
  pages : l.self-inside.backed ≡ l.initial.self-inside.backed;
  zeroed : All (λ b. bytes_in b.value ≡ zeros) l.self-inside.spare.items;
  kept : l.before ≤ vec_len l.self-inside.spare;
  grown : l.counter ≤ vec_len l.self-inside.spare;
  room : vec_len l.self-inside.backed + vec_len l.self-inside.spare ≤ vec_capacity l.self-inside.backed;
  more : vec_len l.self-inside.backed + l.count ≤ vec_capacity l.self-inside.backed;
  listed : vec_len l.self-inside.spare ≤ l.self-inside.directory.room;
  listed_more : l.count ≤ l.self-inside.directory.room;
}
