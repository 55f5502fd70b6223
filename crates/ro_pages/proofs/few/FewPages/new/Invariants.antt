use Rattle.std.proofs.Common.{◌≡◌, ◌≤◌, []}
use Rattle.std.specs.Prelude.{vec_len, vec_capacity}
use Rattle.ro_pages.proofs.few.FewPages.new.Given as goal

abbrev pub invariant-loop : goal.invariant-loop
invariant-loop l = record {
  spare : vec_len l.spare ≡ l.counter;
  places : 8 ≤ vec_capacity l.spare;
  none : l.backed.items ≡ [];
  room : 8 ≤ vec_capacity l.backed;
  numbers : l.directory-inside ≡ l.initial.directory-inside;
}
