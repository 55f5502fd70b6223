use Rattle.std.proofs.Common.{◌≡◌, ◌+◌, length}
use Rattle.ro_pages.specs.Held.{has_page, SomeBack}
use Rattle.ro_pages.proofs.table.Pages.take_all_back.Given as goal

abbrev pub invariant-loop : goal.invariant-loop
invariant-loop l = record {
  some : SomeBack l.fn.few.pages l.few.pages l.fn.self.pages l.self.pages;
  pages : has_page l.self.pages ≡ has_page l.fn.self.pages;
  numbers : l.self.numbers ≡ l.fn.self.numbers;
  spare : l.self.spare ≡ l.fn.self.spare;
  room : l.few.spare + length l.few.numbers ≡ l.fn.few.spare + length l.fn.few.numbers;
}

abbrev pub decreases-loop : goal.decreases-loop
decreases-loop l = length l.few.numbers
