use Rattle.std.proofs.Common.{◌≡◌, ◌≤◌, length, take}
use Rattle.std.specs.Prelude.{vec_capacity}
use Rattle.ro_region.specs.Permission.{ranges_of}
use Rattle.ro_pages.specs.Directories.{is_listed}
use Rattle.ro_pages.specs.Held.{has_page}
use Rattle.ro_replica.specs.Lent.{AreLent}
use Rattle.ro_replica.proofs.lending.lend_all.Given as goal

abbrev pub invariant-loop-i : goal.invariant-loop-i
invariant-loop-i l = record {
  lent : AreLent (ranges_of l.regions) (is_listed (take l.i l.wish)) l.fn.pages.pages l.pages.pages l.few.pages l.moved.items;
  backed : has_page l.pages.pages ≡ has_page l.fn.pages.pages;
  numbers : l.pages.numbers ≡ l.fn.pages.numbers;
  spare : l.pages.spare ≡ l.fn.pages.spare;
  few : length l.few.numbers ≤ l.i;
  fewer : length l.moved.items ≤ length l.few.numbers;
  room : vec_capacity l.moved ≡ vec_capacity l.fn.moved;
}
