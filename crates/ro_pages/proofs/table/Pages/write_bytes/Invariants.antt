use Rattle.std.proofs.Common.{◌≡◌, ◌-◌, ◌≤◌, length, take}
use Rattle.ro_pages.specs.Bytes.{stored}
use Rattle.ro_pages.specs.Held.{memory_of, has_page}
use Rattle.ro_pages.proofs.table.Pages.write_bytes.Given as goal

abbrev pub invariant-loop-done : goal.invariant-loop-done
invariant-loop-done l = record {
  within : l.done ≤ length l.bytes;
  written : memory_of l.self.pages ≡ stored (memory_of l.fn.self.pages) l.address (take l.done l.bytes);
  pages : has_page l.self.pages ≡ has_page l.fn.self.pages;
  spare : l.self.spare ≡ l.fn.self.spare;
  numbers : l.self.numbers ≡ l.fn.self.numbers;
}

abbrev pub decreases-loop-done : goal.decreases-loop-done
decreases-loop-done l = length l.bytes - l.done
