use Rattle.std.proofs.Common.{◌≡◌}
use Rattle.ro_pages.specs.Held.{memory_of, has_page}
use Rattle.ro_machine.proofs.Faults.{missing}
use Rattle.ro_machine.proofs.backing.execute.Given as goal

abbrev pub invariant-loop-page : goal.invariant-loop-page
invariant-loop-page l = record {
  cpu : l.cpu ≡ l.fn.cpu;
  memory : memory_of l.pages.pages ≡ memory_of l.fn.pages.pages;
}

abbrev pub decreases-loop-page : goal.decreases-loop-page
decreases-loop-page l = missing (has_page l.pages.pages) (memory_of l.fn.pages.pages) l.fn.cpu
