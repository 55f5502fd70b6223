use Rattle.std.proofs.Common.{ℕ, ◌≡◌, ◌+◌, ◌<◌, true}
use Rattle.ro_region.specs.Permission.{permits_byte, ranges_of}
use Rattle.ro_region.proofs.regions.Regions.permits_in_page.Given as goal

abbrev pub invariant-loop-k : goal.invariant-loop-k
invariant-loop-k l = (j : ℕ) → j < l.k → permits_byte (ranges_of l.self) l.kind (l.address + j) ≡ true
