use Rattle.std.proofs.Common.{ℕ, ◌≡◌, ◌+◌, ◌-◌, ◌<◌, ◌≤◌, true}
use Rattle.ro_region.specs.Permission.{permits_byte, ranges_of}
use Rattle.ro_region.proofs.regions.Regions.permits_each_page.Given as goal

abbrev pub invariant-loop-done : goal.invariant-loop-done
invariant-loop-done l = record {
  within : l.done ≤ l.len;
  permitted : (k : ℕ) → k < l.done → permits_byte (ranges_of l.self) l.kind (l.address + k) ≡ true;
}

abbrev pub decreases-loop-done : goal.decreases-loop-done
decreases-loop-done l = l.len - l.done
