use Rattle.std.proofs.Common.{◌-◌, ℕ}
use Rattle.ro_races.specs.Seen.{seen_by}
use Rattle.ro_races.specs.Shadows.{IsHit}
use Rattle.ro_races.proofs.shadows.first_hit.Given as goal

abbrev pub invariant-loop-offset : goal.invariant-loop-offset
invariant-loop-offset l = (mark byte : ℕ) → IsHit l.table.items (record { place = l.stretch.place; count = l.offset }) (seen_by l.past) mark byte → ⊥

abbrev pub decreases-loop-offset : goal.decreases-loop-offset
decreases-loop-offset l = l.stretch.count - l.offset
