use Rattle.std.proofs.Common.{ℕ, ◌≡◌, ◌%◌, ◌<◌, ◌≤◌, false, take}
use Rattle.std.specs.List.{list_any}
use Rattle.ro_event.specs.Addresses.{is_at}
use Rattle.ro_event.proofs.table.CallTable.clear_around.Given as goal

abbrev pub invariant-loop-i : goal.invariant-loop-i
invariant-loop-i l = record {
  aligned : l.from % 4 ≡ 0;
  begins : l.fn.from ≤ l.from;
  ordered : l.from ≤ l.to;
  ends : l.to ≤ l.fn.to;
  round : list_any (is_at l.pc) l.self.addresses ≡ false → l.pc % 4 ≡ 0 → l.fn.from ≤ l.pc → l.pc < l.fn.to → (l.from ≤ l.pc) × (l.pc < l.to);
  clear : (p : ℕ) → l.from ≤ p → p < l.to → list_any (is_at p) (take l.i l.self.addresses) ≡ false;
}
