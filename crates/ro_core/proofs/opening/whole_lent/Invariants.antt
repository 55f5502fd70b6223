use Rattle.std.proofs.Common.{◌≡◌, ℕ, length}
use Rattle.ro_legal.specs.Parts.{Whole}
use Rattle.ro_core.specs.Fields.{lent_at}
use Rattle.ro_core.proofs.opening.whole_lent.Given as goal

abbrev pub invariant-loop : goal.invariant-loop
invariant-loop l = (length l.lent.items ≡ l.counter) × ((driver : ℕ) → lent_at l.lent.items driver ≡ Whole)
