use Rattle.std.proofs.Common.{◌≡◌, ℕ, length, None}
use Rattle.std.specs.Prelude.{slice_index_or}
use Rattle.ro_audit.proofs.loans.vacant.Given as goal

abbrev pub invariant-loop : goal.invariant-loop
invariant-loop g l = (length l.lent.items ≡ l.counter) × ((driver : ℕ) → slice_index_or l.lent.items driver None ≡ None)
