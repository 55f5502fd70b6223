use Rattle.std.proofs.Common.{ℕ, ◌≡◌, ◌<◌, false}
use Rattle.ro_core.proofs.Going.{goes_by}
use Rattle.ro_core.proofs.cores.Core.another_goes.Given as goal

abbrev pub invariant-loop-other : goal.invariant-loop-other
invariant-loop-other l = (k : ℕ) → k < l.other → goes_by l.self.seats.homes.items l.self.kernel.kernel l.replica l.thread k ≡ false
