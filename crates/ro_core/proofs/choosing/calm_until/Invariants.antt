use Rattle.std.proofs.Common.{◌≡◌, ◌≤◌, ◌<◌, ◌+◌, ℕ, true, None, Some}
use Rattle.std.specs.Prelude.{slice_get}
use Rattle.ro_kernel.specs.Kernel.{lives_on}
use Rattle.ro_core.specs.Fields.{blocked_at}
use Rattle.ro_core.proofs.choosing.calm_until.Given as goal

abbrev pub invariant-loop-thread : goal.invariant-loop-thread
invariant-loop-thread l =
    (l.calm ≤ l.waits.votes + 64)
    × ((thread since : ℕ) → thread < l.thread → slice_get l.waits.since thread ≡ Some since → lives_on l.kernel.kernel thread ≡ true → blocked_at l.blocked thread ≡ None → l.calm ≤ since + 64)
