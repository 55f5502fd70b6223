use Rattle.std.proofs.Common.{ℕ, ◌≡◌, ◌<◌, Some}
use Rattle.std.specs.Prelude.{slice_get}
use Rattle.ro_kernel.specs.Kernel.{lives_on}
use Rattle.ro_thread.specs.declared.Thread.{Thread}
use Rattle.ro_replica.specs.Snapshots.{thread_snapshot}
use Rattle.ro_replica.proofs.comparing.are_same.Given as goal

abbrev pub invariant-loop-number : goal.invariant-loop-number
invariant-loop-number l = (i : ℕ) (x y : Thread) → i < l.number → slice_get l.threads i ≡ Some x → slice_get l.others i ≡ Some y → thread_snapshot (lives_on l.kernel.kernel i) x ≡ thread_snapshot (lives_on l.kernel.kernel i) y
