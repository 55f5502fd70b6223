use Rattle.std.proofs.Common.{◌≡◌, ◌≤◌, ◌<◌, ℕ}
use Rattle.std.specs.Prelude.{slice_index_or}
use Rattle.ro_faults.specs.declared.Fault.{Fault}
use Rattle.ro_replica.proofs.waiting.earliest.Given as goal

abbrev pub invariant-loop-fault : goal.invariant-loop-fault
invariant-loop-fault l = (k : ℕ) (d : Fault) → k < l.fault-index → (slice_index_or l.faults k d).thread ≡ l.thread → l.earliest ≤ (slice_index_or l.faults k d).at
