use Rattle.std.proofs.Common.{◌≡◌, ◌+◌, ◌<◌, ◌≤◌, ℕ, [], take}
use Rattle.std.specs.List.{filter}
use Rattle.ro_replica.specs.Runs.{is_due}
use Rattle.ro_replica.proofs.running.until_first.Given as goal

abbrev pub invariant-loop-fault : goal.invariant-loop-fault
invariant-loop-fault l = record {
  within : l.until ≤ l.most;
  free : (k : ℕ) → k < l.until → filter (is_due l.thread (l.done + k)) (take l.fault-index l.waiting) ≡ [];
  some : filter (is_due l.thread l.done) (take l.fault-index l.waiting) ≡ [] → 0 < l.most → 0 < l.until;
}
