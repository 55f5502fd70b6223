use Rattle.std.proofs.Common.{ℕ, ◌≡◌, ◌<◌}
use Rattle.ro_machine.specs.Seen.{SameMachine, HasNoStep}
use Rattle.ro_machine.proofs.running.end_of.Given as goal

abbrev pub invariant-loop-thread : goal.invariant-loop-thread
invariant-loop-thread l = record {
  program : l.plain.program ≡ l.fn.plain.program;
  same : SameMachine l.plain l.fn.plain;
  none : (k : ℕ) → k < l.thread → HasNoStep l.fn.plain k;
}
