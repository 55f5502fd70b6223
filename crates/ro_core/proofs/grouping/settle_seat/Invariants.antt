use Rattle.ro_core.specs.Grouped.{SettlesSeat}
use Rattle.ro_core.proofs.grouping.settle_seat.Given as goal

abbrev pub invariant-loop-thread : goal.invariant-loop-thread
invariant-loop-thread l = SettlesSeat l.seat l.replica l.thread l.fn.groups l.groups
