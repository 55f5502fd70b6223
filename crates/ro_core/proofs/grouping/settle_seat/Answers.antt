use Rattle.std.proofs.Common.{◌≡◌, ℕ, subst, arith}
use Rattle.ro_core.specs.Grouped.{SettlesSeat}
use Rattle.ro_core.proofs.Grouped.{seat-none, seat-more}
use Rattle.ro_core.proofs.grouping.settle_seat.Goals as goal

pub loop-thread-init : goal.loop-thread-init
loop-thread-init c = seat-none _ _ _

pub settle_stop-requires-clause-replica : goal.settle_stop-requires-clause-replica
settle_stop-requires-clause-replica c = let n = c.loop-thread.invariant.count in let r = c.requires.replica in omega arith

pub loop-thread-preserved : goal.loop-thread-preserved
loop-thread-preserved c = seat-more _ _ _ _ _ _ c.loop-thread.invariant c.settle_stop.ensures

pub returns : goal.returns
returns c =
    let all : c.loop-thread.thread ≡ c.args.threads = (let most = c.loop-thread.auto.thread-end in let ends = c.loop-thread-test.false in omega arith) in
    subst (λ (n : ℕ). SettlesSeat c.args.seat.now c.args.replica n c.args.groups.now c.loop-thread.groups) all c.loop-thread.invariant
