use Rattle.std.proofs.Common.{◌≡◌, ℕ, subst, arith}
use Rattle.ro_core.specs.Grouped.{CopiesRow}
use Rattle.ro_core.proofs.Grouped.{row-none, row-more}
use Rattle.ro_core.proofs.grouping.copy_row.Goals as goal

pub loop-thread-init : goal.loop-thread-init
loop-thread-init c = row-none _ _ _

pub copy_stop-requires-clause-from : goal.copy_stop-requires-clause-from
copy_stop-requires-clause-from c = let n = c.loop-thread.invariant.count in let r = c.requires.from in omega arith

pub copy_stop-requires-clause-to : goal.copy_stop-requires-clause-to
copy_stop-requires-clause-to c = let n = c.loop-thread.invariant.count in let r = c.requires.to in omega arith

pub loop-thread-preserved : goal.loop-thread-preserved
loop-thread-preserved c = row-more _ _ _ _ _ _ c.requires.differ c.loop-thread.invariant c.copy_stop.ensures

pub returns : goal.returns
returns c =
    let all : c.loop-thread.thread ≡ c.args.threads = (let most = c.loop-thread.auto.thread-end in let ends = c.loop-thread-test.false in omega arith) in
    subst (λ (n : ℕ). CopiesRow c.args.from c.args.to n c.args.groups.now c.loop-thread.groups) all c.loop-thread.invariant
