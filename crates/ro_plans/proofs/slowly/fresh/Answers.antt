use Rattle.std.proofs.Common.{arith}
use Rattle.ro_plans.proofs.Runs.{are-within}
use Rattle.ro_plans.proofs.slowly.fresh.Goals as goal

pub made_in-made-requires : goal.made_in-made-requires
made_in-made-requires c = omega (arith, are-within c.args.before.now c.args.lease.replica c.args.lease.thread, c.requires, c.ranges.first)

pub overflow_sub-first : goal.overflow_sub-first
overflow_sub-first c = omega (arith, are-within c.args.before.now c.args.lease.replica c.args.lease.thread, c.requires, c.made_in-made.ensures)

pub returns : goal.returns
returns c = omega (arith, are-within c.args.before.now c.args.lease.replica c.args.lease.thread, c.requires, c.made_in-made.ensures, c.saturating_sub.ensures, c.from.ensures)
