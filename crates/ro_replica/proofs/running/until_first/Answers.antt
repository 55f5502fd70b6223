use Rattle.std.proofs.Common.{◌+◌, arith}
use Rattle.ro_faults.specs.declared.Fault.{Fault}
use Rattle.ro_faults.specs.declared.Target.TheVariants.{Register}
use Rattle.ro_replica.specs.Runs.{is_due}
use Rattle.ro_replica.proofs.Strikes.{none_more, none_less}
use Rattle.ro_replica.proofs.running.until_first.Goals as goal

pub loop-fault-preserved : goal.loop-fault-preserved
loop-fault-preserved c =
    let faults = c.args.waiting.now in
    let i = c.loop-fault.fault-index in
    let d : Fault = record { replica = 0; thread = 0; at = 0; target = Register 0 0 } in
    record {
      within = omega arith;
      free = λ k h. none_more (is_due c.args.thread (c.args.done + k)) faults i d c.loop-fault-test.true (c.loop-fault.invariant.free k (omega arith)) (c.until_moment-until.ensures.free k h);
      some = λ none more.
          c.until_moment-until.ensures.some (none_less (is_due c.args.thread c.args.done) faults i d c.loop-fault-test.true none).1
          (c.loop-fault.invariant.some (none_less (is_due c.args.thread c.args.done) faults i d c.loop-fault-test.true none).0 more);
    }
