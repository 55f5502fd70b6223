use Rattle.std.proofs.Common.{◌≡◌, length, take}
use Rattle.ro_plans.specs.Plans.{plan_in}
use Rattle.ro_plans.specs.Walks.{Passed, mode_of}
use Rattle.ro_plans.proofs.length.plan_length.Given as goal

abbrev pub invariant-loop-place : goal.invariant-loop-place
invariant-loop-place l = record {
  mode : mode_of l.walk ≡ l.fn.mode;
  passed : Passed l.walk (take l.place l.journal);
  length_is : l.length ≡ length (plan_in l.fn.mode (take l.place l.journal));
}
