use Rattle.std.proofs.Common.{◌≡◌, take}
use Rattle.ro_plans.specs.First.{times, steps_of}
use Rattle.ro_plans.proofs.slowly.made_first.Given as goal

abbrev pub invariant-loop-place : goal.invariant-loop-place
invariant-loop-place l = l.first ≡ times l.thread (steps_of (take l.place l.entries)).first
