use Rattle.std.proofs.Common.{◌≡◌, ◌++◌}
use Rattle.ro_image.specs.Image.{stack_ranges}
use Rattle.ro_image.proofs.layout.push_stacks.Given as goal

-- the stacks so far
abbrev pub invariant-loop-thread : goal.invariant-loop-thread
invariant-loop-thread l = l.ranges.items ≡ l.initial.ranges.items ++ stack_ranges l.thread
