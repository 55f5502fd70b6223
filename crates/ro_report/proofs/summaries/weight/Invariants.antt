use Rattle.std.proofs.Common.{◌≡◌, ◌+◌, ◌<◌, ◌^◌, ◌%◌, length}
use Rattle.ro_report.specs.Report.{weighed}
use Rattle.ro_report.proofs.summaries.weight.Given as goal

-- what was summed up so far, and what is left
abbrev pub invariant-loop-byte : goal.invariant-loop-byte
invariant-loop-byte l =
    (weighed 1 l.output % 2 ^ 32 ≡ (l.sum + weighed l.place l.rest) % 2 ^ 32) × (l.place + length l.rest ≡ 1 + length l.output) × (l.sum < 2 ^ 32)

abbrev pub decreases-loop-byte : goal.decreases-loop-byte
decreases-loop-byte l = length l.rest
