use Rattle.std.proofs.Common.{None, map}
use Rattle.std.specs.Prelude.{slice_index_or}
use Rattle.ro_journal.specs.Losers.{numbers}
use Rattle.ro_vote.proofs.Sorting.{SortsUpTo}
use Rattle.ro_core.specs.Seated.{seat_snapshot}
use Rattle.ro_core.proofs.scrubbing.others.Given as goal

-- which of those so far are another one
abbrev pub invariant-loop-number : goal.invariant-loop-number
invariant-loop-number l =
    SortsUpTo (seat_snapshot l.fn.kernel.kernel (slice_index_or l.fn.seats l.fn.won None)) (map (seat_snapshot l.fn.kernel.kernel) l.fn.seats) l.number (numbers l.lost)
