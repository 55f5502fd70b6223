use Rattle.std.proofs.Common.{map}
use Rattle.ro_vote.specs.Prevails.{NoneBelow}
use Rattle.ro_core.specs.Seated.{seat_snapshot}
use Rattle.ro_core.proofs.scrubbing.prevailing.Given as goal

-- none so far wins
abbrev pub invariant-loop-number : goal.invariant-loop-number
invariant-loop-number l = NoneBelow (map (seat_snapshot l.fn.kernel.kernel) l.fn.seats) l.number
