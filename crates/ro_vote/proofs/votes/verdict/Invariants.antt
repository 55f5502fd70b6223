use Rattle.std.proofs.Common.{◌≡◌, drop}
use Rattle.ro_vote.specs.Verdict.{verdict_among, verdict_of}
use Rattle.ro_vote.proofs.votes.verdict.Given as goal

-- the verdict is left to the views that are left
abbrev pub invariant-loop-number : goal.invariant-loop-number
invariant-loop-number l = verdict_among l.views l.number (drop l.number l.views) ≡ verdict_of l.views
