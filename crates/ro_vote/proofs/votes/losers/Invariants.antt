use Rattle.std.proofs.Common.{◌≡◌, ◌++◌, drop}
use Rattle.ro_journal.specs.Losers.{numbers}
use Rattle.ro_vote.specs.Verdict.{differing_from}
use Rattle.ro_vote.proofs.votes.losers.Given as goal

-- who lost so far, and who differs of those that are left
abbrev pub invariant-loop-number : goal.invariant-loop-number
invariant-loop-number l = numbers l.lost ++ differing_from l.view l.number (drop l.number l.views) ≡ differing_from l.view 0 l.views
