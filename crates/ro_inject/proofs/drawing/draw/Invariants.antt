use Rattle.std.proofs.Common.{◌≡◌, ◌-◌, ◌++◌}
use Rattle.ro_inject.specs.Draws.{faults_from, faults_drawn}
use Rattle.ro_inject.proofs.drawing.draw.Given as goal

-- the faults so far, and those that are left to be drawn
abbrev pub invariant-loop : goal.invariant-loop
invariant-loop l =
    l.faults.items ++ faults_from l.bounds.ranges.now l.bounds.only (l.count - l.counter) l.generator ≡ faults_drawn l.bounds.ranges.now l.bounds.only l.seed l.count
