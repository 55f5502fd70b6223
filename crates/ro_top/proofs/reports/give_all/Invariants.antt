use Rattle.std.proofs.Common.{◌≡◌, ◌++◌, ℕ, List, length}
use Rattle.ro_io.specs.Outside.{more}
use Rattle.ro_top.proofs.reports.give_all.Given as goal

-- what was given so far, and what is left
abbrev pub invariant-loop-rest : goal.invariant-loop-rest
invariant-loop-rest g l = (given : List ℕ) × (l.fn.bytes ≡ given ++ l.rest) × (g.E.Sink.held l.sink ≡ more (g.E.Sink.held l.fn.sink) given) × (g.E.Sink.failures l.sink ≡ g.E.Sink.failures l.fn.sink)

abbrev pub decreases-loop-rest : goal.decreases-loop-rest
decreases-loop-rest g l = length l.rest
