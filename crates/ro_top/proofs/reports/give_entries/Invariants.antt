use Rattle.std.proofs.Common.{◌≡◌, ◌++◌, ℕ, List, length}
use Rattle.ro_io.specs.Outside.{more}
use Rattle.ro_journal_text.specs.Texts.{entries_text}
use Rattle.ro_top.proofs.reports.give_entries.Given as goal

-- what was given so far, and the lines of what is left
abbrev pub invariant-loop-entry : goal.invariant-loop-entry
invariant-loop-entry g l =
    (given : List ℕ) × (entries_text l.fn.journal ≡ given ++ entries_text l.rest) × (g.E.Sink.held l.report ≡ more (g.E.Sink.held l.fn.report) given) × (g.E.Sink.failures l.report ≡ g.E.Sink.failures l.fn.report)

abbrev pub decreases-loop-entry : goal.decreases-loop-entry
decreases-loop-entry g l = length l.rest
