use Rattle.std.proofs.Common.{◌≡◌, ◌≤◌, ◌+◌, length}
use Rattle.ro_text.specs.Lines.{parts_of}
use Rattle.ro_journal_text.specs.Reading.{behind, lines_entries}
use Rattle.ro_journal_text.proofs.files.read_entries.Given as goal

-- the entries so far, and those of the lines that are left
abbrev pub invariant-loop-text : goal.invariant-loop-text
invariant-loop-text l =
    (l.line + length l.rest ≤ l.fn.first + length l.fn.bytes) × (behind l.entries.items (lines_entries l.fn.version l.line (parts_of l.rest)) ≡ lines_entries l.fn.version l.fn.first (parts_of l.fn.bytes))

abbrev pub decreases-loop-text : goal.decreases-loop-text
decreases-loop-text l = length l.rest
