use Rattle.std.proofs.Common.{◌≡◌, ◌++◌, drop}
use Rattle.ro_journal_text.specs.Texts.{entries_text, journal_text}
use Rattle.ro_journal_text.proofs.files.journal_text.Given as goal

-- the lines so far, and those of the entries that are left
abbrev pub invariant-loop-entry : goal.invariant-loop-entry
invariant-loop-entry l = l.bytes.items ++ entries_text (drop l.entry-index l.entries) ≡ journal_text l.fn.mode l.entries
