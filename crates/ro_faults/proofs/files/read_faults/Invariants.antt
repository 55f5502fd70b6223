use Rattle.std.proofs.Common.{◌≡◌, ◌≤◌, length}
use Rattle.ro_text.specs.Lines.{parts_of}
use Rattle.ro_faults.specs.Texts.{behind, lines_faults, file_faults}
use Rattle.ro_faults.proofs.files.read_faults.Given as goal

-- the faults so far, and those of the lines that are left
abbrev pub invariant-loop-text : goal.invariant-loop-text
invariant-loop-text l =
    (l.line ≤ 257) × (behind l.faults.items (lines_faults l.replicas l.line (parts_of l.rest)) ≡ file_faults l.replicas l.fn.bytes)

abbrev pub decreases-loop-text : goal.decreases-loop-text
decreases-loop-text l = length l.rest
