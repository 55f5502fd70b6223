use Rattle.std.proofs.Common.{◌≡◌, ◌++◌, drop}
use Rattle.std.specs.Prelude.{map}
use Rattle.ro_tell.specs.Judging.{copied_of, copies_from}
use Rattle.ro_tell.proofs.copies.copies_made.Given as goal

abbrev pub invariant-loop-place : goal.invariant-loop-place
invariant-loop-place l = map copied_of l.copies.made.items ++ copies_from l.place (drop l.place l.entries) ≡ copies_from 0 l.entries
