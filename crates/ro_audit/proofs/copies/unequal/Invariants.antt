use Rattle.ro_audit.proofs.Registers.{AreUnequalTo}
use Rattle.ro_audit.proofs.copies.unequal.Given as goal

abbrev pub invariant-loop-place : goal.invariant-loop-place
invariant-loop-place l = AreUnequalTo l.registers l.one l.other l.place
