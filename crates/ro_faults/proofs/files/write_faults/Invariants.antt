use Rattle.std.proofs.Common.{◌≡◌, ◌++◌, drop}
use Rattle.ro_faults.specs.Texts.{faults_text}
use Rattle.ro_faults.proofs.files.write_faults.Given as goal

-- the lines so far, and those of the faults that are left
abbrev pub invariant-loop-fault : goal.invariant-loop-fault
invariant-loop-fault l = l.bytes.items ++ faults_text (drop l.fault-index l.faults) ≡ faults_text l.faults
