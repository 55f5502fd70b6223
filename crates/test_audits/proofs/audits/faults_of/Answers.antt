use Rattle.std.proofs.Common.{◌≡◌, ◌≤◌, true, List, length, refl, arith}
use Rattle.std.specs.List.{list_all}
use Rattle.std.proofs.lemmas.List.Sums.{AllPass-from_list_all}
use Rattle.ro_faults.specs.declared.Fault.{Fault}
use Rattle.ro_faults.specs.Texts.{is_target}
use Rattle.ro_replica.specs.Seen.{AreFaults}
use Rattle.test_audits.proofs.audits.faults_of.Goals as goal

are-faults : (faults : List Fault) → length faults ≤ 256 → list_all (λ fault. is_target fault.target) faults ≡ true → AreFaults faults
are-faults faults few all = record { few = few; each = AllPass-from_list_all (λ fault. is_target fault.target) faults all }

pub returns-then-is_scattered : goal.returns-then-is_scattered
returns-then-is_scattered c = are-faults _ (omega arith) refl

pub returns-then-is_struck : goal.returns-then-is_struck
returns-then-is_struck c = are-faults _ (omega arith) refl

pub returns : goal.returns
returns c = are-faults _ (omega arith) refl
