use Rattle.std.proofs.Common.{subst, sym}
use Rattle.ro_coded.specs.declared.Coded.{Coded}
use Rattle.ro_coded.specs.Coded.{IsCoded}
use Rattle.ro_coded.proofs.Entries.{in_replicate, nothing}
use Rattle.ro_coded.proofs.code.Code.nothing.Goals as goal

pub returns-clause-code : goal.returns-clause-code
returns-clause-code c words at entry low e = subst (λ (y : Coded). IsCoded (words at) at y) (in_replicate 1025 at _ entry e) (nothing (words at) at)

pub returns-clause-fresh : goal.returns-clause-fresh
returns-clause-fresh c at entry e = sym (in_replicate 1025 at _ entry e)
