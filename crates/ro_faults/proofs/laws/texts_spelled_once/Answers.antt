use Rattle.ro_faults.proofs.Once.{file_once}
use Rattle.ro_faults.proofs.laws.texts_spelled_once.Goals as goal

pub returns : goal.returns
returns c = file_once
