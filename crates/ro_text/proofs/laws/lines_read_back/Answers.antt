use Rattle.ro_text.proofs.Plain.{line_back}
use Rattle.ro_text.proofs.laws.lines_read_back.Goals as goal

pub returns : goal.returns
returns c = line_back
