use Rattle.ro_text.proofs.Plain.{words_back}
use Rattle.ro_text.proofs.laws.words_read_back.Goals as goal

pub returns : goal.returns
returns c = words_back
