use Rattle.ro_journal_text.proofs.Whole.{file_once}
use Rattle.ro_journal_text.proofs.laws.texts_spelled_once.Goals as goal

pub returns : goal.returns
returns c = file_once
