use Rattle.ro_journal_text.proofs.HeadBack.{head_back}
use Rattle.ro_journal_text.proofs.laws.heads_read_back.Goals as goal

pub returns : goal.returns
returns c = head_back
