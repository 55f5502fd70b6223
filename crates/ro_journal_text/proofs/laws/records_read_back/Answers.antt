use Rattle.ro_journal_text.proofs.HeadBack.{record_back}
use Rattle.ro_journal_text.proofs.laws.records_read_back.Goals as goal

pub returns : goal.returns
returns c = record_back
