use Rattle.ro_journal_text.proofs.Back.{file_back, written}
use Rattle.ro_journal_text.proofs.laws.texts_read_back.Goals as goal

pub returns-clause-each : goal.returns-clause-each
returns-clause-each c = file_back

pub returns-clause-written : goal.returns-clause-written
returns-clause-written c = written
