use Rattle.ro_words.proofs.Alike.{all_spoken, audit_spoken}
use Rattle.ro_words.proofs.Lawful.{spelled_alike}
use Rattle.ro_words.proofs.laws.spellings_agree.Goals as goal

pub returns-clause-command : goal.returns-clause-command
returns-clause-command c = spelled_alike all_spoken

pub returns-clause-audit : goal.returns-clause-audit
returns-clause-audit c = spelled_alike audit_spoken
