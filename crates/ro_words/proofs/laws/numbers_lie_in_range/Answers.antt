use Rattle.ro_words.proofs.Lawful.{audit_in_range, command_fits}
use Rattle.ro_words.proofs.laws.numbers_lie_in_range.Goals as goal

pub returns-clause-command : goal.returns-clause-command
returns-clause-command c = command_fits

pub returns-clause-audit : goal.returns-clause-audit
returns-clause-audit c = audit_in_range
