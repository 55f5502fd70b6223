use Rattle.ro_text.proofs.Spellings.{number_spelled, number_value}
use Rattle.ro_text.proofs.laws.numbers_read_back.Goals as goal

pub returns-clause-spelled : goal.returns-clause-spelled
returns-clause-spelled c = number_spelled

pub returns-clause-value : goal.returns-clause-value
returns-clause-value c = number_value
