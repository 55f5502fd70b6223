use Rattle.ro_text.proofs.Spellings.{number_once}
use Rattle.ro_text.proofs.laws.numbers_spelled_once.Goals as goal

pub returns : goal.returns
returns c = number_once
