use Rattle.ro_words.proofs.Lawful.{apart_from_audit}
use Rattle.ro_words.proofs.laws.commands_are_apart.Goals as goal

pub returns : goal.returns
returns c = apart_from_audit
