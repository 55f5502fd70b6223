-- A lemma.
use Rattle.ro_coop.proofs.Choices.{one-enters}
use Rattle.ro_coop.proofs.one_enters_the_table.Goals as goal

pub returns : goal.returns
returns c = one-enters
