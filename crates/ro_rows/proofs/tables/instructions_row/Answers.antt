-- The parts are lemmas.
use Rattle.ro_rows.proofs.TableRows.{instructions-count, instructions-words, instructions-back}
use Rattle.ro_rows.proofs.tables.instructions_row.Goals as goal

pub returns-clause-count : goal.returns-clause-count
returns-clause-count c = instructions-count

pub returns-clause-words : goal.returns-clause-words
returns-clause-words c = instructions-words

pub returns-clause-back : goal.returns-clause-back
returns-clause-back c = instructions-back
