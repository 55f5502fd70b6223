use Rattle.ro_rows.proofs.TableRows.{words-of-calls-number, words-of-calls-destroy, words-of-calls-keeps, words-of-calls-misaligned, words-of-calls-unwritable}
use Rattle.ro_rows.proofs.tables.words_of_calls_row.Goals as goal

pub returns-clause-number : goal.returns-clause-number
returns-clause-number c = words-of-calls-number

pub returns-clause-destroy : goal.returns-clause-destroy
returns-clause-destroy c = words-of-calls-destroy

pub returns-clause-keeps : goal.returns-clause-keeps
returns-clause-keeps c = words-of-calls-keeps

pub returns-clause-misaligned : goal.returns-clause-misaligned
returns-clause-misaligned c = words-of-calls-misaligned

pub returns-clause-unwritable : goal.returns-clause-unwritable
returns-clause-unwritable c = words-of-calls-unwritable
