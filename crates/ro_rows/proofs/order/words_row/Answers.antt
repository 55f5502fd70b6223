-- The parts are lemmas.
use Rattle.ro_rows.proofs.RaceRows.{words-atomic, words-plain, words-own, words-nothing}
use Rattle.ro_rows.proofs.order.words_row.Goals as goal

pub returns-clause-atomic : goal.returns-clause-atomic
returns-clause-atomic c = words-atomic

pub returns-clause-plain : goal.returns-clause-plain
returns-clause-plain c = words-plain

pub returns-clause-own : goal.returns-clause-own
returns-clause-own c = words-own

pub returns-clause-nothing : goal.returns-clause-nothing
returns-clause-nothing c = words-nothing
