use Rattle.ro_rows.proofs.LendRows.{lend-first, lend-nothing, lend-wished, lend-alone, lend-eight, lend-nine, lend-struck, lend-later, lend-of-another, lend-unshared, lend-both, lend-not-twice, lend-code, lend-written, lend-free, lend-taken, lend-other, lend-whole}
use Rattle.ro_rows.proofs.lending.lend_row.Goals as goal

pub returns-clause-first : goal.returns-clause-first
returns-clause-first c = lend-first

pub returns-clause-nothing : goal.returns-clause-nothing
returns-clause-nothing c = lend-nothing

pub returns-clause-wished : goal.returns-clause-wished
returns-clause-wished c = lend-wished

pub returns-clause-alone : goal.returns-clause-alone
returns-clause-alone c = lend-alone

pub returns-clause-eight : goal.returns-clause-eight
returns-clause-eight c = lend-eight

pub returns-clause-nine : goal.returns-clause-nine
returns-clause-nine c = lend-nine

pub returns-clause-struck : goal.returns-clause-struck
returns-clause-struck c = lend-struck

pub returns-clause-later : goal.returns-clause-later
returns-clause-later c = lend-later

pub returns-clause-of_another : goal.returns-clause-of_another
returns-clause-of_another c = lend-of-another

pub returns-clause-unshared : goal.returns-clause-unshared
returns-clause-unshared c = lend-unshared

pub returns-clause-both : goal.returns-clause-both
returns-clause-both c = lend-both

pub returns-clause-not_twice : goal.returns-clause-not_twice
returns-clause-not_twice c = lend-not-twice

pub returns-clause-code : goal.returns-clause-code
returns-clause-code c = lend-code

pub returns-clause-written : goal.returns-clause-written
returns-clause-written c = lend-written

pub returns-clause-free : goal.returns-clause-free
returns-clause-free c = lend-free

pub returns-clause-taken : goal.returns-clause-taken
returns-clause-taken c = lend-taken

pub returns-clause-other : goal.returns-clause-other
returns-clause-other c = lend-other

pub returns-clause-whole : goal.returns-clause-whole
returns-clause-whole c = lend-whole
