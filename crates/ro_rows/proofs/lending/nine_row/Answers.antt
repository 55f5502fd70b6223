use Rattle.ro_rows.proofs.NineRow.{nine-twice, nine-legal, nine-parts, nine-whole, nine-tenth}
use Rattle.ro_rows.proofs.lending.nine_row.Goals as goal

pub returns-clause-twice : goal.returns-clause-twice
returns-clause-twice c = nine-twice

pub returns-clause-legal : goal.returns-clause-legal
returns-clause-legal c = nine-legal

pub returns-clause-nine : goal.returns-clause-nine
returns-clause-nine c = nine-parts

pub returns-clause-whole : goal.returns-clause-whole
returns-clause-whole c = nine-whole

pub returns-clause-tenth : goal.returns-clause-tenth
returns-clause-tenth c = nine-tenth
