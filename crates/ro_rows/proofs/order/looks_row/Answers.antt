use Rattle.ro_rows.proofs.RaceRows.{looks-syncs, looks-update, looks-before-it, looks-looks-first, looks-look}
use Rattle.ro_rows.proofs.order.looks_row.Goals as goal

pub returns-clause-syncs : goal.returns-clause-syncs
returns-clause-syncs c = looks-syncs

pub returns-clause-update : goal.returns-clause-update
returns-clause-update c = looks-update

pub returns-clause-before_it : goal.returns-clause-before_it
returns-clause-before_it c = looks-before-it

pub returns-clause-looks_first : goal.returns-clause-looks_first
returns-clause-looks_first c = looks-looks-first

pub returns-clause-look : goal.returns-clause-look
returns-clause-look c = looks-look
