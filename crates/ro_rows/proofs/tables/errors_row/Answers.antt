-- The parts are lemmas.
use Rattle.ro_rows.proofs.TableRows.{errors-system, errors-create, errors-join, errors-mutex, errors-init, errors-full, errors-condition}
use Rattle.ro_rows.proofs.tables.errors_row.Goals as goal

pub returns-clause-system : goal.returns-clause-system
returns-clause-system c = errors-system

pub returns-clause-create : goal.returns-clause-create
returns-clause-create c = errors-create

pub returns-clause-join : goal.returns-clause-join
returns-clause-join c = errors-join

pub returns-clause-mutex : goal.returns-clause-mutex
returns-clause-mutex c = errors-mutex

pub returns-clause-init : goal.returns-clause-init
returns-clause-init c = errors-init

pub returns-clause-full : goal.returns-clause-full
returns-clause-full c = errors-full

pub returns-clause-condition : goal.returns-clause-condition
returns-clause-condition c = errors-condition
