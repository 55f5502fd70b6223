-- The parts are lemmas.
use Rattle.ro_rows.proofs.TableRows.{threads-first, threads-made, threads-stacks, threads-heap, threads-none-executes}
use Rattle.ro_rows.proofs.tables.threads_row.Goals as goal

pub returns-clause-first : goal.returns-clause-first
returns-clause-first c = threads-first

pub returns-clause-made : goal.returns-clause-made
returns-clause-made c = threads-made

pub returns-clause-stacks : goal.returns-clause-stacks
returns-clause-stacks c = threads-stacks

pub returns-clause-heap : goal.returns-clause-heap
returns-clause-heap c = threads-heap

pub returns-clause-none_executes : goal.returns-clause-none_executes
returns-clause-none_executes c = threads-none-executes
