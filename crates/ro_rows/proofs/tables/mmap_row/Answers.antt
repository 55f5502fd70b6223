use Rattle.ro_rows.proofs.TableRows.{mmap-errors, mmap-given, mmap-all, mmap-before, mmap-reads, mmap-writes, mmap-none-executes, mmap-still}
use Rattle.ro_rows.proofs.tables.mmap_row.Goals as goal

pub returns-clause-errors : goal.returns-clause-errors
returns-clause-errors c = mmap-errors

pub returns-clause-given : goal.returns-clause-given
returns-clause-given c = mmap-given

pub returns-clause-all : goal.returns-clause-all
returns-clause-all c = mmap-all

pub returns-clause-before : goal.returns-clause-before
returns-clause-before c = mmap-before

pub returns-clause-reads : goal.returns-clause-reads
returns-clause-reads c = mmap-reads

pub returns-clause-writes : goal.returns-clause-writes
returns-clause-writes c = mmap-writes

pub returns-clause-none_executes : goal.returns-clause-none_executes
returns-clause-none_executes c = mmap-none-executes

pub returns-clause-still : goal.returns-clause-still
returns-clause-still c = mmap-still
